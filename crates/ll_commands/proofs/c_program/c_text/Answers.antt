use Rattle.std.proofs.Common.{◌≡◌, ◌∷◌, [], ap, ap₂, ◌∙◌}
use Rattle.std.specs.List.{concat, flat_map}
use Rattle.std.proofs.lemmas.Result.{IfOk-weaker}
use Rattle.ll_program.specs.Options.{exported_in}
use Rattle.ll_commands.specs.CProgram.{c_layer, c_place, c_rows, c_text}
use Rattle.ll_commands.specs.Fixed.{c_head, c_helpers, c_tail, restrict_self}
use Rattle.ll_commands.proofs.c_program.c_text.Goals as goal

pub returns : goal.returns
unfolding c_text c_head c_helpers restrict_self c_tail
returns c =
    let it = c.args.confinement.now in
    let told : c.as_str-2.result.now ≡ c_place (exported_in c.args.options.now) =
    c.as_str-2.ensures.value ∙ c.in_ok-told.ensures in
    let rows : c.as_str.result.now ≡ flat_map (c_layer it.opening.now) it.layers.now =
    c.as_str.ensures.value ∙ c.in_ok-rows.ensures in
    let table : c.as_str-3.result.now ≡ c_rows (flat_map (c_layer it.opening.now) it.layers.now) =
    c.as_str-3.ensures.value ∙ c.in_ok-table.ensures ∙ ap c_rows rows in
    IfOk-weaker c.concat.result _ _ (λ text e. e
    ∙ ap₂ (λ t r. concat (c_head ∷ t ∷ r ∷ c_helpers ∷ restrict_self ∷ c_tail ∷ [])) told table) c.concat.ensures
