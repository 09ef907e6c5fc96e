use Rattle.std.proofs.Common.{◌≡◌, ◌∷◌, [], ap, ap₂, codes, ◌∙◌}
use Rattle.std.specs.Prelude.{unwrap_or}
use Rattle.std.specs.List.{concat}
use Rattle.std.proofs.lemmas.Result.{IfOk-weaker}
use Rattle.ll_program.specs.Options.{nothing_denied}
use Rattle.ll_commands.specs.CProgram.{c_denied, c_option}
use Rattle.ll_commands.proofs.c_program.c_options.Goals as goal

pub returns : goal.returns
returns c =
    let o = c.args.options.now in
    let follow : c.as_str.result.now ≡ c_option (codes "FOLLOW") o.follow =
    c.as_str.ensures.value ∙ c.in_ok-follow.ensures in
    let effort : c.as_str-2.result.now ≡ c_option (codes "BEST_EFFORT") o.best_effort =
    c.as_str-2.ensures.value ∙ c.in_ok-best_effort.ensures in
    let denied : c.as_str-3.result.now ≡ c_denied (unwrap_or o.deny nothing_denied) =
    c.as_str-3.ensures.value ∙ c.in_ok-denied.ensures ∙ ap c_denied c.unwrap_or.ensures in
    IfOk-weaker c.concat.result _ _ (λ text e. e
    ∙ ap₂ (λ f b. concat (f ∷ b ∷ c.as_str-3.result.now ∷ [])) follow effort
    ∙ ap (λ d. concat (c_option (codes "FOLLOW") o.follow ∷ c_option (codes "BEST_EFFORT") o.best_effort ∷ d ∷ []))
    denied)
    c.concat.ensures
