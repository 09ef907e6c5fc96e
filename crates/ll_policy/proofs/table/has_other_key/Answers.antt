use Rattle.std.proofs.Common.{◌≡◌, true, false, ◌∷◌, map, string_bytes, refl, sym, ap, ◌∙◌, arith}
use Rattle.std.proofs.lemmas.Grind.{common_steps}
use Rattle.std.specs.Str.{bytes_eq}
use Rattle.std.specs.List.{list_any}
use Rattle.toml.specs.View.{members_view}
use Rattle.toml.proofs.Views.{Entry}
use Rattle.ll_policy.specs.Table.{has_other_key}
use Rattle.ll_policy.proofs.Keys.{known_names}
use Rattle.ll_policy.proofs.table.has_other_key.Goals as goal

pub returns-then-not-is_known : goal.returns-then-not-is_known
returns-then-not-is_known c =
    let known = map (λ name. name.now) c.args.known.now in
    let e : Entry = (c.in-Some.key.now, c.in-Some.field-0-1.now) in
    let next : c.loop-key.key-iterator ≡ e ∷ c.next.new.self = grind (arith, common_steps) in
    let found : list_any (bytes_eq (string_bytes e.0)) known ≡ false =
    rw (← c.as_str.ensures.value) (known_names c.as_str.result.now c.args.known.now ∙ grind (arith, common_steps))
    in
    sym (sym c.loop-key.invariant ∙ ap (λ es. has_other_key known (members_view es)) next ∙ rw found refl)

pub loop-key-preserved : goal.loop-key-preserved
loop-key-preserved c =
    let known = map (λ name. name.now) c.args.known.now in
    let e : Entry = (c.in-Some.key.now, c.in-Some.field-0-1.now) in
    let next : c.loop-key.key-iterator ≡ e ∷ c.next.new.self = grind (arith, common_steps) in
    let found : list_any (bytes_eq (string_bytes e.0)) known ≡ true =
    rw (← c.as_str.ensures.value) (known_names c.as_str.result.now c.args.known.now ∙ grind (arith, common_steps))
    in
    sym (rw found refl) ∙ sym (ap (λ es. has_other_key known (members_view es)) next) ∙ c.loop-key.invariant
