use Rattle.std.proofs.Common.{◌≡◌, ◌∙◌, [], Option, Some, None, arith, inl, inr, refl, sym}
use Rattle.std.specs.Prelude.{false, is_some}
use Rattle.std.proofs.lemmas.Bool.{both_ways, cases_Bool}
use Rattle.std.proofs.lemmas.Grind.{common_steps}
use Rattle.ll_learn.specs.declared.needs.Origin.{Origin}
use Rattle.ll_learn.proofs.lesson.is_least.Goals as goal

none_is : (o : Option Origin) → is_some o ≡ false → o ≡ None
none_is None e = refl
none_is (Some x) e = absurd (cc e)

pub returns-then-is_empty : goal.returns-then-is_empty
returns-then-is_empty c = λ s are know.
    let none : c.args.needs.now.outside ≡ None = none_is c.args.needs.now.outside
    (sym c.is_some.ensures ∙ c.if-is_some.false) in
    let empty : c.args.scope.now.beneath.items ≡ [] =
    grind (arith, common_steps, c.is_empty.ensures, c.if-is_empty.true) in (
      λ told. (none, inr (empty, c.is_still.ensures.still told s are)),
      λ called. elim called.1 [
        | inl charged ↦
            absurd (both_ways c.is_charged.result c.if-is_charged.false (c.is_charged.ensures.1 charged))
        | inr still ↦ elim (cases_Bool c.is_still.result) [
          | inl told ↦ told
          | inr so ↦ absurd (c.is_still.ensures.moved so s know still.1)
        ]
      ],
    )
