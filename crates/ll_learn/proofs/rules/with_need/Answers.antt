use Rattle.std.proofs.Common.{◌≡◌, ◌⊎◌, inl, inr, Option, Some, subst, sym}
use Rattle.std.specs.Prelude.{IfSome}
use Rattle.ll_learn.specs.declared.needs.Origin.{Origin}
use Rattle.ll_learn.specs.declared.draft.Need.{Need}
use Rattle.ll_learn.specs.Draft.{IsNeed, has, without}
use Rattle.ll_learn.specs.Lesson.{IsNeededBy}
use Rattle.ll_learn.proofs.rules.with_need.Goals as goal

-- one of two
either : (P : Origin → Type 0) (first : Option Origin) (second taken : Origin) → IfSome first P → P second
    → (first ≡ Some taken) ⊎ (taken ≡ second) → P taken
either P first second taken old new cases = elim cases [
  | inl e ↦ (let there : IfSome (Some taken) P = subst (λ (o : Option Origin). IfSome o P) e old in there)
  | inr e ↦ subst P (sym e) new
]

pub returns-in-Some : goal.returns-in-Some
returns-in-Some c old =
    let draft = c.args.draft.now in
    let needs = c.args.needs.now in
    let inode = c.args.inode in
    let right = c.args.right in
    let P : Need → Type 0 =
    λ r. IsNeed (without inode (has draft right)) right needs.asks.items needs.moves.items r in
    let is : P c.in-Some.need =
    subst (λ (o : Option Need). IfSome o P) c.in-Some.is c.in_ok-need.ensures.some in
    either (IsNeededBy draft needs inode) c.args.first c.origin_of.result c.earlier.result old
    (right, c.in-Some.need, is, sym c.origin_of.ensures) c.earlier.ensures
