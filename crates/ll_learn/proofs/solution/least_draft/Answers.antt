use Rattle.std.proofs.Common.{◌≡◌, subst}
use Rattle.ll_learn.specs.Draft.{IsUnmet}
use Rattle.ll_learn.proofs.Solutions.{all_met, all_needed, in_scope, none_meets}
use Rattle.ll_learn.proofs.solution.least_draft.Goals as goal

pub returns-in-Some-clause-unmet : goal.returns-in-Some-clause-unmet
returns-in-Some-clause-unmet c number e =
    let same : c.in-Some.number ≡ number = cc in
    subst (IsUnmet c.args.scope.now c.args.needs.now.asks.items) same
    (subst (λ asks. IsUnmet c.args.scope.now asks c.in-Some.number) c.deref.ensures.value c.in-Some.ensures.some)

pub returns-in-Some-clause-none : goal.returns-in-Some-clause-none
returns-in-Some-clause-none c number e layer inside meets =
    none_meets c.args.scope.now c.args.needs.now c.in-Some.number layer
    (subst (λ asks. IsUnmet c.args.scope.now asks c.in-Some.number) c.deref.ensures.value c.in-Some.ensures.some)
    inside meets

pub returns-clause-within : goal.returns-clause-within
returns-clause-within c layer is =
    in_scope c.args.scope.now c.args.needs.now c.in_ok-draft.draft layer c.in_ok-draft.ensures.handled
    c.in_ok-draft.ensures.least is

pub returns-clause-meets : goal.returns-clause-meets
returns-clause-meets c layer is =
    all_met c.args.scope.now c.args.needs.now c.in_ok-draft.draft layer c.in_ok-draft.ensures.handled
    c.in_ok-draft.ensures.least is

pub returns-clause-needed : goal.returns-clause-needed
returns-clause-needed c layer is =
    all_needed c.args.scope.now c.args.needs.now c.in_ok-draft.draft layer c.in_ok-draft.ensures.handled
    c.in_ok-draft.ensures.least is c.requires.scope

pub returns-clause-placed : goal.returns-clause-placed
returns-clause-placed c inode right known at = (c.in_ok-draft.ensures.least right known).placed inode at

pub returns-clause-derived : goal.returns-clause-derived
returns-clause-derived c inode right known at = (c.in_ok-draft.ensures.least right known).derived inode at
