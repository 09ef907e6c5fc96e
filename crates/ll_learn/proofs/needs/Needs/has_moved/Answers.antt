use Rattle.std.specs.Prelude.{List}
use Rattle.std.proofs.Common.{subst}
use Rattle.ll_learn.specs.declared.needs.Moved.{Moved}
use Rattle.ll_learn.specs.Needs.{HasMove}
use Rattle.ll_learn.proofs.MoreNeeds.{moved_before, nothing_moved}
use Rattle.ll_learn.proofs.needs.Needs.has_moved.Goals as goal

pub returns-then-rights-eq0 : goal.returns-then-rights-eq0
returns-then-rights-eq0 c = λ is grants meets.
    nothing_moved grants c.args.rights.0 c.args.from.now c.args.into.now c.if-rights-eq0.true

pub returns : goal.returns
returns c = λ is grants meets.
    moved_before grants c.args.self.now c.args.rights.0 c.args.from.now c.args.into.now
    (subst (λ (l : List Moved). HasMove l c.args.rights.0 c.args.from.now c.args.into.now) c.deref.ensures.value
    (c.has_move.ensures is)) meets
