use Rattle.std.specs.Prelude.{List}
use Rattle.std.proofs.Common.{subst}
use Rattle.ll_learn.specs.declared.needs.Asked.{Asked}
use Rattle.ll_learn.specs.Needs.{HasAsk}
use Rattle.ll_learn.proofs.MoreNeeds.{asked_before, nothing_asked}
use Rattle.ll_learn.proofs.needs.Needs.has_asked.Goals as goal

pub returns-then-rights-eq0 : goal.returns-then-rights-eq0
returns-then-rights-eq0 c = λ is grants meets.
    nothing_asked grants c.args.rights.0 c.args.inodes.now c.if-rights-eq0.true

pub returns : goal.returns
returns c = λ is grants meets.
    asked_before grants c.args.self.now c.args.rights.0 c.args.inodes.now
    (subst (λ (l : List Asked). HasAsk l c.args.rights.0 c.args.inodes.now) c.deref.ensures.value
    (c.has_ask.ensures is)) meets
