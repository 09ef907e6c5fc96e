use Rattle.std.proofs.Common.{sym, ◌∙◌}
use Rattle.ll_seq.specs.Stages.{lowest_free}
use Rattle.ll_seq.proofs.LowestFree.{free_here, free_later, free_nowhere}
use Rattle.ll_seq.proofs.client.ClientRecord.lowest_free.Goals as goal

pub returns-then-not-has : goal.returns-then-not-has
returns-then-not-has c = free_here c.args.self.now.descriptors (lowest_free c.args.self.now.descriptors)
    c.loop-number.number c.loop-number-test.true (sym c.has.ensures ∙ c.if-not-has.true) c.loop-number.invariant

pub loop-number-preserved : goal.loop-number-preserved
loop-number-preserved c = free_later c.args.self.now.descriptors (lowest_free c.args.self.now.descriptors)
    c.loop-number.number c.loop-number-test.true (sym c.has.ensures ∙ c.if-not-has.false) c.loop-number.invariant

pub returns : goal.returns
returns c = free_nowhere c.args.self.now.descriptors (lowest_free c.args.self.now.descriptors) c.loop-number.number
    c.loop-number-test.false c.loop-number.invariant
