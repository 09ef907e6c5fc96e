use Rattle.ll_seq.proofs.Gaps.{numbered_more, gap_at, gap_after}
use Rattle.ll_seq.proofs.number_map.gap.Goals as goal

pub loop-i-preserved : goal.loop-i-preserved
loop-i-preserved g c = numbered_more c.args.rows.now c.loop-i.i c.index-rows-i.result c.index-rows-i.is c.if-row-i.false
    c.loop-i.invariant

pub returns-then-row-i : goal.returns-then-row-i
returns-then-row-i g c = gap_at c.args.rows.now c.loop-i.i c.index-rows-i.result c.requires c.loop-i.invariant
    c.index-rows-i.is c.if-row-i.true

pub returns : goal.returns
returns g c = gap_after c.args.rows.now c.loop-i.i c.requires c.loop-i.invariant c.loop-i-test.false c.loop-i.auto.i-end
