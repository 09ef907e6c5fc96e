use Rattle.ll_wire.proofs.WrittenText.{took}
use Rattle.ll_wire.proofs.whole.write_whole.Goals as goal

pub loop-rest-preserved : goal.loop-rest-preserved
loop-rest-preserved g c = let i = c.loop-rest.invariant in
    took _ _ (g.W.Write.contents c.write_steadily.new.writer) c.args.text.now i.0 c.loop-rest.rest.now c.in-Ok.n
    c.in-Ok.ensures.bound i.1 i.2 c.in-Ok.ensures.bytes
