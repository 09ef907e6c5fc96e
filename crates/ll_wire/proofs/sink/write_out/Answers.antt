use Rattle.std.proofs.Common.{◌++◌, ◌∙◌, take}
use Rattle.ll_wire.proofs.WrittenText.{appends-more}
use Rattle.ll_wire.proofs.FeedsInParts.{part_more, took_more}
use Rattle.ll_wire.proofs.sink.write_out.Goals as goal

pub loop-rest-preserved : goal.loop-rest-preserved
loop-rest-preserved g c =
    let i = c.loop-rest.invariant in
    let d = g.E.Ends.devices in
    let rest = c.loop-rest.rest.now in
    let n = c.in_ok-count.count in record {
      front = (
        i.front.0 ++ take n rest,
        part_more c.args.bytes.now i.front.0 rest n c.in_ok-count.ensures.bound i.front.1,
        appends-more (d c.args.ends.now).contents (d c.loop-rest.ends).contents (d c.write.new.self).contents i.front.0
            (take n rest) i.front.2 c.in_ok-count.ensures.bytes,
        took_more (d c.args.ends.now) (d c.loop-rest.ends) (d c.write.new.self) i.front.0 (take n rest) i.front.3
            c.in_ok-count.ensures.ok,
      );
      same = c.write.ensures.same ∙ i.same;
    }
