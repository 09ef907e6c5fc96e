use Rattle.std.proofs.Common.{ap, inl, map, refl, true}
use Rattle.ll_wire.specs.Devices.{untouched}
use Rattle.ll_session.proofs.VisitEndings.{served_so}
use Rattle.ll_session.proofs.visits.serve_ends.Goals as goal

pub returns-in_default : goal.returns-in_default
returns-in_default g c = (
  untouched (g.R.Read.remaining c.args.stream.now.reader) (g.W.Write.contents c.args.stream.now.writer) true,
  refl,
  refl,
  tt,
  (inl (ap (map (λ it. it.rider)) c.new.ensures.items, refl, refl, c.nothing-tally.ensures), (refl, refl)),
)

pub returns : goal.returns
returns g c =
    let ends = c.visit.new.ends in
    served_so g.N.Shape.limit c.in-Ok.profile.items c.args.host.now.profile.now c.visit.result.1 c.visit.result.2
    (g.R.Read.remaining c.args.stream.now.reader) (g.W.Write.contents c.args.stream.now.writer) (record {
      remaining = g.R.Read.remaining ends.reader.now;
      contents = g.W.Write.contents ends.writer.now;
      reads = ends.reads;
      owed = ends.owed;
      is_answering = ends.is_answering;
      is_input_broken = ends.is_input_broken;
      is_output_broken = ends.is_output_broken;
    }) (map (λ it. it.rider) c.visit.result.0.items) c.in-Ok.ensures (rw c.new-ends.ensures at c.visit.ensures.ok)
    (rw c.new-ends.ensures at c.visit.ensures.err) (rw c.new-ends.ensures at c.visit.ensures.fault)
