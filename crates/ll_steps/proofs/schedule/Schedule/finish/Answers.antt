use Rattle.std.proofs.Common.{List, ℕ, subst}
use Rattle.std.specs.Prelude.{OnErr, OnOk}
use Rattle.std.specs.Io.KnownBytes.{Appends}
use Rattle.ll_wire.specs.WriterGains.{AppendsFront}
use Rattle.ll_steps.proofs.Paces.{nothing_more, one_more}
use Rattle.ll_steps.proofs.schedule.Schedule.finish.Goals as goal

pub returns-in-Some-clause-ok : goal.returns-in-Some-clause-ok
returns-in-Some-clause-ok g c =
    nothing_more c.args.self.now.world c.args.self.now.pace.halt _ (g.E.Ends.devices c.args.ends.now).contents
    c.in-Some.is

pub returns-in-None-clause-ok : goal.returns-in-None-clause-ok
returns-in-None-clause-ok g c =
    let d = g.E.Ends.devices in
    subst (λ (text : List ℕ).
    OnOk c.write_last.result (Appends (d c.args.ends.now).contents (d c.write_last.new.ends).contents text))
    (one_more c.args.self.now.world c.args.self.now.pace.halt c.in-None.is) c.write_last.ensures.ok

pub returns-in-None-clause-err : goal.returns-in-None-clause-err
returns-in-None-clause-err g c =
    let d = g.E.Ends.devices in
    subst (λ (text : List ℕ).
    OnErr c.write_last.result (AppendsFront (d c.args.ends.now).contents (d c.write_last.new.ends).contents text))
    (one_more c.args.self.now.world c.args.self.now.pace.halt c.in-None.is) c.write_last.ensures.err
