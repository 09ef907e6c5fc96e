use Rattle.std.proofs.Common.{◌∙◌, refl}
use Rattle.ll_session.proofs.Endings.{at_err, at_ok}
use Rattle.ll_session.proofs.Scores.{runs_to, stops_at}
use Rattle.ll_session.proofs.run.run_session.Goals as goal

pub returns-in-Err-clause-err : goal.returns-in-Err-clause-err
returns-in-Err-clause-err g c =
    let it = c.session-party in
    let end = it.result.0 in
    λ room slots. (
      c.close-history.result.entries,
      (
        end,
        c.close-history.ensures.closed room slots,
        stops_at g.N.Shape.rules room g.N.Shape.limit c.args.before c.args.shared.party end
            c.args.manner.now.is_strict it.result.1 (g.E.Ends.devices c.args.ends.now)
            (g.E.Ends.devices it.new.ends) it.ensures.goes c.requires.some
            (at_err it.result.2 c.in-Err.fault c.in-Err.is it.ensures.err),
      ),
    )

pub returns-in-Ok-clause-ok : goal.returns-in-Ok-clause-ok
returns-in-Ok-clause-ok g c =
    let it = c.session-party in
    let end = it.result.0 in (
      it.result.1,
      c.into_stop.ensures,
      λ room slots. (
        end,
        c.close-history.ensures.closed room slots,
        runs_to g.N.Shape.rules room g.N.Shape.limit c.args.before c.args.shared.party end
            c.args.manner.now.is_strict it.result.1 (g.E.Ends.devices c.args.ends.now)
            (g.E.Ends.devices it.new.ends) it.ensures.goes c.requires.some
            (at_ok it.result.2 c.in-Ok.field-0 c.in-Ok.is it.ensures.ok),
      ),
    )
