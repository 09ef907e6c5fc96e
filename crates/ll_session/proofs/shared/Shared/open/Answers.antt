use Rattle.std.proofs.Common.{◌≡◌, Err, rules}
use Rattle.ll_session.proofs.FirstComers.{no_loader, no_session, opens}
use Rattle.ll_session.proofs.shared.Shared.open.Goals as goal

pub returns-in_err-load-clause-err : goal.returns-in_err-load-clause-err
returns-in_err-load-clause-err g c =
    let same : c.from_residual.result ≡ Err c.in_err-load.field-0.0 = search rules in
    rw same (λ room. no_loader c.args.setup g.N.Shape.rules room g.N.Shape.limit c.args.self.now.party
    c.load.new.self.party c.in_err-load.field-0.0 c.in_err-load.ensures.opener (c.in_err-load.ensures.err room))

pub returns-clause-ok : goal.returns-clause-ok
returns-clause-ok g c room =
    opens c.args.setup g.N.Shape.rules room g.N.Shape.limit c.args.self.now.party c.load.new.self.party
    c.bring.new.self.party c.len-before.result (c.in_ok-load.ensures.ok room) (c.in_ok-bring.ensures.ok room)
    c.len-before.ensures

pub returns-in_err-bring-clause-err : goal.returns-in_err-bring-clause-err
returns-in_err-bring-clause-err g c =
    let same : c.from_residual-in_err-bring.result ≡ Err c.in_err-bring.field-0.0 = search rules in
    rw same (λ room. no_session c.args.setup g.N.Shape.rules room g.N.Shape.limit c.args.self.now.party
    c.load.new.self.party c.bring.new.self.party c.in_err-bring.field-0.0 c.in_err-bring.ensures.opener
    (c.in_ok-load.ensures.ok room) (c.in_err-bring.ensures.err room))
