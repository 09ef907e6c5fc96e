use Rattle.std.proofs.Common.{◌≡◌, List, Option, subst, ℕ, Err, rules}
use Rattle.std.specs.Prelude.{OnErr, OnOk}
use Rattle.std.specs.Io.KnownBytes.{Appends}
use Rattle.ll_audit.specs.Saved.{saved_text}
use Rattle.ll_commands.proofs.Endings.{done, saved, unsaved, unserved, unset}
use Rattle.ll_commands.proofs.served.serve.Goals as goal

pub returns-in_err-setup-clause-failure : goal.returns-in_err-setup-clause-failure
returns-in_err-setup-clause-failure g c =
    let same : c.from_residual.result ≡ Err c.in_err-setup.field-0.0 = search rules in
    rw same (unset c.args.options.now (g.P.Read.remaining c.args.policy.now)
    (g.W.Write.contents c.args.out.now) (g.F.Destination.contents c.args.file.now) c.in_err-setup.field-0.0
    c.in_err-setup.ensures.named c.in_err-setup.ensures.failure)

pub returns-in-Err-clause-failure : goal.returns-in-Err-clause-failure
returns-in-Err-clause-failure g c =
    unserved c.args.options.now (g.P.Read.remaining c.args.policy.now) c.in_ok-setup.setup
    c.in_ok-setup.ensures.setup (g.W.Write.contents c.args.out.now) (g.W.Write.contents c.host.new.out)
    (g.F.Destination.contents c.args.file.now) (g.F.Destination.contents c.begin_record-record.new.file)
    c.in-Err.failure c.in-Err.ensures.failure c.begin_record-record.ensures.same

pub returns-then-is_none-clause-done : goal.returns-then-is_none-clause-done
returns-then-is_none-clause-done g c =
    let h = c.in-Ok in
    done c.args.options.now (g.P.Read.remaining c.args.policy.now) c.in_ok-setup.setup
    c.in_ok-setup.ensures.setup (g.W.Write.contents c.args.out.now) (g.W.Write.contents c.host.new.out)
    (g.F.Destination.contents c.args.file.now) (g.F.Destination.contents c.begin_record-record.new.file) h.ensures.told
    (g.F.Destination.blank c.args.file.now) h.it.history.entries h.ensures.served c.if-is_none.ensures
    c.begin_record-record.ensures.same

pub returns-clause-done : goal.returns-clause-done
returns-clause-done g c =
    let h = c.in-Ok in
    let entries = h.it.history.entries in
    let new = g.F.Destination.contents c.save_history.new.file in
    saved c.args.options.now (g.P.Read.remaining c.args.policy.now) c.in_ok-setup.setup
    c.in_ok-setup.ensures.setup (g.W.Write.contents c.args.out.now) (g.W.Write.contents c.host.new.out)
    (g.F.Destination.contents c.args.file.now) new h.ensures.told (g.F.Destination.blank c.args.file.now) entries
    h.ensures.served c.save_history.result c.header_of-header.result c.if-is_none.ensures
    c.header_of-header.ensures.header
    (subst (λ (b : Option (List ℕ)).
    OnOk c.save_history.result (Appends b new (saved_text c.header_of-header.result entries)))
    c.begin_record-record.ensures.again c.save_history.ensures.saved)

pub returns-clause-failure : goal.returns-clause-failure
returns-clause-failure g c =
    let h = c.in-Ok in
    let new = g.F.Destination.contents c.save_history.new.file in
    unsaved c.args.options.now (g.P.Read.remaining c.args.policy.now) c.in_ok-setup.setup
    c.in_ok-setup.ensures.setup (g.W.Write.contents c.args.out.now) (g.W.Write.contents c.host.new.out)
    (g.F.Destination.contents c.args.file.now) new h.ensures.told c.save_history.result c.if-is_none.ensures
    c.save_history.ensures.failure
    (subst (λ (old : Option (List ℕ)). OnErr c.save_history.result (new ≡ old)) c.begin_record-record.ensures.same
    c.save_history.ensures.kept)
