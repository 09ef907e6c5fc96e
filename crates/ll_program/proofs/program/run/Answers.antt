use Rattle.std.proofs.Common.{List, Option, inl, inr, refl, subst, ℕ, ◌≡◌, Err, rules}
use Rattle.ll_session.specs.Run.{refusal_in}
use Rattle.ll_program.specs.Options.{order_in}
use Rattle.ll_program.specs.Policy.{IsSaved}
use Rattle.ll_program.proofs.Known.{lacking}
use Rattle.ll_program.proofs.PerformedRuns.{failing, has_opened}
use Rattle.ll_program.proofs.program.run.Goals as goal

pub returns-in_err-setup-clause-failure : goal.returns-in_err-setup-clause-failure
returns-in_err-setup-clause-failure g c =
    let same : c.from_residual.result ≡ Err c.in_err-setup.field-0.0 = search rules in
    rw same (let h = c.in_err-setup.ensures.failure in
    let order = order_in c.args.options.now in
    let l = lacking order c.args.options.now.tree h.0 c.in_err-setup.field-0.0 refl c.in_err-setup.ensures.named h.2 in
    (h.0, h.1, inl (l.0, l.1, refl)))

pub returns-in_err-it-clause-failure : goal.returns-in_err-it-clause-failure
returns-in_err-it-clause-failure g c =
    let same : c.from_residual-in_err-it.result ≡ Err c.in_err-it.field-0.0 = search rules in
    rw same (let s = c.in_ok-setup.ensures.setup in (
      s.0,
      s.1,
      failing (order_in c.args.options.now) s.0 c.in_ok-setup.setup _ _ _ _ _ s.2
          c.in_err-it.ensures.failure,
    ))

pub returns-in_err-conclusion-clause-failure : goal.returns-in_err-conclusion-clause-failure
returns-in_err-conclusion-clause-failure g c =
    let same : c.from_residual-in_err-conclusion.result ≡ Err c.in_err-conclusion.field-0.0 = search rules in
    rw same (let s = c.in_ok-setup.ensures.setup in
    let p = c.in_ok-it in
    let unkept = inl c.in_err-conclusion.ensures.failure in (
      s.0,
      s.1,
      inr (inr (inr (
        c.in_ok-setup.setup,
        s.2,
        p.it.stop,
        p.it.run.history.entries,
        p.ensures.transcript,
        unkept,
      ))),
    ))

pub returns-in-Err-clause-failure : goal.returns-in-Err-clause-failure
returns-in-Err-clause-failure g c =
    let s = c.in_ok-setup.ensures.setup in
    let p = c.in_ok-it in
    let unkept = inr c.in-Err.ensures.failure in (
      s.0,
      s.1,
      inr (inr (inr (
        c.in_ok-setup.setup,
        s.2,
        p.it.stop,
        p.it.run.history.entries,
        p.ensures.transcript,
        unkept,
      ))),
    )

pub returns-in-Ok-clause-done : goal.returns-in-Ok-clause-done
returns-in-Ok-clause-done g c =
    let p = c.in_ok-it in
    let s = c.in_ok-setup.ensures.setup in
    let order = order_in c.args.options.now in
    let old = g.F.Destination.contents c.args.file.now in
    let new = g.F.Destination.contents c.save_where_named.new.file in
    let entries = p.it.run.history.entries in
    let saved = c.in-Ok.ensures.saved c.in_ok-setup.setup c.header_of-header.ensures.header in (
      s.0,
      s.1,
      (
        c.in_ok-setup.setup,
        entries,
        p.it.stop,
        s.2,
        p.ensures.legal,
        p.ensures.transcript,
        p.ensures.lax,
        subst (λ (b : Option (List ℕ)). IsSaved order.save c.in_ok-setup.setup entries b old new)
            c.perform_asked.ensures.again
            (subst (λ (old : Option (List ℕ)). IsSaved order.save c.in_ok-setup.setup entries
            (g.F.Destination.blank c.perform_asked.new.file) old new) c.perform_asked.ensures.same saved),
        c.in_ok-conclusion.ensures.end,
      ),
    )

pub returns-in-Ok-clause-opening : goal.returns-in-Ok-clause-opening
returns-in-Ok-clause-opening g c =
    let p = c.in_ok-it in
    let s = c.in_ok-setup.ensures.setup in (
      s.0,
      s.1,
      has_opened (order_in c.args.options.now) _ s.0 c.in_ok-setup.setup (g.W.Write.contents c.args.out.now)
          (g.W.Write.contents c.perform_asked.new.out) c.refusal_in-refusal.result
          (refusal_in p.it.stop p.it.refusal) p.it.run.history.entries refl s.2
          c.refusal_in-refusal.ensures p.ensures.opening,
    )
