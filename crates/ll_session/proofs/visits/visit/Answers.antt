use Rattle.std.proofs.Common.{◌∙◌, List, None, map, refl, subst, sym}
use Rattle.std.specs.Prelude.{IfErr, OnOk}
use Rattle.ll_client.specs.Entries.{Knows}
use Rattle.ll_session.specs.Visit.{StartsBy, Visits}
use Rattle.ll_session.specs.declared.stream.Outcome.{Outcome}
use Rattle.ll_session.proofs.VisitEndings.{cut_short, no_place, ready, started, stopped, turned_away, visited}
use Rattle.ll_session.proofs.visits.visit.Goals as goal

pub returns-in-Err-clause-ok : goal.returns-in-Err-clause-ok
returns-in-Err-clause-ok g c =
    let limit = g.N.Shape.limit in
    let profile = c.args.profile.items in
    let it = c.turn_away in
    let left = map (λ it. it.rider) it.result.0.items in
    turned_away limit profile (g.E.Ends.devices c.args.ends.now) (g.E.Ends.devices it.new.ends) it.result.2
    it.result.1.tally c.at_connect-refusal.result left it.ensures.refusal it.ensures.tally
    (no_place limit profile c.at_connect-refusal.result c.in-Err.errno left c.at_connect-refusal.ensures
    c.in-Err.ensures.err (it.ensures.clients ∙ c.in-Err.ensures.none))
    it.ensures.remaining it.result.1.ended it.ensures.ok

pub returns-in-Err-clause-err : goal.returns-in-Err-clause-err
returns-in-Err-clause-err g c =
    let limit = g.N.Shape.limit in
    let profile = c.args.profile.items in
    let it = c.turn_away in
    let left = map (λ it. it.rider) it.result.0.items in
    cut_short limit profile (g.E.Ends.devices c.args.ends.now) (g.E.Ends.devices it.new.ends) it.result.2
    it.result.1.tally c.at_connect-refusal.result left it.ensures.refusal it.ensures.tally
    (no_place limit profile c.at_connect-refusal.result c.in-Err.errno left c.at_connect-refusal.ensures
    c.in-Err.ensures.err (it.ensures.clients ∙ c.in-Err.ensures.none))
    it.ensures.remaining it.result.1.ended it.ensures.err

pub returns-in-Ok-make_calls-clause-ok : goal.returns-in-Ok-make_calls-clause-ok
returns-in-Ok-make_calls-clause-ok g c =
    let limit = g.N.Shape.limit in
    let profile = c.args.profile.items in
    let it = c.session-party in
    let old = g.E.Ends.devices c.args.ends.now in
    let new = g.E.Ends.devices it.new.ends in
    let come = c.in_default-come.ensures.ok in
    let left = map (λ it. it.rider) c.into_clients.result.items in
    subst (λ (o : Outcome). OnOk o.ended (Visits limit profile old new None o.tally left)) (sym c.answered.ensures)
    (subst (λ (ks : List Knows). OnOk it.result.2 (Visits limit profile old new None it.result.1.tally ks))
    (sym c.into_clients.ensures)
    (visited limit profile old new it.result.2 c.make_calls.new.party it.result.0 it.result.1
    (ready limit profile come.0 c.come.new.party c.make_calls.new.party come.1 come.2 c.in-Ok-make_calls.ensures.ok)
    (it.ensures.lax refl) it.ensures.ok))

pub returns-in-Ok-make_calls-clause-err : goal.returns-in-Ok-make_calls-clause-err
returns-in-Ok-make_calls-clause-err g c =
    let limit = g.N.Shape.limit in
    let profile = c.args.profile.items in
    let it = c.session-party in
    let old = g.E.Ends.devices c.args.ends.now in
    let new = g.E.Ends.devices it.new.ends in
    let come = c.in_default-come.ensures.ok in
    let left = map (λ it. it.rider) c.into_clients.result.items in
    subst (λ (o : Outcome).
    IfErr o.ended (λ fault. StartsBy limit profile fault old new None o.tally left)) (sym c.answered.ensures)
    (subst (λ (ks : List Knows).
    IfErr it.result.2 (λ fault. StartsBy limit profile fault old new None it.result.1.tally ks))
    (sym c.into_clients.ensures)
    (started limit profile old new it.result.2 c.make_calls.new.party it.result.0 it.result.1
    (ready limit profile come.0 c.come.new.party c.make_calls.new.party come.1 come.2 c.in-Ok-make_calls.ensures.ok)
    it.ensures.err))

pub returns-in-Err-make_calls-clause-ok : goal.returns-in-Err-make_calls-clause-ok
returns-in-Err-make_calls-clause-ok g c =
    let limit = g.N.Shape.limit in
    let profile = c.args.profile.items in
    let come = c.in_default-come.ensures.ok in
    let it = c.turn_away-in-Err-make_calls in
    let left = map (λ it. it.rider) it.result.0.items in
    turned_away limit profile (g.E.Ends.devices c.args.ends.now) (g.E.Ends.devices it.new.ends) it.result.2
    it.result.1.tally c.in-Err-make_calls.refusal left it.ensures.refusal it.ensures.tally
    (stopped limit profile come.0 c.come.new.party c.in-Err-make_calls.refusal c.make_calls.new.party left come.1 come.2
    it.ensures.clients c.in-Err-make_calls.ensures.opener c.in-Err-make_calls.ensures.err)
    it.ensures.remaining it.result.1.ended it.ensures.ok

pub returns-in-Err-make_calls-clause-err : goal.returns-in-Err-make_calls-clause-err
returns-in-Err-make_calls-clause-err g c =
    let limit = g.N.Shape.limit in
    let profile = c.args.profile.items in
    let come = c.in_default-come.ensures.ok in
    let it = c.turn_away-in-Err-make_calls in
    let left = map (λ it. it.rider) it.result.0.items in
    cut_short limit profile (g.E.Ends.devices c.args.ends.now) (g.E.Ends.devices it.new.ends) it.result.2
    it.result.1.tally c.in-Err-make_calls.refusal left it.ensures.refusal it.ensures.tally
    (stopped limit profile come.0 c.come.new.party c.in-Err-make_calls.refusal c.make_calls.new.party left come.1 come.2
    it.ensures.clients c.in-Err-make_calls.ensures.opener c.in-Err-make_calls.ensures.err)
    it.ensures.remaining it.result.1.ended it.ensures.err
