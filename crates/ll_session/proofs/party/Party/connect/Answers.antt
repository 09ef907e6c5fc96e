use Rattle.std.proofs.Common.{◌<◌, List, map, slice_set, sym, ap, subst, ◌∙◌, inr}
use Rattle.std.specs.Prelude.{IfOk}
use Rattle.ll_client.specs.Entries.{Knows}
use Rattle.ll_client.proofs.Newcomers.{raised, unraised}
use Rattle.ll_session.specs.Talk.{Looks, seen_by}
use Rattle.ll_session.proofs.Lists.{last_again, last_seen, last_within, looked_at, still_same}
use Rattle.ll_session.proofs.party.Party.connect.Goals as goal

pub invariant_of-self : goal.invariant_of-self
invariant_of-self g c =
    let p = c.self.inside in
    let told = c.connect_after in
    let within = last_within (λ it. it.rider) p.clients.items p.clients.len p.last p.clients.ok.0
    (sym c.is_empty.ensures ∙ c.if-is_empty.false) c.self.invariant.0 in (
      last_again (λ it. it.rider) p.clients.items p.last c.index_mut.result.now c.index_mut.ensures.value within
          told.new.me c.self.invariant.0 told.ensures.low
          (raised g.N.Shape.limit told.result c.index_mut.result.now.rider told.new.me.rider told.ensures.mine),
      c.self.invariant.1,
    )

pub returns-clause-after : goal.returns-clause-after
returns-clause-after g c =
    let p = c.self.inside in
    let within = last_within (λ it. it.rider) p.clients.items p.clients.len p.last p.clients.ok.0
    (sym c.is_empty.ensures ∙ c.if-is_empty.false) c.self.invariant.0 in
    subst (λ n. IfOk c.connect_after.result (λ client. n < client.rider.seen))
    (last_seen (λ it. it.rider) p.clients.items p.last c.index_mut.result.now c.index_mut.ensures.value within
    c.self.invariant.0 ∙ ap seen_by c.self.view_is)
    c.connect_after.ensures.after

pub returns-clause-same : goal.returns-clause-same
returns-clause-same g c = λ room.
    let p = c.self.inside in
    let told = c.connect_after in
    let within = last_within (λ it. it.rider) p.clients.items p.clients.len p.last p.clients.ok.0
    (sym c.is_empty.ensures ∙ c.if-is_empty.false) c.self.invariant.0 in
    still_same (λ it. it.rider) p.clients.items p.last c.index_mut.result.now c.index_mut.ensures.value within
    told.new.me
    (unraised g.N.Shape.limit told.result c.index_mut.result.now.rider told.new.me.rider room told.ensures.mine)
    ∙ c.self.view_is

pub returns-clause-looks : goal.returns-clause-looks
returns-clause-looks g c =
    let p = c.self.inside in
    let told = c.connect_after in
    let within = last_within (λ it. it.rider) p.clients.items p.clients.len p.last p.clients.ok.0
    (sym c.is_empty.ensures ∙ c.if-is_empty.false) c.self.invariant.0 in
    let after = map (λ it. it.rider) (slice_set p.clients.items p.last told.new.me) in
    subst (λ (ks : List Knows). Looks ks after) c.self.view_is
    (inr (
      p.last,
      looked_at (λ it. it.rider) p.clients.items p.last c.index_mut.result.now c.index_mut.ensures.value within
          told.new.me c.self.invariant.0 told.ensures.low
          (raised g.N.Shape.limit told.result c.index_mut.result.now.rider told.new.me.rider told.ensures.mine),
    ))
