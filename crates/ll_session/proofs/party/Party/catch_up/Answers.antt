use Rattle.std.proofs.Common.{List, map, slice_set, sym, subst, ◌∙◌, inr}
use Rattle.ll_client.specs.Entries.{Knows}
use Rattle.ll_session.specs.Talk.{Looks}
use Rattle.ll_session.proofs.Lists.{last_again, last_within, looked_at}
use Rattle.ll_session.proofs.party.Party.catch_up.Goals as goal

pub invariant_of-self : goal.invariant_of-self
invariant_of-self g c =
    let p = c.self.inside in
    let within = last_within (λ it. it.rider) p.clients.items p.clients.len p.last p.clients.ok.0
    (sym c.is_empty.ensures ∙ c.if-not-is_empty.true) c.self.invariant.0 in (
      last_again (λ it. it.rider) p.clients.items p.last c.index_mut.result.now c.index_mut.ensures.value within
          c.catch_up.new.me c.self.invariant.0 c.catch_up.ensures.low c.catch_up.ensures.mine,
      c.self.invariant.1,
    )

pub returns-then-not-is_empty : goal.returns-then-not-is_empty
returns-then-not-is_empty g c =
    let p = c.self.inside in
    let within = last_within (λ it. it.rider) p.clients.items p.clients.len p.last p.clients.ok.0
    (sym c.is_empty.ensures ∙ c.if-not-is_empty.true) c.self.invariant.0 in
    let after = map (λ it. it.rider) (slice_set p.clients.items p.last c.catch_up.new.me) in
    record {
      looks = subst (λ (ks : List Knows). Looks ks after) c.self.view_is
          (inr (
            p.last,
            looked_at (λ it. it.rider) p.clients.items p.last c.index_mut.result.now c.index_mut.ensures.value within
                c.catch_up.new.me c.self.invariant.0 c.catch_up.ensures.low c.catch_up.ensures.mine,
          ));
    }
