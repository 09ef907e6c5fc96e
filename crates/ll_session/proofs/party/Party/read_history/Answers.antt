use Rattle.std.proofs.Common.{◌≤◌, List, length, sym, ap, subst, ◌∙◌}
use Rattle.ll_client.specs.Entries.{Knows}
use Rattle.ll_session.specs.Talk.{IsLast, seen_by}
use Rattle.ll_session.proofs.Lists.{last_seen, last_there, still_same}
use Rattle.ll_session.proofs.party.Party.read_history.Goals as goal

pub invariant_of-self : goal.invariant_of-self
invariant_of-self g c =
    let p = c.self.inside in
    let within = last_there (λ it. it.rider) p.clients.items _ p.last c.self.view_is c.requires c.self.invariant.0 in (
      subst (λ (ks : List Knows). IsLast ks p.last)
          (sym (still_same (λ it. it.rider) p.clients.items p.last c.index_mut.result.now c.index_mut.ensures.value
          within
          c.read_history.new.me c.read_history.ensures.mine))
          c.self.invariant.0,
      c.self.invariant.1,
    )

pub returns-clause-same : goal.returns-clause-same
returns-clause-same g c =
    let p = c.self.inside in
    let within = last_there (λ it. it.rider) p.clients.items _ p.last c.self.view_is c.requires c.self.invariant.0 in
    still_same (λ it. it.rider) p.clients.items p.last c.index_mut.result.now c.index_mut.ensures.value within
    c.read_history.new.me c.read_history.ensures.mine ∙ c.self.view_is

pub returns-clause-read : goal.returns-clause-read
returns-clause-read g c =
    let p = c.self.inside in
    let within = last_there (λ it. it.rider) p.clients.items _ p.last c.self.view_is c.requires c.self.invariant.0 in
    let read = c.read_history.ensures.read in (
      read.0,
      subst (λ n. n ≤ length read.0)
          (last_seen (λ it. it.rider) p.clients.items p.last c.index_mut.result.now c.index_mut.ensures.value within
          c.self.invariant.0 ∙ ap seen_by c.self.view_is)
          read.1,
      read.2,
      read.3,
    )
