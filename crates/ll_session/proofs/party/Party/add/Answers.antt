use Rattle.std.proofs.Common.{◌∙◌, arith}
use Rattle.ll_session.proofs.Lists.{pushed_last}
use Rattle.ll_session.proofs.party.Party.add.Goals as goal

pub invariant_of-self : goal.invariant_of-self
invariant_of-self g c =
    let p = c.self.inside in
    let room = c.self.invariant.1 in
    let same = c.push_reserved.ensures.capacity in (
      pushed_last (λ it. it.rider) c.args.self.now p.clients.items c.push_reserved.new.self.items c.args.client
          c.len-self-inside.result c.self.view_is c.push_reserved.ensures.items c.requires
          (c.len-self-inside.ensures ∙ p.clients.ok.0),
      omega (arith, room, same),
    )
