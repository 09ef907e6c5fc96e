use Rattle.std.proofs.Common.{◌≡◌, [], Some, sym, subst, arith}
use Rattle.std.specs.Prelude.{OnOk, OnErr}
use Rattle.ll_client.specs.Entries.{Knows, doing_in, knows, part_in, starved_in}
use Rattle.ll_client.proofs.Accounts.{accounts_kept}
use Rattle.ll_client.proofs.Desks.{begin_mine, begin_steps, begin_still, desk_kept}
use Rattle.ll_client.proofs.desk.Desk.begin.Goals as goal

pub give_client-requires-clause-all : goal.give_client-requires-clause-all
give_client-requires-clause-all g c =
    let out = c.take_client.ensures.gone.out [] tt in
    accounts_kept c.self.inside.journal c.begin-begun.new.self c.me.inside.number [] c.take_client.new.keeper
    c.begin-begun.ensures.spares (begin_steps c.self.inside.journal c.begin-begun.new.self c.me.inside.number
    c.args.call c.begin-begun.result c.self.invariant.sound c.self.invariant.within c.begin-begun.ensures.begun
    c.begin-begun.ensures.same).moved out c.take_client.ensures.gone.gone c.take_client.ensures.all

pub give_client-requires-clause-there : goal.give_client-requires-clause-there
give_client-requires-clause-there g c =
    (begin_steps c.self.inside.journal c.begin-begun.new.self c.me.inside.number c.args.call c.begin-begun.result
    c.self.invariant.sound c.self.invariant.within c.begin-begun.ensures.begun c.begin-begun.ensures.same).moved.clients
    c.me.inside.number c.take_client.ensures.there

pub give_client-requires-clause-seen : goal.give_client-requires-clause-seen
give_client-requires-clause-seen g c =
    (let low = c.take_client.ensures.seen
    in let long = (begin_steps c.self.inside.journal c.begin-begun.new.self c.me.inside.number c.args.call
    c.begin-begun.result c.self.invariant.sound c.self.invariant.within c.begin-begun.ensures.begun
    c.begin-begun.ensures.same).moved.long in omega (arith, low, long))

pub invariant_of-self : goal.invariant_of-self
invariant_of-self g c =
    desk_kept g.N.Shape.slots g.N.Shape.limit g.N.Shape.rules c.self.inside.journal c.begin-begun.new.self
    c.me.inside.number []
    c.self.inside.keeper c.give_client.new.keeper c.self.invariant
    (begin_steps c.self.inside.journal c.begin-begun.new.self c.me.inside.number c.args.call c.begin-begun.result
    c.self.invariant.sound c.self.invariant.within c.begin-begun.ensures.begun c.begin-begun.ensures.same)
    c.begin-begun.ensures.spares c.give_client.ensures.all

pub returns-clause-mine : goal.returns-clause-mine
returns-clause-mine g c =
    subst (λ (x : Knows × Knows). OnOk c.begin-begun.result (x.1 ≡ record x.0 { doing = Some c.args.call }))
    (λ i. (
      c.me.view_is i,
      knows c.me.inside.number (part_in (sym c.give_client.ensures.pass i))
          (starved_in c.me.inside.wants) c.me.inside.seen
          (doing_in (sym c.give_client.ensures.pass i)),
    ))
    (begin_mine c.self.inside.journal c.begin-begun.new.self c.me.inside.number c.me.inside.seen
    (part_in c.me.inside.pass) (starved_in c.me.inside.wants) (doing_in c.me.inside.pass) c.args.call
    c.begin-begun.result
    c.take_client.ensures.part c.begin-begun.ensures.begun)

pub returns-clause-still : goal.returns-clause-still
returns-clause-still g c =
    subst (λ (x : Knows × Knows). OnErr c.begin-begun.result (x.1 ≡ x.0))
    (λ i. (
      c.me.view_is i,
      knows c.me.inside.number (part_in (sym c.give_client.ensures.pass i))
          (starved_in c.me.inside.wants) c.me.inside.seen
          (doing_in (sym c.give_client.ensures.pass i)),
    ))
    (begin_still c.self.inside.journal c.begin-begun.new.self c.me.inside.number c.me.inside.seen
    (part_in c.me.inside.pass) (starved_in c.me.inside.wants) (doing_in c.me.inside.pass) c.begin-begun.result
    c.take_client.ensures.part
    c.take_client.ensures.doing c.begin-begun.ensures.same)
