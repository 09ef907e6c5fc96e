use Rattle.std.proofs.Common.{◌≡◌, ◌≤◌, [], length, List, sym, ap, ◌∙◌, subst}
use Rattle.ll_seq.specs.declared.reply.Entry.{Entry}
use Rattle.ll_client.specs.CallStart.{SetsOut}
use Rattle.ll_client.specs.Entries.{Knows, doing_in, knows, part_in, starved_in}
use Rattle.ll_client.specs.Hands.{seen_started}
use Rattle.ll_client.proofs.Accounts.{IsClient, accounts_kept}
use Rattle.ll_client.proofs.Desks.{desk_kept}
use Rattle.ll_client.proofs.Started.{started_goes, started_low, started_steps}
use Rattle.ll_client.proofs.desk.Desk.start.Goals as goal

pub give_client-requires-clause-all : goal.give_client-requires-clause-all
give_client-requires-clause-all g c =
    let out = c.start_call-start.ensures.only.out []
    (c.take_client.ensures.gone.out [] tt) in
    accounts_kept c.self.inside.journal c.start_call-start.new.journal c.me.inside.number []
    c.start_call-start.new.keeper
    c.start_call-start.ensures.spares
    (started_steps c.self.inside.journal c.start_call-start.new.journal c.me.inside.number c.args.call
    c.start_call-start.result
    c.self.invariant.sound c.self.invariant.within c.start_call-start.ensures.starts).moved
    out (c.start_call-start.ensures.only.clients c.me.inside.number ∙ c.take_client.ensures.gone.gone)
    c.start_call-start.ensures.all

pub give_client-requires-clause-free : goal.give_client-requires-clause-free
give_client-requires-clause-free g c =
    c.start_call-start.ensures.only.clients c.me.inside.number ∙ c.take_client.ensures.gone.gone

pub give_client-requires-clause-there : goal.give_client-requires-clause-there
give_client-requires-clause-there g c =
    (started_steps c.self.inside.journal c.start_call-start.new.journal c.me.inside.number c.args.call
    c.start_call-start.result
    c.self.invariant.sound c.self.invariant.within c.start_call-start.ensures.starts).moved.clients c.me.inside.number
    c.take_client.ensures.there

pub give_client-requires-clause-seen : goal.give_client-requires-clause-seen
give_client-requires-clause-seen g c =
    subst (λ k. k ≤ length c.start_call-start.new.journal.world.history)
    (ap (λ (es : List Entry). seen_started c.start_call-start.result c.me.inside.seen (length es))
    (sym c.entries.ensures) ∙ sym c.seen_after_start-me-inside.ensures)
    (started_low c.start_call-start.result c.me.inside.seen (length c.self.inside.journal.world.history)
    (length c.start_call-start.new.journal.world.history) c.take_client.ensures.seen
    (started_steps c.self.inside.journal c.start_call-start.new.journal c.me.inside.number c.args.call
    c.start_call-start.result
    c.self.invariant.sound c.self.invariant.within c.start_call-start.ensures.starts).moved.long)

pub invariant_of-self : goal.invariant_of-self
invariant_of-self g c =
    desk_kept g.N.Shape.slots g.N.Shape.limit g.N.Shape.rules c.self.inside.journal c.start_call-start.new.journal
    c.me.inside.number []
    c.self.inside.keeper c.give_client.new.keeper c.self.invariant
    (started_steps c.self.inside.journal c.start_call-start.new.journal c.me.inside.number c.args.call
    c.start_call-start.result
    c.self.invariant.sound c.self.invariant.within c.start_call-start.ensures.starts)
    c.start_call-start.ensures.spares c.give_client.ensures.all

pub returns-clause-mine : goal.returns-clause-mine
returns-clause-mine g c =
    let known = c.take_client.ensures in
    let k : IsClient c.self.inside.journal c.me.inside.number (part_in c.me.inside.pass) c.me.inside.seen
    (doing_in c.me.inside.pass) =
    record { there = known.there; few = known.few; part_is = known.part; low = known.seen; doing_is = known.doing }
    in
    let seen : seen_started c.start_call-start.result c.me.inside.seen
    (length c.start_call-start.new.journal.world.history)
    ≡ c.seen_after_start-me-inside.result =
    ap (λ (es : List Entry). seen_started c.start_call-start.result c.me.inside.seen (length es))
    (sym c.entries.ensures)
    ∙ sym c.seen_after_start-me-inside.ensures in
    subst (λ (x : Knows × Knows). SetsOut g.N.Shape.limit c.args.call x.0 c.start_call-start.result x.1)
    (λ i. (
      c.me.view_is i,
      knows c.me.inside.number (part_in (sym c.give_client.ensures.pass i)) (sym c.start_call-start.ensures.starved i)
          (seen i)
          (doing_in (sym c.give_client.ensures.pass i)),
    ))
    (started_goes c.self.inside.journal c.start_call-start.new.journal c.me.inside.number c.me.inside.seen
    g.N.Shape.limit
    _ (starved_in c.me.inside.wants) _ c.args.call c.start_call-start.result c.self.invariant.within
    c.self.invariant.limit_is k
    c.start_call-start.ensures.starts)
