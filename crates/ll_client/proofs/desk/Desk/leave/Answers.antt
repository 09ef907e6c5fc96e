use Rattle.std.proofs.Common.{◌≡◌, ◌≤◌, length, List, sym, ap, ◌∙◌, subst}
use Rattle.ll_seq.specs.declared.reply.Entry.{Entry}
use Rattle.ll_client.specs.Entries.{Knows, doing_in, knows, part_in, starved_in}
use Rattle.ll_client.specs.Gains.{Goes}
use Rattle.ll_client.specs.Hands.{seen_of}
use Rattle.ll_client.proofs.Accounts.{IsClient}
use Rattle.ll_client.proofs.Desks.{desk_kept}
use Rattle.ll_client.proofs.Leavings.{left_goes, left_steps, seen_low}
use Rattle.ll_client.proofs.desk.Desk.leave.Goals as goal

pub give_client-requires-clause-there : goal.give_client-requires-clause-there
give_client-requires-clause-there g c =
    (left_steps c.args.leaving c.self.inside.journal c.leave_by-left.new.journal c.me.inside.number
    c.leave_by-left.result c.self.invariant.sound c.self.invariant.within
    c.leave_by-left.ensures.left.leaves).moved.clients c.me.inside.number c.take_client.ensures.there

pub give_client-requires-clause-seen : goal.give_client-requires-clause-seen
give_client-requires-clause-seen g c =
    subst (λ k. k ≤ length c.leave_by-left.new.journal.world.history)
    (ap (λ (es : List Entry). seen_of c.leave_by-left.result c.me.inside.seen (length es)) (sym c.entries.ensures)
    ∙ sym c.seen_after-me-inside.ensures)
    (seen_low c.leave_by-left.result c.me.inside.seen (length c.self.inside.journal.world.history)
    (length c.leave_by-left.new.journal.world.history) c.take_client.ensures.seen
    (left_steps c.args.leaving c.self.inside.journal c.leave_by-left.new.journal c.me.inside.number
    c.leave_by-left.result c.self.invariant.sound c.self.invariant.within
    c.leave_by-left.ensures.left.leaves).moved.long)

pub invariant_of-self : goal.invariant_of-self
invariant_of-self g c =
    desk_kept g.N.Shape.slots g.N.Shape.limit g.N.Shape.rules c.self.inside.journal c.leave_by-left.new.journal
    c.me.inside.number _ c.self.inside.keeper c.give_client.new.keeper c.self.invariant
    (left_steps c.args.leaving c.self.inside.journal c.leave_by-left.new.journal c.me.inside.number
    c.leave_by-left.result c.self.invariant.sound c.self.invariant.within c.leave_by-left.ensures.left.leaves)
    c.leave_by-left.ensures.left.spares c.give_client.ensures.all

pub returns-clause-mine : goal.returns-clause-mine
returns-clause-mine g c =
    let known = c.take_client.ensures in
    let k : IsClient c.self.inside.journal c.me.inside.number (part_in c.me.inside.pass) c.me.inside.seen
    (doing_in c.me.inside.pass) =
    record { there = known.there; few = known.few; part_is = known.part; low = known.seen; doing_is = known.doing }
    in
    let seen : seen_of c.leave_by-left.result c.me.inside.seen (length c.leave_by-left.new.journal.world.history)
    ≡ c.seen_after-me-inside.result =
    ap (λ (es : List Entry). seen_of c.leave_by-left.result c.me.inside.seen (length es)) (sym c.entries.ensures)
    ∙ sym c.seen_after-me-inside.ensures in
    subst (λ (x : Knows × Knows). Goes g.N.Shape.limit x.0 c.leave_by-left.result x.1)
    (λ i. (
      c.me.view_is i,
      knows c.me.inside.number (part_in (sym c.give_client.ensures.pass i)) (sym c.leave_by-left.ensures.starved i)
          (seen i)
          (doing_in (sym c.give_client.ensures.pass i)),
    ))
    (left_goes c.self.inside.journal c.leave_by-left.new.journal c.me.inside.number c.me.inside.seen
    g.N.Shape.limit _ (starved_in c.me.inside.wants) _ c.self.invariant.within c.self.invariant.limit_is k
    c.args.leaving c.leave_by-left.result c.self.invariant.sound
    c.leave_by-left.ensures.left.leaves)
