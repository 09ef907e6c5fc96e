use Rattle.std.proofs.Common.{◌≡◌, ◌≤◌, [], length, List, refl, sym, ap, ◌∙◌, subst}
use Rattle.std.specs.Prelude.{IfOk, OnErr}
use Rattle.ll_seq.specs.declared.reply.Entry.{Entry}
use Rattle.ll_laws.specs.declared.step.Step.TheVariants.{ClientStep}
use Rattle.ll_client.specs.Entries.{Knows, doing_in, knows, part_in, starved_in}
use Rattle.ll_client.specs.Gains.{Gains}
use Rattle.ll_client.specs.Hands.{seen_made}
use Rattle.ll_client.proofs.Accounts.{IsClient, accounts_kept}
use Rattle.ll_client.proofs.Desks.{desk_kept}
use Rattle.ll_client.proofs.Directs.{direct_gains, direct_low, direct_steps, direct_still}
use Rattle.ll_client.proofs.desk.Desk.client_step.Goals as goal

pub give_client-requires-clause-all : goal.give_client-requires-clause-all
give_client-requires-clause-all g c =
    let out = c.step_alone-made.ensures.only.out []
    (c.take_client.ensures.gone.out [] tt) in
    accounts_kept c.self.inside.journal c.step_alone-made.new.journal c.me.inside.number [] c.step_alone-made.new.keeper
    c.step_alone-made.ensures.spares
    (direct_steps c.self.inside.journal c.step_alone-made.new.journal c.me.inside.number c.args.call
    (ClientStep c.me.inside.number c.args.call) c.step_alone-made.result
    (record { mine = refl; asks = refl; idle = refl; other = λ e. cc e }) c.self.invariant.sound
    c.self.invariant.within c.step_alone-made.ensures.does c.step_alone-made.ensures.same).moved out
    (c.step_alone-made.ensures.only.clients c.me.inside.number ∙ c.take_client.ensures.gone.gone)
    c.step_alone-made.ensures.all

pub give_client-requires-clause-free : goal.give_client-requires-clause-free
give_client-requires-clause-free g c =
    c.step_alone-made.ensures.only.clients c.me.inside.number ∙ c.take_client.ensures.gone.gone

pub give_client-requires-clause-there : goal.give_client-requires-clause-there
give_client-requires-clause-there g c =
    (direct_steps c.self.inside.journal c.step_alone-made.new.journal c.me.inside.number c.args.call
    (ClientStep c.me.inside.number c.args.call) c.step_alone-made.result
    (record { mine = refl; asks = refl; idle = refl; other = λ e. cc e }) c.self.invariant.sound c.self.invariant.within
    c.step_alone-made.ensures.does c.step_alone-made.ensures.same).moved.clients c.me.inside.number
    c.take_client.ensures.there

pub give_client-requires-clause-seen : goal.give_client-requires-clause-seen
give_client-requires-clause-seen g c =
    subst (λ k. k ≤ length c.step_alone-made.new.journal.world.history)
    (ap (λ (es : List Entry). seen_made c.step_alone-made.result c.me.inside.seen (length es))
    (sym c.entries.ensures) ∙ sym c.seen_made-me-inside.ensures)
    (direct_low c.step_alone-made.result c.me.inside.seen (length c.self.inside.journal.world.history)
    (length c.step_alone-made.new.journal.world.history) c.take_client.ensures.seen
    (direct_steps c.self.inside.journal c.step_alone-made.new.journal c.me.inside.number c.args.call
    (ClientStep c.me.inside.number c.args.call) c.step_alone-made.result
    (record { mine = refl; asks = refl; idle = refl; other = λ e. cc e }) c.self.invariant.sound
    c.self.invariant.within c.step_alone-made.ensures.does c.step_alone-made.ensures.same).moved.long)

pub invariant_of-self : goal.invariant_of-self
invariant_of-self g c =
    desk_kept g.N.Shape.slots g.N.Shape.limit g.N.Shape.rules c.self.inside.journal c.step_alone-made.new.journal
    c.me.inside.number []
    c.self.inside.keeper c.give_client.new.keeper c.self.invariant
    (direct_steps c.self.inside.journal c.step_alone-made.new.journal c.me.inside.number c.args.call
    (ClientStep c.me.inside.number c.args.call) c.step_alone-made.result
    (record { mine = refl; asks = refl; idle = refl; other = λ e. cc e }) c.self.invariant.sound
    c.self.invariant.within c.step_alone-made.ensures.does c.step_alone-made.ensures.same)
    c.step_alone-made.ensures.spares c.give_client.ensures.all

pub returns-clause-mine : goal.returns-clause-mine
returns-clause-mine g c =
    let known = c.take_client.ensures in
    let k : IsClient c.self.inside.journal c.me.inside.number (part_in c.me.inside.pass) c.me.inside.seen
    (doing_in c.me.inside.pass) =
    record { there = known.there; few = known.few; part_is = known.part; low = known.seen; doing_is = known.doing }
    in
    let seen : seen_made c.step_alone-made.result c.me.inside.seen (length c.step_alone-made.new.journal.world.history)
    ≡ c.seen_made-me-inside.result =
    ap (λ (es : List Entry). seen_made c.step_alone-made.result c.me.inside.seen (length es)) (sym c.entries.ensures)
    ∙ sym c.seen_made-me-inside.ensures in
    subst (λ (x : Knows × Knows). IfOk c.step_alone-made.result (λ a. Gains g.N.Shape.limit c.args.call x.0 a x.1))
    (λ i. (
      c.me.view_is i,
      knows c.me.inside.number (part_in (sym c.give_client.ensures.pass i)) (sym c.step_alone-made.ensures.starved i)
          (seen i)
          (doing_in (sym c.give_client.ensures.pass i)),
    ))
    (direct_gains c.self.inside.journal c.step_alone-made.new.journal c.me.inside.number c.me.inside.seen
    g.N.Shape.limit
    _ (starved_in c.me.inside.wants) _ c.args.call (ClientStep c.me.inside.number c.args.call) c.step_alone-made.result
    (record { mine = refl; asks = refl; idle = refl; other = λ e. cc e }) c.self.invariant.within
    c.self.invariant.limit_is k c.step_alone-made.ensures.does)

pub returns-clause-still : goal.returns-clause-still
returns-clause-still g c =
    let known = c.take_client.ensures in
    let k : IsClient c.self.inside.journal c.me.inside.number (part_in c.me.inside.pass) c.me.inside.seen
    (doing_in c.me.inside.pass) =
    record { there = known.there; few = known.few; part_is = known.part; low = known.seen; doing_is = known.doing }
    in
    let seen : seen_made c.step_alone-made.result c.me.inside.seen (length c.step_alone-made.new.journal.world.history)
    ≡ c.seen_made-me-inside.result =
    ap (λ (es : List Entry). seen_made c.step_alone-made.result c.me.inside.seen (length es)) (sym c.entries.ensures)
    ∙ sym c.seen_made-me-inside.ensures in
    subst (λ (x : Knows × Knows). OnErr c.step_alone-made.result (x.1 ≡ x.0))
    (λ i. (
      c.me.view_is i,
      knows c.me.inside.number (part_in (sym c.give_client.ensures.pass i)) (sym c.step_alone-made.ensures.starved i)
          (seen i)
          (doing_in (sym c.give_client.ensures.pass i)),
    ))
    (direct_still c.self.inside.journal c.step_alone-made.new.journal c.me.inside.number c.me.inside.seen _
    (starved_in c.me.inside.wants) _ c.args.call c.step_alone-made.result k c.step_alone-made.ensures.same)
