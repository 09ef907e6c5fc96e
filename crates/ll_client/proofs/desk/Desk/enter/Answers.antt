use Rattle.std.proofs.Common.{◌≤◌, ◌∷◌, [], List, length, refl, sym, subst, ◌∙◌}
use Rattle.ll_seq.specs.declared.reply.Entry.{Entry}
use Rattle.ll_laws.specs.declared.step.Step.TheVariants.{Descend}
use Rattle.ll_client.specs.Entries.{doing_in, knows, part_in, starved_in}
use Rattle.ll_client.proofs.Accounts.{accounts_kept}
use Rattle.ll_client.proofs.Desks.{desk_kept, does_goes, knows_same}
use Rattle.ll_client.proofs.desk.Desk.enter.Goals as goal

pub put_slot-requires-clause-all : goal.put_slot-requires-clause-all
put_slot-requires-clause-all g c =
    let o0 = c.take_slot.ensures.gone.out [] tt in
    let out = c.take_client.ensures.gone.out (c.root.inside.number ∷ []) o0.0 in
    accounts_kept c.self.inside.journal c.enter-progress.new.self c.me.inside.number (c.root.inside.number ∷ [])
    c.take_client.new.keeper c.enter-progress.ensures.spares
    ((does_goes c.self.inside.journal c.enter-progress.new.self (Descend c.me.inside.number) c.enter-progress.result
    c.self.invariant.sound c.self.invariant.within refl c.enter-progress.ensures.does).steps).moved out
    c.take_client.ensures.gone.gone c.take_client.ensures.all

pub put_slot-requires-clause-free : goal.put_slot-requires-clause-free
put_slot-requires-clause-free g c =
    let o0 = c.take_slot.ensures.gone.out [] tt in
    let out = c.take_client.ensures.gone.out (c.root.inside.number ∷ []) o0.0 in
    out.0

pub give_client-requires-clause-there : goal.give_client-requires-clause-there
give_client-requires-clause-there g c =
    let goes = does_goes c.self.inside.journal c.enter-progress.new.self (Descend c.me.inside.number)
    c.enter-progress.result c.self.invariant.sound c.self.invariant.within refl c.enter-progress.ensures.does in
    goes.steps.moved.clients c.me.inside.number c.take_client.ensures.there

pub give_client-requires-clause-seen : goal.give_client-requires-clause-seen
give_client-requires-clause-seen g c =
    let goes = does_goes c.self.inside.journal c.enter-progress.new.self (Descend c.me.inside.number)
    c.enter-progress.result c.self.invariant.sound c.self.invariant.within refl c.enter-progress.ensures.does in
    subst (λ (es : List Entry). c.me.inside.seen ≤ length es) (sym goes.history) c.take_client.ensures.seen

pub invariant_of-self : goal.invariant_of-self
invariant_of-self g c =
    desk_kept g.N.Shape.slots g.N.Shape.limit g.N.Shape.rules c.self.inside.journal c.enter-progress.new.self
    c.me.inside.number
    (c.root.inside.number ∷ []) c.self.inside.keeper c.give_client.new.keeper c.self.invariant
    ((does_goes c.self.inside.journal c.enter-progress.new.self (Descend c.me.inside.number) c.enter-progress.result
    c.self.invariant.sound c.self.invariant.within refl c.enter-progress.ensures.does).steps)
    c.enter-progress.ensures.spares c.give_client.ensures.all

pub returns-clause-mine : goal.returns-clause-mine
returns-clause-mine g c =
    (λ i. knows c.me.inside.number (part_in (c.give_client.ensures.pass i))
    (starved_in c.me.inside.wants) c.me.inside.seen
    (doing_in (c.give_client.ensures.pass i)))
    ∙ knows_same c.self.inside.journal c.enter-progress.new.self c.me.inside.number c.me.inside.seen _ _ _
    (does_goes c.self.inside.journal c.enter-progress.new.self (Descend c.me.inside.number) c.enter-progress.result
    c.self.invariant.sound c.self.invariant.within refl c.enter-progress.ensures.does) c.take_client.ensures.part
    c.take_client.ensures.doing ∙ c.me.view_is
