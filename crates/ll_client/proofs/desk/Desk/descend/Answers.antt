use Rattle.std.proofs.Common.{◌≡◌, ◌≤◌, ◌∷◌, [], List, Option, Some, None, IfSome, length, ap, refl, sym, subst, ◌∙◌}
use Rattle.ll_seq.specs.declared.call.Call.{Call}
use Rattle.ll_seq.specs.declared.reply.Entry.{Entry}
use Rattle.ll_laws.specs.declared.step.Step.TheVariants.{Descend}
use Rattle.ll_journal.specs.Stations.{Names, call_of}
use Rattle.ll_journal.specs.declared.onward.Onward.{Onward}
use Rattle.ll_client.specs.Entries.{Kept, Knows, doing_in, knows, part_in, starved_in}
use Rattle.ll_client.proofs.Accounts.{accounts_kept}
use Rattle.ll_client.proofs.Desks.{desk_kept, does_goes, knows_same}
use Rattle.ll_client.proofs.desk.Desk.descend.Goals as goal

pub put_slot-requires-clause-all : goal.put_slot-requires-clause-all
put_slot-requires-clause-all g c =
    let o0 = c.take_slot.ensures.gone.out [] tt in
    let o1 = c.take_slot-2.ensures.gone.out (c.to.inside.number ∷ []) o0.0 in
    let out = c.take_client.ensures.gone.out (c.from.inside.number ∷ c.to.inside.number ∷ []) o1.0 in
    accounts_kept c.self.inside.journal c.descend-progress.new.self c.me.inside.number
    (c.from.inside.number ∷ c.to.inside.number ∷ []) c.take_client.new.keeper c.descend-progress.ensures.spares
    ((does_goes c.self.inside.journal c.descend-progress.new.self (Descend c.me.inside.number)
    c.descend-progress.result c.self.invariant.sound c.self.invariant.within refl
    c.descend-progress.ensures.does).steps).moved out c.take_client.ensures.gone.gone c.take_client.ensures.all

pub put_slot-requires-clause-free : goal.put_slot-requires-clause-free
put_slot-requires-clause-free g c =
    let o0 = c.take_slot.ensures.gone.out [] tt in
    let o1 = c.take_slot-2.ensures.gone.out (c.to.inside.number ∷ []) o0.0 in
    let out = c.take_client.ensures.gone.out (c.from.inside.number ∷ c.to.inside.number ∷ []) o1.0 in
    out.0

pub put_slot-requires-2-clause-free : goal.put_slot-requires-2-clause-free
put_slot-requires-2-clause-free g c =
    let o0 = c.take_slot.ensures.gone.out [] tt in
    let o1 = c.take_slot-2.ensures.gone.out (c.to.inside.number ∷ []) o0.0 in
    let out = c.take_client.ensures.gone.out (c.from.inside.number ∷ c.to.inside.number ∷ []) o1.0 in
    let p0 = c.put_slot.ensures.others.out (c.to.inside.number ∷ []) o1.1 out.1 in
    p0.0

pub give_client-requires-clause-there : goal.give_client-requires-clause-there
give_client-requires-clause-there g c =
    let goes = does_goes c.self.inside.journal c.descend-progress.new.self (Descend c.me.inside.number)
    c.descend-progress.result c.self.invariant.sound c.self.invariant.within refl
    c.descend-progress.ensures.does in
    goes.steps.moved.clients c.me.inside.number c.take_client.ensures.there

pub give_client-requires-clause-seen : goal.give_client-requires-clause-seen
give_client-requires-clause-seen g c =
    let goes = does_goes c.self.inside.journal c.descend-progress.new.self (Descend c.me.inside.number)
    c.descend-progress.result c.self.invariant.sound c.self.invariant.within refl
    c.descend-progress.ensures.does in
    subst (λ (es : List Entry). c.me.inside.seen ≤ length es) (sym goes.history) c.take_client.ensures.seen

pub invariant_of-self : goal.invariant_of-self
invariant_of-self g c =
    desk_kept g.N.Shape.slots g.N.Shape.limit g.N.Shape.rules c.self.inside.journal c.descend-progress.new.self
    c.me.inside.number
    (c.from.inside.number ∷ c.to.inside.number ∷ []) c.self.inside.keeper c.give_client.new.keeper c.self.invariant
    ((does_goes c.self.inside.journal c.descend-progress.new.self (Descend c.me.inside.number)
    c.descend-progress.result c.self.invariant.sound c.self.invariant.within refl
    c.descend-progress.ensures.does).steps)
    c.descend-progress.ensures.spares c.give_client.ensures.all

pub returns-clause-mine : goal.returns-clause-mine
returns-clause-mine g c =
    (λ i. knows c.me.inside.number (part_in (c.give_client.ensures.pass i))
    (starved_in c.me.inside.wants) c.me.inside.seen
    (doing_in (c.give_client.ensures.pass i)))
    ∙ knows_same c.self.inside.journal c.descend-progress.new.self c.me.inside.number c.me.inside.seen _ _ _
    (does_goes c.self.inside.journal c.descend-progress.new.self (Descend c.me.inside.number)
    c.descend-progress.result c.self.invariant.sound c.self.invariant.within refl
    c.descend-progress.ensures.does) c.take_client.ensures.part c.take_client.ensures.doing ∙ c.me.view_is

pub descend-progress-requires-clause-names : goal.descend-progress-requires-clause-names
descend-progress-requires-clause-names g c =
    by c.args.hint c.requires.names
  where
    by : (hint : Option Onward)
        → IfSome hint (λ on. (call : Call) → c.args.me.now.doing ≡ Some call
        → Names call c.args.from.now.held on.name on.inode)
        → IfSome hint (λ on. (call : Call) → call_of c.self.inside.journal.world c.me.inside.number ≡ Some call
        → Names call c.from.inside.held on.name on.inode)
    by None names = tt
    by (Some on) names = λ call is.
        subst (λ (k : Kept). Names call k.held on.name on.inode) (sym c.from.view_is)
        (names call (ap (λ (k : Knows). k.doing) (sym c.me.view_is) ∙ c.take_client.ensures.doing ∙ is))
