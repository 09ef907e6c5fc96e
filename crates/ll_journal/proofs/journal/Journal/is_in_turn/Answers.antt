use Rattle.std.proofs.Common.{◌≡◌, ap, sym, subst, ◌∙◌}
use Rattle.std.proofs.lemmas.Bool.{eqb-true, eq-eqb}
use Rattle.ll_journal.specs.Book.{Book, slot_of}
use Rattle.ll_journal.specs.Kept.{seat_at}
use Rattle.ll_journal.specs.Steps.{IsInTurn}
use Rattle.ll_journal.proofs.Starts.{at_place}
use Rattle.ll_journal.proofs.StandingWalks.{in_turn_here, nobody_in_turn, not_in_turn, only_in_turn}
use Rattle.ll_journal.proofs.journal.Journal.is_in_turn.Goals as goal

pub returns-in_default-clause-yes : goal.returns-in_default-clause-yes
returns-in_default-clause-yes c e =
    subst (λ (b : Book). IsInTurn b c.args.client c.args.slot) c.self.view_is
    (λ leg is. absurd (cc (sym (nobody_in_turn c.self.inside c.args.client
    (ap (λ xs. seat_at xs c.args.client) (sym c.deref.ensures.value) ∙ c.in_default.ensures.none)) ∙ is)))

pub returns-in_default-here-clause-yes : goal.returns-in_default-here-clause-yes
returns-in_default-here-clause-yes c e =
    let at = at_place c.self.inside.seats.items c.deref.result.now c.args.client c.in-Some.place c.index.result.now
    c.deref.ensures.value c.in-Some.ensures.some c.index.ensures in
    subst (λ (b : Book). IsInTurn b c.args.client c.args.slot) c.self.view_is
    (λ leg is. absurd (cc (sym (not_in_turn c.self.inside c.self.invariant c.args.client c.in-Some.place
    c.index.result.now at c.in-Some.ensures.some.0 (sym c.here.ensures ∙ c.in_default-here.is)) ∙ is)))

pub returns-clause-yes : goal.returns-clause-yes
returns-clause-yes c e =
    let at = at_place c.self.inside.seats.items c.deref.result.now c.args.client c.in-Some.place c.index.result.now
    c.deref.ensures.value c.in-Some.ensures.some c.index.ensures in
    let lent = subst (λ (b : Book). c.args.here.now ≡ slot_of b c.args.slot) (sym c.self.view_is) c.requires in
    subst (λ (b : Book). IsInTurn b c.args.client c.args.slot) c.self.view_is
    (in_turn_here c.self.inside c.self.invariant c.args.client c.in-Some.place c.index.result.now at
    c.in-Some.ensures.some.0 c.in-Some-here.inode (sym c.here.ensures ∙ c.in-Some-here.is) c.args.slot c.args.here.now
    lent (eqb-true c.in-Some-here.inode c.args.here.now.inode e))

pub returns-clause-no : goal.returns-clause-no
returns-clause-no c e turned =
    let at = at_place c.self.inside.seats.items c.deref.result.now c.args.client c.in-Some.place c.index.result.now
    c.deref.ensures.value c.in-Some.ensures.some c.index.ensures in
    let lent = subst (λ (b : Book). c.args.here.now ≡ slot_of b c.args.slot) (sym c.self.view_is) c.requires in
    absurd (cc (sym e ∙ eq-eqb c.in-Some-here.inode c.args.here.now.inode
    (only_in_turn c.self.inside c.self.invariant c.args.client c.in-Some.place c.index.result.now at
    c.in-Some.ensures.some.0 c.in-Some-here.inode (sym c.here.ensures ∙ c.in-Some-here.is) c.args.slot c.args.here.now
    lent (subst (λ (b : Book). IsInTurn b c.args.client c.args.slot) (sym c.self.view_is) turned))))
