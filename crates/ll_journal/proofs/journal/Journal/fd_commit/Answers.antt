use Rattle.std.specs.Prelude.{◌≡◌, Some, refl}
use Rattle.std.specs.Vec.{with_item}
use Rattle.std.proofs.Common.{ap, sym, subst, ◌∙◌}
use Rattle.ll_laws.proofs.Chains.{same_Some}
use Rattle.ll_journal.specs.declared.journal.Journal.TheInside.{Inside}
use Rattle.ll_journal.specs.Book.{Book, Seat, slot_of}
use Rattle.ll_journal.specs.Direct.{IsAstrayOn}
use Rattle.ll_journal.specs.Kept.{seat_at}
use Rattle.ll_journal.proofs.Starts.{at_place}
use Rattle.ll_journal.proofs.FileSteps.{FileStepped, served, over_file_stepped, over_file_not_now, over_file_full}
use Rattle.ll_journal.proofs.CalledFiles.{opened_idle, idle_open, no_seat, no_descriptor, not_open, astray, file_full}
use Rattle.ll_journal.proofs.CalledFiles.{same_inode, plain}
use Rattle.ll_journal.proofs.journal.Journal.fd_commit.Goals as goal

pub returns-in_default-clause-back : goal.returns-in_default-clause-back
returns-in_default-clause-back c = (
  refl,
  over_file_not_now _ _ c.args.client c.args.call c.self.view_is
      (no_seat c.self.inside c.self.invariant c.args.client c.args.call
      (ap (λ xs. seat_at xs c.args.client) (sym c.deref.ensures.value) ∙ c.in_default.ensures.none)),
)

pub returns-in_default-file_call-clause-back : goal.returns-in_default-file_call-clause-back
returns-in_default-file_call-clause-back c = (
  refl,
  over_file_not_now _ _ c.args.client c.args.call c.self.view_is
      (no_descriptor c.self.inside c.self.invariant c.args.client c.args.call c.in_default-file_call.ensures),
)

pub returns-in_default-opened_idle-clause-back : goal.returns-in_default-opened_idle-clause-back
returns-in_default-opened_idle-clause-back c =
    let at = at_place c.self.inside.seats.items c.deref.result.now c.args.client c.in-Some.place c.index.result.now
    c.deref.ensures.value c.in-Some.ensures.some c.index.ensures in (
      refl,
      over_file_not_now _ _ c.args.client c.args.call c.self.view_is
          (not_open c.self.inside c.self.invariant c.args.client c.args.call c.in-Some.place c.index.result.now at
          c.in-Some.ensures.some.0 c.in-Some-file_call.number c.in-Some-file_call.asked c.in-Some-file_call.ensures
          (sym c.opened_idle.ensures ∙ c.in_default-opened_idle.is)),
    )

pub returns-then-held-file-clause-back : goal.returns-then-held-file-clause-back
returns-then-held-file-clause-back c =
    let at = at_place c.self.inside.seats.items c.deref.result.now c.args.client c.in-Some.place c.index.result.now
    c.deref.ensures.value c.in-Some.ensures.some c.index.ensures in
    let idle = idle_open c.index.result.now c.in-Some-file_call.number c.in-Some-opened_idle.held
    (sym c.opened_idle.ensures ∙ c.in-Some-opened_idle.is) in
    let lent = subst (λ (b : Book). c.args.file.now ≡ slot_of b c.args.slot) (sym c.self.view_is) c.requires in (
      refl,
      subst (λ (b : Book). IsAstrayOn b c.args.client c.args.call c.args.slot) c.self.view_is
          (astray c.self.inside c.self.invariant c.args.client c.args.call c.in-Some.place c.index.result.now at
          c.in-Some.ensures.some.0 c.in-Some-file_call.number c.in-Some-file_call.asked c.in-Some-file_call.ensures
          c.in-Some-opened_idle.held idle.0 idle.1 c.args.slot
          (λ e. c.if-held-file.true (sym e
          ∙ sym (same_inode c.self.inside c.self.invariant c.args.client c.in-Some.place c.index.result.now at
          c.in-Some.ensures.some.0 c.in-Some-file_call.number c.in-Some-opened_idle.held idle.1 c.args.slot
          c.args.file.now lent)))),
    )

pub returns-then-is_full-clause-does : goal.returns-then-is_full-clause-does
returns-then-is_full-clause-does c =
    let at = at_place c.self.inside.seats.items c.deref.result.now c.args.client c.in-Some.place c.index.result.now
    c.deref.ensures.value c.in-Some.ensures.some c.index.ensures in
    let idle = idle_open c.index.result.now c.in-Some-file_call.number c.in-Some-opened_idle.held
    (sym c.opened_idle.ensures ∙ c.in-Some-opened_idle.is) in (
      over_file_full _ _ c.args.client c.args.call c.self.view_is
          (file_full c.self.inside c.self.invariant c.args.client c.args.call c.in-Some.place c.index.result.now at
          c.in-Some.ensures.some.0 c.in-Some-file_call.number c.in-Some-file_call.asked c.in-Some-file_call.ensures
          c.in-Some-opened_idle.held idle.0 idle.1 (sym c.is_full.ensures ∙ c.if-is_full.true)),
      refl,
    )

pub serve-told-requires : goal.serve-told-requires
serve-told-requires c =
    let at = at_place c.self.inside.seats.items c.deref.result.now c.args.client c.in-Some.place c.index.result.now
    c.deref.ensures.value c.in-Some.ensures.some c.index.ensures in
    let idle = idle_open c.index.result.now c.in-Some-file_call.number c.in-Some-opened_idle.held
    (sym c.opened_idle.ensures ∙ c.in-Some-opened_idle.is) in
    let lent = subst (λ (b : Book). c.args.file.now ≡ slot_of b c.args.slot) (sym c.self.view_is) c.requires in
    plain c.self.inside c.self.invariant c.args.client c.in-Some.place c.index.result.now at c.in-Some.ensures.some.0
    c.in-Some-file_call.number c.in-Some-opened_idle.held idle.1
    c.args.slot c.args.file.now lent c.if-held-file.false

-- the journal after the call
abbrev served_inside : goal.After-enter → Inside
served_inside c = record c.self.inside {
  history = c.enter.new.history;
  seats = with_item c.self.inside.seats c.in-Some.place c.serve-told.new.seat;
  table = c.serve-told.new.table;
}

stepped : (c : goal.After-enter)
    → FileStepped c.args.self.now c.args.client c.args.call c.args.slot c.enter.result c.serve-told.new.file
    (served_inside c)
stepped c =
    let first = at_place c.self.inside.seats.items c.deref.result.now c.args.client c.in-Some.place c.index.result.now
    c.deref.ensures.value c.in-Some.ensures.some c.index.ensures in
    let at = at_place c.self.inside.seats.items c.deref.result.now c.args.client c.in-Some.place
    c.index_mut-seat.result.now c.deref.ensures.value c.in-Some.ensures.some c.index_mut-seat.ensures.value in
    let one = same_Some c.index.result.now c.index_mut-seat.result.now (sym first ∙ at) in
    let idle = idle_open c.index_mut-seat.result.now c.in-Some-file_call.number c.in-Some-opened_idle.held
    (subst (λ (s : Seat). opened_idle s c.in-Some-file_call.number ≡ Some c.in-Some-opened_idle.held) one
    (sym c.opened_idle.ensures ∙ c.in-Some-opened_idle.is)) in
    let lent = subst (λ (b : Book). c.args.file.now ≡ slot_of b c.args.slot) (sym c.self.view_is) c.requires in
    over_file_stepped _ _ c.args.client c.args.call c.args.slot c.enter.result c.serve-told.new.file (served_inside c)
    c.self.view_is
    (served c.self.inside (served_inside c) c.self.invariant c.args.client c.args.call c.in-Some.place
    c.index_mut-seat.result.now at c.in-Some.ensures.some.0
    c.in-Some-file_call.number c.in-Some-opened_idle.held idle.0 idle.1 c.args.slot c.args.file.now lent
    c.if-held-file.false (sym c.is_full.ensures ∙ c.if-is_full.false)
    refl refl refl c.enter.result c.serve-told.new.file c.serve-told.new.seat refl c.in-Some-file_call.asked
    c.in-Some-file_call.ensures
    c.serve-told.result c.serve-told.ensures.ok c.serve-told.ensures.err c.serve-told.ensures.starved
    c.serve-told.ensures.calm c.enter.ensures.ok c.enter.ensures.err)

pub invariant_of-self : goal.invariant_of-self
invariant_of-self c = (stepped c).kept

pub returns-clause-does : goal.returns-clause-does
returns-clause-does c = (stepped c).does

pub returns-clause-lent : goal.returns-clause-lent
returns-clause-lent c = (stepped c).lent

pub returns-clause-spares : goal.returns-clause-spares
returns-clause-spares c = (stepped c).spares

pub returns-clause-rest : goal.returns-clause-rest
returns-clause-rest c = (stepped c).rest
