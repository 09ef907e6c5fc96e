use Rattle.std.proofs.Common.{◌≡◌, ℕ, true, ap, sym, ◌∙◌, subst, not}
use Rattle.std.specs.List.{list_any}
use Rattle.ll_rights.specs.Access.{holds}
use Rattle.ll_learn.specs.Columns.{Grows, is_at}
use Rattle.ll_learn.specs.Draft.{is_asked_at, is_some_at, place_of}
use Rattle.std.proofs.lemmas.Bool.{not_from_false, or_left, or_right}
use Rattle.ll_learn.proofs.Columns.{granted_so_far, grows_none, grows_on, grows_wider}
use Rattle.ll_learn.proofs.Places.{asked_there}
use Rattle.ll_learn.proofs.right_column.charge.Goals.{then-holds, else-holds}
use Rattle.ll_learn.proofs.right_column.charge.Goals as goal

pub loop-asked-preserved : goal.loop-asked-preserved
loop-asked-preserved c =
    let scope = c.args.scope.now in
    let right = c.args.right in
    let asks = c.args.asks.now in
    let may = is_asked_at scope right asks in
    let first = c.args.held.now.items in
    let now = c.loop-asked.held.items in
    let new = c.if-holds.held.items in
    let a = c.asked-item.result in
    let i = c.loop-asked.asked-index in
    let old = c.loop-asked.invariant in
    elim c.if-holds.branch [
      | then-holds w ↦
          let is = ap (λ h. h.items) w.held-is in
          let wider : (inode : ℕ) → is_some_at (place_of scope right w.deref.result.now) inode ≡ true
          → may inode ≡ true =
          λ inode e. asked_there scope right asks i a c.loop-asked-test.true c.asked-item.is (sym w.if-holds.ensures)
          inode (ap (λ path. is_some_at (place_of scope right path) inode) (sym w.deref.ensures.value) ∙ e) in
          let grows : Grows may now new = subst (Grows may now) (sym is)
          (grows_wider (is_some_at (place_of scope right w.deref.result.now)) may now w.grow.new.held.items wider
          w.grow.ensures.grows) in
          record {
            grows = grows_on may first now new old.grows grows;
            met = granted_so_far may right asks now new i a grows c.loop-asked-test.true c.asked-item.is old.met
                (or_right (not (holds a.rights.0 right)) (list_any (is_at new) a.inodes.items)
                (ap (λ hs. list_any (is_at hs) a.inodes.items) is
                ∙ ap (list_any (is_at w.grow.new.held.items)) (sym w.deref.ensures.value) ∙ w.grow.ensures.on));
          }
      | else-holds w ↦
          let is = ap (λ h. h.items) w.held-is in
          let grows : Grows may now new = subst (Grows may now) (sym is) (grows_none may now) in
          record {
            grows = grows_on may first now new old.grows grows;
            met = granted_so_far may right asks now new i a grows c.loop-asked-test.true c.asked-item.is old.met
                (or_left (not (holds a.rights.0 right)) (list_any (is_at new) a.inodes.items)
                (not_from_false (holds a.rights.0 right) (sym w.if-holds.ensures)));
          }
    ]
