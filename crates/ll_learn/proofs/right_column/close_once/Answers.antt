use Rattle.std.proofs.Common.{◌≡◌, ℕ, List, true, false, ap, sym, ◌∙◌, refl, subst, take, not, ◌||◌, ◌+◌}
use Rattle.std.specs.Prelude.{Contains}
use Rattle.std.specs.List.{list_any}
use Rattle.std.proofs.lemmas.Bool.{not-false, or_parts}
use Rattle.std.proofs.lemmas.List.Elements.{Contains-get_or}
use Rattle.ll_rights.specs.Access.{holds}
use Rattle.ll_learn.specs.Columns.{Grows, is_at}
use Rattle.ll_learn.specs.Draft.{is_gainless, is_mended_at, is_some_at, may_have, place_of, stands}
use Rattle.ll_learn.specs.Needs.{StartsAtRoot}
use Rattle.ll_learn.proofs.Columns.{IsClosed, can_mend, closed_more, closed_same, grown_within, grows_none}
use Rattle.ll_learn.proofs.Columns.{grows_wider}
use Rattle.ll_learn.proofs.Places.{mended_may, mended_there}
use Rattle.ll_learn.proofs.Spreads.{spread_grown}
use Rattle.ll_learn.proofs.right_column.close_once.Goals.{then-not-is_gainless, else-not-is_gainless}
use Rattle.ll_learn.proofs.right_column.close_once.Goals as goal

pub grow-requires-clause-some : goal.grow-requires-clause-some
grow-requires-clause-some c =
    let scope = c.args.scope.now in
    let right = c.args.right in
    let moves = c.args.moves.now in
    let m = c.moved-item.result in
    let now = c.loop-moved.held.items in
    let i = c.loop-moved.moved-index in
    let starts = c.requires.rooted i m c.loop-moved-test.true in
    let gains : is_gainless (is_at now) right m ≡ false =
    ap (λ hs. is_gainless (is_at hs) right m) (sym c.deref.ensures.value) ∙ sym c.if-not-is_gainless.ensures in
    can_mend scope right now m c.deref-then-not-is_gainless.result.now c.requires.scope c.requires.known
    (grown_within (may_have scope right) c.args.held.now.items now
    (grows_wider (is_mended_at scope right moves) (may_have scope right) c.args.held.now.items now
    (mended_may scope right moves) c.loop-moved.invariant.closed.grows) c.requires.within)
    (subst (λ one. StartsAtRoot one.from.items) (sym c.moved-item.is) starts) gains
    c.deref-then-not-is_gainless.ensures.value

pub loop-moved-preserved : goal.loop-moved-preserved
loop-moved-preserved c =
    let scope = c.args.scope.now in
    let right = c.args.right in
    let moves = c.args.moves.now in
    let m = c.moved-item.result in
    let first = c.args.held.now.items in
    let now = c.loop-moved.held.items in
    let i = c.loop-moved.moved-index in
    let old = c.loop-moved.invariant.closed in
    let spread = c.loop-moved.invariant.spread in
    let mended = is_mended_at scope right moves in
    let into = list_any (is_at now) m.into.items in
    let from = list_any (is_at now) m.from.items in
    elim c.if-not-is_gainless.branch [
      | then-not-is_gainless w ↦
          let new = w.grow.new.held.items in
          let path = w.deref-then-not-is_gainless.result.now in
          let same : path ≡ m.from.items = w.deref-then-not-is_gainless.ensures.value in
          let gains : is_gainless (is_at now) right m ≡ false =
          ap (λ hs. is_gainless (is_at hs) right m) (sym c.deref.ensures.value) ∙ sym w.if-not-is_gainless.ensures in
          let parts = or_parts (not (holds m.rights.0 right)) (not into || from) gains in
          let means : holds m.rights.0 right ≡ true = not-false (holds m.rights.0 right) parts.0 in
          let none : from ≡ false = (or_parts (not into) from parts.1).1 in
          let wider : (inode : ℕ) → is_some_at (place_of scope right path) inode ≡ true → mended inode ≡ true =
          λ inode e. mended_there scope right moves i m c.loop-moved-test.true c.moved-item.is means inode
          (ap (λ inodes. is_some_at (place_of scope right inodes) inode) (sym same) ∙ e) in
          let grows : Grows mended now new =
          grows_wider (is_some_at (place_of scope right path)) mended now new wider w.grow.ensures.grows in
          let less = w.grow.ensures.more (ap (list_any (is_at now)) same ∙ none) in
          let closed = closed_more mended right (take i moves) first now new c.loop-moved.changed (take (i + 1) moves)
          old grows less in
          let among = subst (Contains moves) (sym c.moved-item.is) (Contains-get_or moves i m c.loop-moved-test.true) in
          let entered : into ≡ true = not-false into (or_parts (not into) from parts.1).0 in
          let placed = subst (λ (zs : List ℕ). Grows (is_some_at (place_of scope right zs)) now new) same
          w.grow.ensures.grows in
          record {
            closed = subst (λ h. IsClosed mended right (take (i + 1) moves) first h.items c.if-not-is_gainless.changed)
                (sym w.held-is)
                (subst (λ b. IsClosed mended right (take (i + 1) moves) first new b) (sym w.changed-is) closed);
            spread = λ inode at.
                spread_grown scope right moves first now new m among means entered placed spread inode
                (ap (λ h. is_at h.items inode) (sym w.held-is) ∙ at);
          }
      | else-not-is_gainless w ↦
          let so : is_gainless (is_at now) right m ≡ true =
          ap (λ hs. is_gainless (is_at hs) right m) (sym c.deref.ensures.value) ∙ sym w.if-not-is_gainless.ensures in
          let closed = closed_same mended right moves first now c.loop-moved.changed i m old c.loop-moved-test.true
          c.moved-item.is so in
          record {
            closed = subst (λ h. IsClosed mended right (take (i + 1) moves) first h.items c.if-not-is_gainless.changed)
                (sym w.held-is)
                (subst (λ b. IsClosed mended right (take (i + 1) moves) first now b) (sym w.changed-is) closed);
            spread = λ inode at. spread inode (ap (λ h. is_at h.items inode) (sym w.held-is) ∙ at);
          }
    ]

pub loop-moved-init : goal.loop-moved-init
loop-moved-init c = record {
  closed = record {
    grows = grows_none (is_mended_at c.args.scope.now c.args.right c.args.moves.now) c.args.held.now.items;
    same = λ off. refl;
    more = λ on. absurd (cc on);
    done = λ off. refl;
  };
  spread = λ inode at. stands inode at;
}
