use Rattle.std.proofs.Common.{◌≡◌, ℕ, List, true, ap, sym, subst, ◌∙◌, inl, inr}
use Rattle.std.specs.List.{list_all}
use Rattle.std.proofs.lemmas.Bool.{and_from, both_ways, or_cases, or_left, or_right}
use Rattle.ll_learn.specs.Columns.{is_at}
use Rattle.ll_learn.specs.Draft.{IsSpread, is_asked_at, is_gainless, is_granted, is_mended_at, stands}
use Rattle.ll_learn.specs.declared.needs.Moved.{Moved}
use Rattle.ll_learn.proofs.Columns.{all_more, granted_more}
use Rattle.ll_learn.proofs.Places.{asked_may}
use Rattle.ll_learn.proofs.Spreads.{spread_on}
use Rattle.ll_learn.proofs.right_column.least_column.Goals as goal

pub prune-requires : goal.prune-requires
prune-requires c =
    let right = c.args.right in
    let needs = c.args.needs.now in
    let charged = c.charge.new.held.items in
    let closed = c.close.new.held.items in
    let granted : list_all (is_granted (is_at charged) right) needs.asks.items ≡ true =
    ap (list_all (is_granted (is_at charged) right)) (sym c.deref.ensures.value) ∙ c.charge.ensures.met in
    and_from (list_all (is_granted (is_at closed) right) needs.asks.items)
    (list_all (is_gainless (is_at closed) right) needs.moves.items)
    (all_more (is_granted (is_at charged) right) (is_granted (is_at closed) right) needs.asks.items
    (λ a. granted_more (is_at charged) (is_at closed) right a c.close.ensures.grows.kept) granted)
    (ap (list_all (is_gainless (is_at closed) right)) (sym c.deref-2.ensures.value) ∙ c.close.ensures.done)

pub close-requires-clause-within : goal.close-requires-clause-within
close-requires-clause-within c inode at =
    let scope = c.args.scope.now in
    let asks = c.deref.result.now in
    elim (or_cases (is_at c.in_ok-held.held.items inode) (is_asked_at scope c.args.right asks inode)
    (c.charge.ensures.grows.within inode at)) [
      | inl first ↦ absurd (both_ways (is_at c.in_ok-held.held.items inode) (c.in_ok-held.ensures.none inode) first)
      | inr asked ↦ asked_may scope c.args.right asks inode asked
    ]

pub returns-clause-least : goal.returns-clause-least
returns-clause-least c =
    let scope = c.args.scope.now in
    let right = c.args.right in
    let needs = c.args.needs.now in
    let first = c.in_ok-held.held.items in
    let charged = c.charge.new.held.items in
    let asks = c.deref.result.now in
    let moves = c.deref-2.result.now in
    let from_asked : (inode : ℕ) → is_at charged inode ≡ true
    → IsSpread scope right moves (is_asked_at scope right needs.asks.items) inode =
    λ inode before. elim (or_cases (is_at first inode) (is_asked_at scope right asks inode)
    (c.charge.ensures.grows.within inode before)) [
      | inl none ↦ absurd (both_ways (is_at first inode) (c.in_ok-held.ensures.none inode) none)
      | inr asked ↦
          stands inode (ap (λ xs. is_asked_at scope right xs inode) (sym c.deref.ensures.value) ∙ asked)
    ] in
    record {
      placed = λ inode at.
          elim (or_cases (is_at charged inode) (is_mended_at scope right moves inode)
          (c.close.ensures.grows.within inode (c.prune.ensures.shrinks.within inode at))) [
            | inl before ↦
                elim (or_cases (is_at first inode) (is_asked_at scope right asks inode)
                (c.charge.ensures.grows.within inode before)) [
                  | inl none ↦ absurd (both_ways (is_at first inode) (c.in_ok-held.ensures.none inode) none)
                  | inr asked ↦ or_left (is_asked_at scope right needs.asks.items inode)
                      (is_mended_at scope right needs.moves.items inode)
                      (ap (λ xs. is_asked_at scope right xs inode) (sym c.deref.ensures.value) ∙ asked)
                ]
            | inr mended ↦ or_right (is_asked_at scope right needs.asks.items inode)
                (is_mended_at scope right needs.moves.items inode)
                (ap (λ xs. is_mended_at scope right xs inode) (sym c.deref-2.ensures.value) ∙ mended)
          ];
      derived = λ inode at.
          subst (λ (xs : List Moved). IsSpread scope right xs (is_asked_at scope right needs.asks.items) inode)
          c.deref-2.ensures.value
          (spread_on scope right moves (is_at charged) (is_asked_at scope right needs.asks.items) from_asked inode
          (c.close.ensures.spread inode (c.prune.ensures.shrinks.within inode at)));
      met = λ _. c.prune.ensures.met;
      needed = c.prune.ensures.needed;
    }
