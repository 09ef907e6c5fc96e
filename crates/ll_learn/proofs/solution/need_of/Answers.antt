use Rattle.std.proofs.Common.{◌≡◌, ◌==◌, ◌&&◌, ℕ, true, ap, sym, ◌∙◌, refl, not}
use Rattle.std.specs.List.{list_all}
use Rattle.ll_learn.specs.Columns.{is_at}
use Rattle.ll_learn.specs.Draft.{has, is_gainless, is_granted, is_met, without}
use Rattle.std.proofs.lemmas.Bool.{and_from}
use Rattle.ll_learn.proofs.Solutions.{of_asks, some_of_moves}
use Rattle.ll_learn.proofs.solution.need_of.Goals as goal

pub returns-in-Some-clause-some : goal.returns-in-Some-clause-some
returns-in-Some-clause-some c =
    let out = c.args.inode in
    let same : (inode : ℕ) → is_at c.deref.result.now inode ≡ has c.args.draft.now c.args.right inode =
    λ inode. ap (λ hs. is_at hs inode) c.deref.ensures.value ∙ c.in_ok-held.ensures inode in
    let e : without out (is_at c.deref.result.now) ≡ without out (has c.args.draft.now c.args.right) =
    λ i inode. same inode i && not (inode == out) in
    of_asks (without out (is_at c.deref.result.now)) (without out (has c.args.draft.now c.args.right)) c.args.right
    c.args.needs.now.asks.items c.deref-2.result.now c.args.needs.now.moves.items c.in-Some.need e
    c.deref-2.ensures.value c.in-Some.ensures.some

pub returns-clause-some : goal.returns-clause-some
returns-clause-some c =
    let out = c.args.inode in
    let same : (inode : ℕ) → is_at c.deref-in-None.result.now inode ≡ has c.args.draft.now c.args.right inode =
    λ inode. ap (λ hs. is_at hs inode) c.deref-in-None.ensures.value ∙ c.in_ok-held.ensures inode in
    let e : without out (is_at c.deref-in-None.result.now) ≡ without out (has c.args.draft.now c.args.right) =
    λ i inode. same inode i && not (inode == out) in
    some_of_moves (without out (is_at c.deref-in-None.result.now)) (without out (has c.args.draft.now c.args.right))
    c.args.right c.args.needs.now.asks.items c.args.needs.now.moves.items c.deref-in-None-2.result.now
    c.first_gain.result e c.deref-in-None-2.ensures.value c.first_gain.ensures.some

pub returns-clause-none : goal.returns-clause-none
returns-clause-none c none =
    let out = c.args.inode in
    let right = c.args.right in
    let needs = c.args.needs.now in
    let held = c.in_ok-held.held.items in
    let e : without out (is_at held) ≡ without out (has c.args.draft.now right) =
    λ i inode. c.in_ok-held.ensures inode i && not (inode == out) in
    let asks : list_all (is_granted (without out (is_at held)) right) needs.asks.items ≡ true =
    (λ i. list_all (is_granted (without out (is_at (sym c.deref.ensures.value i))) right)
    (sym c.deref-2.ensures.value i)) ∙ c.in-None.ensures.none refl in
    let moves : list_all (is_gainless (without out (is_at held)) right) needs.moves.items ≡ true =
    (λ i. list_all (is_gainless (without out (is_at (sym c.deref-in-None.ensures.value i))) right)
    (sym c.deref-in-None-2.ensures.value i)) ∙ c.first_gain.ensures.none none in
    ap (λ h. is_met h right needs) (sym e)
    ∙ and_from (list_all (is_granted (without out (is_at held)) right) needs.asks.items)
    (list_all (is_gainless (without out (is_at held)) right) needs.moves.items) asks moves
