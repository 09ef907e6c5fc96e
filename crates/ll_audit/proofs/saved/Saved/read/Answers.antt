use Rattle.std.proofs.Common.{◌≡◌, ◌+◌, ◌++◌, ◌∷◌, [], ℕ, List, length, refl, sym, ap, subst, ◌∙◌, arith}
use Rattle.std.proofs.lemmas.List.{length-append}
use Rattle.ll_wire.specs.Pieces.{pieces}
use Rattle.ll_audit.specs.Saved.{IsFirstBad, no_entry}
use Rattle.ll_audit.proofs.EntryLines.{empty, first_is_bad, no_line, told_at, tell_first, tell_more, tell_same, cut_on}
use Rattle.ll_audit.proofs.saved.Saved.read.Goals as goal

pub returns-then-is_empty-clause-bad : goal.returns-then-is_empty-clause-bad
returns-then-is_empty-clause-bad c =
    λ k is. told_at _ 1 k is (no_line _ (ap pieces (empty c.args.bytes.now c.if-is_empty.ensures)))

pub returns-then-is_empty-clause-starved : goal.returns-then-is_empty-clause-starved
returns-then-is_empty-clause-starved c is = absurd (cc)

pub returns-in_default-clause-bad : goal.returns-in_default-clause-bad
returns-in_default-clause-bad c =
    λ k is. told_at _ 1 k is (first_is_bad _ c.split_line.result.0.now (pieces c.split_line.result.1.now)
    c.split_line.ensures.first c.in_default.ensures)

pub loop-rest-init : goal.loop-rest-init
loop-rest-init c = (
  c.split_line.result.0.now ∷ [],
  c.split_line.ensures.first,
  tell_first c.split_line.result.0.now c.in-Some.header c.new-entries.result.items c.in-Some.ensures
      c.new-entries.ensures.items,
)

pub returns-in-Err-clause-bad : goal.returns-in-Err-clause-bad
returns-in-Err-clause-bad c =
    let i = c.loop-rest.invariant in
    λ k is.
    let bad = c.in-Err.ensures.bad k is in
    let whole : pieces c.args.bytes.now ≡ i.0 ++ c.split_line-in-loop-rest.result.0.now
    ∷ pieces c.split_line-in-loop-rest.result.1.now
    = i.1 ∙ ap (λ (x : List (List ℕ)). i.0 ++ x) c.split_line-in-loop-rest.ensures.first in
    subst (IsFirstBad (pieces c.args.bytes.now)) (sym bad.0)
    (no_entry c.in-Some.header c.loop-rest.entries.items i.0 (pieces c.split_line-in-loop-rest.result.1.now)
    c.split_line-in-loop-rest.result.0.now whole i.2 bad.1)

pub returns-in-Err-clause-starved : goal.returns-in-Err-clause-starved
returns-in-Err-clause-starved c =
    let i = c.loop-rest.invariant in
    let line = c.split_line-in-loop-rest.result.0.now in
    λ is.
    let x = c.in-Err.ensures.starved is in
    let es = c.loop-rest.entries.items ++ x.0 ∷ [] in
    let long : length es ≡ length c.loop-rest.entries.items + 1 =
    length-append c.loop-rest.entries.items (x.0 ∷ []) in (
      c.in-Some.header,
      es,
      i.0 ++ line ∷ [],
      pieces c.split_line-in-loop-rest.result.1.now,
      cut_on _ i.0 _ _ line i.1 c.split_line-in-loop-rest.ensures.first,
      tell_more i.0 c.in-Some.header c.loop-rest.entries.items line x.0 i.2 x.1,
      omega (arith, long),
    )

pub loop-rest-preserved : goal.loop-rest-preserved
loop-rest-preserved c =
    let i = c.loop-rest.invariant in
    let line = c.split_line-in-loop-rest.result.0.now in
    let x = c.in_default-take.ensures.ok in (
      i.0 ++ line ∷ [],
      cut_on _ i.0 _ _ line i.1 c.split_line-in-loop-rest.ensures.first,
      tell_same _ c.in-Some.header _ (c.loop-rest.entries.items ++ x.0 ∷ []) _ refl x.2
          (tell_more i.0 c.in-Some.header c.loop-rest.entries.items line x.0 i.2 x.1),
    )
