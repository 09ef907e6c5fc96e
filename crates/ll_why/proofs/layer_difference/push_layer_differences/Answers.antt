use Rattle.std.proofs.Common.{◌≡◌, ℕ, suc, ◌+◌, ◌-◌, ◌<◌, ◌≤◌, ◌++◌, ◌∷◌, List, Option, Some, None, ap, ap₂, arith}
use Rattle.std.proofs.Common.{length, max, refl, sym, ◌∙◌, string_bytes}
use Rattle.std.specs.Borrow.{Bor}
use Rattle.std.specs.List.{HoldsAt, flat_map, range_with_len}
use Rattle.std.specs.Prelude.{MatchOption, option_map, slice_get}
use Rattle.std.proofs.lemmas.List.{append-nil}
use Rattle.std.proofs.lemmas.Option.{slice_get_past, slice_get_read}
use Rattle.ll_why.specs.LayerDifference.{layer_difference}
use Rattle.ll_why.specs.Table.{behind}
use Rattle.ll_why.specs.declared.grants.Grants.{Grants}
use Rattle.ll_why.proofs.TokenTexts.{come}
use Rattle.ll_why.proofs.layer_difference.push_layer_differences.Goals as goal

-- the numbers from one on
more : (i n : ℕ) → i < n → range_with_len i (n - i) ≡ i ∷ range_with_len (i + 1) (n - (i + 1))
more i n lt = let e : n - i ≡ suc (n - (i + 1)) = omega arith in ap (λ (k : ℕ). range_with_len i k) e

-- what a slice has at a place
got : (xs : List Grants) (i : ℕ) (r : Option (Bor Grants))
    → MatchOption r (length xs ≤ i) (λ x. (i < length xs) × HoldsAt (λ y. x.now ≡ y) xs i)
    → option_map (λ (g : Bor Grants). g.now) r ≡ slice_get xs i
got xs i None past = sym (slice_get_past xs i past)
got xs i (Some x) within = sym (slice_get_read xs (length xs) i x.now refl within.0 (within.1 x.now))

pub loop-place-preserved : goal.loop-place-preserved
loop-place-preserved c =
    let old = c.args.old.now in
    let new = c.args.new.now in
    let n = max (length old) (length new) in
    let i = c.loop-place.place in
    let text = string_bytes c.loop-place.text in
    let tokens = λ (place : ℕ). layer_difference (place + 1) (slice_get old place) (slice_get new place) in
    let lt : i < n = omega (arith, c.max-place-end.ensures, c.loop-place-test.true) in
    come _ text _ (tokens i) (flat_map tokens (range_with_len (i + 1) (n - (i + 1))))
    (c.loop-place.invariant ∙ ap (λ (l : List ℕ). text ++ behind (flat_map tokens l)) (more i n lt))
    (c.in_ok-push_layer_difference.ensures
    ∙ ap₂ (λ o p. text ++ behind (layer_difference (i + 1) o p)) (got old i c.get.result c.get.ensures.lookup.3)
    (got new i c.get-in-loop-place.result c.get-in-loop-place.ensures.lookup.3))

pub returns : goal.returns
returns c =
    let old = c.args.old.now in
    let new = c.args.new.now in
    let n = max (length old) (length new) in
    let i = c.loop-place.place in
    let text = string_bytes c.loop-place.text in
    let tokens = λ (place : ℕ). layer_difference (place + 1) (slice_get old place) (slice_get new place) in
    let none : n - i ≡ 0 = omega (arith, c.max-place-end.ensures, c.loop-place-test.false) in
    sym (c.loop-place.invariant
    ∙ ap (λ (k : ℕ). text ++ behind (flat_map tokens (range_with_len i k))) none ∙ append-nil text)
