use Rattle.std.proofs.Common.{◌≡◌, ◌≢◌, ◌<◌, ◌+◌, ◌-◌, suc, ℕ, List, ◌∷◌, length, get_or, take, drop, ap, sym, subst}
use Rattle.std.proofs.Common.{arith, ◌∙◌}
use Rattle.std.specs.List.{slice_range}
use Rattle.std.proofs.lemmas.Str.{IsCharBoundary-after_ascii}
use Rattle.ll_path.proofs.Splits.{cut_at_slashes, cut_at, uncut}
use Rattle.ll_path.proofs.names.cut_first.Goals as goal

-- what is found in the text, whose bytes were searched
module _ (text bytes : List ℕ) (end : ℕ) (same : bytes ≡ text) where
  slash_there : (end < length bytes → get_or bytes end 0 ≡ 47) → end < length text → get_or text end 0 ≡ 47
  slash_there h lt = subst (λ (xs : List ℕ). end < length xs → get_or xs end 0 ≡ 47) same h lt

  none_before : ((i : ℕ) → i < end → get_or bytes i 0 ≢ 47) → (i : ℕ) → i < end → get_or text i 0 ≢ 47
  none_before h = subst (λ (xs : List ℕ). (i : ℕ) → i < end → get_or xs i 0 ≢ 47) same h

front_is : (text : List ℕ) (n : ℕ) → slice_range text 0 n ≡ take n text
front_is text n = let all : n - 0 ≡ n = omega arith in ap (λ (m : ℕ). take m text) all

more_is : (text : List ℕ) (n : ℕ) → drop (n + 1) text ≡ drop (suc n) text
more_is text n = let more : n + 1 ≡ suc n = omega arith in ap (λ (m : ℕ). drop m text) more

pub range_from-requires : goal.range_from-requires
range_from-requires c some =
    let slash = slash_there c.args.text.now c.as_bytes.result.now c.first_slash-end.result c.as_bytes.ensures.value
    c.first_slash-end.ensures.slash c.if-end-text.true in
    IsCharBoundary-after_ascii c.args.text.now c.first_slash-end.result c.utf8.text c.if-end-text.true
    (omega (arith, slash))

pub returns-then-end-text : goal.returns-then-end-text
returns-then-end-text c =
    cut_at c.args.text.now c.first_slash-end.result c.if-end-text.true
    (none_before c.args.text.now c.as_bytes.result.now c.first_slash-end.result c.as_bytes.ensures.value
    c.first_slash-end.ensures.none_before)
    (slash_there c.args.text.now c.as_bytes.result.now c.first_slash-end.result c.as_bytes.ensures.value
    c.first_slash-end.ensures.slash c.if-end-text.true)
    ∙ (λ i. sym (c.range.ensures.value ∙ front_is c.args.text.now c.first_slash-end.result) i
    ∷ cut_at_slashes (sym (c.range_from.ensures.value ∙ more_is c.args.text.now c.first_slash-end.result) i))

pub returns-else-end-text : goal.returns-else-end-text
returns-else-end-text c = uncut c.args.text.now (λ i lt.
    let past = c.if-end-text.false in
    none_before c.args.text.now c.as_bytes.result.now c.first_slash-end.result c.as_bytes.ensures.value
    c.first_slash-end.ensures.none_before i (omega arith))
