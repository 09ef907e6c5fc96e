-- Texts cut at their slashes, and put together again.
use Rattle.std.proofs.Common.{◌≡◌, ◌≢◌, ◌==◌, ℕ, ◌<◌, Bool, true, false, cond, List, [], ◌∷◌, ◌++◌, length, get_or}
use Rattle.std.proofs.Common.{suc, ◌≤◌, take, drop, None, refl, ap, sym, ◌∙◌, arith, lit<, length-take}
use Rattle.std.specs.List.{slice_split, onto_first, All, AllByRecursion}
use Rattle.std.specs.Str.Pattern.{RFindsChar, SplitsAroundMatch}
use Rattle.std.proofs.lemmas.Bool.{ne_eqb}
use Rattle.std.proofs.Math.Seq.{drop-cons, get_or-take}
use Rattle.std.proofs.lemmas.List.{take-append-drop}
use Rattle.std.proofs.lemmas.Str.Pattern.{NoCharPasses-char, drop_at_char}
use Rattle.std.proofs.lemmas.List.Elements.{All-from_get_or}
use Rattle.std.proofs.lemmas.List.Splits.{slice_split_at, slice_split_none, length-slice_split}

abbrev pub cut_at_slashes : List ℕ → List (List ℕ)
cut_at_slashes = slice_split (λ b. b == 47)

no_slash : (xs : List ℕ) → ((i : ℕ) → i < length xs → get_or xs i 0 ≢ 47) → All (λ b. (b == 47) ≡ false) xs
no_slash xs h = All-from_get_or (λ b. (b == 47) ≡ false) xs 0 (λ i l. ne_eqb _ _ (h i l))

-- a text without a slash is one part
pub uncut : (text : List ℕ) → ((i : ℕ) → i < length text → get_or text i 0 ≢ 47) → cut_at_slashes text ≡ text ∷ []
uncut text h = slice_split_none (λ b. b == 47) text (no_slash text h)

-- the first part ends at the first slash
pub cut_first : (text first rest : List ℕ) → text ≡ first ++ 47 ∷ rest
    → ((i : ℕ) → i < length first → get_or first i 0 ≢ 47) → cut_at_slashes text ≡ first ∷ cut_at_slashes rest
cut_first text first rest e h =
    ap cut_at_slashes e ∙ slice_split_at (λ b. b == 47) first 47 rest (no_slash first h) refl

-- the first slash, and what stands around it
pub cut_at : (text : List ℕ) (end : ℕ) → end < length text → ((i : ℕ) → i < end → get_or text i 0 ≢ 47)
    → get_or text end 0 ≡ 47 → cut_at_slashes text ≡ take end text ∷ cut_at_slashes (drop (suc end) text)
cut_at text end lt before slash =
    cut_first text (take end text) (drop (suc end) text)
    (sym (take-append-drop end text) ∙ ap (λ (rest : List ℕ). take end text ++ rest) (drop-cons text end 0 lt
    ∙ ap (λ (b : ℕ). b ∷ drop (suc end) text) slash))
    (λ i l e. let short : i < end = omega (arith, length-take end text) in
    before i short (sym (get_or-take end text i 0 short) ∙ e))

-- ---- no part is longer than the text

abbrev AreWithin : ℕ → List (List ℕ) → Type 0
AreWithin most parts = AllByRecursion (λ (part : List ℕ). length part ≤ most) parts

within_more : (n : ℕ) (parts : List (List ℕ)) → AreWithin n parts → AreWithin (suc n) parts
within_more n [] h = tt
within_more n (part ∷ parts) h = let first = h.0 in (omega arith, within_more n parts h.1)

within_onto : (b n : ℕ) (parts : List (List ℕ)) → AreWithin n parts → AreWithin (suc n) (onto_first b parts)
within_onto b n [] h = (omega arith, tt)
within_onto b n (part ∷ parts) h = let first = h.0 in (omega arith, within_more n parts h.1)

within_cut : (b n : ℕ) (test : Bool) (parts : List (List ℕ)) → AreWithin n parts
    → AreWithin (suc n) (cond test ([] ∷ parts) (onto_first b parts))
within_cut b n true parts h = (omega arith, within_more n parts h)
within_cut b n false parts h = within_onto b n parts h

pub parts_within : (text : List ℕ) → AreWithin (length text) (cut_at_slashes text)
parts_within [] = (omega arith, tt)
parts_within (b ∷ text) = within_cut b (length text) (b == 47) (cut_at_slashes text) (parts_within text)

-- ---- texts put together

onto_first-append : (b : ℕ) (parts more : List (List ℕ)) → 0 < length parts
    → onto_first b (parts ++ more) ≡ onto_first b parts ++ more
onto_first-append b [] more h = absurd (omega arith)
onto_first-append b (part ∷ parts) more h = refl

some_part : (text : List ℕ) → 0 < length (cut_at_slashes text)
some_part text = omega (arith, length-slice_split (λ b. b == 47) text)

cut-step : (b : ℕ) (test : Bool) (parts more whole : List (List ℕ)) → 0 < length parts → whole ≡ parts ++ more
    → cond test ([] ∷ whole) (onto_first b whole) ≡ cond test ([] ∷ parts) (onto_first b parts) ++ more
cut-step b true parts more whole h e = ap (λ (ps : List (List ℕ)). [] ∷ ps) e
cut-step b false parts more whole h e = ap (onto_first b) e ∙ onto_first-append b parts more h

-- the last part begins after the last slash
pub cut_last : (front last : List ℕ) → ((i : ℕ) → i < length last → get_or last i 0 ≢ 47)
    → cut_at_slashes (front ++ 47 ∷ last) ≡ cut_at_slashes front ++ last ∷ []
cut_last [] last h = ap (λ (ps : List (List ℕ)). [] ∷ ps) (uncut last h)
cut_last (b ∷ front) last h =
    cut-step b (b == 47) (cut_at_slashes front) (last ∷ []) (cut_at_slashes (front ++ 47 ∷ last)) (some_part front)
    (cut_last front last h)

-- what `rsplit_once` gives at a slash
pub rsplit_parts : (text front last : List ℕ) → SplitsAroundMatch (RFindsChar 47) text front last
    → cut_at_slashes text ≡ cut_at_slashes front ++ last ∷ []
rsplit_parts text front last h =
    let at_slash : drop h.0 text ≡ 47 ∷ drop h.1 text = drop_at_char 47 text h.0 h.1 h.2.1 (lit< tt) in
    let whole : text ≡ front ++ 47 ∷ last =
    rw (h.3, h.4) (sym (take-append-drop h.0 text) ∙ ap (λ (end : List ℕ). take h.0 text ++ end) at_slash) in
    ap cut_at_slashes whole ∙ cut_last front last (λ i l. NoCharPasses-char 47 last i (rw h.4 h.2.0) (lit< tt) l)

pub rsplit_none : (text : List ℕ) → RFindsChar 47 text None → cut_at_slashes text ≡ text ∷ []
rsplit_none text none = uncut text (λ i l. NoCharPasses-char 47 text i none (lit< tt) l)
