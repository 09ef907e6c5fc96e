-- What lies in slots after some were put into others.
use Rattle.std.specs.Prelude.{◌≡◌, ◌≢◌, ℕ, ◌<◌, List, [], ◌∷◌, map, length, slice_set, slice_index_or, refl}
use Rattle.std.specs.List.{AllByRecursion}
use Rattle.std.proofs.Common.{sym, ap, subst, ◌∙◌}
use Rattle.std.proofs.lemmas.List.{get_or-set_same, get_or-set_other, get_or_default}
use Rattle.ll_node.specs.declared.held.Held.{Held}
use Rattle.ll_node.specs.Lent.{vacant}
use Rattle.ll_node.specs.InodeTable.{NotIn, AreDistinct}
use Rattle.ll_steps.specs.Contents.{held_at}

pub elsewhere : (slots : List Held) (k j : ℕ) (held : Held) → j ≢ k
    → held_at (slice_set slots k held) j ≡ held_at slots j
elsewhere slots k j held ne = get_or-set_other slots k j held vacant ne

all_elsewhere : (slots : List Held) (k : ℕ) (ks : List ℕ) (held : Held) → NotIn k ks
    → map (held_at (slice_set slots k held)) ks ≡ map (held_at slots) ks
all_elsewhere slots k [] held out = refl
all_elsewhere slots k (j ∷ ks) held out =
    λ i. elsewhere slots k j held (λ e. out.0 (sym e)) i ∷ all_elsewhere slots k ks held out.1 i

-- ---- one slot, and then the others

pub taken : (slots : List Held) (k : ℕ) (ks numbers : List ℕ) (put was first : Held) (rest : List Held)
    → numbers ≡ k ∷ ks → AreDistinct numbers
    → AllByRecursion (λ number. number < length slots) numbers → first ≡ slice_index_or slots k was
    → rest ≡ map (held_at (slice_set slots k put)) ks
    → (first ∷ rest) ≡ map (held_at slots) numbers
taken slots k ks numbers put was first rest e distinct there f r =
    let d = subst AreDistinct e distinct in
    let at : first ≡ held_at slots k =
    f ∙ get_or_default slots k was vacant (subst (AllByRecursion (λ number. number < length slots)) e there).0 in
    (λ i. at i ∷ (r ∙ all_elsewhere slots k ks put d.0) i) ∙ ap (map (held_at slots)) (sym e)

pub put_there : (slots new : List Held) (k : ℕ) (ks numbers : List ℕ) (put first : Held) (rest lent : List Held)
    → numbers ≡ k ∷ ks → lent ≡ first ∷ rest → AreDistinct numbers
    → AllByRecursion (λ number. number < length slots) numbers → put ≡ first → map (held_at new) ks ≡ rest
    → ((j : ℕ) → NotIn j ks → held_at new j ≡ held_at (slice_set slots k put) j) → map (held_at new) numbers ≡ lent
put_there slots new k ks numbers put first rest lent e f distinct there same r others =
    let d = subst AreDistinct e distinct in
    let b = subst (AllByRecursion (λ number. number < length slots)) e there in
    ap (map (held_at new)) e ∙ (λ i. (others k d.0 ∙ get_or-set_same slots k put vacant b.0 ∙ same) i ∷ r i) ∙ sym f

pub left_as_is : (slots new : List Held) (k : ℕ) (ks numbers : List ℕ) (put : Held) → numbers ≡ k ∷ ks
    → ((j : ℕ) → NotIn j ks → held_at new j ≡ held_at (slice_set slots k put) j) → (j : ℕ) → NotIn j numbers
    → held_at new j ≡ held_at slots j
left_as_is slots new k ks numbers put e others j out =
    let o = subst (NotIn j) e out in
    others j o.1 ∙ elsewhere slots k j put o.0
