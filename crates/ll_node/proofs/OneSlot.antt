-- A change of an inode's slot alone is a change of each slot, where no inode lies in two.
use Rattle.std.specs.Prelude.{◌≡◌, ◌≢◌, ℕ, zero, suc, List, [], ◌∷◌, map, Some, slice_get, slice_set, slice_index_or}
use Rattle.std.specs.Prelude.{refl}
use Rattle.std.specs.List.{AllByRecursion}
use Rattle.std.proofs.Common.{sym, ap, subst, ◌∙◌}
use Rattle.std.proofs.lemmas.Option.{get_or_from_slice_get}
use Rattle.ll_seq.proofs.Results.{same_some}
use Rattle.ll_node.specs.declared.held.Held.{Held}
use Rattle.ll_node.specs.Lent.{Misses, AreApart}

abbrev pub LiesAt : ℕ → List Held → ℕ → Type 0
LiesAt inode lent place = (held : Held) × (slice_get lent place ≡ Some held) × (held.inode ≡ inode)

missed_at : (inode : ℕ) (lent : List Held) (place : ℕ) (held : Held) → Misses inode lent
    → slice_get lent place ≡ Some held → held.inode ≢ inode
missed_at inode [] place held miss at same = cc
missed_at inode (first ∷ lent) zero held miss at same = miss.0 (ap (λ (h : Held). h.inode) (same_some refl at) ∙ same)
missed_at inode (first ∷ lent) (suc place) held miss at same = missed_at inode lent place held miss.1 at same

at_place : (P : Held → Type 0) (lent : List Held) (place : ℕ) (held : Held) → AllByRecursion P lent
    → slice_get lent place ≡ Some held → P held
at_place P [] place held all at = cc
at_place P (first ∷ lent) zero held all at = subst P (same_some refl at) all.0
at_place P (first ∷ lent) (suc place) held all at = at_place P lent place held all.1 at

-- what holds of the inode's slot
pub of_slot : (P : Held → Type 0) (inode : ℕ) (lent : List Held) (place : ℕ) (d : Held)
    → AllByRecursion (λ held. held.inode ≡ inode → P held) lent → LiesAt inode lent place
    → P (slice_index_or lent place d)
of_slot P inode lent place d all lies =
    subst P (sym (get_or_from_slice_get lent place lies.0 d lies.1))
    (at_place (λ held. held.inode ≡ inode → P held) lent place lies.0 all lies.1 lies.2)

module _ (f : Held → Held) (inode : ℕ) (spares : (held : Held) → held.inode ≢ inode → f held ≡ held) where
  pub no_slot : (lent : List Held) → Misses inode lent → lent ≡ map f lent
  no_slot [] misses = refl
  no_slot (held ∷ lent) misses = λ i. sym (spares held misses.0) i ∷ no_slot lent misses.1 i

  module _ (some : inode ≢ 0) (held : Held) (is : held.inode ≡ inode) where
    rest_misses : (first : Held) (lent : List Held) → AreApart (first ∷ lent) → first.inode ≡ inode → Misses inode lent
    rest_misses first lent apart here = subst (λ i. Misses i lent) here (apart.0 (λ none. some (sym here ∙ none)))

    one_changed : (lent : List Held) (place : ℕ) → AreApart lent → slice_get lent place ≡ Some held
        → slice_set lent place (f held) ≡ map f lent
    one_changed [] place apart at = refl
    one_changed (first ∷ lent) zero apart at =
        let same : first ≡ held = same_some refl at in
        λ i. f (sym same i) ∷ no_slot lent (rest_misses first lent apart (ap (λ (h : Held). h.inode) same ∙ is)) i
    one_changed (first ∷ lent) (suc place) apart at =
        let other : first.inode ≢ inode =
        λ here. missed_at inode lent place held (rest_misses first lent apart here) at is in
        λ i. sym (spares first other) i ∷ one_changed lent place apart.1 at i

  pub one_slot : inode ≢ 0 → (lent : List Held) (place : ℕ) (x d : Held) → AreApart lent → LiesAt inode lent place
      → ((slice_index_or lent place d).inode ≡ inode → x ≡ f (slice_index_or lent place d))
      → slice_set lent place x ≡ map f lent
  one_slot some lent place x d apart lies put =
      let read : slice_index_or lent place d ≡ lies.0 = get_or_from_slice_get lent place lies.0 d lies.1 in
      ap (λ h. slice_set lent place h) (put (ap (λ (h : Held). h.inode) read ∙ lies.2) ∙ ap f read)
      ∙ one_changed some lies.0 lies.2 lent place apart lies.1
