-- The least change lets a call through, and nothing narrower does.
use Rattle.std.specs.Prelude.{◌≡◌, ◌⊎◌, ℕ, ◌+◌, ◌<◌, ◌≤◌, Bool, true, false, not, ◌&&◌, ◌||◌, ◌==◌, List, [], ◌∷◌}
use Rattle.std.specs.Prelude.{◌++◌, Option, Some, None, bit_and, cond, find, nat_lt, slice_get, refl}
use Rattle.std.specs.List.{AllZip, list_any, range_with_len}
use Rattle.std.specs.Option.{option_map_or}
use Rattle.std.proofs.Common.{ap, arith, eqb-true, inl, inr, ltb-false, ltb-true, subst, sym, ◌∙◌}
use Rattle.std.proofs.lemmas.Bool.{agree_below_at}
use Rattle.ll_rights.specs.Access.{holds, known_set}
use Rattle.ll_rights.specs.Right.{refer}
use Rattle.ll_rules.specs.Layer.{Layer, has_rule, restricts}
use Rattle.ll_decide.proofs.Bits.{holds-and, holds-or}
use Rattle.ll_decide.specs.Demands.{gaining, lacking}
use Rattle.ll_decide.specs.Judge.{grants_along}
use Rattle.ll_decide.specs.Verdict.{verdict}
use Rattle.ll_decide.specs.declared.demands.Demands.{Demands}
use Rattle.ll_decide.specs.declared.demands.On.{On}
use Rattle.ll_decide.specs.declared.demands.On.TheVariants.{Itself, Other, Parent, Left, Entered}
use Rattle.ll_decide.specs.declared.denial.Place.{Place}
use Rattle.ll_decide.specs.declared.denial.Place.TheVariants.{At, Old, New}
use Rattle.ll_seq.specs.Asked.{call_denials}
use Rattle.ll_seq.specs.State.{State, kind_of}
use Rattle.ll_seq.specs.declared.call.Call.{Call}
use Rattle.ll_seq.specs.declared.client.ClientRecord.{ClientRecord}
use Rattle.ll_seq.proofs.StepParts.{none_first}
use Rattle.ll_why.specs.Changes.{AreChanges, AreLeast, IsAllowed, IsChange, IsWithin, NoneAllows, all_changed, changed}
use Rattle.ll_why.specs.Changes.{end_of, is_added, rule_on, width, worth}
use Rattle.ll_why.specs.Places.{AreLeastSets, IsBarred, IsLeastOf, chosen_by, denies, fits, granted_with, is_chosen}
use Rattle.ll_why.specs.Places.{is_reached, may_hold, numbers, passes, serves}
use Rattle.ll_why.specs.Reasons.{AreAsked, chain_of, kept_number}
use Rattle.ll_why.specs.Rights.{meant}
use Rattle.ll_why.specs.declared.asks.Asks.{Asks}
use Rattle.ll_why.specs.declared.change.LayerChange.{LayerChange}
use Rattle.ll_why.proofs.AcceptedRules.{holds_taken, holds_within, taken_holds}
use Rattle.ll_why.proofs.FirstChoice.{found_first, found_passes, found_within, none_passes}
use Rattle.ll_why.proofs.Denials.{AreWilling, allows_willing, denies_same, no_denial, willing_allows}
use Rattle.ll_why.proofs.PolicyAnswers.{judged_so}
use Rattle.ll_why.proofs.RuledLayers.{changed_grants}

or_true : (b : Bool) → (b || true) ≡ true
or_true true = refl
or_true false = refl

second_of_four : (p r s : Bool) → (((p || true) || r) || s) ≡ true
second_of_four true r s = refl
second_of_four false r s = refl

third_of_four : (p q s : Bool) → (((p || q) || true) || s) ≡ true
third_of_four true q s = refl
third_of_four false true s = refl
third_of_four false false s = refl

and_one : (a b : Bool) → (a && b) ≡ true → a ≡ true
and_one true b e = refl
and_one false b e = absurd (cc e)

and_two : (a b : Bool) → (a && b) ≡ true → b ≡ true
and_two true b e = e
and_two false b e = absurd (cc e)

one_fits : (h a : Bool) → (a ≡ true → h ≡ true) → (h || not a) ≡ true
one_fits true a only = refl
one_fits false true only = only refl
one_fits false false only = refl

fitted : (h a : Bool) → (h || not a) ≡ true → a ≡ true → h ≡ true
fitted true a e new = refl
fitted false true e new = e
fitted false false e new = absurd (cc new)

is_false : (b : Bool) → not b ≡ true → b ≡ false
is_false true e = absurd cc
is_false false e = refl

-- ---- numbers and places

abbrev number : Bool → Bool → Bool → Bool → ℕ
number a b c d = worth a 1 + worth b 2 + worth c 4 + worth d 8

bits : (a b c d : Bool) → (holds (number a b c d) 0 ≡ a) × (holds (number a b c d) 1 ≡ b)
    × (holds (number a b c d) 2 ≡ c) × (holds (number a b c d) 3 ≡ d)
bits true true true true = (refl, refl, refl, refl)
bits true true true false = (refl, refl, refl, refl)
bits true true false true = (refl, refl, refl, refl)
bits true true false false = (refl, refl, refl, refl)
bits true false true true = (refl, refl, refl, refl)
bits true false true false = (refl, refl, refl, refl)
bits true false false true = (refl, refl, refl, refl)
bits true false false false = (refl, refl, refl, refl)
bits false true true true = (refl, refl, refl, refl)
bits false true true false = (refl, refl, refl, refl)
bits false true false true = (refl, refl, refl, refl)
bits false true false false = (refl, refl, refl, refl)
bits false false true true = (refl, refl, refl, refl)
bits false false true false = (refl, refl, refl, refl)
bits false false false true = (refl, refl, refl, refl)
bits false false false false = (refl, refl, refl, refl)

number_is : (n : ℕ) → n < 16 → number (holds n 0) (holds n 1) (holds n 2) (holds n 3) ≡ n
number_is n low = eqb-true _ _
    (agree_below_at (λ k. number (holds k 0) (holds k 1) (holds k 2) (holds k 3) == k) (λ _. true) 16 n refl low)

module _ (change : LayerChange) (right : ℕ) where
  abbrev added : On → Bool
  added on = holds (rule_on change on).rights.0 right

  its_bits : (holds (width change right) 0 ≡ added Itself) × (holds (width change right) 1 ≡ added Other)
      × (holds (width change right) 2 ≡ added Entered) × (holds (width change right) 3 ≡ added Parent)
  its_bits = bits (added Itself) (added Other) (added Entered) (added Parent)

  chosen_width : (on : On) → chosen_by (width change right) on ≡ added on
  chosen_width Itself = its_bits.0
  chosen_width Other = its_bits.1
  chosen_width Parent = its_bits.3
  chosen_width Left = its_bits.3
  chosen_width Entered = its_bits.2

  pub added_somewhere : (on : On) → added on ≡ true → is_added change right ≡ true
  added_somewhere Itself e = λ i. ((e i || added Other) || added Entered) || added Parent
  added_somewhere Other e = (λ i. ((added Itself || e i) || added Entered) || added Parent)
      ∙ second_of_four (added Itself) (added Entered) (added Parent)
  added_somewhere Parent e = (λ i. ((added Itself || added Other) || added Entered) || e i)
      ∙ or_true ((added Itself || added Other) || added Entered)
  added_somewhere Left e = (λ i. ((added Itself || added Other) || added Entered) || e i)
      ∙ or_true ((added Itself || added Other) || added Entered)
  added_somewhere Entered e = (λ i. ((added Itself || added Other) || e i) || added Parent)
      ∙ third_of_four (added Itself) (added Other) (added Parent)

-- ---- where all is granted

two_off : (x y : Bool) → ((x && false) || (y && false)) ≡ false
two_off true true = refl
two_off true false = refl
two_off false true = refl
two_off false false = refl

one_off : (x : Bool) → (x && false) ≡ false
one_off true = refl
one_off false = refl

gain_off : (x : Bool) → ((x && true) && false) ≡ false
gain_off true = refl
gain_off false = refl

abbrev all_granted : On → ℕ → Bool
all_granted on right = true

nothing_denied : (d : Demands) (right : ℕ) → denies all_granted d right ≡ false
nothing_denied d right = no_denial all_granted d right lack gain
  where
    lack : (place : Place) → lacking all_granted d right place ≡ false
    lack At = two_off (holds d.itself.0 right) (holds d.parent.0 right)
    lack Old = one_off (holds d.left.0 right)
    lack New = two_off (holds d.other.0 right) (holds d.entered.0 right)

    gain : (place : Place) → gaining all_granted d right place ≡ false
    gain At = refl
    gain Old = gain_off (holds d.back.0 right)
    gain New = gain_off (holds d.there.0 right)

all_passes : (asks : Asks) (layer : Layer) (right n : ℕ)
    → ((on : On) → granted_with asks layer (chosen_by n) on right ≡ true) → passes asks layer right n ≡ true
all_passes asks layer right n all =
    ap not (denies_same (granted_with asks layer (chosen_by n)) all_granted asks.demands right all
    ∙ nothing_denied asks.demands right)

-- the right is among the set of a place that is chosen
fits_at : (sets : On → ℕ) (chosen : On → Bool) (right : ℕ) (on : On) → fits sets chosen right ≡ true
    → chosen Left ≡ chosen Parent → sets Left ≡ sets Parent → chosen on ≡ true → holds (sets on) right ≡ true
fits_at sets chosen right Itself all same set new = fitted (holds (sets Itself) right) (chosen Itself)
    (and_one _ _ (and_one _ _ (and_one _ _ all))) new
fits_at sets chosen right Other all same set new = fitted (holds (sets Other) right) (chosen Other)
    (and_two _ _ (and_one _ _ (and_one _ _ all))) new
fits_at sets chosen right Entered all same set new = fitted (holds (sets Entered) right) (chosen Entered)
    (and_two _ _ (and_one _ _ all)) new
fits_at sets chosen right Parent all same set new =
    fitted (holds (sets Parent) right) (chosen Parent) (and_two _ _ all) new
fits_at sets chosen right Left all same set new =
    ap (λ n. holds n right) set
    ∙ fitted (holds (sets Parent) right) (chosen Parent) (and_two _ _ all) (sym same ∙ new)

-- where nothing is chosen, all fits
fits_none : (sets : On → ℕ) (right : ℕ) → fits sets (chosen_by 0) right ≡ true
fits_none sets right = λ i.
    ((or_true (holds (sets Itself) right) i && or_true (holds (sets Other) right) i)
    && or_true (holds (sets Entered) right) i) && or_true (holds (sets Parent) right) i

module _ (level : ℕ) (s : State) (asks : Asks) (layer : Layer) (right : ℕ) where
  abbrev test : ℕ → Bool
  test = serves level s asks layer right

  free_serves : restricts layer right ≡ false → test 0 ≡ true
  free_serves free = λ i. all_passes asks layer right 0 (λ on j.
      (not (free j) || list_any (has_rule layer right) (chain_of asks on)) || is_reached asks (chosen_by 0) on) i
      && fits_none (may_hold level s asks) right i

  first_is : (P : ℕ → Bool) → P 0 ≡ true → (on : On) → is_chosen numbers P on ≡ chosen_by 0 on
  first_is P e on =
      ap (λ b. option_map_or (λ n. chosen_by n on) (cond b (Some 0) (find P (range_with_len 1 15))) false) e

  none_chosen : (on : On) → chosen_by 0 on ≡ false
  none_chosen Itself = refl
  none_chosen Other = refl
  none_chosen Parent = refl
  none_chosen Left = refl
  none_chosen Entered = refl

  -- a right that is added is one that the layer restricts
  pub chosen_restricts : (on : On) → is_chosen numbers test on ≡ true → restricts layer right ≡ true
  chosen_restricts on chosen = of (restricts layer right) refl
    where
      of : (b : Bool) → restricts layer right ≡ b → b ≡ true
      of true e = refl
      of false e = sym (none_chosen on) ∙ sym (first_is test (free_serves e) on) ∙ chosen

  -- and one that a rule may hold there
  pub chosen_fits : (on : On) → is_chosen numbers test on ≡ true → holds (may_hold level s asks on) right ≡ true
  chosen_fits on chosen = of (find test numbers) refl chosen
    where
      of : (o : Option ℕ) → find test numbers ≡ o → option_map_or (λ n. chosen_by n on) o false ≡ true
          → holds (may_hold level s asks on) right ≡ true
      of None e there = absurd (cc there)
      of (Some m) e there = fits_at (may_hold level s asks) (chosen_by m) right on
          (and_two (passes asks layer right m) (fits (may_hold level s asks) (chosen_by m) right)
          (found_passes test numbers m e)) refl refl there

-- ---- one right of one layer

worth_low : (b : Bool) (n : ℕ) → worth b n ≤ n
worth_low true n = omega arith
worth_low false n = omega arith

width_low : (change : LayerChange) (right : ℕ) → width change right < 16
width_low change right =
    let a = worth_low (added change right Itself) 1 in
    let b = worth_low (added change right Other) 2 in
    let c = worth_low (added change right Entered) 4 in
    let d = worth_low (added change right Parent) 8 in
    omega (arith, a, b, c, d)

module _ (level : ℕ) (s : State) (asks : Asks) (layer : Layer) (change : LayerChange)
    (is : IsChange level s asks layer change) (right : ℕ) (known : right < 15) where
  -- the layer as changed denies the right where it isn't added so that it passes
  passes_so : passes asks layer right (width change right)
      ≡ not (denies (grants_along (chain_of asks) (changed layer change)) asks.demands right)
  passes_so =
      (λ i. not (denies (granted_with asks layer (λ from. chosen_width change right from i)) asks.demands right))
      ∙ sym (ap not (denies_same (grants_along (chain_of asks) (changed layer change))
      (granted_with asks layer (added change right)) asks.demands right
      (changed_grants level s asks layer change is right known)))

  held : (on : On) → added change right on ≡ true → holds (may_hold level s asks on) right ≡ true
  held on new = ap (λ n. holds (bit_and (known_set level) (meant (kind_of s n))) right) (sym (is.ends on))
      ∙ taken_holds level (changed layer change) (kind_of s (rule_on change on).inode) (rule_on change on).rights.0
      right known (is.taken on) new

  fits_so : fits (may_hold level s asks) (chosen_by (width change right)) right ≡ true
  fits_so = (λ i. fits (may_hold level s asks) (λ from. chosen_width change right from i) right)
      ∙ (λ i. ((one_fits (holds (may_hold level s asks Itself) right) (added change right Itself) (held Itself) i
      && one_fits (holds (may_hold level s asks Other) right) (added change right Other) (held Other) i)
      && one_fits (holds (may_hold level s asks Entered) right) (added change right Entered) (held Entered) i)
      && one_fits (holds (may_hold level s asks Parent) right) (added change right Parent) (held Parent) i)

  serves_willing : denies (grants_along (chain_of asks) (changed layer change)) asks.demands right ≡ false
      → serves level s asks layer right (width change right) ≡ true
  serves_willing free = λ i. (passes_so ∙ ap not free) i && fits_so i

  -- none lets the right through where it is barred
  pub barred_denies : find (serves level s asks layer right) numbers ≡ None
      → denies (grants_along (chain_of asks) (changed layer change)) asks.demands right ≡ false → ⊥
  barred_denies none free = absurd (cc (sym (serves_willing free)
      ∙ none_passes (serves level s asks layer right) 0 16 none (width change right) (omega arith)
      (width_low change right)))

found_some : (o : Option ℕ) → (o ≡ None → ⊥) → (m : ℕ) × (o ≡ Some m)
found_some None not_none = absurd (not_none refl)
found_some (Some m) not_none = (m, refl)

module _ (level : ℕ) (s : State) (asks : Asks) (layer : Layer) (change : LayerChange)
    (least : IsLeastOf level s asks layer change) (right : ℕ) (known : right < 15) where
  found : (m : ℕ) × (find (test level s asks layer right) numbers ≡ Some m)
  found = found_some (find (test level s asks layer right) numbers) (least.least.found right known)

  added_is : (on : On) → added change right on ≡ chosen_by found.0 on
  added_is on = least.least.chosen on right known ∙ ap (λ o. option_map_or (λ n. chosen_by n on) o false) found.1

  width_is : width change right ≡ found.0
  width_is =
      (λ i. number (added_is Itself i) (added_is Other i) (added_is Entered i) (added_is Parent i))
      ∙ number_is found.0 (found_within (test level s asks layer right) 0 16 found.0 found.1)

  pub least_willing : denies (grants_along (chain_of asks) (changed layer change)) asks.demands right ≡ false
  least_willing = is_false _ (sym (passes_so level s asks layer change least.is right known)
      ∙ ap (passes asks layer right) width_is
      ∙ and_one (passes asks layer right found.0) (fits (may_hold level s asks) (chosen_by found.0) right)
      (found_passes (test level s asks layer right) numbers found.0 found.1))

  pub least_width : (other : LayerChange) → IsChange level s asks layer other
      → denies (grants_along (chain_of asks) (changed layer other)) asks.demands right ≡ false
      → width change right ≤ width other right
  least_width other is free = of (nat_lt (width other right) found.0) refl
    where
      of : (b : Bool) → nat_lt (width other right) found.0 ≡ b → width change right ≤ width other right
      of true less = absurd (cc (sym (serves_willing level s asks layer other is right known free)
          ∙ found_first (test level s asks layer right) 0 16 found.0 found.1 (width other right) (omega arith)
          (ltb-true _ _ less)))
      of false more = let least' : found.0 ≤ width other right = ltb-false _ _ more in
          subst (λ n. n ≤ width other right) (sym width_is) least'

-- ---- one layer's change within another

up : (A a : Bool) (n : ℕ) → (A ≡ true → a ≡ true) → worth A n ≤ worth a n
up true true n only = omega arith
up true false n only = absurd (cc (only refl))
up false a n only = omega arith

down : (a A : Bool) (n : ℕ) → 0 < n → worth a n ≤ worth A n → a ≡ true → A ≡ true
down true true n some le e = refl
down true false n some le e = absurd (omega arith)
down false A n some le e = absurd (cc e)

tight : (p q r s P Q R S : ℕ) → P ≤ p → Q ≤ q → R ≤ r → S ≤ s → p + q + r + s ≤ P + Q + R + S
    → (p ≤ P) × (q ≤ Q) × (r ≤ R) × (s ≤ S)
tight p q r s P Q R S i j k l h = (omega arith, omega arith, omega arith, omega arith)

-- what adds no more, and no less widely, adds the same
same_rights : (one other : LayerChange) → IsWithin other one
    → ((right : ℕ) → right < 15 → width one right ≤ width other right) → IsWithin one other
same_rights one other within widths on right known = by on
  where
    parts : (worth (added one right Itself) 1 ≤ worth (added other right Itself) 1)
        × (worth (added one right Other) 2 ≤ worth (added other right Other) 2)
        × (worth (added one right Entered) 4 ≤ worth (added other right Entered) 4)
        × (worth (added one right Parent) 8 ≤ worth (added other right Parent) 8)
    parts = tight _ _ _ _ _ _ _ _
        (up (added other right Itself) (added one right Itself) 1 (within Itself right known))
        (up (added other right Other) (added one right Other) 2 (within Other right known))
        (up (added other right Entered) (added one right Entered) 4 (within Entered right known))
        (up (added other right Parent) (added one right Parent) 8 (within Parent right known))
        (widths right known)

    by : (on : On) → added one right on ≡ true → added other right on ≡ true
    by Itself = down (added one right Itself) (added other right Itself) 1 (omega arith) parts.0
    by Other = down (added one right Other) (added other right Other) 2 (omega arith) parts.1
    by Parent = down (added one right Parent) (added other right Parent) 8 (omega arith) parts.3
    by Left = down (added one right Parent) (added other right Parent) 8 (omega arith) parts.3
    by Entered = down (added one right Entered) (added other right Entered) 4 (omega arith) parts.2

-- ---- all layers

abbrev AreWiden : List LayerChange → List LayerChange → Type 0
AreWiden changes others =
    AllZip (λ one other. (right : ℕ) → right < 15 → width one right ≤ width other right) changes others

module _ (level : ℕ) (s : State) (asks : Asks) where
  abbrev AreLeastOf : List Layer → List LayerChange → Type 0
  AreLeastOf domain changes = AllZip (λ change layer. IsLeastOf level s asks layer change) changes domain

  are_changes : (domain : List Layer) (changes : List LayerChange) → AreLeastOf domain changes
      → AreChanges level s asks domain changes
  are_changes [] [] least = tt
  are_changes (layer ∷ layers) [] least = absurd least
  are_changes [] (change ∷ changes) least = absurd least
  are_changes (layer ∷ layers) (change ∷ changes) least = (least.0.is, are_changes layers changes least.1)

  are_willing : (domain : List Layer) (changes : List LayerChange)
      → AreLeastOf domain changes → AreWilling (chain_of asks) asks.demands (all_changed domain changes)
  are_willing [] changes least = tt
  are_willing (layer ∷ layers) [] least = absurd least
  are_willing (layer ∷ layers) (change ∷ changes) least =
      (least_willing level s asks layer change least.0, are_willing layers changes least.1)

  are_narrowest : (domain : List Layer) (changes others : List LayerChange) → AreLeastOf domain changes
      → AreChanges level s asks domain others
      → AreWilling (chain_of asks) asks.demands (all_changed domain others) → AreWiden changes others
  are_narrowest [] [] [] least are willing = tt
  are_narrowest [] [] (other ∷ others) least are willing = absurd are
  are_narrowest [] (change ∷ changes) others least are willing = absurd least
  are_narrowest (layer ∷ layers) [] others least are willing = absurd least
  are_narrowest (layer ∷ layers) (change ∷ changes) [] least are willing = absurd are
  are_narrowest (layer ∷ layers) (change ∷ changes) (other ∷ others) least are willing = (
    λ right known. least_width level s asks layer change least.0 right known other are.0 (willing.0 right known),
    are_narrowest layers changes others least.1 are.1 willing.1,
  )

  -- some layer among these is barred
  abbrev pub HasBarred : List Layer → Type 0
  HasBarred [] = ⊥
  HasBarred (layer ∷ layers) = IsBarred level s asks layer ⊎ HasBarred layers

  pub has_barred : (before : List Layer) (layer : Layer) (after : List Layer) → IsBarred level s asks layer
      → HasBarred (before ++ layer ∷ after)
  has_barred [] layer after barred = inl barred
  has_barred (first ∷ before) layer after barred = inr (has_barred before layer after barred)

  none_willing : (domain : List Layer) (others : List LayerChange) → HasBarred domain
      → AreChanges level s asks domain others
      → AreWilling (chain_of asks) asks.demands (all_changed domain others) → ⊥
  none_willing [] others barred are willing = absurd barred
  none_willing (layer ∷ layers) [] barred are willing = absurd are
  none_willing (layer ∷ layers) (other ∷ others) barred are willing = elim barred [
    | inl here ↦ barred_denies level s asks layer other are.0 here.0 here.1.0 here.1.1 (willing.0 here.0 here.1.0)
    | inr later ↦ none_willing layers others later are.1 willing.1
  ]

are_same : (changes others : List LayerChange) → AllZip IsWithin others changes → AreWiden changes others
    → AllZip IsWithin changes others
are_same [] [] within widths = tt
are_same [] (other ∷ others) within widths = absurd within
are_same (change ∷ changes) [] within widths = absurd within
are_same (change ∷ changes) (other ∷ others) within widths =
    (same_rights change other within.0 widths.0, are_same changes others within.1 widths.1)

-- ---- the call

module _ (level : ℕ) (s : State) (c : ClientRecord) (call : Call) (asks : Asks) (ours : kept_number call ≡ None)
    (asked : AreAsked s call asks) where
  judged : (domain : List Layer) → slice_get (call_denials s (record c { domain = domain }) call) 0
      ≡ verdict (grants_along (chain_of asks)) domain asked.demands.asks asked.demands.moves
  judged domain = judged_so s (record c { domain = domain }) call asks.demands ours asked.demands
      ∙ (λ i. verdict (grants_along (λ on. sym (asked.chains on) i)) domain asked.demands.asks asked.demands.moves)

  allowed_if : (domain : List Layer) → AreWilling (chain_of asks) asks.demands domain
      → call_denials s (record c { domain = domain }) call ≡ []
  allowed_if domain willing = none_first _ (judged domain
      ∙ willing_allows (chain_of asks) asks.demands asked.demands.asks asked.demands.moves asked.demands.are_asks
      asked.demands.are_moves domain willing)

  willing_if : (domain : List Layer) → call_denials s (record c { domain = domain }) call ≡ []
      → AreWilling (chain_of asks) asks.demands domain
  willing_if domain allowed = allows_willing (chain_of asks) asks.demands asked.demands.asks asked.demands.moves
      asked.demands.are_asks asked.demands.are_moves domain
      (sym (judged domain) ∙ ap (λ (l : List _). slice_get l 0) allowed)

  pub are_least : (changes : List LayerChange) → AreLeastOf level s asks c.domain changes
      → AreLeast level s c call asks changes
  are_least changes least =
      let narrowest : (others : List LayerChange) → AreChanges level s asks c.domain others
      → IsAllowed s c call others → AreWiden changes others =
      λ others are allowed. are_narrowest level s asks c.domain changes others least are
      (willing_if (all_changed c.domain others) allowed) in
      record {
        are = are_changes level s asks c.domain changes least;
        allowed = allowed_if (all_changed c.domain changes) (are_willing level s asks c.domain changes least);
        narrowest = narrowest;
        needed = λ others are allowed within. are_same changes others within (narrowest others are allowed);
      }

  pub none_allows : HasBarred level s asks c.domain → NoneAllows level s c call asks
  none_allows barred others are allowed =
      none_willing level s asks c.domain others barred are (willing_if (all_changed c.domain others) allowed)

-- ---- rights that rules may hold

legal_bit : (h q a x : Bool) → (h || q) ≡ true → a ≡ true → x ≡ ((q && a) && not h) → (h || x) ≡ true
legal_bit true q a x e f g = refl
legal_bit false false a x e f g = absurd (cc e)
legal_bit false true true x e f g = g
legal_bit false true false x e f g = absurd (cc f)

added_at : (a b c d : Bool) → (((a || b) || c) || d) ≡ true
    → (a ≡ true) ⊎ (b ≡ true) ⊎ (c ≡ true) ⊎ (d ≡ true)
added_at true b c d e = inl refl
added_at false true c d e = inr (inl refl)
added_at false false true d e = inr (inr (inl refl))
added_at false false false d e = inr (inr (inr e))

refer_added : (q a h : Bool) → ((q && a) && not h) ≡ true → (q ≡ true) × (a ≡ true)
refer_added true true h e = (refl, refl)
refer_added true false h e = absurd (cc e)
refer_added false a h e = absurd (cc e)

pub is_change : (level : ℕ) (s : State) (asks : Asks) (layer : Layer) (change : LayerChange)
    → ((on : On) → (rule_on change on).inode ≡ end_of (chain_of asks on))
    → AreLeastSets level s asks layer (λ on. (rule_on change on).rights.0)
    → change.handled.0 ≤ 0x2000
    → ((right : ℕ) → right < 15 → holds change.handled.0 right
    ≡ (((right == refer) && is_added change right) && not (holds layer.handled right)))
    → IsChange level s asks layer change
is_change level s asks layer change ends least few handled =
    let chosen : (on : On) (right : ℕ) → right < 15 → added change right on ≡ true
    → is_chosen numbers (serves level s asks layer right) on ≡ true =
    λ on right known new. sym (least.chosen on right known) ∙ new in
    let fit : (on : On) (right : ℕ) → right < 15 → added change right on ≡ true
    → holds (may_hold level s asks on) right ≡ true =
    λ on right known new. chosen_fits level s asks layer right on (chosen on right known new) in
    let at : (on : On) (right : ℕ) → right < 15 → added change right on ≡ true → holds (known_set level) right ≡ true =
    λ on right known new. let kind = kind_of s (end_of (chain_of asks on)) in
    and_one (holds (known_set level) right) (holds (meant kind) right)
    (sym (holds-and (known_set level) (meant kind) right) ∙ fit on right known new) in
    record {
      ends = ends;
      handled = handled;
      known = holds_within change.handled.0 (known_set level) (omega (arith, few)) (λ right known new.
          let parts = refer_added (right == refer) (is_added change right) (holds layer.handled right)
          (sym (handled right known) ∙ new) in
          elim (added_at (added change right Itself) (added change right Other) (added change right Entered)
          (added change right Parent) parts.1) [
            | inl here ↦ at Itself right known here
            | inr others ↦ elim others [
              | inl here ↦ at Other right known here
              | inr others ↦ elim others [
                | inl here ↦ at Entered right known here
                | inr here ↦ at Parent right known here
              ]
            ]
          ]);
      taken = λ on. holds_taken level (changed layer change) (kind_of s (rule_on change on).inode)
          (rule_on change on).rights.0 (least.known on)
          (λ right known new. ap (λ n. holds (bit_and (known_set level) (meant (kind_of s n))) right) (ends on)
          ∙ fit on right known new)
          (λ right known new. holds-or layer.handled change.handled.0 right
          ∙ legal_bit (holds layer.handled right) (right == refer) (is_added change right)
          (holds change.handled.0 right)
          (chosen_restricts level s asks layer right on (chosen on right known new))
          (added_somewhere change right on new) (handled right known));
    }
