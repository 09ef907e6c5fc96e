-- What a domain denies, layer by layer and right by right.
use Rattle.std.specs.Prelude.{◌≡◌, ℕ, zero, suc, ◌+◌, ◌<◌, ◌≤◌, ◌≢◌, Bool, true, false, not, ◌||◌, ◌==◌, List, [], ◌∷◌}
use Rattle.std.specs.Prelude.{◌++◌, None, cond, slice_get, filter, refl}
use Rattle.std.specs.List.{AllByRecursion, enumerate_from, flat_map, range_with_len}
use Rattle.std.proofs.Common.{ap, arith, eq-eqb, eqb-true, subst, sym, ◌∙◌}
use Rattle.ll_rights.specs.Right.{refer, all_rights}
use Rattle.ll_rules.specs.Layer.{Layer}
use Rattle.ll_decide.specs.declared.demands.Demands.{Demands}
use Rattle.ll_decide.specs.declared.demands.On.{On}
use Rattle.ll_decide.specs.declared.denial.Cause.{Cause}
use Rattle.ll_decide.specs.declared.denial.Cause.TheVariants.{EACCES, EXDEV}
use Rattle.ll_decide.specs.declared.denial.Denial.{Denial}
use Rattle.ll_decide.specs.declared.denial.Place.{Place}
use Rattle.ll_decide.specs.declared.denial.Place.TheVariants.{At, Old, New}
use Rattle.ll_decide.specs.Demands.{AreAsks, AreMoves, gaining, lacking}
use Rattle.ll_decide.specs.Judge.{grants_along}
use Rattle.ll_decide.specs.Search.{of_layer, of_right}
use Rattle.ll_decide.specs.Verdict.{Ask, Move, denials, gains, lacks, places, rights_without_refer, verdict, when}
use Rattle.ll_decide.proofs.Sets.{below_all, below_others, below_refer}
use Rattle.ll_seq.proofs.StepParts.{none_first}
use Rattle.ll_seq.proofs.Walked.{one_free, other_free}
use Rattle.ll_why.specs.Places.{denies}

each : {A : Type 0} (P Q : A → Type 0) (xs : List A) → ((x : A) → P x → Q x) → AllByRecursion P xs
    → AllByRecursion Q xs
each P Q [] follows all = tt
each P Q (x ∷ xs) follows all = (follows x all.0, each P Q xs follows all.1)

-- what holds of those that pass, and of those that don't, holds of all
in_filter : (p : ℕ → Bool) (P : ℕ → Type 0) (xs : List ℕ) → AllByRecursion P (filter p xs)
    → ((x : ℕ) → p x ≡ false → P x) → AllByRecursion P xs
in_filter p P [] all other = tt
in_filter p P (x ∷ xs) all other = of (p x) refl all (λ later. in_filter p P xs later other)
  where
    of : (b : Bool) → p x ≡ b → AllByRecursion P (cond b (x ∷ filter p xs) (filter p xs))
        → (AllByRecursion P (filter p xs) → AllByRecursion P xs) → AllByRecursion P (x ∷ xs)
    of true e all' rest = (all'.0, rest all'.1)
    of false e all' rest = (other x e, rest all')

at_range : (P : ℕ → Type 0) (a n : ℕ) → AllByRecursion P (range_with_len a n) → (x : ℕ) → a ≤ x
    → x < a + n → P x
at_range P a zero all x low high = absurd (omega arith)
at_range P a (suc n) all x low high =
    at (a == x) refl (λ above. at_range P (a + 1) n all.1 x above (omega arith))
  where
    at : (b : Bool) → (a == x) ≡ b → (a + 1 ≤ x → P x) → P x
    at true e rest = subst P (eqb-true a x e) all.0
    at false e rest = let differ : a ≢ x = λ same. absurd (cc (sym (eq-eqb a x same) ∙ e)) in rest (omega arith)

is_so : (b : Bool) → not b ≡ false → b ≡ true
is_so true e = refl
is_so false e = absurd cc

three_free : {D : Type 0} (a b c : Bool) (x y z : D)
    → when a (x ∷ []) ++ (when b (y ∷ []) ++ (when c (z ∷ []) ++ [])) ≡ []
    → (a ≡ false) × (b ≡ false) × (c ≡ false)
three_free false false false x y z e = (refl, refl, refl)
three_free true b c x y z e = absurd cc
three_free false true c x y z e = absurd cc
three_free false false true x y z e = absurd cc

-- no layer denies one of the rights in some place
abbrev AreFree : {A : Type 0} → List A → List ℕ → (A → ℕ → Place → Bool) → Type 0
AreFree layers rights test =
    AllByRecursion (λ layer. AllByRecursion (λ right. (place : Place) → test layer right place ≡ false) rights) layers

module _ (cause : Cause) where
  abbrev one_at : ℕ → ℕ → Place → Denial
  one_at layer right place = record { cause = cause; layer = layer; right = right; place = place }

  free_right : (layer : ℕ) (test : ℕ → Place → Bool) (right : ℕ) → of_right cause layer test right ≡ []
      → (place : Place) → test right place ≡ false
  free_right layer test right e At = (three_free (test right At) (test right Old) (test right New)
      (one_at layer right At) (one_at layer right Old) (one_at layer right New) e).0
  free_right layer test right e Old = (three_free (test right At) (test right Old) (test right New)
      (one_at layer right At) (one_at layer right Old) (one_at layer right New) e).1
  free_right layer test right e New = (three_free (test right At) (test right Old) (test right New)
      (one_at layer right At) (one_at layer right Old) (one_at layer right New) e).2

  free_layer : (layer : ℕ) (test : ℕ → Place → Bool) (rights : List ℕ) → of_layer cause layer test rights ≡ []
      → AllByRecursion (λ right. (place : Place) → test right place ≡ false) rights
  free_layer layer test [] e = tt
  free_layer layer test (right ∷ rights) e = (
    free_right layer test right (one_free (of_right cause layer test right) (of_layer cause layer test rights) e),
    free_layer layer test rights (other_free (of_right cause layer test right) (of_layer cause layer test rights) e),
  )

  abbrev from : {A : Type 0} → ℕ → List A → List ℕ → (A → ℕ → Place → Bool) → List Denial
  from {A} k layers rights test =
      flat_map (λ (l : ℕ × A). of_layer cause l.0 (test l.1) rights) (enumerate_from k layers)

  free_layers : {A : Type 0} (layers : List A) (k : ℕ) (rights : List ℕ) (test : A → ℕ → Place → Bool)
      → from k layers rights test ≡ [] → AreFree layers rights test
  free_layers [] k rights test e = tt
  free_layers (layer ∷ layers) k rights test e = (
    free_layer k (test layer) rights
        (one_free (of_layer cause k (test layer) rights) (from (k + 1) layers rights test) e),
    free_layers layers (k + 1) rights test
        (other_free (of_layer cause k (test layer) rights) (from (k + 1) layers rights test) e),
  )

  none_right : (layer : ℕ) (test : ℕ → Place → Bool) (right : ℕ) → ((place : Place) → test right place ≡ false)
      → of_right cause layer test right ≡ []
  none_right layer test right free =
      λ i. flat_map (λ place. when (free place i) (one_at layer right place ∷ [])) places

  none_layer : (layer : ℕ) (test : ℕ → Place → Bool) (rights : List ℕ)
      → AllByRecursion (λ right. (place : Place) → test right place ≡ false) rights
      → of_layer cause layer test rights ≡ []
  none_layer layer test [] free = refl
  none_layer layer test (right ∷ rights) free =
      ap (λ ds. ds ++ of_layer cause layer test rights) (none_right layer test right free.0)
      ∙ none_layer layer test rights free.1

  none_layers : {A : Type 0} (layers : List A) (k : ℕ) (rights : List ℕ) (test : A → ℕ → Place → Bool)
      → AreFree layers rights test → from k layers rights test ≡ []
  none_layers [] k rights test free = refl
  none_layers (layer ∷ layers) k rights test free =
      ap (λ ds. ds ++ from (k + 1) layers rights test) (none_layer k (test layer) rights free.0)
      ∙ none_layers layers (k + 1) rights test free.1

-- ---- one layer and one right

five : (a b c d e : Bool) → (a || b || c || d || e) ≡ false
    → (a ≡ false) × (b ≡ false) × (c ≡ false) × (d ≡ false) × (e ≡ false)
five false false false false false h = (refl, refl, refl, refl, refl)
five true b c d e h = absurd cc
five false true c d e h = absurd cc
five false false true d e h = absurd cc
five false false false true e h = absurd cc
five false false false false true h = absurd cc

module _ (g : On → ℕ → Bool) (d : Demands) (right : ℕ) where
  parts : denies g d right ≡ false → (lacking g d right At ≡ false) × (lacking g d right Old ≡ false)
      × (lacking g d right New ≡ false) × (gaining g d right Old ≡ false) × (gaining g d right New ≡ false)
  parts free = five (lacking g d right At) (lacking g d right Old) (lacking g d right New) (gaining g d right Old)
      (gaining g d right New) free

  pub no_lack : denies g d right ≡ false → (place : Place) → lacking g d right place ≡ false
  no_lack free At = (parts free).0
  no_lack free Old = (parts free).1
  no_lack free New = (parts free).2

  pub no_gain : denies g d right ≡ false → (place : Place) → gaining g d right place ≡ false
  no_gain free At = refl
  no_gain free Old = (parts free).3
  no_gain free New = (parts free).4

  pub no_denial : ((place : Place) → lacking g d right place ≡ false)
      → ((place : Place) → gaining g d right place ≡ false) → denies g d right ≡ false
  no_denial lack gain = λ i. lack At i || lack Old i || lack New i || gain Old i || gain New i

-- what is granted of other rights doesn't matter
pub denies_same : (g h : On → ℕ → Bool) (d : Demands) (right : ℕ) → ((on : On) → g on right ≡ h on right)
    → denies g d right ≡ denies h d right
denies_same g h d right same = λ i. denies (λ on r. same on i) d right

-- ---- the verdict

-- no layer denies anything
abbrev pub AreWilling : (On → List ℕ) → Demands → List Layer → Type 0
AreWilling chain d domain =
    AllByRecursion (λ layer. (right : ℕ) → right < 15 → denies (grants_along chain layer) d right ≡ false) domain

module _ (chain : On → List ℕ) (d : Demands) (asks : List (Ask On)) (moves : List (Move On)) (are : AreAsks d asks)
    (move : AreMoves d moves) where
  abbrev lack : Layer → ℕ → Place → Bool
  lack layer = lacks (grants_along chain) asks layer

  abbrev gain : Layer → ℕ → Place → Bool
  gain layer = gains (grants_along chain) moves layer

  willing_lacks : (domain : List Layer) (rights : List ℕ) → AllByRecursion (λ right. right < 15) rights
      → AreWilling chain d domain → AreFree domain rights lack
  willing_lacks domain rights known willing =
      each _ _ domain (λ layer free. each _ _ rights (λ right below place.
      are (grants_along chain layer) right place below
      ∙ no_lack (grants_along chain layer) d right (free right below) place) known) willing

  willing_gains : (domain : List Layer) (rights : List ℕ) → AllByRecursion (λ right. right < 15) rights
      → AreWilling chain d domain → AreFree domain rights gain
  willing_gains domain rights known willing =
      each _ _ domain (λ layer free. each _ _ rights (λ right below place.
      move (grants_along chain layer) right place below
      ∙ no_gain (grants_along chain layer) d right (free right below) place) known) willing

  pub willing_allows : (domain : List Layer) → AreWilling chain d domain
      → verdict (grants_along chain) domain asks moves ≡ None
  willing_allows domain willing =
      let missing : denials EACCES domain rights_without_refer places lack ≡ [] =
      none_layers EACCES domain 1 rights_without_refer lack
      (willing_lacks domain rights_without_refer below_others willing) in
      let refers : denials EXDEV domain (refer ∷ []) places lack ≡ [] =
      none_layers EXDEV domain 1 (refer ∷ []) lack (willing_lacks domain (refer ∷ []) below_refer willing) in
      let gained : denials EXDEV domain all_rights places gain ≡ [] =
      none_layers EXDEV domain 1 all_rights gain (willing_gains domain all_rights below_all willing) in
      λ i. slice_get (missing i ++ refers i ++ gained i) 0

  join : (domain : List Layer) → AreFree domain rights_without_refer lack → AreFree domain (refer ∷ []) lack
      → AreFree domain all_rights gain → AreWilling chain d domain
  join [] missing refers gained = tt
  join (layer ∷ layers) missing refers gained = (
    λ right known.
        let all = in_filter (λ r. not (r == refer)) (λ r. (place : Place) → lack layer r place ≡ false) all_rights
        missing.0 (λ r e. let same : refer ≡ r = sym (eqb-true r refer (is_so (r == refer) e)) in
        subst (λ n. (place : Place) → lack layer n place ≡ false) same refers.0.0) in
        no_denial (grants_along chain layer) d right
        (λ place. sym (are (grants_along chain layer) right place known)
        ∙ at_range (λ r. (place : Place) → lack layer r place ≡ false) 0 15 all right (omega arith) (omega arith) place)
        (λ place. sym (move (grants_along chain layer) right place known)
        ∙ at_range (λ r. (place : Place) → gain layer r place ≡ false) 0 15 gained.0 right (omega arith) (omega arith)
        place),
    join layers missing.1 refers.1 gained.1,
  )

  pub allows_willing : (domain : List Layer) → verdict (grants_along chain) domain asks moves ≡ None
      → AreWilling chain d domain
  allows_willing domain allowed =
      let missing = denials EACCES domain rights_without_refer places lack in
      let refers = denials EXDEV domain (refer ∷ []) places lack in
      let gained = denials EXDEV domain all_rights places gain in
      let none : (missing ++ refers) ++ gained ≡ [] = none_first ((missing ++ refers) ++ gained) allowed in
      let both = one_free (missing ++ refers) gained none in
      join domain (free_layers EACCES domain 1 rights_without_refer lack (one_free missing refers both))
      (free_layers EXDEV domain 1 (refer ∷ []) lack (other_free missing refers both))
      (free_layers EXDEV domain 1 all_rights gain (other_free (missing ++ refers) gained none))
