-- The verdict by sets, by masks and along chains.
use Rattle.std.specs.Prelude.{◌≡◌, ℕ, zero, suc, ◌+◌, ◌-◌, ◌^◌, ◌<◌, Bool, false, not, ◌&&◌, ◌||◌, ◌==◌, List, [], ◌∷◌}
use Rattle.std.specs.Prelude.{◌++◌, length, None, slice_get, slice_index, bit_and, bit_or, refl}
use Rattle.std.specs.List.{AllByRecursion, flat_map, enumerate_from, range_with_len, list_any}
use Rattle.std.proofs.Common.{ap, sym, ◌∙◌, get_or, lit<, arith}
use Rattle.ll_rights.specs.Right.{refer, all_rights}
use Rattle.ll_rights.specs.Access.{holds}
use Rattle.ll_rules.specs.Layer.{Layer, grants_on}
use Rattle.ll_decide.specs.declared.demands.Demands.{Demands}
use Rattle.ll_decide.specs.declared.demands.On.{On}
use Rattle.ll_decide.specs.declared.demands.On.TheVariants.{Itself, Other, Parent, Left, Entered}
use Rattle.ll_decide.specs.declared.denial.Cause.{Cause}
use Rattle.ll_decide.specs.declared.denial.Cause.TheVariants.{EACCES, EXDEV}
use Rattle.ll_decide.specs.declared.denial.Place.{Place}
use Rattle.ll_decide.specs.declared.denial.Place.TheVariants.{At, Old, New}
use Rattle.ll_decide.specs.declared.judge.Denied.{Denied}
use Rattle.ll_decide.specs.declared.judge.Granted.{Granted}
use Rattle.ll_decide.specs.declared.judge.Reason.TheVariants.{Lacks, Gains}
use Rattle.ll_decide.specs.Demands.{AreAsks, AreMoves, lacking, gaining}
use Rattle.ll_decide.specs.Judge.{AreGranted, grants_by, grants_along}
use Rattle.ll_decide.specs.Masks.{IsMask, AreMasks}
use Rattle.ll_decide.specs.Search.{is_in, fails, of_right, of_layer, layers_of, by_masks}
use Rattle.ll_decide.specs.Verdict.{Ask, Move, when, is_at, places, rights_without_refer, denials, lacks, gains}
use Rattle.ll_decide.specs.Verdict.{verdict}
use Rattle.ll_decide.proofs.OneByOne.{holds_none}
use Rattle.ll_decide.proofs.Bits.{holds-and, holds-or, holds-not}
use Rattle.ll_decide.proofs.Carried.{length-masks}

-- ---- one layer

pub holds_missing : (set m right : ℕ) → m < 2 ^ 64 → right < 15
    → holds (bit_and set (2 ^ 64 - 1 - m)) right ≡ (holds set right && not (holds m right))
holds_missing set m right fits known =
    holds-and set (2 ^ 64 - 1 - m) right ∙ ap (λ b. holds set right && b) (holds-not m right fits (omega arith))

module _ (g : Granted) (d : Demands) (layer right : ℕ) (r : Denied) where
  -- what is missing of a set
  abbrev pub IsMissing : ℕ → On → ℕ → Type 0
  IsMissing set on left = holds left right ≡ (holds set right && not (grants_by g layer on right))

  pub lacks_at : (itself parent other entered : ℕ) → r.at.0 ≡ bit_or itself parent → r.new.0 ≡ bit_or other entered
      → IsMissing d.itself.0 Itself itself → IsMissing d.parent.0 Parent parent → IsMissing d.left.0 Left r.old.0
      → IsMissing d.other.0 Other other → IsMissing d.entered.0 Entered entered
      → (place : Place) → is_in r right place ≡ lacking (grants_by g layer) d right place
  lacks_at itself parent other entered at new i p l o e At =
      ap (λ n. holds n right) at ∙ holds-or itself parent right ∙ (λ j. i j || p j)
  lacks_at itself parent other entered at new i p l o e Old = l
  lacks_at itself parent other entered at new i p l o e New =
      ap (λ n. holds n right) new ∙ holds-or other entered right ∙ (λ j. o j || e j)

  pub gains_at : (there back : ℕ) → r.at.0 ≡ 0
      → holds there right ≡ (holds d.there.0 right && grants_by g layer Entered right)
      → holds r.new.0 right ≡ (holds there right && not (grants_by g layer Itself right))
      → holds back right ≡ (holds d.back.0 right && grants_by g layer Left right)
      → holds r.old.0 right ≡ (holds back right && not (grants_by g layer Other right))
      → (place : Place) → is_in r right place ≡ gaining (grants_by g layer) d right place
  gains_at there back at t n b o At = ap (λ n. holds n right) at ∙ holds_none right
  gains_at there back at t n b o Old = o ∙ ap (λ x. x && not (grants_by g layer Other right)) b
  gains_at there back at t n b o New = n ∙ ap (λ x. x && not (grants_by g layer Itself right)) t

-- ---- lists of denials

flat_map-same : {A B : Type 0} (f g : A → List B) (xs : List A) → AllByRecursion (λ x. f x ≡ g x) xs
    → flat_map f xs ≡ flat_map g xs
flat_map-same f g [] same = refl
flat_map-same f g (x ∷ xs) same =
    ap (λ ys. ys ++ flat_map f xs) same.0 ∙ ap (λ ys. g x ++ ys) (flat_map-same f g xs same.1)

each : {A : Type 0} (P Q : A → Type 0) (xs : List A) → ((x : A) → P x → Q x) → AllByRecursion P xs → AllByRecursion Q xs
each P Q [] follows all = tt
each P Q (x ∷ xs) follows all = (follows x all.0, each P Q xs follows all.1)

module _ (cause : Cause) where
  right-same : (layer : ℕ) (f g : ℕ → Place → Bool) (right : ℕ) → ((place : Place) → f right place ≡ g right place)
      → of_right cause layer f right ≡ of_right cause layer g right
  right-same layer f g right same =
      λ i. flat_map (λ place. when (same place i)
      (record { cause = cause; layer = layer; right = right; place = place } ∷ [])) places

  -- what is denied of rights that are known depends on these alone
  pub layer-same : (layer : ℕ) (f g : ℕ → Place → Bool) (rights : List ℕ) → AllByRecursion (λ right. right < 15) rights
      → ((right : ℕ) (place : Place) → right < 15 → f right place ≡ g right place)
      → of_layer cause layer f rights ≡ of_layer cause layer g rights
  layer-same layer f g rights known same =
      flat_map-same (of_right cause layer f) (of_right cause layer g) rights
      (each (λ right. right < 15) (λ right. of_right cause layer f right ≡ of_right cause layer g right) rights
      (λ right small. right-same layer f g right (λ place. same right place small)) known)

  nothing : (layer : ℕ) (test : ℕ → Place → Bool) (rights : List ℕ)
      → ((right : ℕ) (place : Place) → test right place ≡ false) → of_layer cause layer test rights ≡ []
  nothing layer test [] empty = refl
  nothing layer test (right ∷ rights) empty =
      ap (λ ds. ds ++ of_layer cause layer test rights)
      (right-same layer test (λ right place. false) right (empty right)) ∙ nothing layer test rights empty

  pub none_in_layer : (layer : ℕ) (test : ℕ → Place → Bool) (rights : List ℕ)
      → ((right : ℕ) (place : Place) → test right place ≡ false) → slice_get (of_layer cause layer test rights) 0 ≡ None
  none_in_layer layer test rights empty = ap (λ (l : List _). slice_get l 0) (nothing layer test rights empty)

  -- no layer denies anything
  pub none_denied : {A : Type 0} (layers : List A) (rights : List ℕ) (test : A → ℕ → Place → Bool)
      → ((layer : A) (right : ℕ) (place : Place) → test layer right place ≡ false)
      → slice_get (denials cause layers rights places test) 0 ≡ None
  none_denied {A} layers rights test empty = ap (λ (l : List _). slice_get l 0) (from layers 1)
    where
      from : (xs : List A) (k : ℕ)
          → flat_map (λ (l : ℕ × A). of_layer cause l.0 (test l.1) rights) (enumerate_from k xs) ≡ []
      from [] k = refl
      from (x ∷ xs) k =
          ap (λ ds. ds ++ flat_map (λ (l : ℕ × A). of_layer cause l.0 (test l.1) rights) (enumerate_from (k + 1) xs))
          (nothing k (test x) rights (empty x)) ∙ from xs (k + 1)

  -- of this right
  pub none_denied_of : {A : Type 0} (layers : List A) (right : ℕ) (test : A → ℕ → Place → Bool)
      → ((layer : A) (place : Place) → test layer right place ≡ false)
      → slice_get (denials cause layers (right ∷ []) places test) 0 ≡ None
  none_denied_of {A} layers right test empty = ap (λ (l : List _). slice_get l 0) (from layers 1)
    where
      from : (xs : List A) (k : ℕ)
          → flat_map (λ (l : ℕ × A). of_layer cause l.0 (test l.1) (right ∷ [])) (enumerate_from k xs) ≡ []
      from [] k = refl
      from (x ∷ xs) k =
          ap (λ ds. (ds ++ [])
          ++ flat_map (λ (l : ℕ × A). of_layer cause l.0 (test l.1) (right ∷ [])) (enumerate_from (k + 1) xs))
          (right-same k (test x) (λ right place. false) right (empty x)) ∙ from xs (k + 1)

  tests-same : {A : Type 0} (layers : List A) (rights : List ℕ) (f g : A → ℕ → Place → Bool)
      → AllByRecursion (λ right. right < 15) rights
      → ((layer : A) (right : ℕ) (place : Place) → right < 15 → f layer right place ≡ g layer right place)
      → denials cause layers rights places f ≡ denials cause layers rights places g
  tests-same {A} layers rights f g known same = from layers 1
    where
      from : (xs : List A) (k : ℕ) → flat_map (λ (l : ℕ × A). of_layer cause l.0 (f l.1) rights) (enumerate_from k xs)
          ≡ flat_map (λ (l : ℕ × A). of_layer cause l.0 (g l.1) rights) (enumerate_from k xs)
      from [] k = refl
      from (x ∷ xs) k =
          ap (λ ds. ds ++ flat_map (λ (l : ℕ × A). of_layer cause l.0 (f l.1) rights) (enumerate_from (k + 1) xs))
          (layer-same k (f x) (g x) rights known (same x))
          ∙ ap (λ ds. of_layer cause k (g x) rights ++ ds) (from xs (k + 1))

  -- layers kept as their numbers, or as they are
  numbers-same : (domain : List Layer) (rights : List ℕ) (f : ℕ → ℕ → Place → Bool) (g : Layer → ℕ → Place → Bool)
      → AllByRecursion (λ right. right < 15) rights
      → ((i : ℕ) (d : Layer) → i < length domain → (right : ℕ) (place : Place) → right < 15
      → f i right place ≡ g (get_or domain i d) right place)
      → denials cause (range_with_len 0 (length domain)) rights places f ≡ denials cause domain rights places g
  numbers-same domain rights f g known same =
      from domain 0 (λ i n d is lt right place small. ap (λ k. f k right place) (let at : n ≡ i = omega arith in at)
      ∙ same i d lt right place small)
    where
      from : (layers : List Layer) (k : ℕ)
          → ((i n : ℕ) (d : Layer) → n ≡ k + i → i < length layers → (right : ℕ) (place : Place) → right < 15
          → f n right place ≡ g (get_or layers i d) right place)
          → flat_map (λ (l : ℕ × ℕ). of_layer cause l.0 (f l.1) rights)
          (enumerate_from (k + 1) (range_with_len k (length layers)))
          ≡ flat_map (λ (l : ℕ × Layer). of_layer cause l.0 (g l.1) rights) (enumerate_from (k + 1) layers)
      from [] k same' = refl
      from (layer ∷ layers) k same' =
          ap (λ ds. ds ++ flat_map (λ (l : ℕ × ℕ). of_layer cause l.0 (f l.1) rights)
          (enumerate_from (k + 1 + 1) (range_with_len (k + 1) (length layers))))
          (layer-same (k + 1) (f k) (g layer) rights known (same' 0 k layer (omega arith) (omega arith)))
          ∙ ap (λ ds. of_layer cause (k + 1) (g layer) rights ++ ds)
          (from layers (k + 1) (λ i n d e h. same' (suc i) n d (omega arith) (omega arith)))

-- ---- the verdict

pub below_all : AllByRecursion (λ right. right < 15) all_rights
below_all = (
  lit< tt,
  (
    lit< tt,
    (
      lit< tt,
      (
        lit< tt,
        (
          lit< tt,
          (
            lit< tt,
            (
              lit< tt,
              (
                lit< tt,
                (lit< tt, (lit< tt, (lit< tt, (lit< tt, (lit< tt, (lit< tt, (lit< tt, tt))))))),
              ),
            ),
          ),
        ),
      ),
    ),
  ),
)

pub below_others : AllByRecursion (λ right. right < 15) rights_without_refer
below_others = (
  lit< tt,
  (
    lit< tt,
    (
      lit< tt,
      (
        lit< tt,
        (
          lit< tt,
          (lit< tt, (lit< tt, (lit< tt, (lit< tt, (lit< tt, (lit< tt, (lit< tt, (lit< tt, (lit< tt, tt))))))))),
        ),
      ),
    ),
  ),
)

pub below_refer : AllByRecursion (λ right. right < 15) (refer ∷ [])
below_refer = (lit< tt, tt)

-- the denials of all three kinds, each as good as another
first_of_three : {D : Type 0} (a b c a' b' c' : List D) → a ≡ a' → b ≡ b' → c ≡ c'
    → slice_get (a ++ b ++ c) 0 ≡ slice_get (a' ++ b' ++ c') 0
first_of_three a b c a' b' c' ea eb ec = λ i. slice_get (ea i ++ eb i ++ ec i) 0

module _ (g : Granted) (d : Demands) (asks : List (Ask On)) (moves : List (Move On)) (are : AreAsks d asks)
    (move : AreMoves d moves) where
  pub by_masks-verdict : by_masks g d ≡ verdict (grants_by g) (layers_of g) asks moves
  by_masks-verdict =
      first_of_three _ _ _ _ _ _
      (tests-same EACCES (layers_of g) rights_without_refer (fails g d Lacks) (lacks (grants_by g) asks) below_others
      missed)
      (tests-same EXDEV (layers_of g) (refer ∷ []) (fails g d Lacks) (lacks (grants_by g) asks) below_refer missed)
      (tests-same EXDEV (layers_of g) all_rights (fails g d Gains) (gains (grants_by g) moves) below_all
      (λ layer right place known. sym (move (grants_by g layer) right place known)))
    where
      missed : (layer right : ℕ) (place : Place) → right < 15
          → fails g d Lacks layer right place ≡ lacks (grants_by g) asks layer right place
      missed layer right place known = sym (are (grants_by g layer) right place known)

mask_at : (masks : List ℕ) (domain : List Layer) (inodes : List ℕ) (i : ℕ) (d : Layer) → AreMasks masks domain inodes
    → i < length domain → IsMask (slice_index masks i) (get_or domain i d) inodes
mask_at (mask ∷ masks) (layer ∷ domain) inodes zero d are lt = are.0
mask_at (mask ∷ masks) (layer ∷ domain) inodes (suc i) d are lt = mask_at masks domain inodes i d are.1 (omega arith)
mask_at masks [] inodes i d are lt = absurd (omega arith)
mask_at [] (layer ∷ domain) inodes i d are lt = absurd are

module _ (domain : List Layer) (chain : On → List ℕ) (g : Granted) (granted : AreGranted domain chain g) where
  module _ (i : ℕ) (l : Layer) (within : i < length domain) (right : ℕ) (known : right < 15) where
    granted_on : (on : On) → grants_by g i on right ≡ grants_along chain (get_or domain i l) on right
    granted_on Itself = (mask_at g.itself.now domain (chain Itself) i l granted.itself within).same right known
    granted_on Other = (mask_at g.other.now domain (chain Other) i l granted.other within).same right known
    granted_on Parent = (mask_at g.parent.now domain (chain Parent) i l granted.parent within).same right known
    granted_on Left = (mask_at g.parent.now domain (chain Parent) i l granted.parent within).same right known
        ∙ ap (λ inodes. grants_on (get_or domain i l) inodes right) (sym granted.left)
    granted_on Entered = (mask_at g.entered.now domain (chain Entered) i l granted.entered within).same right known

  module _ (asks : List (Ask On)) (moves : List (Move On)) where
    lacks-same : (i : ℕ) (l : Layer) → i < length domain → (right : ℕ) (place : Place) → right < 15
        → lacks (grants_by g) asks i right place ≡ lacks (grants_along chain) asks (get_or domain i l) right place
    lacks-same i l within right place known =
        λ j. list_any (λ (a : Ask On). (a.right == right) && is_at a.place place
        && not (granted_on i l within right known a.path j)) asks

    gains-same : (i : ℕ) (l : Layer) → i < length domain → (right : ℕ) (place : Place) → right < 15
        → gains (grants_by g) moves i right place ≡ gains (grants_along chain) moves (get_or domain i l) right place
    gains-same i l within right place known =
        λ j. list_any (λ (m : Move On). is_at m.place place && holds m.relevant right
        && granted_on i l within right known m.into j && not (granted_on i l within right known m.from j)) moves

    pub verdict-same : verdict (grants_by g) (layers_of g) asks moves ≡ verdict (grants_along chain) domain asks moves
    verdict-same =
        ap (λ n. verdict (grants_by g) (range_with_len 0 n) asks moves)
        (length-masks g.itself.now domain (chain Itself) granted.itself)
        ∙ first_of_three _ _ _ _ _ _
        (numbers-same EACCES domain rights_without_refer (lacks (grants_by g) asks) (lacks (grants_along chain) asks)
        below_others lacks-same)
        (numbers-same EXDEV domain (refer ∷ []) (lacks (grants_by g) asks) (lacks (grants_along chain) asks) below_refer
        lacks-same)
        (numbers-same EXDEV domain all_rights (gains (grants_by g) moves) (gains (grants_along chain) moves) below_all
        gains-same)
