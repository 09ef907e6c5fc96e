-- Rights asked one by one, and nodes moved.
use Rattle.std.specs.Prelude.{◌≡◌, ℕ, ◌^◌, ◌<◌, Bool, true, false, not, ◌&&◌, ◌||◌, ◌==◌, List, [], ◌∷◌, ◌++◌, bit_or}
use Rattle.std.specs.Prelude.{refl}
use Rattle.std.proofs.Common.{ap, sym, subst, ◌∙◌, arith}
use Rattle.std.proofs.lemmas.List.Folds.{list_any-append}
use Rattle.std.proofs.lemmas.Nat.Bits.{bit_at-zero, bit_at-pow_same, bit_at-pow_other}
use Rattle.ll_rights.specs.declared.access.Access.{Access}
use Rattle.ll_rights.specs.Access.{holds}
use Rattle.ll_decide.specs.declared.demands.Demands.{Demands}
use Rattle.ll_decide.specs.declared.demands.On.{On}
use Rattle.ll_decide.specs.declared.demands.On.TheVariants.{Itself, Other, Parent, Left, Entered}
use Rattle.ll_decide.specs.declared.demands.Way.{Way}
use Rattle.ll_decide.specs.declared.demands.Way.TheVariants.{There, Back}
use Rattle.ll_decide.specs.declared.denial.Place.{Place}
use Rattle.ll_decide.specs.declared.denial.Place.TheVariants.{At, Old, New}
use Rattle.ll_decide.specs.Demands.{AreAsks, AreMoves, ask_on, move_on, place_on, misses, lacking, gaining, of_itself}
use Rattle.ll_decide.specs.Verdict.{Ask, Move, lacks, gains, is_at, when}
use Rattle.ll_decide.proofs.Bits.{holds-or}

pub holds_none : (right : ℕ) → holds 0 right ≡ false
holds_none right = ap (λ n. n == 1) (bit_at-zero right)

holds_single : (right r : ℕ) → holds (2 ^ right) r ≡ (right == r)
holds_single right r = of (right == r) refl
  where
    of : (b : Bool) → (right == r) ≡ b → holds (2 ^ right) r ≡ b
    of true e = let same : right ≡ r = grind arith in
        ap (λ k. holds (2 ^ right) k) (sym same) ∙ ap (λ n. n == 1) (bit_at-pow_same right)
    of false e = ap (λ n. n == 1) (bit_at-pow_other right r (λ same. absurd (grind arith)))

or_false : (b : Bool) → (b || false) ≡ b
or_false true = refl
or_false false = refl

-- ---- nothing

-- no set holds a right
none_held : (granted : Bool) (right : ℕ) → (holds 0 right && not granted) ≡ false
none_held granted right = ap (λ b. b && not granted) (holds_none right)

abbrev pub NoSets : Demands → Type 0
NoSets d = (d.itself.0 ≡ 0) × (d.other.0 ≡ 0) × (d.parent.0 ≡ 0) × (d.left.0 ≡ 0) × (d.entered.0 ≡ 0) × (d.there.0 ≡ 0)
    × (d.back.0 ≡ 0)

pub none_asked : (d : Demands) → NoSets d → AreAsks d []
none_asked d zeros g r At known = sym (λ i. missed d.itself.0 zeros.0 Itself i || missed d.parent.0 zeros.2 Parent i)
  where
    missed : (set : ℕ) → set ≡ 0 → (on : On) → (holds set r && not (g on r)) ≡ false
    missed set e on = ap (λ n. holds n r && not (g on r)) e ∙ none_held (g on r) r
none_asked d zeros g r Old known = sym (ap (λ n. holds n r && not (g Left r)) zeros.3 ∙ none_held (g Left r) r)
none_asked d zeros g r New known = sym (λ i. missed d.other.0 zeros.1 Other i || missed d.entered.0 zeros.4 Entered i)
  where
    missed : (set : ℕ) → set ≡ 0 → (on : On) → (holds set r && not (g on r)) ≡ false
    missed set e on = ap (λ n. holds n r && not (g on r)) e ∙ none_held (g on r) r

pub none_moved : (d : Demands) → NoSets d → AreMoves d []
none_moved d zeros g r At known = refl
none_moved d zeros g r Old known =
    sym (λ i. (ap (λ n. holds n r) zeros.6 ∙ holds_none r) i && g Left r && not (g Other r))
none_moved d zeros g r New known =
    sym (λ i. (ap (λ n. holds n r) zeros.5 ∙ holds_none r) i && g Entered r && not (g Itself r))

-- ---- one ask more

joins_first : (h q n p : Bool) → (((h && n) || p) || (q && n)) ≡ (((h || q) && n) || p)
joins_first true q true p = refl
joins_first true true false p = or_false p
joins_first true false false p = or_false p
joins_first false true true true = refl
joins_first false true true false = refl
joins_first false true false p = or_false p
joins_first false false n p = or_false p

joins_last : (h q n p : Bool) → ((p || (h && n)) || (q && n)) ≡ (p || ((h || q) && n))
joins_last h q n true = refl
joins_last true q true false = refl
joins_last true true false false = refl
joins_last true false false false = refl
joins_last false q n false = refl

joins : (h q n : Bool) → ((h && n) || (q && n)) ≡ ((h || q) && n)
joins true q true = refl
joins true true false = refl
joins true false false = refl
joins false q n = refl

-- asked in this place
here : (q n : Bool) → (((q && true) && n) || false) ≡ (q && n)
here true true = refl
here true false = refl
here false n = refl

-- asked in another place
elsewhere : (b q n : Bool) → (b || (((q && false) && n) || false)) ≡ b
elsewhere b true n = or_false b
elsewhere b false n = or_false b

module _ (d : Demands) (right : ℕ) (set : Access) (asks : List (Ask On)) (are : AreAsks d asks) where
  -- what the list lacks with one ask more
  more : (on : On) (g : On → ℕ → Bool) (r : ℕ) (at : Place) → r < 15
      → lacks of_itself (asks ++ ask_on on right ∷ []) g r at
      ≡ (lacking g d r at || ((((right == r) && is_at (place_on on) at) && not (g on r)) || false))
  more on g r at known =
      list_any-append (λ (a : Ask On). (a.right == r) && is_at a.place at && not (g a.path r)) asks
      (ask_on on right ∷ [])
      ∙ ap (λ b. b || ((((right == r) && is_at (place_on on) at) && not (g on r)) || false)) (are g r at known)

  held : (old r : ℕ) → set.0 ≡ bit_or old (2 ^ right) → holds set.0 r ≡ (holds old r || (right == r))
  held old r is = ap (λ n. holds n r) is ∙ holds-or old (2 ^ right) r
      ∙ ap (λ b. holds old r || b) (holds_single right r)

  pub ask_itself : set.0 ≡ bit_or d.itself.0 (2 ^ right)
      → AreAsks (record d { itself = set }) (asks ++ ask_on Itself right ∷ [])
  ask_itself is g r At known = more Itself g r At known
      ∙ ap (λ b. lacking g d r At || b) (here (right == r) (not (g Itself r)))
      ∙ joins_first (holds d.itself.0 r) (right == r) (not (g Itself r)) (misses g d r Parent)
      ∙ ap (λ b. (b && not (g Itself r)) || misses g d r Parent) (sym (held d.itself.0 r is))
  ask_itself is g r Old known =
      more Itself g r Old known ∙ elsewhere (lacking g d r Old) (right == r) (not (g Itself r))
  ask_itself is g r New known =
      more Itself g r New known ∙ elsewhere (lacking g d r New) (right == r) (not (g Itself r))

  pub ask_parent : set.0 ≡ bit_or d.parent.0 (2 ^ right)
      → AreAsks (record d { parent = set }) (asks ++ ask_on Parent right ∷ [])
  ask_parent is g r At known = more Parent g r At known
      ∙ ap (λ b. lacking g d r At || b) (here (right == r) (not (g Parent r)))
      ∙ joins_last (holds d.parent.0 r) (right == r) (not (g Parent r)) (misses g d r Itself)
      ∙ ap (λ b. misses g d r Itself || (b && not (g Parent r))) (sym (held d.parent.0 r is))
  ask_parent is g r Old known =
      more Parent g r Old known ∙ elsewhere (lacking g d r Old) (right == r) (not (g Parent r))
  ask_parent is g r New known =
      more Parent g r New known ∙ elsewhere (lacking g d r New) (right == r) (not (g Parent r))

  pub ask_left : set.0 ≡ bit_or d.left.0 (2 ^ right)
      → AreAsks (record d { left = set }) (asks ++ ask_on Left right ∷ [])
  ask_left is g r Old known = more Left g r Old known
      ∙ ap (λ b. lacking g d r Old || b) (here (right == r) (not (g Left r)))
      ∙ joins (holds d.left.0 r) (right == r) (not (g Left r))
      ∙ ap (λ b. b && not (g Left r)) (sym (held d.left.0 r is))
  ask_left is g r At known = more Left g r At known ∙ elsewhere (lacking g d r At) (right == r) (not (g Left r))
  ask_left is g r New known = more Left g r New known ∙ elsewhere (lacking g d r New) (right == r) (not (g Left r))

  pub ask_other : set.0 ≡ bit_or d.other.0 (2 ^ right)
      → AreAsks (record d { other = set }) (asks ++ ask_on Other right ∷ [])
  ask_other is g r New known = more Other g r New known
      ∙ ap (λ b. lacking g d r New || b) (here (right == r) (not (g Other r)))
      ∙ joins_first (holds d.other.0 r) (right == r) (not (g Other r)) (misses g d r Entered)
      ∙ ap (λ b. (b && not (g Other r)) || misses g d r Entered) (sym (held d.other.0 r is))
  ask_other is g r At known = more Other g r At known ∙ elsewhere (lacking g d r At) (right == r) (not (g Other r))
  ask_other is g r Old known = more Other g r Old known ∙ elsewhere (lacking g d r Old) (right == r) (not (g Other r))

  pub ask_entered : set.0 ≡ bit_or d.entered.0 (2 ^ right)
      → AreAsks (record d { entered = set }) (asks ++ ask_on Entered right ∷ [])
  ask_entered is g r New known =
      more Entered g r New known ∙ ap (λ b. lacking g d r New || b) (here (right == r) (not (g Entered r)))
      ∙ joins_last (holds d.entered.0 r) (right == r) (not (g Entered r)) (misses g d r Other)
      ∙ ap (λ b. misses g d r Other || (b && not (g Entered r))) (sym (held d.entered.0 r is))
  ask_entered is g r At known =
      more Entered g r At known ∙ elsewhere (lacking g d r At) (right == r) (not (g Entered r))
  ask_entered is g r Old known =
      more Entered g r Old known ∙ elsewhere (lacking g d r Old) (right == r) (not (g Entered r))

none_more : {A : Type 0} (xs : List A) → xs ++ [] ≡ xs
none_more [] = refl
none_more (x ∷ xs) = ap (λ (ys : List _). x ∷ ys) (none_more xs)

pub when_so : (d : Demands) (asks more' : List (Ask On)) (test : Bool) → test ≡ true → AreAsks d (asks ++ more')
    → AreAsks d (asks ++ when test more')
when_so d asks more' test e are = subst (λ b. AreAsks d (asks ++ when b more')) (sym e) are

pub not_when : (d : Demands) (asks more' : List (Ask On)) (test : Bool) → test ≡ false → AreAsks d asks
    → AreAsks d (asks ++ when test more')
not_when d asks more' test e are =
    subst (λ b. AreAsks d (asks ++ when b more')) (sym e) (subst (AreAsks d) (sym (none_more asks)) are)

-- ---- one move more

-- what is gained by one set or the other
joins_gain : (h q i n : Bool) → (((h && i) && n) || ((((true && q) && i) && n) || false)) ≡ (((h || q) && i) && n)
joins_gain true q true true = refl
joins_gain true true true false = refl
joins_gain true false true false = refl
joins_gain true true false n = refl
joins_gain true false false n = refl
joins_gain false true true true = refl
joins_gain false true true false = refl
joins_gain false true false n = refl
joins_gain false false i n = refl

module _ (d : Demands) (set : Access) (relevant : ℕ) (moves : List (Move On)) (are : AreMoves d moves) where
  moved : (way : Way) (g : On → ℕ → Bool) (r : ℕ) (at : Place) → r < 15
      → gains of_itself (moves ++ move_on way relevant ∷ []) g r at
      ≡ (gaining g d r at || gains of_itself (move_on way relevant ∷ []) g r at)
  moved way g r at known =
      list_any-append (λ (m : Move On). is_at m.place at && holds m.relevant r && g m.into r && not (g m.from r)) moves
      (move_on way relevant ∷ [])
      ∙ ap (λ b. b || gains of_itself (move_on way relevant ∷ []) g r at) (are g r at known)

  pub move_there : set.0 ≡ bit_or d.there.0 relevant
      → AreMoves (record d { there = set }) (moves ++ move_on There relevant ∷ [])
  move_there is g r At known = moved There g r At known
  move_there is g r Old known = moved There g r Old known ∙ or_false (gaining g d r Old)
  move_there is g r New known =
      moved There g r New known ∙ joins_gain (holds d.there.0 r) (holds relevant r) (g Entered r) (not (g Itself r))
      ∙ ap (λ b. b && g Entered r && not (g Itself r)) (sym (ap (λ n. holds n r) is ∙ holds-or d.there.0 relevant r))

  pub move_back : set.0 ≡ bit_or d.back.0 relevant
      → AreMoves (record d { back = set }) (moves ++ move_on Back relevant ∷ [])
  move_back is g r At known = moved Back g r At known
  move_back is g r Old known = moved Back g r Old known
      ∙ joins_gain (holds d.back.0 r) (holds relevant r) (g Left r) (not (g Other r))
      ∙ ap (λ b. b && g Left r && not (g Other r)) (sym (ap (λ n. holds n r) is ∙ holds-or d.back.0 relevant r))
  move_back is g r New known = moved Back g r New known ∙ or_false (gaining g d r New)
