-- Layers that grant the same on each path deny the same calls.
use Rattle.std.specs.Prelude.{◌≡◌, ℕ, ◌+◌, ◌<◌, Bool, not, ◌&&◌, ◌==◌, List, [], ◌∷◌, ◌++◌, refl}
use Rattle.std.specs.List.{AllByRecursion, AllZip, enumerate_from, flat_map, list_any}
use Rattle.ll_rights.specs.Access.{holds}
use Rattle.ll_rights.specs.Right.{refer, all_rights}
use Rattle.ll_path.specs.Path.{Path}
use Rattle.ll_rules.specs.Layer.{Layer}
use Rattle.ll_decide.specs.declared.denial.Cause.{Cause}
use Rattle.ll_decide.specs.declared.denial.Cause.TheVariants.{EACCES, EXDEV}
use Rattle.ll_decide.specs.declared.denial.Place.{Place}
use Rattle.ll_decide.specs.Search.{of_layer}
use Rattle.ll_decide.specs.Verdict.{Ask, Move, all_denials, gains, is_at, lacks, rights_without_refer}
use Rattle.ll_decide.proofs.Sets.{below_all, below_others, below_refer, layer-same}
use Rattle.ll_seq.specs.Asked.{grants}
use Rattle.ll_seq.specs.State.{State}

-- the second layer grants on each path what the first does
pub record IsAlike (s : State) (a b : Layer) : Type 0 where
  pub same : (path : Path) (right : ℕ) → right < 15 → grants s b path right ≡ grants s a path right

abbrev pub AreAlike : State → List Layer → List Layer → Type 0
AreAlike s = AllZip (IsAlike s)

module _ (s : State) where
  lacks_same : (a b : Layer) → IsAlike s a b → (asks : List (Ask Path)) (right : ℕ) (place : Place) → right < 15
      → lacks (grants s) asks b right place ≡ lacks (grants s) asks a right place
  lacks_same a b w asks right place known =
      λ i. list_any (λ (x : Ask Path). (x.right == right) && is_at x.place place
      && not (w.same x.path right known i)) asks

  gains_same : (a b : Layer) → IsAlike s a b → (moves : List (Move Path)) (right : ℕ) (place : Place) → right < 15
      → gains (grants s) moves b right place ≡ gains (grants s) moves a right place
  gains_same a b w moves right place known =
      λ i. list_any (λ (m : Move Path). is_at m.place place && holds m.relevant right
      && w.same m.into right known i && not (w.same m.from right known i)) moves

  layers_same : (cause : Cause) (rights : List ℕ) (test : Layer → ℕ → Place → Bool)
      → AllByRecursion (λ right. right < 15) rights
      → ((a b : Layer) → IsAlike s a b → (right : ℕ) (place : Place) → right < 15
      → test b right place ≡ test a right place)
      → (number : ℕ) (xs ys : List Layer) → AreAlike s xs ys
      → flat_map (λ (l : ℕ × Layer). of_layer cause l.0 (test l.1) rights) (enumerate_from number ys)
      ≡ flat_map (λ (l : ℕ × Layer). of_layer cause l.0 (test l.1) rights) (enumerate_from number xs)
  layers_same cause rights test known same number [] [] w = refl
  layers_same cause rights test known same number [] (y ∷ ys) w = absurd w
  layers_same cause rights test known same number (x ∷ xs) [] w = absurd w
  layers_same cause rights test known same number (x ∷ xs) (y ∷ ys) w =
      λ i. layer-same cause number (test y) (test x) rights known (same x y w.0) i
      ++ layers_same cause rights test known same (number + 1) xs ys w.1 i

  -- what they deny, layer by layer
  pub denials_same : (asks : List (Ask Path)) (moves : List (Move Path)) (xs ys : List Layer) → AreAlike s xs ys
      → all_denials (grants s) ys asks moves ≡ all_denials (grants s) xs asks moves
  denials_same asks moves xs ys w =
      λ i. layers_same EACCES rights_without_refer (lacks (grants s) asks) below_others
      (λ a b v right place known. lacks_same a b v asks right place known) 1 xs ys w i
      ++ layers_same EXDEV (refer ∷ []) (lacks (grants s) asks) below_refer
      (λ a b v right place known. lacks_same a b v asks right place known) 1 xs ys w i
      ++ layers_same EXDEV all_rights (gains (grants s) moves) below_all
      (λ a b v right place known. gains_same a b v moves right place known) 1 xs ys w i
