-- Asks and moves on what stands for paths, for the crates above: the verdict on the paths is that on what stands for
-- them.
use Rattle.std.specs.Prelude.{◌≡◌, ℕ, Bool, not, ◌&&◌, ◌||◌, ◌==◌, List, [], ◌∷◌, ◌++◌, map, slice_get, refl}
use Rattle.std.proofs.Common.{ap}
use Rattle.ll_rights.specs.Access.{holds}
use Rattle.ll_rights.specs.Right.{refer, all_rights}
use Rattle.ll_decide.specs.declared.denial.Cause.TheVariants.{EACCES, EXDEV}
use Rattle.ll_decide.specs.declared.denial.Place.{Place}
use Rattle.ll_decide.specs.Verdict.{Ask, Move, is_at, places, rights_without_refer, denials, lacks, gains, verdict}

module _ {P Q : Type 0} (path_of : Q → P) where
  abbrev pub ask_to : Ask Q → Ask P
  ask_to a = record { path = path_of a.path; right = a.right; place = a.place }

  abbrev pub move_to : Move Q → Move P
  move_to m = record { from = path_of m.from; into = path_of m.into; relevant = m.relevant; place = m.place }

  module _ {A : Type 0} (grants : A → P → ℕ → Bool) where
    abbrev pub grants_to : A → Q → ℕ → Bool
    grants_to layer q right = grants layer (path_of q) right

    lacks-map : (asks : List (Ask Q)) (layer : A) (right : ℕ) (place : Place)
        → lacks grants (map ask_to asks) layer right place ≡ lacks grants_to asks layer right place
    lacks-map [] layer right place = refl
    lacks-map (a ∷ asks) layer right place =
        ap (λ b. ((a.right == right) && is_at a.place place && not (grants layer (path_of a.path) right)) || b)
        (lacks-map asks layer right place)

    gains-map : (moves : List (Move Q)) (layer : A) (right : ℕ) (place : Place)
        → gains grants (map move_to moves) layer right place ≡ gains grants_to moves layer right place
    gains-map [] layer right place = refl
    gains-map (m ∷ moves) layer right place =
        ap (λ b. (is_at m.place place && holds m.relevant right && grants layer (path_of m.into) right
        && not (grants layer (path_of m.from) right)) || b) (gains-map moves layer right place)

    pub verdict-map : (layers : List A) (asks : List (Ask Q)) (moves : List (Move Q))
        → verdict grants layers (map ask_to asks) (map move_to moves) ≡ verdict grants_to layers asks moves
    verdict-map layers asks moves = λ i. slice_get
        (denials EACCES layers rights_without_refer places (λ l r p. lacks-map asks l r p i)
        ++ denials EXDEV layers (refer ∷ []) places (λ l r p. lacks-map asks l r p i)
        ++ denials EXDEV layers all_rights places (λ l r p. gains-map moves l r p i)) 0
