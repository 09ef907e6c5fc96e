-- How rights come from where they are asked to where they have to be mended.
use Rattle.std.specs.Prelude.{◌≡◌, ◌<◌, ℕ, zero, suc, Bool, true, List, [], ◌∷◌, ◌++◌, Contains, length}
use Rattle.std.specs.Prelude.{slice_index_or}
use Rattle.std.specs.List.{list_any}
use Rattle.std.proofs.Common.{ap, arith, inl, inr}
use Rattle.std.proofs.lemmas.Bool.{or_cases}
use Rattle.ll_rights.specs.Access.{holds}
use Rattle.ll_learn.specs.Columns.{Grows, is_at}
use Rattle.ll_learn.specs.Draft.{IsDerived, IsSpread, is_asked_at, is_some_at, may_have, mended, place_of, stands}
use Rattle.ll_learn.specs.declared.draft.Scope.{Scope}
use Rattle.ll_learn.specs.declared.needs.Moved.{Moved}
use Rattle.ll_learn.specs.declared.needs.Needs.{Needs}
use Rattle.ll_learn.proofs.DraftReach.{one_that}
use Rattle.ll_learn.proofs.Places.{asked_may, place_may}

cut_from : (xs : List ℕ) (k x : ℕ) → k < length xs → slice_index_or xs k x ≡ x
    → (front : List ℕ) × (behind : List ℕ) × (xs ≡ front ++ x ∷ behind)
cut_from [] k x lt e = absurd (omega arith)
cut_from (y ∷ xs) zero x lt e = ([], xs, ap (λ z. z ∷ xs) e)
cut_from (y ∷ xs) (suc k) x lt e = let w = cut_from xs k x (omega arith) e in (
  y ∷ w.0,
  w.1,
  ap (λ zs. y ∷ zs) w.2,
)

-- a path, cut at one of its inodes
pub cut_among : (xs : List ℕ) (x : ℕ) → Contains xs x
    → (front : List ℕ) × (behind : List ℕ) × (xs ≡ front ++ x ∷ behind)
cut_among xs x there = cut_from xs there.0 x there.1 there.2

module _ (scope : Scope) (right : ℕ) (moves : List Moved) where
  spread_may : (held : ℕ → Bool) → ((inode : ℕ) → held inode ≡ true → may_have scope right inode ≡ true)
      → (inode : ℕ) → IsSpread scope right moves held inode → may_have scope right inode ≡ true
  spread_may held can inode (stands _ at) = can inode at
  spread_may held can inode (mended m above _ among means entered before at) =
      place_may scope right m.from.items inode at

  -- in two steps
  pub spread_on : (held other : ℕ → Bool)
      → ((inode : ℕ) → held inode ≡ true → IsSpread scope right moves other inode) → (inode : ℕ)
      → IsSpread scope right moves held inode → IsSpread scope right moves other inode
  spread_on held other from inode (stands _ at) = from inode at
  spread_on held other from inode (mended m above _ among means entered before at) =
      mended m above inode among means entered (spread_on held other from above before) at

  -- with one place more
  pub spread_grown : (first now new : List Bool) (m : Moved) → Contains moves m → holds m.rights.0 right ≡ true
      → list_any (is_at now) m.into.items ≡ true
      → Grows (is_some_at (place_of scope right m.from.items)) now new
      → ((inode : ℕ) → is_at now inode ≡ true → IsSpread scope right moves (is_at first) inode)
      → (inode : ℕ) → is_at new inode ≡ true → IsSpread scope right moves (is_at first) inode
  spread_grown first now new m among means entered grows old inode at =
      let place = is_some_at (place_of scope right m.from.items) in
      elim (or_cases (is_at now inode) (place inode) (grows.within inode at)) [
        | inl before ↦ old inode before
        | inr here ↦
            let one = one_that (is_at now) m.into.items entered in
            mended m one.0 inode among means one.1 (old one.0 one.2) here
      ]

-- a derived right may be held there
pub derived_may : (scope : Scope) (needs : Needs) (right inode : ℕ) → IsDerived scope needs right inode
    → may_have scope right inode ≡ true
derived_may scope needs right inode is =
    spread_may scope right needs.moves.items (is_asked_at scope right needs.asks.items)
    (λ i at. asked_may scope right needs.asks.items i at) inode is
