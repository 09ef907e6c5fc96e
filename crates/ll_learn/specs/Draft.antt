-- Layers while they are learned: which rights their rules have on which inodes, and what is needed of each right. own
use Rattle.std.specs.Prelude.{◌≡◌, ◌<◌, ◌==◌, ◌&&◌, ◌||◌, ℕ, Bool, true, false, not, List, [], ◌∷◌, Option, Some, None}
use Rattle.std.specs.Prelude.{Contains, find, slice_get, slice_index_or, if◌then◌else◌}
use Rattle.std.specs.List.{list_all, list_any}
use Rattle.std.specs.Option.{option_or}
use Rattle.ll_rights.specs.declared.access.Access.{Access}
use Rattle.ll_rights.specs.Access.{holds}
use Rattle.ll_rights.specs.Right.{refer}
use Rattle.ll_rules.specs.Layer.{Layer, has_rule}
use Rattle.ll_seq.specs.State.{root}
use Rattle.ll_learn.specs.declared.draft.Draft.{Draft}
use Rattle.ll_learn.specs.declared.draft.Scope.{Scope}
use Rattle.ll_learn.specs.declared.draft.Need.{Need}
use Rattle.ll_learn.specs.declared.draft.Need.TheVariants.{Asks, Moves}
use Rattle.ll_learn.specs.declared.needs.Asked.{Asked}
use Rattle.ll_learn.specs.declared.needs.Moved.{Moved}
use Rattle.ll_learn.specs.declared.needs.Needs.{Needs}

abbrev pub no_rights : Access
no_rights = record { 0 = 0 }

-- the right is in the inode's set. There is one set for each inode
abbrev pub right_at : List Access → ℕ → ℕ → Bool
right_at sets right inode = holds (slice_index_or sets inode no_rights).0 right

abbrev pub has : Draft → ℕ → ℕ → Bool
has draft = right_at draft.rules.items

abbrev pub may_have : Scope → ℕ → ℕ → Bool
may_have scope = right_at scope.may.items

-- the layer has this draft's rules
pub record IsOf (draft : Draft) (layer : Layer) : Type 0 where
  pub handled : layer.handled ≡ draft.handled.0
  pub rules : (inode right : ℕ) → right < 15 → has_rule layer right inode ≡ has draft right inode

-- a layer within the scope restricts the right
abbrev pub is_restricted : Scope → ℕ → Bool
is_restricted scope right = holds scope.handled.0 right || (right == refer)

-- what rules may have is handled, and the root's rule may have it too
pub record IsScope (scope : Scope) : Type 0 where
  pub handled : (inode right : ℕ) → right < 15 → may_have scope right inode ≡ true
      → holds scope.handled.0 right ≡ true
  pub top : (inode right : ℕ) → right < 15 → may_have scope right inode ≡ true → may_have scope right root ≡ true

-- the layer is within the scope
pub record IsInScope (scope : Scope) (layer : Layer) : Type 0 where
  pub handled : layer.handled ≡ scope.handled.0
  pub rules : (inode right : ℕ) → right < 15 → has_rule layer right inode ≡ true → may_have scope right inode ≡ true

-- ---- Where a right is put

-- the last of these inodes whose rule may have the right
abbrev pub last_of : (ℕ → Bool) → List ℕ → Option ℕ
last_of may [] = None
last_of may (inode ∷ inodes) = option_or (last_of may inodes) (if may inode then Some inode else None)

abbrev pub is_some_at : Option ℕ → ℕ → Bool
is_some_at None inode = false
is_some_at (Some other) inode = other == inode

-- the inode is one that is to take what is needed below it, and its rule may have the right
abbrev pub is_upper : Scope → ℕ → ℕ → Bool
is_upper scope right inode = may_have scope right inode && list_any (λ i. i == inode) scope.beneath.items

-- The inode that gets a right needed on a path with these inodes: the first that takes what is needed below it. Without
-- one, the last whose rule may have it
abbrev pub place_of : Scope → ℕ → List ℕ → Option ℕ
place_of scope right inodes =
    option_or (find (is_upper scope right) inodes) (last_of (may_have scope right) inodes)

abbrev pub is_asked_at : Scope → ℕ → List Asked → ℕ → Bool
is_asked_at scope right asks inode = list_any
    (λ (a : Asked). holds a.rights.0 right && is_some_at (place_of scope right a.inodes.items) inode) asks

abbrev pub is_mended_at : Scope → ℕ → List Moved → ℕ → Bool
is_mended_at scope right moves inode = list_any
    (λ (m : Moved). holds m.rights.0 right && is_some_at (place_of scope right m.from.items) inode) moves

-- the inode is where the right is put for some ask, or for a moved node's own path
abbrev pub is_placed : Scope → Needs → ℕ → ℕ → Bool
is_placed scope needs right inode =
    is_asked_at scope right needs.asks.items inode || is_mended_at scope right needs.moves.items inode

-- The inodes that have the right, and those that must have it too. If a node moves to below an inode with the right,
-- its own path needs it
pub data IsSpread (scope : Scope) (right : ℕ) (moves : List Moved) (held : ℕ → Bool) : ℕ → Type 0 where
  stands : (inode : ℕ) → held inode ≡ true → IsSpread scope right moves held inode
  mended : (m : Moved) (above inode : ℕ) → Contains moves m → holds m.rights.0 right ≡ true
      → Contains m.into.items above → IsSpread scope right moves held above
      → is_some_at (place_of scope right m.from.items) inode ≡ true → IsSpread scope right moves held inode

-- the right is put here for an ask, or to mend a move
abbrev pub IsDerived : Scope → Needs → ℕ → ℕ → Type 0
IsDerived scope needs right =
    IsSpread scope right needs.moves.items (is_asked_at scope right needs.asks.items)

-- ---- One right, which the rules of these inodes have

-- all of these inodes except one
abbrev pub without : ℕ → (ℕ → Bool) → ℕ → Bool
without inode held other = held other && not (other == inode)

-- if the right is asked, a rule on the path has it
abbrev pub is_granted : (ℕ → Bool) → ℕ → Asked → Bool
is_granted held right a = not (holds a.rights.0 right) || list_any held a.inodes.items

-- the move gains nothing of the right
abbrev pub is_gainless : (ℕ → Bool) → ℕ → Moved → Bool
is_gainless held right m =
    not (holds m.rights.0 right) || (not (list_any held m.into.items) || list_any held m.from.items)

abbrev pub is_met : (ℕ → Bool) → ℕ → Needs → Bool
is_met held right needs =
    list_all (is_granted held right) needs.asks.items && list_all (is_gainless held right) needs.moves.items

-- What is needed of the right is met by rules in its places, and not without any one of them
pub record IsLeast (scope : Scope) (needs : Needs) (right : ℕ) (held : ℕ → Bool) : Type 0 where
  pub placed : (inode : ℕ) → held inode ≡ true → is_placed scope needs right inode ≡ true
  pub derived : (inode : ℕ) → held inode ≡ true → IsDerived scope needs right inode
  pub met : is_restricted scope right ≡ true → is_met held right needs ≡ true
  pub needed : (inode : ℕ) → held inode ≡ true → is_met (without inode held) right needs ≡ false

-- ---- What can't be met

-- the ask with this number has a right that the scope's layers restrict and that no rule on its inodes may have
abbrev pub IsUnmet : Scope → List Asked → ℕ → Type 0
IsUnmet scope asks number = (a : Asked) × (slice_get asks number ≡ Some a) × (right : ℕ) × (right < 15)
    × (is_restricted scope right ≡ true) × (is_granted (may_have scope right) right a ≡ false)

-- ---- Which rules the least layer must have

-- the right is asked, and this inode is the last whose rule may have it
abbrev pub is_charge : Scope → ℕ → ℕ → Asked → Bool
is_charge scope right inode a =
    holds a.rights.0 right && is_some_at (last_of (may_have scope right) a.inodes.items) inode

-- each right of a rule is asked on a path where no rule further down may have it
abbrev pub IsCharged : Scope → Needs → Draft → Type 0
IsCharged scope needs draft = (inode right : ℕ) → right < 15 → has draft right inode ≡ true
    → list_any (is_charge scope right inode) needs.asks.items ≡ true

-- ---- Why a rule has a right

-- the ask that isn't granted, or the move that gains the right
abbrev pub IsNeed : (ℕ → Bool) → ℕ → List Asked → List Moved → Need → Type 0
IsNeed held right asks moves (Asks origin) = (number : ℕ) × (a : Asked) × (slice_get asks number ≡ Some a)
    × (a.origin ≡ origin) × (is_granted held right a ≡ false)
IsNeed held right asks moves (Moves origin) = (number : ℕ) × (m : Moved) × (slice_get moves number ≡ Some m)
    × (m.origin ≡ origin) × (is_gainless held right m ≡ false)
