-- What histories require of a layer, as lists. Cited by contracts between functions of the crate. own
use Rattle.std.specs.Prelude.{◌≡◌, ◌↔◌, ◌<◌, ℕ, Bool, true, List, ◌∷◌, All, Contains}
use Rattle.ll_rights.specs.Access.{holds, is_within}
use Rattle.ll_rules.specs.Layer.{Layer, grants_on}
use Rattle.ll_seq.specs.declared.reply.Entry.{Entry}
use Rattle.ll_seq.specs.State.{State, root}
use Rattle.ll_learn.specs.declared.needs.Asked.{Asked}
use Rattle.ll_learn.specs.declared.needs.Moved.{Moved}
use Rattle.ll_learn.specs.declared.needs.Needs.{Needs}
use Rattle.ll_learn.specs.PassedCalls.{AllowsRun}

-- these rights are granted on a path with these inodes. grants: what a layer grants there
abbrev pub GrantsAll : (List ℕ → ℕ → Bool) → ℕ → List ℕ → Type 0
GrantsAll grants rights inodes = (right : ℕ) → right < 15 → holds rights right ≡ true → grants inodes right ≡ true

-- each of these rights that is granted in the directory is granted on the node's own path
abbrev pub GivesNone : (List ℕ → ℕ → Bool) → ℕ → (from into : List ℕ) → Type 0
GivesNone grants rights from into =
    (right : ℕ) → right < 15 → holds rights right ≡ true → grants into right ≡ true → grants from right ≡ true

-- what is asked is granted there
abbrev pub IsGranted : (List ℕ → ℕ → Bool) → Asked → Type 0
IsGranted grants a = GrantsAll grants a.rights.0 a.inodes.items

-- the new directory gives the node no right that its own path doesn't
abbrev pub GainsNothing : (List ℕ → ℕ → Bool) → Moved → Type 0
GainsNothing grants m = GivesNone grants m.rights.0 m.from.items m.into.items

pub record Meets (grants : List ℕ → ℕ → Bool) (needs : Needs) : Type 0 where
  pub asks : All (IsGranted grants) needs.asks.items
  pub moves : All (GainsNothing grants) needs.moves.items

-- one of them asks these rights on this path
abbrev pub HasAsk : List Asked → ℕ → List ℕ → Type 0
HasAsk asks rights inodes =
    (a : Asked) × Contains asks a × (is_within rights a.rights.0 ≡ true) × (a.inodes.items ≡ inodes)

-- one of them is of these rights, between these paths
abbrev pub HasMove : List Moved → ℕ → (from into : List ℕ) → Type 0
HasMove moves rights from into =
    (m : Moved) × Contains moves m × (is_within rights m.rights.0 ≡ true)
    × (m.from.items ≡ from) × (m.into.items ≡ into)

-- a layer meets the new needs exactly if it meets the old ones and allows these calls too
abbrev pub Adds : State → ℕ → List Entry → (old new : Needs) → Type 0
Adds s client es old new = (layer : Layer) →
    Meets (grants_on layer) new ↔ (Meets (grants_on layer) old × AllowsRun s client es layer)

abbrev pub StartsAtRoot : List ℕ → Type 0
StartsAtRoot inodes = (rest : List ℕ) × (inodes ≡ root ∷ rest)

-- each path begins at the root
pub record AreRooted (needs : Needs) : Type 0 where
  pub asks : All (λ (a : Asked). StartsAtRoot a.inodes.items) needs.asks.items
  pub from : All (λ (m : Moved). StartsAtRoot m.from.items) needs.moves.items
  pub into : All (λ (m : Moved). StartsAtRoot m.into.items) needs.moves.items
