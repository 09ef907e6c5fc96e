-- What stays while the clients of a session make calls. Cited by contracts between crates alone. own
use Rattle.std.specs.Prelude.{◌≡◌, ℕ, ◌<◌, ◌≤◌, List, [], ◌∷◌, ◌++◌}
use Rattle.std.specs.List.{AllByRecursion}
use Rattle.ll_client.specs.Entries.{Knows}
use Rattle.ll_client.specs.declared.account.Numbered.{Numbered}
use Rattle.ll_client.specs.declared.account.Starved.{Starved}
use Rattle.ll_session.specs.Talk.{seen_by}

-- all these entries have greater numbers than this
abbrev pub AreAbove : ℕ → List Numbered → Type 0
AreAbove n entries = AllByRecursion (λ (x : Numbered). n < x.number) entries

-- a client later: its part has more entries, with greater numbers than this, and it was refused memory for more calls
pub record ComesOn (n : ℕ) (k k' : Knows) : Type 0 where
  pub number : k'.number ≡ k.number
  pub part : (more : List Numbered) × (k'.part ≡ k.part ++ more) × AreAbove n more
  pub starved : (more : List Starved) × (k'.starved ≡ k.starved ++ more)

-- each of them later, and further clients; all new entries have greater numbers than this
abbrev pub GrowAbove : ℕ → (ks ks' : List Knows) → Type 0
GrowAbove n [] ks' = AllByRecursion (λ (k : Knows). AreAbove n k.part) ks'
GrowAbove n (k ∷ ks) [] = ⊥
GrowAbove n (k ∷ ks) (k' ∷ ks') = ComesOn n k k' × GrowAbove n ks ks'

-- what any of them knew stays, and every new entry is later
abbrev pub Grows : (ks ks' : List Knows) → Type 0
Grows ks ks' = GrowAbove (seen_by ks) ks ks' × (seen_by ks ≤ seen_by ks')
