-- The clients of a closed tree. own
use Rattle.std.specs.Prelude.{◌≡◌, ℕ, ◌≤◌, ◌++◌, true, List, length, map}
use Rattle.std.specs.List.{AllByRecursion}
use Rattle.ll_rights.specs.Map.{has}
use Rattle.ll_laws.specs.NoGain.{GainsNothing}
use Rattle.ll_laws.specs.Withheld.{Withholds}
use Rattle.ll_seq.specs.History.{IsLegal, state_after}
use Rattle.ll_seq.specs.State.{start}
use Rattle.ll_seq.specs.declared.rules.Rules.{Rules}
use Rattle.ll_seq.specs.declared.reply.Entry.{Entry}
use Rattle.ll_node.specs.InodeTable.{AreDistinct}
use Rattle.ll_laws.specs.Walk.{is_in}
use Rattle.ll_client.specs.Entries.{AreInOrder, IsStarved, Knows, part_from}

abbrev pub numbers_of : List Knows → List ℕ
numbers_of ks = map (λ (k : Knows). k.number) ks

-- Its part is the client's entries of the history, with their numbers. Nothing refused the calls for which memory ran
-- out. It knows of no entry that doesn't exist
abbrev pub HoldsPart : Rules → (room limit : ℕ) → List Entry → Knows → Type 0
HoldsPart rules room limit history k =
    (k.part ≡ part_from 0 k.number history)
    × AllByRecursion (IsStarved rules room limit history k.number) k.starved × (k.seen ≤ length history)

-- these are all clients of the tree, each once, and each holds its part of the history
pub record AreClients (rules : Rules) (room limit : ℕ) (history : List Entry) (ks : List Knows) : Type 0 where
  pub parts : AllByRecursion (HoldsPart rules room limit history) ks
  pub once : AreDistinct (numbers_of ks)
  pub there : AllByRecursion (λ k. has (state_after (start rules room) history).clients k.number ≡ true) ks
  pub all : (c : ℕ) → has (state_after (start rules room) history).clients c ≡ true → is_in (numbers_of ks) c ≡ true

-- The result of a tree created with these rules, for this many nodes and entries: a legal history, and all its clients
pub record IsClosed (rules : Rules) (room limit : ℕ) (history : List Entry) (ks : List Knows) : Type 0 where
  pub legal : IsLegal (start rules room) history
  pub clients : AreClients rules room limit history ks
  -- reach never grows under a layer, and withheld bytes stay withheld, between any two points of the history
  pub between : (early late rest : List Entry) → history ≡ early ++ late ++ rest →
      GainsNothing rules room early late × Withholds rules room early late
  pub within : length history ≤ limit
  -- clients are numbered in the order in which they came
  pub numbered : AreInOrder rules room history
