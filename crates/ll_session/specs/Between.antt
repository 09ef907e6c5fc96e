-- What a session was at each point, as known when its tree is closed. Cited by contracts between crates alone. own
use Rattle.std.specs.Prelude.{◌≡◌, ℕ, ◌≤◌, true, List, length, take}
use Rattle.std.specs.List.{AllByRecursion}
use Rattle.ll_rights.specs.Map.{has, len}
use Rattle.ll_seq.specs.declared.reply.Entry.{Entry}
use Rattle.ll_seq.specs.declared.rules.Rules.{Rules}
use Rattle.ll_seq.specs.History.{state_after}
use Rattle.ll_seq.specs.Stages.{numbers_from}
use Rattle.ll_seq.specs.State.{State, start}
use Rattle.ll_client.specs.Closed.{IsClosed, numbers_of}
use Rattle.ll_client.specs.Entries.{Knows}
use Rattle.ll_client.specs.declared.account.Numbered.{Numbered}
use Rattle.ll_session.specs.PartySession.{Session}
use Rattle.ll_session.specs.Growth.{Grows}
use Rattle.ll_session.specs.Talk.{seen_by}

-- the tree after this many entries
abbrev pub tree_at : Rules → ℕ → List Entry → ℕ → State
tree_at rules room history n = state_after (start rules room) (take n history)

-- the session of these clients: the entries that any of them knows of, and the tree after those
abbrev pub between : Rules → (room limit : ℕ) → List Entry → List Knows → Session
between rules room limit history ks = record {
  tree = tree_at rules room history (seen_by ks);
  clients = numbers_of ks;
  entries = take (seen_by ks) history;
  limit = limit;
}

-- these are all clients of the tree at that point, sorted by number, and no entry of theirs is later
pub record IsSettled (rules : Rules) (room : ℕ) (history : List Entry) (ks : List Knows) : Type 0 where
  pub low : seen_by ks ≤ length history
  pub known : AllByRecursion (λ (k : Knows). AllByRecursion (λ (x : Numbered). x.number ≤ seen_by ks) k.part) ks
  pub numbers : numbers_of ks ≡ numbers_from 1 (length ks)
  pub there : AllByRecursion (λ c. has (tree_at rules room history (seen_by ks)).clients c ≡ true) (numbers_of ks)
  pub count : len (tree_at rules room history (seen_by ks)).clients ≡ length ks

-- Whatever history the tree is closed with: if these clients were settled, the later ones are, and `Holds` relates
-- their sessions
abbrev pub Leads : Rules → (room limit : ℕ) → (ks ks' : List Knows) → (Session → Session → Type 0) → Type 0
Leads rules room limit ks ks' Holds =
    Grows ks ks'
    × ((history : List Entry) (end : List Knows) → IsClosed rules room limit history end → Grows ks' end
    → IsSettled rules room history ks → IsSettled rules room history ks'
    × Holds (between rules room limit history ks) (between rules room limit history ks'))
