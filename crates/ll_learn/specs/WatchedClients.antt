-- Which clients a layer is on after some entries, and what they have opened. own
use Rattle.std.specs.Prelude.{◌≡◌, ℕ, ◌==◌, ◌&&◌, Bool, true, false, List, [], ◌∷◌, Option, Some, None}
use Rattle.ll_rights.specs.Map.{has}
use Rattle.ll_seq.specs.declared.reply.Entry.{Entry}
use Rattle.ll_seq.specs.Call.{first_path}
use Rattle.ll_seq.specs.History.{after}
use Rattle.ll_seq.specs.State.{State}
use Rattle.ll_seq.specs.Tree.{ancestors}
use Rattle.ll_why.specs.Opener.{opens}
use Rattle.ll_learn.specs.declared.watch.Opened.{Opened}
use Rattle.ll_learn.specs.declared.watch.Watched.{Watched}
use Rattle.ll_learn.specs.Needs.{StartsAtRoot}
use Rattle.ll_learn.specs.PassedCalls.{Openings, joins, opened_at}
use Rattle.ll_learn.specs.Watched.{is_watched, paths_opened}

-- the clients that the layer is on after these entries
abbrev pub joined : (ℕ → Bool) → List Entry → ℕ → Bool
joined is_on [] = is_on
joined is_on (e ∷ es) = joined (joins is_on e) es

-- what is known of openings after them
abbrev pub opened_behind : State → Openings → List Entry → Openings
opened_behind s known [] = known
opened_behind s known (e ∷ es) = opened_behind (after s e) (opened_at s known e) es

-- the clients that the layer is on are watched and exist. What they have opened is known, by paths from the root
pub record IsWatch (s : State) (is_on : ℕ → Bool) (known : Openings) (clients : List Watched) : Type 0 where
  pub on : (client : ℕ) → is_watched clients client ≡ is_on client
  pub there : (client : ℕ) → is_on client ≡ true → has s.clients client ≡ true
  pub knows : (client fd : ℕ) → is_on client ≡ true → known client fd ≡ paths_opened clients client fd
  pub rooted : (client fd : ℕ) (inodes : List ℕ) → known client fd ≡ Some inodes → StartsAtRoot inodes

-- what the entry opens, if anything
abbrev pub Opens : State → Entry → Option Opened → Type 0
Opens s e None = (client fd : ℕ) → opens client fd e ≡ false
Opens s e (Some opened) =
    ((client fd : ℕ) → opens client fd e ≡ ((e.client == client) && (opened.descriptor == fd)))
    × (opened.inodes.items ≡ ancestors s (first_path e.call))
