-- What clients have opened, as lists. Cited by contracts between functions of the crate. own
use Rattle.std.specs.Prelude.{◌≡◌, ℕ, zero, suc, ◌==◌, ◌&&◌, ◌||◌, Bool, true, false, List, [], ◌∷◌, Option, Some}
use Rattle.std.specs.Prelude.{is_some, find, option_map, option_and_then, if◌then◌else◌}
use Rattle.ll_learn.specs.declared.watch.Opened.{Opened}
use Rattle.ll_learn.specs.declared.watch.Watched.{Watched}

-- the place of the first that passes the test
abbrev pub IsAt : {A : Type 0} → (A → Bool) → List A → ℕ → Type 0
IsAt test [] place = ⊥
IsAt test (x ∷ xs) zero = test x ≡ true
IsAt test (x ∷ xs) (suc place) = (test x ≡ false) × IsAt test xs place

abbrev pub is_descriptor : ℕ → Opened → Bool
is_descriptor fd o = o.descriptor == fd

abbrev pub is_client_of : ℕ → Watched → Bool
is_client_of client w = w.client == client

-- the inodes of the path by which the descriptor was opened
abbrev pub path_opened : List Opened → ℕ → Option (List ℕ)
path_opened opened fd =
    option_map (λ (o : Opened). o.inodes.items) (find (is_descriptor fd) opened)

abbrev pub watched_as : List Watched → ℕ → Option Watched
watched_as clients client = find (is_client_of client) clients

abbrev pub is_watched : List Watched → ℕ → Bool
is_watched clients client = is_some (watched_as clients client)

-- the path by which each of them opened each descriptor, if known
abbrev pub paths_opened : List Watched → ℕ → ℕ → Option (List ℕ)
paths_opened clients client fd =
    option_and_then (λ (w : Watched). path_opened w.opened.items fd) (watched_as clients client)

-- with one more opening, if the client is watched
abbrev pub with_opening : List Watched → ℕ → ℕ → List ℕ → ℕ → ℕ → Option (List ℕ)
with_opening clients client fd inodes other number =
    if (is_watched clients client && (client == other)) && (fd == number) then Some inodes
    else paths_opened clients other number

-- with one more client, which has what the other has
pub record Joins (old new : List Watched) (parent child : ℕ) : Type 0 where
  pub on : (other : ℕ) → is_watched new other ≡ (is_watched old other || (child == other))
  pub paths : (other fd : ℕ)
      → paths_opened new other fd ≡ paths_opened old (if child == other then parent else other) fd
