-- Which paths the needs have. own
use Rattle.std.specs.Prelude.{◌≡◌, ◌⊎◌, ℕ, true, List, All, Contains, Option, Some}
use Rattle.ll_path.specs.Path.{Path}
use Rattle.ll_seq.specs.declared.reply.Entry.{Entry}
use Rattle.ll_seq.specs.State.{State}
use Rattle.ll_seq.specs.Tree.{ancestors}
use Rattle.ll_learn.specs.declared.needs.Asked.{Asked}
use Rattle.ll_learn.specs.declared.needs.Moved.{Moved}
use Rattle.ll_learn.specs.declared.needs.Needs.{Needs}
use Rattle.ll_learn.specs.declared.watch.Watched.{Watched}
use Rattle.ll_learn.specs.Bound.{WereThere}
use Rattle.ll_learn.specs.Watched.{is_watched, paths_opened}

-- each ask is an old one, or its path has this property
abbrev pub AsksMore : (List ℕ → Type 0) → (old new : Needs) → Type 0
AsksMore IsSo old new = All (λ (a : Asked). Contains old.asks.items a ⊎ IsSo a.inodes.items) new.asks.items

-- each move is an old one, or its node's own path has this property
abbrev pub MovesMore : (List ℕ → Type 0) → (old new : Needs) → Type 0
MovesMore IsSo old new = All (λ (m : Moved). Contains old.moves.items m ⊎ IsSo m.from.items) new.moves.items

-- each ask is an old one, or its path existed
abbrev pub ComeFrom : State → List Entry → (old new : Needs) → Type 0
ComeFrom s es = AsksMore (WereThere s es)

-- these are the inodes of a path in the tree
abbrev pub IsOfPath : State → List ℕ → Type 0
IsOfPath s inodes = (path : Path) × (inodes ≡ ancestors s path)

-- these are the inodes of a path in the tree, or of one by which the watched client opened something
abbrev pub IsAskedOn : State → List Watched → ℕ → List ℕ → Type 0
IsAskedOn s clients client inodes =
    IsOfPath s inodes
    ⊎ ((is_watched clients client ≡ true) × ((fd : ℕ) × (paths_opened clients client fd ≡ Some inodes)))

-- these are the inodes of a path in the tree, or of one by which the client is known to have opened something
abbrev pub IsAskedIn : State → (ℕ → ℕ → Option (List ℕ)) → ℕ → List ℕ → Type 0
IsAskedIn s known client inodes =
    IsOfPath s inodes ⊎ ((fd : ℕ) × (known client fd ≡ Some inodes))
