-- Drafts with rights that are asked or mended are least if no directory that matters has moved. own
use Rattle.std.specs.Prelude.{◌≡◌, ◌≢◌, ◌⊎◌, ◌<◌, ℕ, true, List, [], ◌∷◌, ◌++◌, Some, All, slice_get}
use Rattle.std.specs.Option.{option_map_or}
use Rattle.std.specs.declared.alloc.Global.{Global}
use Rattle.std.specs.declared.vec.Vec.{Vec}
use Rattle.ll_rights.specs.declared.kind.Kind.TheVariants.{Dir}
use Rattle.ll_path.specs.Path.{Path}
use Rattle.ll_rules.specs.Layer.{Layer}
use Rattle.ll_seq.specs.State.{State, kind_of}
use Rattle.ll_seq.specs.Tree.{ancestors, named}
use Rattle.ll_learn.specs.declared.draft.Draft.{Draft}
use Rattle.ll_learn.specs.declared.draft.Scope.{Scope}
use Rattle.ll_learn.specs.declared.needs.Moved.{Moved}
use Rattle.ll_learn.specs.declared.needs.Needs.{Needs}
use Rattle.ll_learn.specs.declared.site.Site.{Site}
use Rattle.ll_learn.specs.declared.site_chains.SiteChains.{SiteChains}
use Rattle.ll_learn.specs.Bound.{BeginAt, Part, PassesEach, ReachesNoMore}
use Rattle.ll_learn.specs.Charges.{AreNeedsOf, IsScopeAt, WereInOne}
use Rattle.ll_learn.specs.Draft.{IsDerived, IsInScope, IsOf, has, may_have}

-- ---- Directories that have not moved

-- a path with these inodes leads to the inode, which is a directory
pub record IsPathTo (s : State) (inode : ℕ) (inodes : List ℕ) : Type 0 where
  pub path : Path
  pub names : named s path ≡ Some inode
  pub chain : ancestors s path ≡ inodes
  pub directory : kind_of s inode ≡ Some Dir

-- wherever rules on these inodes may have rights, the inodes are those of paths
abbrev pub ArePathsTo : State → Scope → List ℕ → Type 0
ArePathsTo s scope inodes = (front behind : List ℕ) (inode right : ℕ) → inodes ≡ front ++ inode ∷ behind →
    right < 15 → may_have scope right inode ≡ true → IsPathTo s inode (front ++ inode ∷ [])

-- On the way to wherever nodes move: each directory whose rule may have a right still has the directories above it that
-- it has in this state
abbrev pub IsStill : State → Needs → Scope → Type 0
IsStill s needs scope = All (λ (m : Moved). ArePathsTo s scope m.into.items) needs.moves.items

-- the inodes of the path to a directory, if it is known
abbrev pub chain_in : List (Vec ℕ Global) → ℕ → List ℕ
chain_in rows inode = option_map_or (λ (row : Vec ℕ Global). row.items) (slice_get rows inode) []

abbrev pub chain_at : SiteChains → ℕ → List ℕ
chain_at chains = chain_in chains.rows.items

-- whatever is known is a path to a directory
abbrev pub AreSiteChains : State → SiteChains → Type 0
AreSiteChains s chains = (inode : ℕ) → (chain_at chains inode ≡ []) ⊎ IsPathTo s inode (chain_at chains inode)

-- a path is known to each directory among these nodes
abbrev pub HasEachOf : State → List Site → SiteChains → Type 0
HasEachOf s sites chains = (index : ℕ) (site : Site) (inode : ℕ) → slice_get sites index ≡ Some site
    → named s site.path ≡ Some inode → kind_of s inode ≡ Some Dir → chain_at chains inode ≢ []

-- the path to each directory on which a rule may have a right is known
abbrev pub KnowEach : State → Scope → SiteChains → Type 0
KnowEach s scope chains = (inode right : ℕ) (inodes : List ℕ) → right < 15 → may_have scope right inode ≡ true
    → IsPathTo s inode inodes → chain_at chains inode ≡ inodes

-- ---- The least of them

-- the own path of each node that moves had these inodes in one of the parts
abbrev pub AreMovesOf : List Part → Needs → Type 0
AreMovesOf parts needs = All (λ (m : Moved). WereInOne parts m.from.items) needs.moves.items

-- each right of a rule is asked or mended
abbrev pub AreDerived : Scope → Needs → Draft → Type 0
AreDerived scope needs draft =
    (inode right : ℕ) → right < 15 → has draft right inode ≡ true → IsDerived scope needs right inode

-- If nothing is widened and directories are still, a layer of such a draft is least. It reaches no more at the cut than
-- any layer of the scope under which all parts pass
abbrev pub MendedIsLeast : Type 0
MendedIsLeast = (s : State) (parts : List Part) → BeginAt s parts → (needs : Needs) → AreNeedsOf parts needs →
    AreMovesOf parts needs → (scope : Scope) → IsScopeAt s scope → scope.beneath.items ≡ [] → IsStill s needs scope →
    (draft : Draft) → AreDerived scope needs draft →
    (least : Layer) → IsOf draft least → IsInScope scope least →
    (layer : Layer) → IsInScope scope layer → PassesEach parts layer → ReachesNoMore s least layer
