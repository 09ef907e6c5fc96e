-- Where nodes are in a tree, which rights rules on them may have, and which layers a policy can spell there. own
use Rattle.std.specs.Prelude.{◌≡◌, ◌<◌, ◌≤◌, ◌==◌, ◌∷◌, [], ◌++◌, ℕ, Bool, List, Some, true, All, IsTrue, bit_and}
use Rattle.std.specs.Prelude.{slice_get, if◌then◌else◌}
use Rattle.std.specs.List.{count_by}
use Rattle.ll_rights.specs.Access.{holds}
use Rattle.ll_path.specs.Path.{Path}
use Rattle.ll_path.specs.Target.{IsTarget}
use Rattle.ll_path.specs.Word.{IsWord}
use Rattle.ll_path.specs.declared.target.Target.TheVariants.{Good}
use Rattle.ll_rules.specs.Layer.{Layer, has_rule}
use Rattle.ll_seq.specs.CallParts.{is_relevant}
use Rattle.ll_seq.specs.History.{IsLegal, state_after}
use Rattle.ll_seq.specs.State.{Name, State, child, kind_of, root, start}
use Rattle.ll_seq.specs.Tree.{named}
use Rattle.ll_seq.specs.declared.reply.Entry.{Entry}
use Rattle.ll_seq.specs.declared.rules.Rules.{Rules}
use Rattle.ll_why.specs.Rights.{meant}
use Rattle.ll_learn.specs.declared.site.Site.{Site}
use Rattle.ll_learn.specs.declared.site.Sites.{Sites}

-- a legal history led there
pub record IsReached (s : State) : Type 0 where
  pub rules : Rules
  pub room : ℕ
  pub early : List Entry
  pub legal : IsLegal (start rules room) early
  pub leads : s ≡ state_after (start rules room) early

-- some word spells the path
abbrev pub IsSpelt : Path → Type 0
IsSpelt path = (text : List ℕ) × IsWord text × IsTarget text (Good path)

-- a path that some word spells leads to the inode
abbrev pub HasSpeltName : State → ℕ → Type 0
HasSpeltName s inode = (path : Path) × IsSpelt path × (named s path ≡ Some inode)

-- which of these rights a rule on the inode may have: those that apply to its kind. The root is a directory
abbrev pub may_grant : State → ℕ → ℕ → ℕ
may_grant s all inode = if inode == root then all else bit_and all (meant (kind_of s inode))

-- its path, which some word spells, leads to it, and a rule on it may have these rights
pub record IsSite (s : State) (all : ℕ) (site : Site) : Type 0 where
  pub spelt : IsSpelt site.path
  pub named : named s site.path ≡ Some site.inode
  pub may : site.may.0 ≡ may_grant s all site.inode

-- the site is in the list
abbrev pub IsAmong : Sites → Site → Type 0
IsAmong sites site = (index : ℕ) × (slice_get sites.rows.items index ≡ Some site)

-- the list has a site of this inode
abbrev pub HasSite : Sites → ℕ → Type 0
HasSite sites inode = (site : Site) × IsAmong sites site × (site.inode ≡ inode)

-- the list has the root, and a rule on it may have all these rights
abbrev pub HasTop : ℕ → Sites → Type 0
HasTop all sites = (site : Site) × IsAmong sites site × (site.inode ≡ root) × (site.may.0 ≡ all)

-- the site is of this inode
abbrev pub is_of : ℕ → Site → Bool
is_of inode site = site.inode == inode

-- the list has only sites of this tree, each once, and the root
pub record AreSites (s : State) (all : ℕ) (sites : Sites) : Type 0 where
  pub each : All (IsSite s all) sites.rows.items
  pub top : HasTop all sites
  pub once : (inode : ℕ) → count_by (is_of inode) sites.rows.items ≤ 1

-- the list has each node that a spelt path leads to
abbrev pub AreAll : State → Sites → Type 0
AreAll s sites = (inode : ℕ) → HasSpeltName s inode → HasSite sites inode

-- The layers that a policy can spell at this tree and that handle these rights. Each rule is on a node that a spelt
-- path leads to, and has only rights that are held and apply to it
pub record IsLayerOf (s : State) (handled held : ℕ) (layer : Layer) : Type 0 where
  pub handles : layer.handled ≡ handled
  pub rules : (inode right : ℕ) → right < 15 → has_rule layer right inode ≡ true
      → HasSpeltName s inode × (holds held right ≡ true) × IsTrue (is_relevant (kind_of s inode) right)

-- ---- While they are gathered

-- sites were appended
abbrev pub IsLonger : Sites → Sites → Type 0
IsLonger old new = (more : List Site) × (new.rows.items ≡ old.rows.items ++ more)

-- the list has each node directly below the site that a spelt path leads to
abbrev pub HasBelow : State → Sites → Site → Type 0
HasBelow s sites site = (name : Name) (inode : ℕ) → IsSpelt (site.path ++ name ∷ [])
    → child s site.inode name ≡ Some inode → HasSite sites inode

-- that holds for each site before this index
abbrev pub HaveBelow : State → Sites → ℕ → Type 0
HaveBelow s sites index =
    (i : ℕ) → i < index → (site : Site) → slice_get sites.rows.items i ≡ Some site → HasBelow s sites site
