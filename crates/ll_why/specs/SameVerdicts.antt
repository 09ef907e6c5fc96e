-- What it means for calls that nothing differs. own
use Rattle.std.specs.Prelude.{◌≡◌, ℕ, ◌<◌, Bool, true, false, List, length, Some, slice_get}
use Rattle.std.specs.List.{AllByRecursion}
use Rattle.ll_rights.specs.declared.kind.Kind.{Kind}
use Rattle.ll_rights.specs.declared.kind.Kind.TheVariants.{Dir}
use Rattle.ll_rights.specs.Access.{holds}
use Rattle.ll_rights.specs.Kind.{relevant}
use Rattle.ll_rights.specs.Map.{len}
use Rattle.ll_path.specs.Path.{Path}
use Rattle.ll_rules.specs.Layer.{Layer, has_rule}
use Rattle.ll_seq.specs.declared.client.ClientRecord.{ClientRecord}
use Rattle.ll_seq.specs.declared.call.Call.{Call}
use Rattle.ll_seq.specs.declared.call.Call.TheVariants.{Allow}
use Rattle.ll_seq.specs.State.{State, kind_of, root}
use Rattle.ll_seq.specs.Step.{client_of, step}
use Rattle.ll_seq.specs.Tree.{named}
use Rattle.ll_why.specs.Difference.{AreDifferences}
use Rattle.ll_why.specs.declared.difference.DifferenceStyle.{DifferenceStyle}

-- a tree as each is: the root is a directory, and whatever has a name is a node
pub record IsTree (s : State) : Type 0 where
  pub root : kind_of s root ≡ Some Dir
  pub nodes : (path : Path) (inode : ℕ) → named s path ≡ Some inode → (kind : Kind) × (kind_of s inode ≡ Some kind)

-- the layer's rules have only rights that apply to their nodes, since a tree refuses others
abbrev pub IsFit : State → Layer → Type 0
IsFit s layer = (inode right : ℕ) (kind : Kind) → right < 15 → kind_of s inode ≡ Some kind
    → has_rule layer right inode ≡ true → holds (relevant kind) right ≡ true

-- these are all paths of the tree
abbrev pub AreAllPaths : State → List Path → Type 0
AreAllPaths s paths =
    (path : Path) (inode : ℕ) → named s path ≡ Some inode → (place : ℕ) × (slice_get paths place ≡ Some path)

-- The trees are the same, but for their clients, who are as many. A client of each: they have the same descriptors, and
-- as many rulesets
pub record AreTwinTrees (s t : State) (c d : ClientRecord) : Type 0 where
  pub tree : IsTree s
  pub same : t ≡ record s { clients = t.clients }
  pub count : len t.clients ≡ len s.clients
  pub descriptors : d.descriptors ≡ c.descriptors
  pub rulesets : length d.rulesets ≡ length c.rulesets
  pub old_fit : AllByRecursion (IsFit s) c.domain
  pub new_fit : AllByRecursion (IsFit s) d.domain

-- the call adds a rule to a ruleset
abbrev pub adds_rule : Call → Bool
adds_rule (Allow number target rights) = true
adds_rule call = false

-- If nothing differs on all paths of a tree, each call gets the same reply under the old layers and the new ones: the
-- same refusal, the same denial with the same layer, or the same answer. A rule is refused by what its ruleset handles,
-- so there the rulesets are to be the same. One call is meant: a rule goes with its node, so layers that grant the same
-- may differ behind a rename or a link
abbrev pub SameVerdicts : Type 0
SameVerdicts = (s t : State) (old new : ℕ) → AreTwinTrees s t (client_of s old) (client_of t new)
    → (style : DifferenceStyle) (paths : List Path) (text : List ℕ) → AreAllPaths s paths
    → AreDifferences (s, (client_of s old).domain) (t, (client_of t new).domain) style paths false text
    → (call : Call) (fresh : ℕ)
    → (adds_rule call ≡ true → (client_of t new).rulesets ≡ (client_of s old).rulesets)
    → (step t new call fresh).0 ≡ (step s old call fresh).0
