-- The least change of a client's layers that would allow a call. own
use Rattle.std.specs.Prelude.{◌≡◌, ◌≢◌, ℕ, ◌+◌, ◌-◌, ◌<◌, ◌≤◌, Bool, true, not, ◌&&◌, ◌||◌, List, [], ◌∷◌, length, ◌==◌}
use Rattle.std.specs.Prelude.{Option, Some, None, bit_or, if◌then◌else◌, slice_index}
use Rattle.std.specs.declared.alloc.Global.{Global}
use Rattle.std.specs.declared.vec.Vec.{Vec}
use Rattle.std.specs.List.{AllZip}
use Rattle.ll_rights.specs.declared.kind.Kind.{Kind}
use Rattle.ll_rights.specs.Access.{holds, is_within, known_set}
use Rattle.ll_rights.specs.Right.{refer}
use Rattle.ll_rules.specs.Layer.{Layer}
use Rattle.ll_rules.specs.Rules.{rule_refusals, with_rule}
use Rattle.ll_decide.specs.declared.demands.On.{On}
use Rattle.ll_decide.specs.declared.demands.On.TheVariants.{Itself, Other, Parent, Left, Entered}
use Rattle.ll_seq.specs.Asked.{call_denials}
use Rattle.ll_seq.specs.declared.call.Call.{Call}
use Rattle.ll_seq.specs.declared.client.ClientRecord.{ClientRecord}
use Rattle.ll_seq.specs.State.{State, kind_of}
use Rattle.ll_why.specs.Reasons.{chain_of}
use Rattle.ll_why.specs.declared.asks.Asks.{Asks}
use Rattle.ll_why.specs.declared.change.LayerChange.{LayerChange}
use Rattle.ll_why.specs.declared.grants.Ruled.{Ruled}

-- what is added to the rule on the node or directory that this `On` means
abbrev pub rule_on : LayerChange → On → Ruled
rule_on change Itself = change.itself
rule_on change Other = change.other
rule_on change Parent = change.parent
rule_on change Left = change.parent
rule_on change Entered = change.entered

abbrev pub is_added : LayerChange → ℕ → Bool
is_added change right =
    holds change.itself.rights.0 right || holds change.other.rights.0 right || holds change.entered.rights.0 right
    || holds change.parent.rights.0 right

-- the layer with these rights added for the inode, if there are any
abbrev pub with_more : Layer → Ruled → Layer
with_more layer rule = if rule.rights.0 == 0 then layer else with_rule layer rule.inode rule.rights.0

-- the layer after the change
abbrev pub changed : Layer → LayerChange → Layer
changed layer change = record
    (with_more (with_more (with_more (with_more layer change.itself) change.other) change.entered) change.parent)
    { handled = bit_or layer.handled change.handled.0 }

-- the domain after the changes
abbrev pub all_changed : List Layer → List LayerChange → List Layer
all_changed [] changes = []
all_changed (layer ∷ layers) [] = layer ∷ layers
all_changed (layer ∷ layers) (change ∷ changes) = changed layer change ∷ all_changed layers changes

-- the last inode of a path
abbrev pub end_of : List ℕ → ℕ
end_of inodes = slice_index inodes (length inodes - 1)

-- The level knows the rights. If there are any, a ruleset that handles what the layer does accepts a rule with them on
-- a node of this kind
pub record TakesRule (level : ℕ) (layer : Layer) (kind : Kind) (rights : ℕ) : Type 0 where
  pub known : is_within rights (known_set level) ≡ true
  pub taken : rights ≢ 0 → rule_refusals layer kind rights ≡ []

-- without a node there is no rule
abbrev pub Takes : ℕ → Layer → Option Kind → ℕ → Type 0
Takes level layer None rights = rights ≡ 0
Takes level layer (Some kind) rights = TakesRule level layer kind rights

-- Rights are added at the ends of the call's paths and of their directories' paths. Only refer may be handled in
-- addition, if a rule is to have it and the layer doesn't handle it. A tree of this level accepts all this
pub record IsChange (level : ℕ) (s : State) (asks : Asks) (layer : Layer) (change : LayerChange) : Type 0 where
  pub ends : (on : On) → (rule_on change on).inode ≡ end_of (chain_of asks on)
  pub handled : (right : ℕ) → right < 15 → holds change.handled.0 right
      ≡ (((right == refer) && is_added change right) && not (holds layer.handled right))
  pub known : is_within change.handled.0 (known_set level) ≡ true
  pub taken : (on : On)
      → Takes level (changed layer change) (kind_of s (rule_on change on).inode) (rule_on change on).rights.0

abbrev pub AreChanges : ℕ → State → Asks → List Layer → List LayerChange → Type 0
AreChanges level s asks domain changes = AllZip (λ change layer. IsChange level s asks layer change) changes domain

-- policy allows the call after these changes of the client's layers
abbrev pub IsAllowed : State → ClientRecord → Call → List LayerChange → Type 0
IsAllowed s c call changes = call_denials s (record c { domain = all_changed c.domain changes }) call ≡ []

abbrev pub worth : Bool → ℕ → ℕ
worth test n = if test then n else 0

-- Where a right is added, as a number. A wider place weighs more: the first path's node, the second path's node, the
-- second path's directory, the first path's directory. Each weighs more than all before it
abbrev pub width : LayerChange → ℕ → ℕ
width change right =
    worth (holds change.itself.rights.0 right) 1 + worth (holds change.other.rights.0 right) 2
    + worth (holds change.entered.rights.0 right) 4 + worth (holds change.parent.rights.0 right) 8

-- each right that the one adds, the other adds too, at the same place
abbrev pub IsWithin : LayerChange → LayerChange → Type 0
IsWithin one other = (on : On) (right : ℕ) → right < 15 → holds (rule_on one on).rights.0 right ≡ true
    → holds (rule_on other on).rights.0 right ≡ true

-- The changes allow the call. Of all changes that do, these add each right at the narrowest places. No changes with
-- only some of these rights allow it
pub record AreLeast (level : ℕ) (s : State) (c : ClientRecord) (call : Call) (asks : Asks) (changes : List LayerChange)
    : Type 0 where
  pub are : AreChanges level s asks c.domain changes
  pub allowed : IsAllowed s c call changes
  pub narrowest : (others : List LayerChange) → AreChanges level s asks c.domain others → IsAllowed s c call others
      → AllZip (λ one other. (right : ℕ) → right < 15 → width one right ≤ width other right) changes others
  pub needed : (others : List LayerChange) → AreChanges level s asks c.domain others → IsAllowed s c call others
      → AllZip IsWithin others changes → AllZip IsWithin changes others

-- no changes allow the call
abbrev pub NoneAllows : ℕ → State → ClientRecord → Call → Asks → Type 0
NoneAllows level s c call asks =
    (others : List LayerChange) → AreChanges level s asks c.domain others → IsAllowed s c call others → ⊥

-- the least changes, if any changes allow the call
abbrev pub IsLeastFound : ℕ → State → ClientRecord → Call → Asks → Option (Vec LayerChange Global) → Type 0
IsLeastFound level s c call asks None = NoneAllows level s c call asks
IsLeastFound level s c call asks (Some changes) = AreLeast level s c call asks changes.items
