-- The rules of learned profiles, and which layers they spell. own
use Rattle.std.specs.Prelude.{◌≡◌, ◌⊎◌, ◌<◌, ◌≤◌, ◌^◌, ◌==◌, ◌&&◌, ◌↔◌, ℕ, Bool, true, List, [], None, Some, All}
use Rattle.std.specs.Prelude.{IsTrue}
use Rattle.std.specs.List.{count_by, list_any}
use Rattle.ll_rights.specs.declared.access.Access.{Access}
use Rattle.ll_rights.specs.Access.{holds}
use Rattle.ll_rules.specs.Layer.{Layer, has_rule}
use Rattle.ll_seq.specs.State.{State}
use Rattle.ll_seq.specs.Tree.{named}
use Rattle.ll_learn.specs.declared.draft.Draft.{Draft}
use Rattle.ll_learn.specs.declared.draft.Need.{Need}
use Rattle.ll_learn.specs.declared.draft.Need.TheVariants.{Asks, Moves}
use Rattle.ll_learn.specs.declared.draft.Scope.{Scope}
use Rattle.ll_learn.specs.declared.needs.Needs.{Needs}
use Rattle.ll_learn.specs.declared.needs.Origin.{Origin}
use Rattle.ll_learn.specs.declared.site.Site.{Site}
use Rattle.ll_learn.specs.declared.site.Sites.{Sites}
use Rattle.ll_learn.specs.declared.site_chains.SiteChains.{SiteChains}
use Rattle.ll_learn.specs.declared.profile.LearnedProfile.{LearnedProfile}
use Rattle.ll_learn.specs.declared.profile.LearnedRule.{LearnedRule}
use Rattle.ll_learn.specs.Draft.{IsCharged, IsNeed, has, may_have, right_at, without}
use Rattle.ll_learn.specs.Mended.{AreDerived, AreSiteChains, IsStill, KnowEach}
use Rattle.ll_learn.specs.Sites.{IsAmong, IsSpelt}

-- ---- Rules on nodes

-- the rule is on this node, and has the right
abbrev pub gives : ℕ → ℕ → LearnedRule → Bool
gives inode right rule = (rule.inode == inode) && holds rule.rights.0 right

-- the rules have the same rights as the draft's
abbrev pub AreRulesOf : Draft → List LearnedRule → Type 0
AreRulesOf draft rules =
    (inode right : ℕ) → right < 15 → list_any (gives inode right) rules ≡ has draft right inode

-- Each rule has a right, and no unknown one. Its path, which some word spells, leads to the node that it is on
abbrev pub AreNamed : State → List LearnedRule → Type 0
AreNamed s rules = All (λ (rule : LearnedRule). (1 ≤ rule.rights.0) × (rule.rights.0 < 2 ^ 15)
    × IsSpelt rule.path × (named s rule.path ≡ Some rule.inode)) rules

-- the rule is on this node
abbrev pub is_on : ℕ → LearnedRule → Bool
is_on inode rule = rule.inode == inode

-- no two rules are on one node
abbrev pub AreOnce : List LearnedRule → Type 0
AreOnce rules = (inode : ℕ) → count_by (is_on inode) rules ≤ 1

-- the profile spells this layer
pub record IsOfProfile (profile : LearnedProfile) (layer : Layer) : Type 0 where
  pub handled : layer.handled ≡ profile.handled.0
  pub rules : (inode right : ℕ) → right < 15
      → has_rule layer right inode ≡ list_any (gives inode right) profile.rules.items

-- one of these nodes is this inode, and a rule on it may have the right
abbrev pub CanHold : Sites → ℕ → ℕ → Type 0
CanHold sites inode right =
    (site : Site) × IsAmong sites site × (site.inode ≡ inode) × (holds site.may.0 right ≡ true)

-- the sets, one for each inode, have exactly the rights that are held and that rules on these nodes may have
abbrev pub AreOfSites : Sites → (held : ℕ) → List Access → Type 0
AreOfSites sites held may = (inode right : ℕ) → right < 15
    → IsTrue (right_at may right inode) ↔ ((holds held right ≡ true) × CanHold sites inode right)

-- what rules of the scope may have is handled, and rules on these nodes may have it
abbrev pub IsOfSites : Sites → Scope → Type 0
IsOfSites sites scope = (inode right : ℕ) → right < 15 → may_have scope right inode ≡ true
    → (holds scope.handled.0 right ≡ true) × CanHold sites inode right

-- ---- Why the rules are there

abbrev pub origin_of : Need → Origin
origin_of (Asks origin) = origin
origin_of (Moves origin) = origin

-- without one right of the rule on the inode, an ask or a move of this entry isn't met
abbrev pub IsNeededBy : Draft → Needs → ℕ → Origin → Type 0
IsNeededBy draft needs inode origin = (right : ℕ) × (need : Need)
    × IsNeed (without inode (has draft right)) right needs.asks.items needs.moves.items need
    × (origin_of need ≡ origin)

-- ---- Which profiles are called least

-- Nobody else moves or names a node. And each right of a rule is asked on a path where no rule further down may have
-- it; or nothing is widened, and no directory that nodes move into has moved
abbrev pub IsCalledLeast : State → Scope → Needs → Draft → Type 0
IsCalledLeast s scope needs draft =
    (needs.outside ≡ None)
    × (IsCharged scope needs draft ⊎ ((scope.beneath.items ≡ []) × IsStill s needs scope))

-- The profile has the rules of a draft, each right of which is asked or mended. It is called least if that draft is
pub record IsOfDraft (chains : SiteChains) (scope : Scope) (needs : Needs) (profile : LearnedProfile) : Type 0 where
  pub draft : Draft
  pub rules : AreRulesOf draft profile.rules.items
  pub derived : AreDerived scope needs draft
  pub called : (s : State) → AreSiteChains s chains → KnowEach s scope chains
      → IsTrue profile.is_least ↔ IsCalledLeast s scope needs draft
