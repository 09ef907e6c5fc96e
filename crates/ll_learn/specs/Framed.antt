-- Where rules may be put at a cut, and the profiles with such rules. Cited by contracts between functions of the crate.
-- own
use Rattle.std.specs.Prelude.{⊤, ◌≡◌, ◌<◌, ℕ, true, Some, map}
use Rattle.std.specs.List.{list_any}
use Rattle.ll_rights.specs.Access.{holds}
use Rattle.ll_rules.specs.Layer.{Layer, grants_on}
use Rattle.ll_seq.specs.State.{State}
use Rattle.ll_seq.specs.Tree.{named}
use Rattle.ll_learn.specs.declared.draft.Scope.{Scope}
use Rattle.ll_learn.specs.declared.fault.Unlearned.{Unlearned}
use Rattle.ll_learn.specs.declared.fault.Unlearned.TheVariants as fault
use Rattle.ll_learn.specs.declared.learned.Aim.{Aim}
use Rattle.ll_learn.specs.declared.learned.Frame.{Frame}
use Rattle.ll_learn.specs.declared.needs.Needs.{Needs}
use Rattle.ll_learn.specs.declared.profile.LearnedProfile.{LearnedProfile}
use Rattle.ll_learn.specs.declared.site.Sites.{Sites}
use Rattle.ll_learn.specs.declared.site_chains.SiteChains.{SiteChains}
use Rattle.ll_learn.specs.Draft.{IsInScope, IsScope, may_have}
use Rattle.ll_learn.specs.Learned.{NamesNone, may_hold}
use Rattle.ll_learn.specs.Least.{AreNeeded}
use Rattle.ll_learn.specs.Lesson.{AreNamed, AreOfSites, AreOnce, IsOfDraft, IsOfProfile, IsOfSites, gives}
use Rattle.ll_learn.specs.Mended.{AreSiteChains, KnowEach}
use Rattle.ll_learn.specs.Needs.{Meets}
use Rattle.ll_learn.specs.Sites.{AreAll, AreSites, IsReached}

-- the frame's rules may be on each node of this tree that a policy can name, with the rights that the aim allows
pub record IsFrame (s : State) (aim : Aim) (frame : Frame) : Type 0 where
  pub held : ℕ
  pub is_held : (right : ℕ) → right < 15 → holds held right ≡ may_hold aim right
  pub sites : AreSites s held frame.sites
  pub scope : IsScope frame.scope
  pub of : IsOfSites frame.sites frame.scope
  pub handled : frame.scope.handled ≡ aim.handled
  pub all : IsReached s → AreAll s frame.sites
  pub may : AreOfSites frame.sites held frame.scope.may.items
  pub chains : AreSiteChains s frame.chains
  pub known : IsReached s → KnowEach s frame.scope frame.chains
  pub beneath : map Some frame.scope.beneath.items ≡ map (named s) aim.beneath.now

abbrev pub IsUnframed : State → Aim → Unlearned → Type 0
IsUnframed s aim (fault.NoNode index) = NamesNone s aim index
IsUnframed s aim fault.NoMemory = ⊤
IsUnframed s aim other = ⊥

-- The layers of the profile are within the scope and meet the needs, but not without any one right of any one rule. Its
-- rules are on these nodes
pub record MeetsNeeds (sites : Sites) (chains : SiteChains) (scope : Scope) (needs : Needs) (profile : LearnedProfile)
    : Type 0 where
  pub handled : profile.handled ≡ scope.handled
  pub held : (inode right : ℕ) → right < 15 → list_any (gives inode right) profile.rules.items ≡ true
      → may_have scope right inode ≡ true
  pub named : (s : State) (all : ℕ) → AreSites s all sites → AreNamed s profile.rules.items
  pub once : (s : State) (all : ℕ) → AreSites s all sites → AreOnce profile.rules.items
  pub within : (layer : Layer) → IsOfProfile profile layer → IsInScope scope layer
  pub meets : (layer : Layer) → IsOfProfile profile layer → Meets (grants_on layer) needs
  pub needed : (layer : Layer) → IsOfProfile profile layer → AreNeeded (λ less. Meets (grants_on less) needs) layer
  pub drafted : IsOfDraft chains scope needs profile

-- no layer of the scope meets the needs, or memory ran out
abbrev pub IsUnprofiled : Scope → Needs → Unlearned → Type 0
IsUnprofiled scope needs (fault.Unmet at) =
    (layer : Layer) → IsInScope scope layer → Meets (grants_on layer) needs → ⊥
IsUnprofiled scope needs fault.NoMemory = ⊤
IsUnprofiled scope needs other = ⊥
