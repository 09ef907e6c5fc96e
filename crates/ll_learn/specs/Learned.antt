-- What is learned from histories. own
use Rattle.std.specs.Prelude.{⊤, ◌≡◌, ◌⊎◌, ◌<◌, ◌≤◌, ◌+◌, ◌-◌, ℕ, ◌==◌, ◌&&◌, Bool, true, false, not, List, [], map}
use Rattle.std.specs.Prelude.{◌↔◌, Some, None, All, Contains, IsTrue, drop, length, slice_get, take}
use Rattle.std.specs.List.{list_any}
use Rattle.ll_rights.specs.Access.{holds}
use Rattle.ll_rules.specs.Layer.{Layer}
use Rattle.ll_path.specs.Path.{Path}
use Rattle.ll_seq.specs.declared.reply.Entry.{Entry}
use Rattle.ll_seq.specs.History.{IsLegal, is_connect, state_after}
use Rattle.ll_seq.specs.State.{State}
use Rattle.ll_seq.specs.Tree.{named}
use Rattle.ll_audit.specs.Audit.{IsFirstIllegal}
use Rattle.ll_learn.specs.declared.fault.Unlearned.{Unlearned}
use Rattle.ll_learn.specs.declared.fault.Unlearned.TheVariants as fault
use Rattle.ll_learn.specs.declared.draft.Draft.{Draft}
use Rattle.ll_learn.specs.declared.draft.Scope.{Scope}
use Rattle.ll_learn.specs.declared.learned.Aim.{Aim}
use Rattle.ll_learn.specs.declared.needs.Needs.{Needs}
use Rattle.ll_learn.specs.declared.profile.LearnedProfile.{LearnedProfile}
use Rattle.ll_learn.specs.Bound.{Part, PassesEach, ReachesNoMore}
use Rattle.ll_learn.specs.Draft.{IsInScope}
use Rattle.ll_learn.specs.Enforcement.{FitsRuleset, IsEnforced}
use Rattle.ll_learn.specs.Faults.{IsFirstDenied, IsFirstFull}
use Rattle.ll_learn.specs.Gathered.{AreNeedsOfAll}
use Rattle.ll_learn.specs.Least.{AreNeeded}
use Rattle.ll_learn.specs.Lesson.{AreNamed, AreOnce, AreRulesOf, IsCalledLeast, IsOfProfile, gives}
use Rattle.ll_learn.specs.Mended.{AreDerived}
use Rattle.ll_learn.specs.PassedCalls.{IsLearnable}
use Rattle.ll_learn.specs.Sites.{IsLayerOf}

-- ---- Where histories are cut

-- the client connects
abbrev pub connects_as : ℕ → Entry → Bool
connects_as client e = (e.client == client) && is_connect e.call

abbrev pub NeverConnects : List Entry → ℕ → Type 0
NeverConnects es client = list_any (connects_as client) es ≡ false

-- this many entries end with the client's first connect
pub record IsCut (es : List Entry) (client cut : ℕ) : Type 0 where
  pub some : 1 ≤ cut
  pub last : Entry
  pub is : slice_get es (cut - 1) ≡ Some last
  pub connects : connects_as client last ≡ true
  pub first : NeverConnects (take (cut - 1) es) client

-- the history begins with these entries, up to the cut
pub record BeginsSo (early : List Entry) (client : ℕ) (es : List Entry) : Type 0 where
  pub cut : IsCut es client (length early)
  pub alike : take (length early) es ≡ early

-- the part after the cut, with the tree's state there
abbrev pub part_behind : State → ℕ → ℕ → List Entry → Part
part_behind s client cut es = record { cut = s; client = client; entries = drop cut es }

-- all histories begin with the same legal entries up to the cut; the parts after it
pub record AreCut (s : State) (client : ℕ) (histories : List (List Entry)) (early : List Entry) (parts : List Part)
    : Type 0 where
  pub legal : IsLegal s early
  pub begin : All (BeginsSo early client) histories
  pub are : parts ≡ map (part_behind (state_after s early) client (length early)) histories

-- ---- What is learned

-- rules within the aim may have the right
abbrev pub may_hold : Aim → ℕ → Bool
may_hold aim right = holds aim.handled.0 right && not (holds aim.never.0 right)

-- the layers within the aim that a policy can spell at this tree
abbrev pub IsWithinAim : State → Aim → Layer → Type 0
IsWithinAim s aim layer = (held : ℕ) → ((right : ℕ) → right < 15 → holds held right ≡ may_hold aim right) →
    IsLayerOf s aim.handled.0 held layer

-- When a profile is called least. The needs are those of the parts, the draft has the profile's rules, each right of
-- which is asked or mended, and the scope's layers are those within the aim
pub record IsCalled (s : State) (parts : List Part) (aim : Aim) (profile : LearnedProfile) : Type 0 where
  pub needs : Needs
  pub scope : Scope
  pub draft : Draft
  pub of : AreNeedsOfAll parts needs
  pub within : (layer : Layer) → IsInScope scope layer ↔ IsWithinAim s aim layer
  pub beneath : map Some scope.beneath.items ≡ map (named s) aim.beneath.now
  pub rules : AreRulesOf draft profile.rules.items
  pub derived : AreDerived scope needs draft
  pub called : IsTrue profile.is_least ↔ IsCalledLeast s scope needs draft

-- Each part passes under the profile's layer. Without any one right of any one of its rules, some part doesn't. If the
-- profile is least, no layer within the aim under which each part passes reaches less at the cut. called: when it is.
-- enforced: if a ruleset takes so much, the profile's calls are accepted, and give the client this layer
pub record IsLearnedAt (s : State) (parts : List Part) (aim : Aim) (profile : LearnedProfile) : Type 0 where
  pub learnable : (part : Part) → Contains parts part → IsLearnable part.cut part.client part.entries
  pub handled : profile.handled ≡ aim.handled
  pub held : (inode right : ℕ) → right < 15 → list_any (gives inode right) profile.rules.items ≡ true
      → may_hold aim right ≡ true
  pub named : AreNamed s profile.rules.items
  pub once : AreOnce profile.rules.items
  pub within : (layer : Layer) → IsOfProfile profile layer → IsWithinAim s aim layer
  pub passes : (layer : Layer) → IsOfProfile profile layer → PassesEach parts layer
  pub needed : (layer : Layer) → IsOfProfile profile layer → AreNeeded (PassesEach parts) layer
  pub least : profile.is_least ≡ true → (least : Layer) → IsOfProfile profile least
      → (layer : Layer) → IsWithinAim s aim layer → PassesEach parts layer → ReachesNoMore s least layer
  pub called : IsCalled s parts aim profile
  pub enforced : FitsRuleset s profile → IsEnforced s aim.client profile

-- after the client's connect, in a tree that began in this state
pub record IsLearned (s : State) (histories : List (List Entry)) (aim : Aim) (profile : LearnedProfile) : Type 0 where
  pub early : List Entry
  pub parts : List Part
  pub some : 1 ≤ length histories
  pub cut : AreCut s aim.client histories early parts
  pub learned : IsLearnedAt (state_after s early) parts aim profile

-- ---- Why nothing is learned

-- the first history has these entries up to the cut
pub record IsOpening (histories : List (List Entry)) (client : ℕ) (early : List Entry) : Type 0 where
  pub first : List Entry
  pub is : slice_get histories 0 ≡ Some first
  pub begins : BeginsSo early client first

abbrev pub IsUnlike : List Entry → ℕ → List Entry → Type 0
IsUnlike early client es = (cut : ℕ) × IsCut es client cut × (take cut es ≡ early → ⊥)

-- After the cut, up to which everything is legal, this holds of the entry with this number, counted from the start
pub record IsBehind (Is : State → ℕ → List Entry → ℕ → Type 0) (s : State) (early : List Entry) (client : ℕ)
    (es : List Entry) (number : ℕ) : Type 0 where
  pub begins : BeginsSo early client es
  pub legal : IsLegal s early
  pub behind : ℕ
  pub counted : number ≡ length early + behind
  pub is : Is (state_after s early) client (drop (length early) es) behind

-- this holds of the history with this number, if the first begins with these entries
pub record IsOfOne (histories : List (List Entry)) (client number : ℕ) (Is : (early es : List Entry) → Type 0)
    : Type 0 where
  pub early : List Entry
  pub es : List Entry
  pub opening : IsOpening histories client early
  pub is : slice_get histories number ≡ Some es
  pub so : Is early es

-- under no layer within the aim do all parts pass
pub record IsUnmetBy (s : State) (histories : List (List Entry)) (aim : Aim) : Type 0 where
  pub early : List Entry
  pub parts : List Part
  pub cut : AreCut s aim.client histories early parts
  pub opening : IsOpening histories aim.client early
  pub none : (layer : Layer) → IsWithinAim (state_after s early) aim layer → PassesEach parts layer → ⊥

-- at the cut, the path with this index, from 0, leads to no node
pub record NamesNone (s : State) (aim : Aim) (index : ℕ) : Type 0 where
  pub path : Path
  pub is : slice_get aim.beneath.now index ≡ Some path
  pub none : named s path ≡ None

abbrev pub IsUnlearned : State → List (List Entry) → Aim → Unlearned → Type 0
IsUnlearned s hs aim (fault.NoClient n) =
    ((hs ≡ []) × (n ≡ 0)) ⊎ ((es : List Entry) × (slice_get hs n ≡ Some es) × NeverConnects es aim.client)
IsUnlearned s hs aim (fault.Unlike n) = IsOfOne hs aim.client n (λ early es. IsUnlike early aim.client es)
IsUnlearned s hs aim (fault.Illegal at) =
    (es : List Entry) × (slice_get hs at.history ≡ Some es) × IsFirstIllegal s es at.entry
IsUnlearned s hs aim (fault.Denied at) =
    IsOfOne hs aim.client at.history (λ early es. IsBehind IsFirstDenied s early aim.client es at.entry)
IsUnlearned s hs aim (fault.Full at) =
    IsOfOne hs aim.client at.history (λ early es. IsBehind IsFirstFull s early aim.client es at.entry)
IsUnlearned s hs aim (fault.Unmet at) = IsUnmetBy s hs aim
IsUnlearned s hs aim (fault.NoNode index) =
    (early : List Entry) × IsOpening hs aim.client early × IsLegal s early × NamesNone (state_after s early) aim index
IsUnlearned s hs aim fault.NoMemory = ⊤
