-- What each layer that passes reaches at the cut. own
use Rattle.std.specs.Prelude.{◌≡◌, ◌<◌, ⊤, ℕ, Bool, true, false, IsTrue, List, [], ◌∷◌, ◌++◌, Some, Contains}
use Rattle.std.specs.List.{list_any}
use Rattle.ll_rules.specs.Layer.{Layer, grants_on, has_rule, restricts}
use Rattle.ll_rights.specs.Right as right
use Rattle.ll_path.specs.Path.{Path}
use Rattle.ll_decide.specs.Verdict.{Ask}
use Rattle.ll_seq.specs.declared.reply.Entry.{Entry}
use Rattle.ll_seq.specs.declared.reply.Reply.TheVariants.{Done}
use Rattle.ll_seq.specs.declared.rules.Rules.{Rules}
use Rattle.ll_seq.specs.CallParts.{asked, is_relevant}
use Rattle.ll_seq.specs.History.{IsLegal, after, state_after}
use Rattle.ll_seq.specs.Passed.{before_policy}
use Rattle.ll_seq.specs.Reach.{HasName, InReach}
use Rattle.ll_seq.specs.State.{State, kind_of, start}
use Rattle.ll_seq.specs.Step.{client_of}
use Rattle.ll_seq.specs.Tree.{ancestors}
use Rattle.ll_laws.specs.NoGain.{is_move}
use Rattle.ll_why.specs.Reasons.{kept_number}
use Rattle.ll_learn.specs.PassedCalls.{AllowsRun, IsLearnable, Openings, Passes, is_client, joins, none_known}
use Rattle.ll_learn.specs.PassedCalls.{opened_at}

-- each successful move is made by a client that the layer is on
abbrev pub MovesAreTheirs : (ℕ → Bool) → List Entry → Type 0
MovesAreTheirs is_on [] = ⊤
MovesAreTheirs is_on (e ∷ es) =
    (IsTrue (is_move e.call) → e.reply ≡ Done → is_on e.client ≡ true) × MovesAreTheirs (joins is_on e) es

-- ---- Histories that are cut in two

-- the state at the cut, the client that a layer is learned for, and the entries after the cut
pub record Part : Type 0 where
  pub cut : State
  pub client : ℕ
  pub entries : List Entry

-- a legal history led to the cut; after it a layer can be learned, and no other client moves anything
pub record IsPart (part : Part) : Type 0 where
  pub rules : Rules
  pub room : ℕ
  pub early : List Entry
  pub legal : IsLegal (start rules room) early
  pub leads : part.cut ≡ state_after (start rules room) early
  pub learnable : IsLearnable part.cut part.client part.entries
  pub theirs : MovesAreTheirs (is_client part.client) part.entries

-- such parts, each cut where the tree equals this state's
pub record BeginAt (s : State) (parts : List Part) : Type 0 where
  pub are : (part : Part) → Contains parts part → IsPart part
  pub entries : (part : Part) → Contains parts part → part.cut.entries ≡ s.entries
  pub nodes : (part : Part) → Contains parts part → part.cut.nodes ≡ s.nodes

abbrev pub AllowsEach : List Part → Layer → Type 0
AllowsEach parts layer =
    (part : Part) → Contains parts part → AllowsRun part.cut part.client part.entries layer

abbrev pub PassesEach : List Part → Layer → Type 0
PassesEach parts layer = (part : Part) → Contains parts part → Passes part.cut part.client part.entries layer

-- ---- What is required

-- after some of the entries, these are the inodes of a path
pub record WereThere (s : State) (es : List Entry) (inodes : List ℕ) : Type 0 where
  pub early : List Entry
  pub late : List Entry
  pub path : Path
  pub parts : es ≡ early ++ late
  pub are : inodes ≡ ancestors (state_after s early) path

-- each layer that allows the calls grants the right on a path that had these inodes in one of the parts
pub record IsRequired (parts : List Part) (inodes : List ℕ) (right : ℕ) : Type 0 where
  pub part : Part
  pub among : Contains parts part
  pub there : WereThere part.cut part.entries inodes
  pub granted : (layer : Layer) → AllowsEach parts layer → grants_on layer inodes right ≡ true

-- the clients that the layer is on after some entries
abbrev pub joined_all : (ℕ → Bool) → List Entry → ℕ → Bool
joined_all is_on [] = is_on
joined_all is_on (e ∷ es) = joined_all (joins is_on e) es

abbrev pub opened_all : State → Openings → List Entry → Openings
opened_all s known [] = known
opened_all s known (e ∷ es) = opened_all (after s e) (opened_at s known e) es

-- in one of the parts, after these entries, comes an entry of a client that the layer is on; nothing refuses it before
-- policy
pub record ComesTo (parts : List Part) (s : State) (client : ℕ) (early : List Entry) (e : Entry) : Type 0 where
  pub late : List Entry
  pub among : Contains parts (record { cut = s; client = client; entries = early ++ e ∷ late })
  pub theirs : joined_all (is_client client) early e.client ≡ true
  pub free : before_policy (state_after s early) (client_of (state_after s early) e.client) e.call ≡ []

-- each right that it needs is required on the path that it needs it on
abbrev pub AsksAreRequired : Type 0
AsksAreRequired = (parts : List Part) (s : State) (client : ℕ) (early : List Entry) (e : Entry) →
    ComesTo parts s client early e → (a : Ask Path) → Contains (asked (state_after s early) e.call) a → a.right < 15 →
    IsRequired parts (ancestors (state_after s early) a.path) a.right

-- and truncate, if it truncates a descriptor, on the path by which that was opened
abbrev pub TruncateIsRequired : Type 0
TruncateIsRequired = (parts : List Part) (s : State) (client : ℕ) (early : List Entry) (e : Entry) →
    ComesTo parts s client early e → (fd : ℕ) → kept_number e.call ≡ Some fd →
    (inodes : List ℕ) → opened_all s none_known early e.client fd ≡ Some inodes →
    IsRequired parts inodes right.truncate

-- ---- What is required is in reach

-- a rule on the inode can have the right: it has a name, and the right applies to its kind
abbrev pub IsHoldable : State → ℕ → ℕ → Type 0
IsHoldable s inode right = HasName s inode × IsTrue (is_relevant (kind_of s inode) right)

-- What is required on an inode of a path is in reach, at the cut, of each layer that passes and has no rule for it
-- further down the path
abbrev pub NeedIsReached : Type 0
NeedIsReached = (s : State) (parts : List Part) → BeginAt s parts → (layer : Layer) → PassesEach parts layer →
    (front behind : List ℕ) (inode right : ℕ) → IsRequired parts (front ++ inode ∷ behind) right →
    restricts layer right ≡ true → list_any (has_rule layer right) behind ≡ false → IsHoldable s inode right →
    InReach s layer inode right

-- ---- The least layer

-- may: which rights rules may have, on which inodes
abbrev pub IsWithin : (ℕ → ℕ → Bool) → Layer → Type 0
IsWithin may layer = (inode right : ℕ) → right < 15 → has_rule layer right inode ≡ true → may right inode ≡ true

-- the right is required, and the inode is the last of the path whose rule may have it
pub record IsDue (parts : List Part) (may : ℕ → ℕ → Bool) (inode right : ℕ) : Type 0 where
  pub front : List ℕ
  pub behind : List ℕ
  pub required : IsRequired parts (front ++ inode ∷ behind) right
  pub last : list_any (may right) behind ≡ false

-- the layer is within what may be, and each right of its rules is due
pub record AreDue (parts : List Part) (may : ℕ → ℕ → Bool) (layer : Layer) : Type 0 where
  pub within : IsWithin may layer
  pub due : (inode right : ℕ) → right < 15 → has_rule layer right inode ≡ true → IsDue parts may inode right

-- whatever this layer reaches, the other reaches too
abbrev pub ReachesNoMore : State → Layer → Layer → Type 0
ReachesNoMore s least layer = (inode right : ℕ) → InReach s least inode right → InReach s layer inode right

abbrev pub RestrictsNoMore : Layer → Layer → Type 0
RestrictsNoMore layer least = (right : ℕ) → right < 15 → restricts layer right ≡ true → restricts least right ≡ true

-- A layer whose rights are all due reaches no more than any other layer that passes, is within what may be, and
-- restricts no more
abbrev pub ChargedIsLeast : Type 0
ChargedIsLeast = (s : State) (parts : List Part) → BeginAt s parts →
    (may : ℕ → ℕ → Bool) → ((inode right : ℕ) → right < 15 → may right inode ≡ true → IsHoldable s inode right) →
    (least : Layer) → AreDue parts may least →
    (layer : Layer) → IsWithin may layer → PassesEach parts layer → RestrictsNoMore layer least →
    ReachesNoMore s least layer
