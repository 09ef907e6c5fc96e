-- Why a step isn't enabled: what each reason says of the world, for each kind of step. own
use Rattle.std.specs.Prelude.{◌≡◌, ◌≢◌, ℕ, Bool, true, false, Option, Some, None, IsSome, is_some}
use Rattle.std.specs.Prelude.{option_and_then, option_map, if◌then◌else◌}
use Rattle.std.specs.List.{list_any}
use Rattle.ll_rights.specs.Map.{get, has}
use Rattle.ll_seq.specs.declared.call.Call.{Call}
use Rattle.ll_seq.specs.declared.client.ClientRecord.{ClientRecord}
use Rattle.ll_seq.specs.History.{is_connect}
use Rattle.ll_seq.specs.State.{root}
use Rattle.ll_seq.specs.Step.{client_of}
use Rattle.ll_laws.specs.declared.step.Step.{Step}
use Rattle.ll_laws.specs.declared.step.Step.TheVariants.{Join, Begin, Descend, Fork, Commit, Restart, FdCommit}
use Rattle.ll_laws.specs.declared.step.Step.TheVariants.{ClientStep}
use Rattle.ll_laws.specs.Walk.{Walk, Leg, Above, Down, Split, at_ends, forked, further, has_two_paths, is_above}
use Rattle.ll_laws.specs.Walk.{is_blocked, is_in, marks, turn}
use Rattle.ll_laws.specs.World.{World, NotNow, advance, domain_of, is_alone, is_on_descriptor, is_walked, last_nodes}
use Rattle.ll_laws.specs.World.{is_marked_by_other, shown, takes_gate}
use Rattle.ll_journal.specs.declared.station.Station.{Station}
use Rattle.ll_journal.specs.declared.station.Station.TheVariants as station
use Rattle.ll_steps.specs.declared.unmet.Unmet.{Unmet}
use Rattle.ll_steps.specs.declared.unmet.Unmet.TheVariants as unmet

-- ---- A call

-- of which kind the call is, by the step that makes it
abbrev pub IsKind : ClientRecord → Call → Unmet → Type 0
IsKind c call unmet.Walks = is_walked c call ≡ true
IsKind c call unmet.OnDescriptor = is_on_descriptor c call ≡ true
IsKind c call unmet.Alone = is_alone c call ≡ true
IsKind c call unmet.Connects = is_connect call ≡ true
IsKind c call other = ⊥

-- Its client isn't there, or has a walk under way; or the call isn't one that suits the step, but is of another kind
abbrev pub IsUnmetCall : World → ℕ → Call → (suits : Bool) → Unmet → Type 0
IsUnmetCall w number call suits unmet.Nobody = has (shown w).clients number ≡ false
IsUnmetCall w number call suits unmet.UnderWay = has w.walks number ≡ true
IsUnmetCall w number call suits kind = (suits ≡ false) × IsKind (client_of (shown w) number) call kind

-- a call that takes the gate may not begin while somebody holds it
abbrev pub IsUnmetBegin : World → ℕ → Call → Unmet → Type 0
IsUnmetBegin w number call (unmet.Gate holder) = (takes_gate call ≡ true) × (w.gate ≡ Some holder)
IsUnmetBegin w number call other = IsUnmetCall w number call (is_walked (client_of (shown w) number) call) other

-- ---- A walk

-- a walk of the client stands in the directory
abbrev pub IsMarkedBy : World → ℕ → ℕ → Type 0
IsMarkedBy w inode client = (walk : Walk) × (get w.walks client ≡ Some walk) × (marks walk inode ≡ true)

-- the directory to which a descent would lead
abbrev pub next_directory : World → ℕ → Walk → Option ℕ
next_directory w number walk =
    if is_above walk.at then Some root
    else option_map (λ (leg : Leg). leg.here)
    (option_and_then (further (shown w) (domain_of w number)) (turn walk.at))

-- the next name of the leg names a directory
abbrev pub IsAhead : World → ℕ → Leg → Type 0
IsAhead w number leg = IsSome (further (shown w) (domain_of w number) leg)

-- a name is next, and names none
abbrev pub IsStopped : World → Leg → Type 0
IsStopped w leg = is_blocked (shown w) leg.here leg.ahead ≡ true

-- The gate is that which the walk would take on its fourth start
abbrev pub IsUnmetDescent : World → ℕ → Walk → Unmet → Type 0
IsUnmetDescent w number walk unmet.Stale = walk.stale ≡ true
IsUnmetDescent w number walk (unmet.Marked inode client) =
    (next_directory w number walk ≡ Some inode) × IsMarkedBy w inode client
IsUnmetDescent w number walk (unmet.Gate holder) =
    (walk.at ≡ Above) × (walk.starts ≡ 4) × (w.gate ≡ Some holder) × (holder ≢ number)
IsUnmetDescent w number walk unmet.Blocked = (leg : Leg) × (turn walk.at ≡ Some leg) × IsStopped w leg
IsUnmetDescent w number walk unmet.AtFork = is_some (forked walk.call walk.at) ≡ true
IsUnmetDescent w number walk unmet.AtEnd = at_ends walk.call walk.at ≡ true
IsUnmetDescent w number walk other = ⊥

abbrev pub IsUnmetFork : World → ℕ → Walk → Unmet → Type 0
IsUnmetFork w number walk unmet.Stale = walk.stale ≡ true
IsUnmetFork w number walk unmet.OnePath = has_two_paths walk.call ≡ false
IsUnmetFork w number walk unmet.Above = walk.at ≡ Above
IsUnmetFork w number walk unmet.Ahead = (trunk : Leg) × (walk.at ≡ Down trunk) × IsAhead w number trunk
IsUnmetFork w number walk unmet.Blocked = (trunk : Leg) × (walk.at ≡ Down trunk) × IsStopped w trunk
IsUnmetFork w number walk unmet.Forked = (trunk old new : Leg) × (walk.at ≡ Split trunk old new)
IsUnmetFork w number walk other = ⊥

-- The marked node is one that a path of the call names
abbrev pub IsUnmetCommit : World → ℕ → Walk → Unmet → Type 0
IsUnmetCommit w number walk unmet.Stale = walk.stale ≡ true
IsUnmetCommit w number walk unmet.Above = walk.at ≡ Above
IsUnmetCommit w number walk unmet.Ahead = (leg : Leg) × (turn walk.at ≡ Some leg) × IsAhead w number leg
IsUnmetCommit w number walk unmet.AtFork = is_some (forked walk.call walk.at) ≡ true
IsUnmetCommit w number walk (unmet.Marked inode client) =
    (at_ends walk.call walk.at ≡ true) × (is_in (last_nodes (shown w) walk.call) inode ≡ true)
    × (client ≢ number) × IsMarkedBy w inode client
IsUnmetCommit w number walk other = ⊥

abbrev pub IsUnmetRestart : Walk → Unmet → Type 0
IsUnmetRestart walk unmet.NotStale = walk.stale ≡ false
IsUnmetRestart walk other = ⊥

-- no walk of the client is under way, or its walk has the reason
abbrev pub IsUnmetWalk : World → ℕ → (Walk → Unmet → Type 0) → Unmet → Type 0
IsUnmetWalk w number Has unmet.NoWalk = get w.walks number ≡ None
IsUnmetWalk w number Has other = (walk : Walk) × (get w.walks number ≡ Some walk) × Has walk other

-- ---- A step

-- the reason holds in the world for this step
abbrev pub IsUnmet : World → Step → Unmet → Type 0
IsUnmet w Join reason = ⊥
IsUnmet w (Begin number call) reason = IsUnmetBegin w number call reason
IsUnmet w (Descend number) reason = IsUnmetWalk w number (IsUnmetDescent w number) reason
IsUnmet w (Fork number) reason = IsUnmetWalk w number (IsUnmetFork w number) reason
IsUnmet w (Commit number) reason = IsUnmetWalk w number (IsUnmetCommit w number) reason
IsUnmet w (Restart number) reason = IsUnmetWalk w number IsUnmetRestart reason
IsUnmet w (FdCommit number call) reason =
    IsUnmetCall w number call (is_on_descriptor (client_of (shown w) number) call) reason
IsUnmet w (ClientStep number call) reason =
    IsUnmetCall w number call (is_alone (client_of (shown w) number) call) reason

-- A reason is given exactly where the step isn't enabled, and it holds
abbrev pub IsWhyNot : World → Step → Option Unmet → Type 0
IsWhyNot w step' None = (advance w step').0 ≢ NotNow
IsWhyNot w step' (Some reason) = IsUnmet w step' reason × (advance w step' ≡ (NotNow, w))

-- ---- How it is found. No public contract cites this

-- the client is there, with this record, and no walk of it is under way
abbrev pub IsIdle : World → ℕ → ClientRecord → Type 0
IsIdle w number c = (get (shown w).clients number ≡ Some c) × (has w.walks number ≡ false)

-- where the client's walk goes on, its leg in turn has no directory to go to
abbrev pub IsNowhere : World → ℕ → Type 0
IsNowhere w number =
    (walk : Walk) (leg : Leg) → get w.walks number ≡ Some walk → walk.stale ≡ false → turn walk.at ≡ Some leg
    → further (shown w) (domain_of w number) leg ≡ None

-- where the client's walk is at its ends, no other client's walk stands in a node that its call names
abbrev pub IsFree : World → ℕ → Type 0
IsFree w number =
    (walk : Walk) → get w.walks number ≡ Some walk → walk.stale ≡ false → at_ends walk.call walk.at ≡ true
    → list_any (is_marked_by_other w number) (last_nodes (shown w) walk.call) ≡ false

-- a name is next
abbrev pub has_names : Station → Bool
has_names station.Trunk = true
has_names station.First = true
has_names station.Second = true
has_names other = false
