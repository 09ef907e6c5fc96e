-- What the journal checks before a step: whether it may be made. No public contract cites it. own
use Rattle.std.specs.Prelude.{◌≡◌, ◌⊎◌, ℕ, ◌==◌, Bool, true, false, not, ◌&&◌, ◌||◌, List, Option, Some, None, is_none}
use Rattle.std.specs.Prelude.{option_map, option_and_then, slice_get, if◌then◌else◌}
use Rattle.std.specs.List.{list_all, list_any}
use Rattle.std.specs.Option.{option_map_or}
use Rattle.std.specs.Ordering.{nat_cmp}
use Rattle.ll_rights.specs.declared.errno.Errno.{Errno}
use Rattle.ll_rights.specs.Kind.{is_dir}
use Rattle.ll_rights.specs.Map.{Map, get}
use Rattle.ll_seq.specs.declared.facts.Fact.{Fact}
use Rattle.ll_path.specs.Path.{Path, is_root, last_name}
use Rattle.ll_seq.specs.Found.{spot_by}
use Rattle.ll_seq.specs.Near.{nodes_of, may_make}
use Rattle.ll_seq.specs.declared.found.Found.{Found}
use Rattle.ll_seq.specs.declared.found.Spot.{Spot}
use Rattle.ll_seq.specs.declared.found.There.{There}
use Rattle.ll_node.specs.Lent.{Misses}
use Rattle.ll_seq.specs.declared.call.Call.{Call}
use Rattle.ll_seq.specs.Call.{first_path, second_path}
use Rattle.ll_seq.specs.Stages.{no_directory}
use Rattle.ll_seq.specs.State.{Name, root}
use Rattle.ll_laws.specs.Walk.{Walk, Leg, has_two_paths, is_in, legs, is_above}
use Rattle.ll_node.specs.declared.held.Held.{Held}
use Rattle.ll_journal.specs.declared.check_step.StepCheck.{StepCheck}
use Rattle.ll_journal.specs.declared.check_step.StepCheck.TheVariants.{NotNow, Astray, Go}
use Rattle.ll_journal.specs.CommitCheck.{CommitCheck}
use Rattle.ll_journal.specs.CommitCheck as stops
use Rattle.ll_journal.specs.Book.{Seat}
use Rattle.ll_journal.specs.Stations.{path_by, station_on}
use Rattle.ll_journal.specs.declared.onward.NextName.{NextName}
use Rattle.ll_journal.specs.Seated.{call_in, first_here_in, here_in, is_at_ends, next_in, second_here_in}
use Rattle.ll_journal.specs.Stations.{station_of}

abbrev pub goes_on : Seat → Bool
goes_on seat = option_map_or (λ (walk : Walk). not walk.stale) seat.walk false

-- on its fourth start a walk needs the gate
abbrev pub has_gate : Seat → Option ℕ → ℕ → Bool
has_gate seat gate number =
    not (option_map_or (λ (walk : Walk). walk.starts == 4) seat.walk false)
    || option_map_or (λ holder. holder == number) gate true

abbrev pub check_enter : Seat → Option ℕ → ℕ → Held → StepCheck
check_enter seat gate number slot =
    if not (goes_on seat) then NotNow
    else if not (option_map_or (λ (walk : Walk). is_above walk.at) seat.walk false && (slot.inode == root)) then Astray
    else if is_none slot.node.mark && has_gate seat gate number then Go
    else NotNow

abbrev pub is_directory : Map nat_cmp Fact → ℕ → Bool
is_directory facts inode = option_map_or (λ (fact : Fact). is_dir fact.kind) (get facts inode) false

-- the check for the directory that the name leads to
abbrev pub check_into : Map nat_cmp Fact → Option ℕ → Held → StepCheck
check_into facts None to = NotNow
check_into facts (Some inode) to =
    if not (is_directory facts inode) then NotNow
    else if not (to.inode == inode) then Astray
    else if is_none to.node.mark then Go
    else NotNow

abbrev pub check_next : Map nat_cmp Fact → Option Name → Held → Held → StepCheck
check_next facts None from to = NotNow
check_next facts (Some name) from to = check_into facts (get from.node.names name) to

abbrev pub look_from : Map nat_cmp Fact → Option ℕ → Option Name → Held → Held → StepCheck
look_from facts None next from to = Astray
look_from facts (Some here) next from to = if from.inode == here then check_next facts next from to else Astray

-- the spot of the last name of the call's only path, or of its second path
abbrev pub last_found : Call → Found → Spot
last_found call found = if has_two_paths call then found.second else found.first

-- the same spot for both paths: only the second's says which node a call with two paths may change or report on
abbrev pub found_last : Spot → Found
found_last last = record { first = last; second = last; is_full = false }

-- the inode is in one of the lent slots
abbrev pub lends : List Held → ℕ → Bool
lends lent inode = list_any (λ (held : Held). held.inode == inode) lent

-- each directory where the seat's walk is has its slot lent
abbrev pub is_all_lent : List Held → Seat → Bool
is_all_lent lent seat =
    option_map_or (λ (walk : Walk). list_all (λ (leg : Leg). lends lent leg.here) (legs walk.at)) seat.walk true

abbrev pub check_restart : List Held → Seat → StepCheck
check_restart lent seat =
    if not (option_map_or (λ (walk : Walk). walk.stale) seat.walk false) then NotNow
    else if is_all_lent lent seat then Go
    else Astray

abbrev pub check_descend : Map nat_cmp Fact → Seat → Held → Held → StepCheck
check_descend facts seat from to =
    if not (goes_on seat) then NotNow else look_from facts (here_in seat) (next_in seat) from to

-- ---- The directory that a walk would go down to

abbrev pub directory_at : Map nat_cmp Fact → Option ℕ → Option ℕ
directory_at facts None = None
directory_at facts (Some inode) = if is_directory facts inode then Some inode else None

abbrev pub directory_for : Map nat_cmp Fact → Option Name → Held → Option ℕ
directory_for facts None from = None
directory_for facts (Some name) from = directory_at facts (get from.node.names name)

abbrev pub directory_from : Map nat_cmp Fact → Option ℕ → Option Name → Held → Option ℕ
directory_from facts None next from = None
directory_from facts (Some here) next from = if from.inode == here then directory_for facts next from else None

abbrev pub directory_below : Map nat_cmp Fact → Seat → Held → Option ℕ
directory_below facts seat from =
    if goes_on seat then directory_from facts (here_in seat) (next_in seat) from else None

-- ---- What a walk finds at its ends

-- the inode of the last name in the directory, or the root for the root's path
abbrev pub last_in : Held → Path → Option ℕ
last_in held path = if is_root path then Some root else get held.node.names (last_name path)

abbrev pub spot_at : Map nat_cmp Fact → Held → Path → Spot
spot_at facts held path = spot_by facts None held.inode (last_in held path)

-- why the leg in turn can't go on: its next name leads to no directory
abbrev pub blocked_at : Map nat_cmp Fact → Option ℕ → Option Errno
blocked_at facts found =
    slice_get
    (no_directory (option_and_then (λ inode. option_map (λ (fact : Fact). fact.kind) (get facts inode)) found)) 0

-- this slot is lent, and holds this inode
pub record Lies (lent : List Held) (inode : ℕ) (held : Held) : Type 0 where
  pub place : ℕ
  pub there : slice_get lent place ≡ Some held
  pub is : held.inode ≡ inode

-- ---- Why a commit stops, or what it finds

abbrev pub stop_by : Option Errno → CommitCheck
stop_by None = stops.NotNow
stop_by (Some errno) = stops.Blocked errno

-- with this name ahead, in the lent directory
abbrev pub StopsBefore : Map nat_cmp Fact → List Held → ℕ → Name → CommitCheck → Type 0
StopsBefore facts lent here name stop =
    ((held : Held) × Lies lent here held × (stop ≡ stop_by (blocked_at facts (get held.node.names name))))
    ⊎ (Misses here lent × (stop ≡ stops.Astray))

-- a walk of another client is in the node of the last name
abbrev pub is_marked_at : (ℕ → Bool) → Path → Spot → Bool
is_marked_at marked path spot =
    not (is_root path) && option_map_or (λ (there : There). marked there.inode) spot.there false

abbrev pub is_marked_there : (ℕ → Bool) → Call → Found → Bool
is_marked_there marked call found =
    is_marked_at marked (first_path call) found.first || is_marked_at marked (second_path call) found.second

-- the lent slots include those that the call may need in addition to directories
abbrev pub is_enough : List ℕ → List Held → ℕ → Call → Found → Bool
is_enough slots lent spare call found =
    list_all (λ inode. (inode == 0) || lends lent inode) (nodes_of call found)
    && (not (may_make call found) || is_in slots spare)

abbrev pub check_there : (ℕ → Bool) → List ℕ → List Held → ℕ → Call → Found → CommitCheck
check_there marked slots lent spare call found =
    if is_marked_there marked call found then stops.NotNow
    else if is_enough slots lent spare call found then stops.Reached found
    else stops.Astray

abbrev pub found_at : Map nat_cmp Fact → Bool → Held → Held → Call → Found
found_at facts full first second call = record {
  first = spot_at facts first (first_path call);
  second = spot_at facts second (second_path call);
  is_full = full;
}

-- with both legs at their ends, in these directories
abbrev pub StopsBetween : Map nat_cmp Fact → Bool → (ℕ → Bool) → List ℕ → List Held → ℕ → Call → ℕ → ℕ → CommitCheck
    → Type 0
StopsBetween facts full marked slots lent spare call first second stop =
    ((a b : Held) × Lies lent first a × Lies lent second b
    × (stop ≡ check_there marked slots lent spare call (found_at facts full a b call)))
    ⊎ ((Misses first lent ⊎ Misses second lent) × (stop ≡ stops.Astray))

abbrev pub StopsAtEnds : Map nat_cmp Fact → Bool → (ℕ → Bool) → List ℕ → List Held → Seat → CommitCheck → Type 0
StopsAtEnds facts full marked slots lent seat stop =
    ((is_at_ends seat ≡ false) × (stop ≡ stops.NotNow))
    ⊎ ((is_at_ends seat ≡ true) × (call : Call) × (first second : ℕ) × (call_in seat ≡ Some call)
    × (first_here_in seat ≡ Some first) × (second_here_in seat ≡ Some second)
    × StopsBetween facts full marked slots lent seat.spare call first second stop)

-- with the next name of the leg in turn, if any
abbrev pub StopsBy : Map nat_cmp Fact → Bool → (ℕ → Bool) → List ℕ → List Held → Seat → Option Name → CommitCheck
    → Type 0
StopsBy facts full marked slots lent seat None stop = StopsAtEnds facts full marked slots lent seat stop
StopsBy facts full marked slots lent seat (Some name) stop =
    (here : ℕ) × (here_in seat ≡ Some here) × StopsBefore facts lent here name stop

-- marked: where another client's walk is
abbrev pub Stops : Map nat_cmp Fact → Bool → (ℕ → Bool) → List ℕ → List Held → Seat → CommitCheck → Type 0
Stops facts full marked slots lent seat stop =
    ((goes_on seat ≡ false) × (stop ≡ stops.NotNow))
    ⊎ ((goes_on seat ≡ true) × (is_all_lent lent seat ≡ false) × (stop ≡ stops.Astray))
    ⊎ ((goes_on seat ≡ true) × (is_all_lent lent seat ≡ true)
    × StopsBy facts full marked slots lent seat (next_in seat) stop)

-- what a seat tells of its walk's next name
abbrev pub TellsNext : Seat → Option NextName → Type 0
TellsNext seat None = next_in seat ≡ None
TellsNext seat (Some name) =
    (call : Call) × (call_in seat ≡ Some call) × (next_in seat ≡ slice_get (path_by name.turn call) name.depth)
    × (goes_on seat ≡ true → station_of seat.walk ≡ station_on name.turn)
