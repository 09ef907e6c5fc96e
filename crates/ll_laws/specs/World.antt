-- A tree with walks under way, and the steps that its clients take, one after the other. Memory has no part in it:
-- whoever takes the steps says what happens when it runs out. own
use Rattle.std.specs.Prelude.{ℕ, ◌+◌, Bool, true, false, not, ◌&&◌, ◌||◌, ◌==◌, List, [], ◌∷◌, ◌++◌, map, filter}
use Rattle.std.specs.Prelude.{length, Option, Some, None, nat_le, is_none, unwrap_or, option_to_list, option_map}
use Rattle.std.specs.Prelude.{option_and_then, if◌then◌else◌}
use Rattle.std.specs.declared.cmp.Ordering.{Ordering}
use Rattle.std.specs.Ordering.{nat_cmp}
use Rattle.std.specs.List.{list_any, flat_map}
use Rattle.std.specs.Option.{option_map_or}
use Rattle.ll_rights.specs.declared.errno.Errno.{Errno}
use Rattle.ll_rights.specs.declared.errno.Errno.TheVariants.{HistoryFull}
use Rattle.ll_rights.specs.Kind.{is_dir}
use Rattle.ll_rights.specs.Map.{Map, empty, get, has, insert, remove, entries, len, from_sorted}
use Rattle.ll_path.specs.Path.{Path, is_root}
use Rattle.ll_path.specs.declared.target.Target.{Target}
use Rattle.ll_rules.specs.Layer.{Layer}
use Rattle.ll_decide.specs.Verdict.{when}
use Rattle.ll_seq.specs.declared.call.Call.{Call}
use Rattle.ll_seq.specs.declared.call.Call.TheVariants as call
use Rattle.ll_seq.specs.declared.client.ClientRecord.{ClientRecord}
use Rattle.ll_seq.specs.declared.reply.Reply.{Reply}
use Rattle.ll_seq.specs.declared.reply.Reply.TheVariants as reply
use Rattle.ll_seq.specs.declared.reply.Entry.{Entry}
use Rattle.ll_seq.specs.declared.rules.Rules.{Rules}
use Rattle.ll_seq.specs.Call.{path_of, targets, first_path, second_path}
pub use Rattle.ll_seq.specs.Call.{has_any, concerns, descriptor_of, moving, takes_gate}
use Rattle.ll_seq.specs.State.{State, start, root}
use Rattle.ll_seq.specs.Tree.{named, inode_of, kind_or_file}
use Rattle.ll_seq.specs.Stages.{early_refusals}
use Rattle.ll_seq.specs.Step.{step, client_of}
use Rattle.ll_seq.specs.History.{state_after, is_connect}
use Rattle.ll_laws.specs.declared.step.Step.{Step}
use Rattle.ll_laws.specs.declared.step.Step.TheVariants.{Join, Begin, Descend, Fork, Commit, Restart, FdCommit}
use Rattle.ll_laws.specs.declared.step.Step.TheVariants.{ClientStep}
use Rattle.ll_laws.specs.Walk.{Walk, Leg, Above, Down, trunk_path, first_leg, further, is_blocked, turn, with_turn}
use Rattle.ll_laws.specs.Walk.{at_ends, forked, marks, passes, is_above}

-- limit: the most entries of the history. walks: at most one for each client. gate: who holds the move gate
pub record World : Type 0 where
  pub rules : Rules
  pub room : ℕ
  pub limit : ℕ
  pub history : List Entry
  pub walks : Map nat_cmp Walk
  pub gate : Option ℕ

abbrev pub new_world : Rules → ℕ → ℕ → World
new_world rules room limit =
    record { rules = rules; room = room; limit = limit; history = []; walks = empty; gate = None }

-- The visible tree is the one that the history leads to: a walk changes nothing before its commit
abbrev pub shown : World → State
shown w = state_after (start w.rules w.room) w.history

-- NotNow: the step isn't enabled. Stands: the walk is in the directory with this inode. Joined: as the client with this
-- number
pub data Outcome : Type 0 where
  NotNow : Outcome
  Begun : Outcome
  Stands : ℕ → Outcome
  Forked : Outcome
  Restarted : Outcome
  Replied : Reply → Outcome
  Joined : ℕ → Outcome

-- ---- Which step makes a call

-- A call with a path walks, unless an early stage refuses it
abbrev pub is_walked : ClientRecord → Call → Bool
is_walked c call = has_any (targets call) && not (has_any (early_refusals c call))

-- A call on a descriptor that the client has is a step on that file, refused or not
abbrev pub is_on_descriptor : ClientRecord → Call → Bool
is_on_descriptor c call = option_map_or (has c.descriptors) (descriptor_of call) false

-- Any other call except connect is a step of the client alone: its answer needs no node
abbrev pub is_alone : ClientRecord → Call → Bool
is_alone c call = not (is_connect call) && not (is_walked c call) && not (is_on_descriptor c call)

-- ---- What is marked, and who holds the gate

-- some walk is in the directory
abbrev pub is_marked : World → ℕ → Bool
is_marked w inode = list_any (λ (e : ℕ × Walk). marks e.1 inode) (entries w.walks)

abbrev pub is_marked_by_other : World → ℕ → ℕ → Bool
is_marked_by_other w number inode =
    list_any (λ (e : ℕ × Walk). not (e.0 == number) && marks e.1 inode) (entries w.walks)

-- ---- When a walk may be answered

-- the node at the end of the path. (The root has no last name)
abbrev pub last_node : State → Path → List ℕ
last_node s path = when (not (is_root path)) (option_to_list (named s path))

abbrev pub last_nodes : State → Call → List ℕ
last_nodes s call = flat_map (λ (target : Target). last_node s (path_of target)) (targets call)

-- the client's layers, which don't change while its walk is under way
abbrev pub domain_of : World → ℕ → List Layer
domain_of w number = (client_of (shown w) number).domain

-- The walk isn't stale, and one of two things holds. The leg in turn can't go on, which is the answer. Or each branch
-- is at its end, and no other walk is in the node of a last name, which the call might remove
abbrev pub may_commit : World → ℕ → Walk → Bool
may_commit w number walk =
    not walk.stale
    && (option_map_or (λ (leg : Leg). is_blocked (shown w) leg.here leg.ahead) (turn walk.at) false
    || (at_ends walk.call walk.at && not (list_any (is_marked_by_other w number) (last_nodes (shown w) walk.call))))

-- ---- Answers

abbrev pub is_full : World → Bool
is_full w = nat_le w.limit (length w.history)

-- Clients are numbered from 1 in the order in which they connect or are spawned, so this number is unused
abbrev pub next_number : World → ℕ
next_number w = len (shown w).clients + 1

-- the reply of the sequential step
abbrev pub reply_to : World → ℕ → Call → Reply
reply_to w number call = (step (shown w) number call (next_number w)).0

-- If the history is full, the call isn't made
abbrev pub answered : World → ℕ → Call → Reply × World
answered w number call =
    let answer = reply_to w number call in
    if is_full w then (reply.Refused HistoryFull, w)
    else (answer, record w { history = w.history ++ record { client = number; call = call; reply = answer } ∷ [] })

-- ---- What a commit does to walks

-- the map with each value changed
unfoldable pub map_values : {K X : Type 0} {R : K → K → Ordering} → (X → X) → Map R X → Map R X
map_values f m = from_sorted (map (λ e. (e.0, f e.1)) m.list)

abbrev pub with_walk : World → ℕ → Walk → World
with_walk w number walk = record w { walks = insert w.walks number walk }

-- the gate after this client's walk has ended
abbrev pub released : Option ℕ → ℕ → Option ℕ
released gate number = option_and_then (λ holder. if holder == number then None else Some holder) gate

-- the walk's marks go with it
abbrev pub without_walk : World → ℕ → World
without_walk w number = record w { walks = remove w.walks number; gate = released w.gate number }

abbrev pub is_done : Reply → Bool
is_done reply.Done = true
is_done _ = false

-- the second path already leads to the first one's node
abbrev pub is_same_node : State → Path → Path → Bool
is_same_node s old new = option_map_or (λ node. inode_of s old == node) (named s new) false

-- The directories that the call moves, given its reply. A rename onto the same node moves nothing
abbrev pub moved_by : State → Call → Reply → List ℕ
moved_by s call reply =
    when (is_done reply && not (is_same_node s (first_path call) (second_path call)))
    (filter (λ inode. is_dir (kind_or_file s inode)) (map (inode_of s) (moving call)))

-- A walk with one of them on its chain becomes stale: its names lead elsewhere now
abbrev pub overtaken : List ℕ → Walk → Walk
overtaken moved walk = record walk { stale = walk.stale || list_any (passes walk) moved }

-- ---- The steps. Each is None if it isn't enabled; the comment above it says when it is

-- the client exists, and has no walk under way
abbrev pub is_idle : World → ℕ → Bool
is_idle w number = has (shown w).clients number && not (has w.walks number)

-- a refused connect adds no entry
abbrev pub joined : World → Reply → World → Outcome × World
joined w reply.Done next = (Joined (next_number w), next)
joined w reply next = (Replied reply, w)

-- Its client is idle, the call is one that walks, and the gate is free if the call takes it. The walk starts above the
-- root
abbrev pub begin : World → ℕ → Call → Option (Outcome × World)
begin w number call =
    if is_idle w number && is_walked (client_of (shown w) number) call && (not (takes_gate call) || is_none w.gate)
    then Some (
      Begun,
      record w {
        walks = insert w.walks number (record { call = call; starts = 1; stale = false; at = Above });
        gate = if takes_gate call then Some number else w.gate;
      },
    )
    else None

-- The first descent is to the root, if that is unmarked. On its fourth start the walk takes the gate, if nobody else
-- holds it, so that nothing on its way is moved
abbrev pub enter : World → ℕ → Walk → Option (Outcome × World)
enter w number walk =
    let last = walk.starts == 4 in
    if not (is_marked w root) && (not last || option_map_or (λ holder. holder == number) w.gate true)
    then Some (
      Stands root,
      record w {
        walks =
            insert w.walks number (record walk { at = Down (first_leg (domain_of w number) (trunk_path walk.call)) });
        gate = if last then Some number else w.gate;
      },
    )
    else None

-- No walk is there
abbrev pub stand : World → ℕ → Walk → Leg → Option (Outcome × World)
stand w number walk leg =
    if not (is_marked w leg.here)
    then Some (Stands leg.here, with_walk w number (record walk { at = with_turn walk.at leg }))
    else None

-- The walk isn't stale. It is above the root, or the next name of its leg in turn leads to a directory
abbrev pub descend : World → ℕ → Walk → Option (Outcome × World)
descend w number walk =
    if walk.stale then None
    else if is_above walk.at then enter w number walk
    else option_and_then (stand w number walk) (option_and_then (further (shown w) (domain_of w number)) (turn walk.at))

-- The walk isn't stale, and is at the fork
abbrev pub fork : World → ℕ → Walk → Option (Outcome × World)
fork w number walk =
    if walk.stale then None
    else option_map (λ at. (Forked, with_walk w number (record walk { at = at }))) (forked walk.call walk.at)

-- The walk ends with its call's answer, and each walk that it overtook becomes stale
abbrev pub commit : World → ℕ → Walk → Option (Outcome × World)
commit w number walk =
    let r = answered (without_walk w number) number walk.call in
    let moved = moved_by (shown w) walk.call r.0 in
    if may_commit w number walk
    then Some (Replied r.0, record r.1 { walks = map_values (overtaken moved) r.1.walks })
    else None

-- Only a stale walk starts again: above the root, so without marks
abbrev pub restart : World → ℕ → Walk → Option (Outcome × World)
restart w number walk =
    if walk.stale
    then Some (Restarted, with_walk w number (record walk { starts = walk.starts + 1; stale = false; at = Above }))
    else None

-- A call that doesn't walk: its client is idle, and the call is one for this step
abbrev pub direct : World → ℕ → Bool → Call → Option (Outcome × World)
direct w number allowed call =
    let r = answered w number call in
    if is_idle w number && allowed then Some (Replied r.0, r.1) else None

-- the outcome of the step, if it is enabled
abbrev pub enabled : World → Step → Option (Outcome × World)
enabled w Join = Some (let r = answered w (next_number w) call.Connect in joined w r.0 r.1)
enabled w (Begin number call) = begin w number call
enabled w (Descend number) = option_and_then (descend w number) (get w.walks number)
enabled w (Fork number) = option_and_then (fork w number) (get w.walks number)
enabled w (Commit number) = option_and_then (commit w number) (get w.walks number)
enabled w (Restart number) = option_and_then (restart w number) (get w.walks number)
enabled w (FdCommit number call) = direct w number (is_on_descriptor (client_of (shown w) number) call) call
enabled w (ClientStep number call) = direct w number (is_alone (client_of (shown w) number) call) call

-- the client and the call of the entry that this step may add
abbrev pub called : World → Step → Option (ℕ × Call)
called w Join = Some (next_number w, call.Connect)
called w (Commit number) = option_map (λ (walk : Walk). (number, walk.call)) (get w.walks number)
called w (FdCommit number call) = Some (number, call)
called w (ClientStep number call) = Some (number, call)
called w step' = None

-- A step that isn't enabled changes nothing
abbrev pub advance : World → Step → Outcome × World
advance w step' = unwrap_or (enabled w step') (NotNow, w)

abbrev pub world_after : World → List Step → World
world_after w [] = w
world_after w (step' ∷ steps) = world_after (advance w step').1 steps
