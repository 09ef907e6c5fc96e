-- A call at its walk's ends: what is given for it, and its result. No public contract cites it. own
use Rattle.std.specs.Prelude.{◌≡◌, ◌≢◌, ℕ, true, ◌==◌, List, [], Some, slice_index_or, ◌++◌, None, option_to_list}
use Rattle.std.specs.List.{list_any, AllByRecursion}
use Rattle.ll_seq.specs.Found.{AreFacts}
use Rattle.ll_seq.specs.Near.{nodes_of, may_make}
use Rattle.ll_seq.specs.Passed.{has_path}
use Rattle.ll_seq.specs.declared.found.Found.{Found}
use Rattle.ll_node.specs.Enactment.{Scene, InHand, IsGiven, IsMade, in_hand}
use Rattle.ll_decide.specs.Masks.{AreMasks}
use Rattle.ll_node.specs.declared.held.Held.{Held}
use Rattle.ll_node.specs.InodeTable.{Table}
use Rattle.ll_rules.specs.Layer.{Layer}
use Rattle.ll_seq.specs.declared.call.Call.{Call}
use Rattle.ll_seq.specs.declared.reply.Reply.{Reply}
use Rattle.ll_seq.specs.Call.{first_path, second_path}
use Rattle.ll_seq.specs.State.{State, kind_of, bytes_of}
use Rattle.ll_seq.specs.Step.{step, refusals, client_of}
use Rattle.ll_seq.specs.Stages.{early_refusals}
use Rattle.ll_laws.specs.Commits.{first_end, second_end}
use Rattle.ll_laws.specs.Walk.{Leg, Walk, is_in}
use Rattle.ll_journal.specs.declared.seat.Ended.{Ended}
use Rattle.ll_journal.specs.Book.{Seat}
use Rattle.ll_rights.specs.declared.kind.Kind.TheVariants.{Dir}
use Rattle.ll_path.specs.Path.{Path, parent}
use Rattle.ll_seq.specs.Tree.{named, ancestors}
use Rattle.ll_node.specs.Lent.{Misses}
use Rattle.ll_node.specs.Accounts.{names_map}
use Rattle.ll_seq.specs.declared.found.Spot.{Spot}
use Rattle.ll_journal.specs.declared.decide_end.Moved.{Moved}

-- a walk has ended in the directory of the path's last name, whether or not the name exists, with these masks
pub record IsEndAt (s : State) (domain : List Layer) (path : Path) (spot : Spot) (granted : List ℕ) : Type 0 where
  pub way : spot.way ≡ None
  pub names : named s (parent path) ≡ Some spot.directory
  pub directory : kind_of s spot.directory ≡ Some Dir
  pub masks : AreMasks granted domain (ancestors s (parent path))

-- the slot holds the content of the inode's node
abbrev pub HasContent : State → ℕ → Held → Type 0
HasContent s inode held = (held.node.names ≡ names_map s inode) × (held.node.bytes ≡ bytes_of s inode)

-- the inode is in one of the lent slots
pub record Lends (s : State) (lent : List Held) (inode : ℕ) : Type 0 where
  pub there : Misses inode lent → ⊥
  pub content : AllByRecursion (λ (held : Held). held.inode ≡ inode → HasContent s inode held) lent

-- the first path's and the second path's
abbrev pub moved_list : Moved → List ℕ
moved_list moved = option_to_list moved.first ++ option_to_list moved.second

-- what is left of the walk: its call, and the rights that each layer grants where its branches ended
pub record EndsAs (domain : List Layer) (walk : Walk) (ended : Ended) : Type 0 where
  pub call : ended.call ≡ walk.call
  pub first : (leg : Leg) → first_end walk.at ≡ Some leg → AreMasks ended.first domain leg.chain
  pub second : (leg : Leg) → second_end walk.at ≡ Some leg → AreMasks ended.second domain leg.chain

-- what the client in this seat has in hand
abbrev pub at_seat : Seat → Table → List ℕ → List Held → InHand
at_seat seat table slots lent = in_hand seat.client seat.spare table slots lent

-- the inode is in one of the lent slots
abbrev pub lies_in : InHand → ℕ → Type 0
lies_in hand i = list_any (λ k. slice_index_or hand.table.inodes k 0 == i) hand.slots ≡ true

-- this was found at the ends of the client's walk, and the lent slots are enough for its call
pub record IsAtEnd (scene : Scene) (hand : InHand) (walk : Ended) (found : Found) : Type 0 where
  pub given : IsGiven scene hand
  pub path : has_path walk.call ≡ true
  pub early : early_refusals hand.client walk.call ≡ []
  pub facts : AreFacts scene.state walk.call found
  pub old : IsEndAt scene.state hand.client.domain (first_path walk.call) found.first walk.first
  pub new : IsEndAt scene.state hand.client.domain (second_path walk.call) found.second walk.second
  pub old_lent : lies_in hand found.first.directory
  pub new_lent : lies_in hand found.second.directory
  pub nodes : (inode : ℕ) → is_in (nodes_of walk.call found) inode ≡ true → inode ≢ 0 → lies_in hand inode
  pub kept : may_make walk.call found ≡ true → is_in hand.slots hand.spare ≡ true

-- nothing refuses the call, in any tree where its walk ended like this
abbrev pub IsFreeAtEnd : InHand → Ended → Found → Type 0
IsFreeAtEnd hand walk found =
    (scene : Scene) → IsAtEnd scene hand walk found
    → refusals scene.state (client_of scene.state scene.number) walk.call ≡ []

-- the reply is the step's, and the tree after it is made
pub record IsPerformed (scene : Scene) (hand : InHand) (call : Call) (reply : Reply) (new : InHand) : Type 0 where
  pub after : State
  pub steps : (fresh : ℕ) → ◌≡◌ {A = Reply × State} (step scene.state scene.number call fresh) (reply, after)
  pub made : IsMade scene after hand new

-- in each tree where its walk ended like this
abbrev pub Performs : InHand → Ended → Found → Reply → InHand → Type 0
Performs hand walk found reply new =
    (scene : Scene) → IsAtEnd scene hand walk found → IsPerformed scene hand walk.call reply new
