-- No call changes the tree's rules, nor its room.
use Rattle.std.specs.Prelude.{◌≡◌, ℕ, true, false, cond, ◌==◌, List, [], ◌∷◌, length, Option, Some, None, is_none, refl}
use Rattle.std.specs.Option.{option_map_or}
use Rattle.std.proofs.Common.{ap, ◌∙◌}
use Rattle.ll_rights.specs.declared.kind.Kind.TheVariants.{Reg}
use Rattle.ll_rights.specs.Map.{get, insert, remove}
use Rattle.ll_seq.specs.declared.call.Call.{Call}
use Rattle.ll_seq.specs.declared.call.Call.TheVariants.{Make, Open, Read, Write, Ftruncate, Close, Truncate, ReadDir}
use Rattle.ll_seq.specs.declared.call.Call.TheVariants.{Stat, Exec, Unlink, Rmdir, Rename, RenameNoreplace, Exchange}
use Rattle.ll_seq.specs.declared.call.Call.TheVariants.{Link, Ruleset, Allow, Confine, Spawn, Connect}
use Rattle.ll_seq.specs.declared.client.ClientRecord.{ClientRecord}
use Rattle.ll_seq.specs.declared.dentries.Dentry.{Dentry}
use Rattle.ll_seq.specs.declared.node.Node.{Node}
use Rattle.ll_seq.specs.declared.reply.Reply.{Reply}
use Rattle.ll_seq.specs.declared.reply.Entry.{Entry}
use Rattle.ll_seq.specs.Call.{path_of}
use Rattle.ll_seq.specs.State.{State, bytes_of}
use Rattle.ll_seq.specs.Tree.{named, inode_of}
use Rattle.ll_seq.specs.Effects.{with_bytes, with_client, with_node, with_moved, with_opened, emptied, dentry_of}
use Rattle.ll_seq.specs.Effects.{overwritten, inode_at, lives, let_go, renamed}
use Rattle.ll_seq.specs.Step.{step, refusals, first_or, client_of}
use Rattle.ll_seq.specs.History.{fresh_of, state_after, after}
use Rattle.ll_laws.proofs.Gain.{done_of}
use Rattle.ll_seq.specs.declared.rules.Rules.{Rules}

abbrev frame : State → Rules × ℕ
frame s = (s.rules, s.room)

bytes_frame : (s : State) (inode : ℕ) (bytes : List ℕ) → frame (with_bytes s inode bytes) ≡ frame s
bytes_frame s inode bytes = elim (get s.nodes inode) as
    (λ o. frame (option_map_or (λ (n : Node). record s { nodes = insert s.nodes inode (record n { bytes = bytes }) }) o
    s) ≡ frame s) [ None ↦ refl | Some n ↦ refl ]

let_go_frame : (s : State) (inode : ℕ) → frame (let_go s inode) ≡ frame s
let_go_frame s inode = elim (lives s inode) as
    (λ b. frame (cond b s (record s { nodes = remove s.nodes inode })) ≡ frame s) [ true ↦ refl | false ↦ refl ]

renamed_frame : (s : State) (old new : Dentry) (inode : ℕ) (o : Option ℕ) → frame (renamed s old new inode o) ≡ frame s
renamed_frame s old new inode None = refl
renamed_frame s old new inode (Some r) =
    elim (inode == r) as (λ b. frame (cond b s (let_go (with_moved s old new inode) r)) ≡ frame s)
    [ true ↦ refl | false ↦ let_go_frame (with_moved s old new inode) r ]

done_frame : (s : State) (number : ℕ) (c : ClientRecord) (call : Call) (fresh : ℕ)
    → frame (done_of s number c call fresh).1 ≡ frame s
done_frame s number c (Make kind t) fresh = refl
done_frame s number c (Open mode t) fresh =
    elim (is_none (named s (path_of t))) as
    (λ b. frame (cond b (with_client (with_node s Reg (dentry_of s (path_of t))) number
    (with_opened s c mode (path_of t) s.next))
    (with_client (emptied s mode (inode_of s (path_of t))) number
    (with_opened s c mode (path_of t) (inode_of s (path_of t))))) ≡ frame s) [
      | true ↦ refl
      | false ↦ elim mode.truncate as (λ b. frame (cond b (with_bytes s (inode_of s (path_of t)) []) s) ≡ frame s)
          [ true ↦ bytes_frame s _ _ | false ↦ refl ]
    ]
done_frame s number c (Read fd offset count) fresh = refl
done_frame s number c (Write fd offset bytes) fresh =
    elim (length bytes == 0) as (λ b. frame
    (cond b s (with_bytes s (inode_at c fd) (overwritten (bytes_of s (inode_at c fd)) offset bytes))) ≡ frame s)
    [ true ↦ refl | false ↦ bytes_frame s _ _ ]
done_frame s number c (Ftruncate fd size) fresh = bytes_frame s _ _
done_frame s number c (Close fd) fresh = let_go_frame _ _
done_frame s number c (Truncate t size) fresh = bytes_frame s _ _
done_frame s number c (ReadDir t) fresh = refl
done_frame s number c (Stat t) fresh = refl
done_frame s number c (Exec t) fresh = refl
done_frame s number c (Unlink t) fresh = let_go_frame _ _
done_frame s number c (Rmdir t) fresh = let_go_frame _ _
done_frame s number c (Rename o n) fresh = renamed_frame s _ _ _ (named s (path_of n))
done_frame s number c (RenameNoreplace o n) fresh = refl
done_frame s number c (Exchange o n) fresh = refl
done_frame s number c (Link o n) fresh = refl
done_frame s number c (Ruleset rights) fresh = refl
done_frame s number c (Allow rs t rights) fresh = refl
done_frame s number c (Confine rs) fresh = refl
done_frame s number c Spawn fresh = refl
done_frame s number c Connect fresh = refl

step_frame : (s : State) (number : ℕ) (call : Call) (fresh : ℕ) → frame (step s number call fresh).1 ≡ frame s
step_frame s number call fresh = by (refusals s (client_of s number) call)
  where
    by : (rs : List Reply) → frame (first_or s rs (done_of s number (client_of s number) call fresh)).1 ≡ frame s
    by [] = done_frame s number (client_of s number) call fresh
    by (r ∷ rs) = refl

frame_stays : (s : State) (es : List Entry) → frame (state_after s es) ≡ frame s
frame_stays s [] = refl
frame_stays s (e ∷ es) = frame_stays (after s e) es ∙ step_frame s e.client e.call (fresh_of e.reply)

pub rules_stay : (s : State) (es : List Entry) → (state_after s es).rules ≡ s.rules
rules_stay s es = ap (λ (p : Rules × ℕ). p.0) (frame_stays s es)

pub room_stays : (s : State) (es : List Entry) → (state_after s es).room ≡ s.room
room_stays s es = ap (λ (p : Rules × ℕ). p.1) (frame_stays s es)
