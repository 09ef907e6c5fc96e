-- No call changes the rules that a tree has, and the rights that its level knows are accepted.
use Rattle.std.specs.Prelude.{◌≡◌, ◌==◌, ℕ, Bool, true, false, not, List, [], ◌∷◌, ◌++◌, Option, None, Some, cond}
use Rattle.std.specs.Prelude.{if◌then◌else◌, is_none, length, nat_lt, refl}
use Rattle.std.specs.Int.Bits.{and_self}
use Rattle.std.specs.Option.{option_map_or}
use Rattle.std.proofs.Common.{ap, eq-eqb, ◌∙◌}
use Rattle.ll_rights.specs.declared.errno.Errno.TheVariants.{EINVAL, ENOMSG}
use Rattle.ll_rights.specs.declared.kind.Kind.TheVariants.{Reg}
use Rattle.ll_rights.specs.Access.{all_set, is_within, known_set}
use Rattle.ll_rights.specs.Errno.{refuse}
use Rattle.ll_rights.specs.Map.{get, insert, remove}
use Rattle.ll_path.specs.Path.{Path}
use Rattle.ll_rules.specs.Rules.{create_refusals}
use Rattle.ll_seq.specs.declared.call.Call.{Call}
use Rattle.ll_seq.specs.declared.call.Call.TheVariants.{Make, Open, Read, Write, Ftruncate, Close, Truncate, ReadDir}
use Rattle.ll_seq.specs.declared.call.Call.TheVariants.{Stat, Exec, Unlink, Rmdir, Rename, RenameNoreplace, Exchange}
use Rattle.ll_seq.specs.declared.call.Call.TheVariants.{Link, Ruleset, Allow, Confine, Spawn, Connect}
use Rattle.ll_seq.specs.declared.call.Mode.{Mode}
use Rattle.ll_seq.specs.declared.client.ClientRecord.{ClientRecord}
use Rattle.ll_seq.specs.declared.dentries.Dentry.{Dentry}
use Rattle.ll_seq.specs.declared.node.Node.{Node}
use Rattle.ll_seq.specs.declared.reply.Entry.{Entry}
use Rattle.ll_seq.specs.declared.reply.Reply.{Reply}
use Rattle.ll_seq.specs.Call.{first_path, second_path}
use Rattle.ll_seq.specs.Effects.{dentry_of, effect, emptied, inode_at, let_go, lives, overwritten, renamed, resized}
use Rattle.ll_seq.specs.Effects.{with_bytes, with_client, with_moved, with_node, with_opened, without_name, written}
use Rattle.ll_seq.specs.History.{after, fresh_of, state_after}
use Rattle.ll_seq.specs.State.{State, bytes_of}
use Rattle.ll_seq.specs.Step.{client_of, first_or, refusals, step}
use Rattle.ll_seq.specs.Tree.{inode_of, named}

-- ---- One call

let_go_rules : (s : State) (inode : ℕ) → (let_go s inode).rules ≡ s.rules
let_go_rules s inode = of (lives s inode)
  where
    of : (b : Bool) → (if b then s else record s { nodes = remove s.nodes inode }).rules ≡ s.rules
    of true = refl
    of false = refl

module _ (s : State) where
  bytes_rules : (inode : ℕ) (bytes : List ℕ) → (with_bytes s inode bytes).rules ≡ s.rules
  bytes_rules inode bytes = of (get s.nodes inode)
    where
      of : (o : Option Node) → (option_map_or (λ (n : Node). record s
          { nodes = insert s.nodes inode (record n { bytes = bytes }) }) o s).rules ≡ s.rules
      of None = refl
      of (Some n) = refl

  written_rules : (inode offset : ℕ) (bytes : List ℕ) → (written s inode offset bytes).rules ≡ s.rules
  written_rules inode offset bytes = of (length bytes == 0)
    where
      of : (b : Bool)
          → (if b then s else with_bytes s inode (overwritten (bytes_of s inode) offset bytes)).rules ≡ s.rules
      of true = refl
      of false = bytes_rules inode (overwritten (bytes_of s inode) offset bytes)

  emptied_rules : (mode : Mode) (inode : ℕ) → (emptied s mode inode).rules ≡ s.rules
  emptied_rules mode inode = of mode.truncate
    where
      of : (b : Bool) → (if b then with_bytes s inode [] else s).rules ≡ s.rules
      of true = bytes_rules inode []
      of false = refl

  renamed_rules : (old new : Dentry) (inode : ℕ) (o : Option ℕ) → (renamed s old new inode o).rules ≡ s.rules
  renamed_rules old new inode None = refl
  renamed_rules old new inode (Some replaced) = of (inode == replaced)
    where
      of : (b : Bool) → (if b then s else let_go (with_moved s old new inode) replaced).rules ≡ s.rules
      of true = refl
      of false = let_go_rules (with_moved s old new inode) replaced

  opened_rules : (number : ℕ) (c : ClientRecord) (mode : Mode) (path : Path) → (b : Bool)
      → (if b then with_client (with_node s Reg (dentry_of s path)) number (with_opened s c mode path s.next)
      else with_client (emptied s mode (inode_of s path)) number (with_opened s c mode path (inode_of s path))).rules
      ≡ s.rules
  opened_rules number c mode path true = refl
  opened_rules number c mode path false = emptied_rules mode (inode_of s path)

  done_rules : (number : ℕ) (c : ClientRecord) (at new : Path) (fresh : ℕ) (call : Call)
      → (effect s number c at new fresh call).1.rules ≡ s.rules
  done_rules number c at new fresh (Make kind t) = refl
  done_rules number c at new fresh (Open mode t) = opened_rules number c mode at (is_none (named s at))
  done_rules number c at new fresh (Read fd offset count) = refl
  done_rules number c at new fresh (Write fd offset bytes) = written_rules (inode_at c fd) offset bytes
  done_rules number c at new fresh (Ftruncate fd size) =
      bytes_rules (inode_at c fd) (resized (bytes_of s (inode_at c fd)) size)
  done_rules number c at new fresh (Close fd) =
      let_go_rules (with_client s number (record c { descriptors = remove c.descriptors fd })) (inode_at c fd)
  done_rules number c at new fresh (Truncate t size) =
      bytes_rules (inode_of s at) (resized (bytes_of s (inode_of s at)) size)
  done_rules number c at new fresh (ReadDir t) = refl
  done_rules number c at new fresh (Stat t) = refl
  done_rules number c at new fresh (Exec t) = refl
  done_rules number c at new fresh (Unlink t) =
      let_go_rules (record s { entries = remove s.entries (dentry_of s at) }) (inode_of s at)
  done_rules number c at new fresh (Rmdir t) =
      let_go_rules (record s { entries = remove s.entries (dentry_of s at) }) (inode_of s at)
  done_rules number c at new fresh (Rename from into) =
      renamed_rules (dentry_of s at) (dentry_of s new) (inode_of s at) (named s new)
  done_rules number c at new fresh (RenameNoreplace from into) = refl
  done_rules number c at new fresh (Exchange from into) = refl
  done_rules number c at new fresh (Link from into) = refl
  done_rules number c at new fresh (Ruleset rights) = refl
  done_rules number c at new fresh (Allow rs t rights) = refl
  done_rules number c at new fresh (Confine rs) = refl
  done_rules number c at new fresh Spawn = refl
  done_rules number c at new fresh Connect = refl

  step_rules : (number : ℕ) (call : Call) (fresh : ℕ) → (step s number call fresh).1.rules ≡ s.rules
  step_rules number call fresh = by (refusals s (client_of s number) call)
    where
      by : (rs : List Reply) → (first_or s rs
          (effect s number (client_of s number) (first_path call) (second_path call) fresh call)).1.rules ≡ s.rules
      by [] = done_rules number (client_of s number) (first_path call) (second_path call) fresh call
      by (r ∷ rs) = refl

-- ---- A history

pub same_rules : (s : State) (es : List Entry) → (state_after s es).rules ≡ s.rules
same_rules s [] = refl
same_rules s (e ∷ es) = same_rules (after s e) es ∙ step_rules s e.client e.call (fresh_of e.reply)

-- ---- What a level knows

pub level_accepted : (abi : ℕ) → create_refusals abi (known_set abi) ≡ []
level_accepted abi =
    (λ i. refuse (not (within i)) EINVAL ++ refuse (known_set abi == 0) ENOMSG) ∙ some (nat_lt abi 2) (nat_lt abi 3)
  where
    within : is_within (known_set abi) (known_set abi) ≡ true
    within = eq-eqb _ (known_set abi) (and_self (known_set abi))

    some : (a b : Bool) → refuse ((if a then 0x1fff else if b then 0x3fff else all_set) == 0) ENOMSG ≡ []
    some true b = refl
    some false true = refl
    some false false = refl
