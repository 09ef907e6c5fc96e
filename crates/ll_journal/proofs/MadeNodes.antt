-- Which calls make a node, and which let one go.
use Rattle.std.specs.Prelude.{◌≡◌, ◌⊎◌, ℕ, Bool, true, false, cond, ◌==◌, List, [], ◌∷◌, length, Option, Some, None}
use Rattle.std.specs.Prelude.{is_none, is_some, option_map, refl}
use Rattle.std.proofs.Common.{ap, sym, ◌∙◌, arith, inl, inr}
use Rattle.ll_rights.specs.declared.kind.Kind.{Kind}
use Rattle.ll_rights.specs.declared.kind.Kind.TheVariants.{Reg}
use Rattle.ll_rights.specs.Map.{get, has}
use Rattle.ll_path.specs.Path.{Path}
use Rattle.ll_seq.specs.declared.call.Call.{Call}
use Rattle.ll_seq.specs.declared.call.Mode.{Mode}
use Rattle.ll_seq.specs.declared.call.Call.TheVariants.{Make, Open, Read, Write, Ftruncate, Close, Truncate, ReadDir}
use Rattle.ll_seq.specs.declared.call.Call.TheVariants.{Stat, Exec, Unlink, Rmdir, Rename, RenameNoreplace, Exchange}
use Rattle.ll_seq.specs.declared.call.Call.TheVariants.{Link, Ruleset, Allow, Confine, Spawn, Connect}
use Rattle.ll_seq.specs.declared.client.ClientRecord.{ClientRecord}
use Rattle.ll_seq.specs.declared.dentries.Dentry.{Dentry}
use Rattle.ll_seq.specs.declared.node.Node.{Node}
use Rattle.ll_seq.specs.declared.reply.Reply.{Reply}
use Rattle.ll_seq.specs.Call.{path_of, targets}
use Rattle.ll_seq.specs.State.{State, bytes_of, kind_of}
use Rattle.ll_seq.specs.Tree.{named, inode_of}
use Rattle.ll_seq.specs.Effects.{with_bytes, with_client, with_node, with_moved, with_opened, emptied, dentry_of}
use Rattle.ll_seq.specs.Effects.{overwritten, inode_at, let_go, renamed}
use Rattle.ll_seq.specs.Step.{step, refusals, first_or, client_of}
use Rattle.ll_node.specs.InodeTable.{Table, IsTable}
use Rattle.ll_node.proofs.SlotLists.{same_or_not}
use Rattle.ll_laws.proofs.Gain.{done_of}
use Rattle.ll_node.proofs.Survivors.{bytes_kind, bytes_next, let_go_next, make_kind, make_kind_other}
use Rattle.ll_laws.specs.World.{has_any}
use Rattle.ll_journal.specs.WalkEnds.{TakesName, would_make}

renamed_next : (s : State) (old new : Dentry) (inode : ℕ) (o : Option ℕ) → (renamed s old new inode o).next ≡ s.next
renamed_next s old new inode None = refl
renamed_next s old new inode (Some r) =
    elim (inode == r) as (λ b. (cond b s (let_go (with_moved s old new inode) r)).next ≡ s.next)
    [ true ↦ refl | false ↦ let_go_next (with_moved s old new inode) r ]

done_next : (s : State) (number : ℕ) (c : ClientRecord) (call : Call) (fresh : ℕ) → would_make s call ≡ false
    → (done_of s number c call fresh).1.next ≡ s.next
done_next s number c (Make kind t) fresh e = absurd (cc e)
done_next s number c (Open mode t) fresh e =
    ap (λ b. (cond b (with_client (with_node s Reg (dentry_of s (path_of t))) number
    (with_opened s c mode (path_of t) s.next))
    (with_client (emptied s mode (inode_of s (path_of t))) number
    (with_opened s c mode (path_of t) (inode_of s (path_of t))))).next) e
    ∙ elim mode.truncate as (λ b. (cond b (with_bytes s (inode_of s (path_of t)) []) s).next ≡ s.next)
    [ true ↦ bytes_next s _ _ | false ↦ refl ]
done_next s number c (Read fd offset count) fresh e = refl
done_next s number c (Write fd offset bytes) fresh e =
    elim (length bytes == 0) as (λ b.
    (cond b s (with_bytes s (inode_at c fd) (overwritten (bytes_of s (inode_at c fd)) offset bytes))).next ≡ s.next)
    [ true ↦ refl | false ↦ bytes_next s _ _ ]
done_next s number c (Ftruncate fd size) fresh e = bytes_next s _ _
done_next s number c (Close fd) fresh e = let_go_next _ _
done_next s number c (Truncate t size) fresh e = bytes_next s _ _
done_next s number c (ReadDir t) fresh e = refl
done_next s number c (Stat t) fresh e = refl
done_next s number c (Exec t) fresh e = refl
done_next s number c (Unlink t) fresh e = let_go_next _ _
done_next s number c (Rmdir t) fresh e = let_go_next _ _
done_next s number c (Rename o n) fresh e = renamed_next s _ _ _ (named s (path_of n))
done_next s number c (RenameNoreplace o n) fresh e = refl
done_next s number c (Exchange o n) fresh e = refl
done_next s number c (Link o n) fresh e = refl
done_next s number c (Ruleset rights) fresh e = refl
done_next s number c (Allow rs t rights) fresh e = refl
done_next s number c (Confine rs) fresh e = refl
done_next s number c Spawn fresh e = refl
done_next s number c Connect fresh e = refl

step_next : (s : State) (number : ℕ) (call : Call) (fresh : ℕ) → would_make s call ≡ false
    → (step s number call fresh).1.next ≡ s.next
step_next s number call fresh e = by (refusals s (client_of s number) call)
  where
    by : (rs : List Reply) → (first_or s rs (done_of s number (client_of s number) call fresh)).1.next ≡ s.next
    by [] = done_next s number (client_of s number) call fresh e
    by (r ∷ rs) = refl

-- so where a node was made the call would make one
pub would_have_made : (s t : State) (number : ℕ) (call : Call) (fresh : ℕ) (spares : List ℕ) (table : Table)
    → (step s number call fresh).1 ≡ t → IsTable t spares table → has t.nodes s.next ≡ true → would_make s call ≡ true
would_have_made s t number call fresh spares table is counted made = by (would_make s call) refl
  where
    by : (b : Bool) → would_make s call ≡ b → b ≡ true
    by true e = refl
    by false e =
        let same : t.next ≡ s.next = ap (λ (x : State). x.next) (sym is) ∙ step_next s number call fresh e in
        let none : get t.nodes s.next ≡ None = (counted.facts.unused s.next (omega (arith, same))).node in
        cc (sym (ap is_some none) ∙ made)

-- ---- a node that goes

made_stays : (s : State) (kind : Kind) (at : Dentry) (i : ℕ) → kind_of (with_node s kind at) i ≡ None
    → kind_of s i ≡ None
made_stays s kind at i gone = elim (same_or_not i s.next) [
  | inl same ↦ absurd (cc (sym (ap (kind_of (with_node s kind at)) same ∙ make_kind s kind at) ∙ gone))
  | inr other ↦ sym (make_kind_other s kind i at other) ∙ gone
]

module _ (s : State) (number : ℕ) (c : ClientRecord) (fresh i : ℕ) where
  abbrev IsGone : Call → Type 0
  IsGone call = kind_of (done_of s number c call fresh).1 i ≡ None

  opened_stays : (mode : Mode) (path : Path) (b : Bool)
      → kind_of (cond b (with_client (with_node s Reg (dentry_of s path)) number (with_opened s c mode path s.next))
      (with_client (emptied s mode (inode_of s path)) number (with_opened s c mode path (inode_of s path)))) i
      ≡ None
      → kind_of s i ≡ None
  opened_stays mode path true gone = made_stays s Reg (dentry_of s path) i gone
  opened_stays mode path false gone =
      sym (elim mode.truncate as (λ b. kind_of (cond b (with_bytes s (inode_of s path) []) s) i ≡ kind_of s i)
      [ true ↦ bytes_kind s (inode_of s path) [] i | false ↦ refl ]) ∙ gone

  done_stays : (call : Call) → has_any (targets call) ≡ true → IsGone call → (kind_of s i ≡ None) ⊎ TakesName call
  done_stays (Make kind t) path gone = inl (made_stays s kind (dentry_of s (path_of t)) i gone)
  done_stays (Open mode t) path gone = inl (opened_stays mode (path_of t) (is_none (named s (path_of t))) gone)
  done_stays (Read fd offset count) path gone = absurd (cc path)
  done_stays (Write fd offset bytes) path gone = absurd (cc path)
  done_stays (Ftruncate fd size) path gone = absurd (cc path)
  done_stays (Close fd) path gone = absurd (cc path)
  done_stays (Truncate t size) path gone = inl (sym (bytes_kind s _ _ i) ∙ gone)
  done_stays (ReadDir t) path gone = inl gone
  done_stays (Stat t) path gone = inl gone
  done_stays (Exec t) path gone = inl gone
  done_stays (Unlink t) path gone = inr (inl (t, refl))
  done_stays (Rmdir t) path gone = inr (inr (inl (t, refl)))
  done_stays (Rename o n) path gone = inr (inr (inr (o, n, refl)))
  done_stays (RenameNoreplace o n) path gone = inl gone
  done_stays (Exchange o n) path gone = inl gone
  done_stays (Link o n) path gone = inl gone
  done_stays (Ruleset rights) path gone = absurd (cc path)
  done_stays (Allow rs t rights) path gone = inl gone
  done_stays (Confine rs) path gone = absurd (cc path)
  done_stays Spawn path gone = absurd (cc path)
  done_stays Connect path gone = absurd (cc path)

-- so where a node went the call takes a name away
pub has_let_go : (s t : State) (number : ℕ) (call : Call) (fresh i : ℕ) → (step s number call fresh).1 ≡ t
    → has_any (targets call) ≡ true → has s.nodes i ≡ true → kind_of t i ≡ None → TakesName call
has_let_go s t number call fresh i is path there gone =
    by (refusals s (client_of s number) call) (ap (λ (x : State). kind_of x i) is ∙ gone)
  where
    still : (o : Option Node) → is_some o ≡ true → option_map (λ (n : Node). n.kind) o ≡ None → ⊥
    still None e f = cc e
    still (Some n) e f = cc f

    or_so : (kind_of s i ≡ None) ⊎ TakesName call → TakesName call
    or_so (inl none) = absurd (still (get s.nodes i) there none)
    or_so (inr takes) = takes

    by : (rs : List Reply) → kind_of (first_or s rs (done_of s number (client_of s number) call fresh)).1 i ≡ None
        → TakesName call
    by [] e = or_so (done_stays s number (client_of s number) fresh i call path e)
    by (r ∷ rs) e = absurd (still (get s.nodes i) there e)
