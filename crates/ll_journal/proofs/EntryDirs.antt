-- Each entry of the shown state stands in a node that lives: what a call takes away has no names in it.
use Rattle.std.specs.Prelude.{◌≡◌, ◌≢◌, ℕ, Bool, true, false, cond, not, ◌||◌, ◌&&◌, ◌==◌, List, []}
use Rattle.std.specs.Prelude.{◌∷◌, ◌++◌, length, Option, Some, None, is_none, unwrap_or, refl}
use Rattle.std.specs.Option.{option_map_or}
use Rattle.std.proofs.Common.{sym, ap, ◌∙◌, inl, inr, arith}
use Rattle.ll_rights.specs.declared.kind.Kind.{Kind}
use Rattle.ll_rights.specs.declared.kind.Kind.TheVariants.{Reg, Dir}
use Rattle.ll_rights.specs.declared.errno.Errno.{Errno}
use Rattle.ll_rights.specs.declared.errno.Errno.TheVariants.{EISDIR, ENOTDIR, ENOTEMPTY, EINVAL, EBUSY, EBADF}
use Rattle.ll_rights.specs.Errno.{refuse}
use Rattle.ll_rights.specs.Kind.{is_dir}
use Rattle.ll_rights.specs.Map.{get, remove}
use Rattle.ll_rights.proofs.Maps.{get-empty, got_inserted, got_left}
use Rattle.ll_path.specs.Path.{Path, parent, last_name, is_root, is_beneath}
use Rattle.ll_path.specs.declared.target.Target.{Target}
use Rattle.ll_decide.specs.Verdict.{when}
use Rattle.ll_seq.specs.declared.call.Mode.{Mode}
use Rattle.ll_seq.specs.declared.call.Call.{Call}
use Rattle.ll_seq.specs.declared.call.Call.TheVariants.{Make, Open, Read, Write, Ftruncate, Close, Truncate, ReadDir}
use Rattle.ll_seq.specs.declared.call.Call.TheVariants.{Stat, Exec, Unlink, Rmdir, Rename, RenameNoreplace, Exchange}
use Rattle.ll_seq.specs.declared.call.Call.TheVariants.{Link, Ruleset, Allow, Confine, Spawn, Connect}
use Rattle.ll_seq.specs.declared.client.ClientRecord.{ClientRecord}
use Rattle.ll_seq.specs.declared.client.Descriptor.{Descriptor}
use Rattle.ll_seq.specs.declared.dentries.Dentry.{Dentry}
use Rattle.ll_seq.specs.declared.reply.Entry.{Entry}
use Rattle.ll_seq.specs.declared.reply.Reply.{Reply}
use Rattle.ll_seq.specs.Call.{path_of}
use Rattle.ll_seq.specs.State.{Name, State, dentry, dentry_cmp, child, root, kind_of, bytes_of, start}
use Rattle.ll_seq.specs.Tree.{named, inode_of, directory_of, kind_or_file, kind_at}
use Rattle.ll_seq.specs.Stages.{in_the_way, way_to, lying, has_names, replace_refusals}
use Rattle.ll_seq.specs.Effects.{let_go, with_name, with_node, with_moved, with_client, with_opened, without_name}
use Rattle.ll_seq.specs.Effects.{renamed, with_bytes, emptied, dentry_of, overwritten, inode_at}
use Rattle.ll_seq.specs.Step.{step, refusals, first_or, client_of}
use Rattle.ll_seq.specs.History.{after, state_after, fresh_of}
use Rattle.ll_seq.proofs.DentryOrder.{dentry_total, dentry_exact}
use Rattle.ll_laws.proofs.Trees.{IsTree, root_dir}
use Rattle.ll_laws.proofs.Unrefused.{nil_left, nil_right, not_refused, neither, walked, inode_is, last_child}
use Rattle.ll_laws.proofs.Gain.{done_of, Passes, passes, start_tree, kept_tree}
use Rattle.ll_laws.specs.World.{World, shown}
use Rattle.ll_laws.proofs.Undisturbed.{let_go_entries, with_bytes_entries, not_empty}
use Rattle.ll_node.proofs.Survivors.{bytes_kind, let_go_kind, make_kind_other}
use Rattle.ll_journal.proofs.OpenFiles.{AreFiles, OpensFiles, end_known, own_files, start_files, step_files}

abbrev pub HasNode : State → ℕ → Type 0
HasNode s inode = (k : Kind) × (kind_of s inode ≡ Some k)

-- each entry's directory is a node
abbrev pub AreIn : State → Type 0
AreIn s = (d : ℕ) (n : Name) (x : ℕ) → child s d n ≡ Some x → HasNode s d

-- nothing is in it
abbrev IsBare : State → ℕ → Type 0
IsBare s d = (n : Name) (x : ℕ) → child s d n ≢ Some x

-- ---- where a name stands

-- nothing is in the way
parent_node : (s : State) → IsTree s → (p : Path) → in_the_way s (parent p) root ≡ [] → HasNode s (directory_of s p)
parent_node s t p way =
    let x = walked s (parent p) root (root_dir s t) way in
    let w = end_known s t (parent p) root x.0 (Dir, t.root_node) x.1 in
    (w.0, ap (kind_of s) (inode_is s (parent p) x.0 x.1) ∙ w.1)

-- the entry of the path's last name
entry_at : (s : State) → IsTree s → (p : Path) (x : ℕ) → is_root p ≡ false → in_the_way s (parent p) root ≡ []
    → named s p ≡ Some x → child s (directory_of s p) (last_name p) ≡ Some x
entry_at s t p x r way e =
    let w = walked s (parent p) root (root_dir s t) way in
    ap (λ d. child s d (last_name p)) (inode_is s (parent p) w.0 w.1) ∙ last_child s p w.0 x r w.1 e

module _ (s : State) (a : Target) (way : way_to s a ++ [] ≡ []) (t : IsTree s) where
  one_way : HasNode s (directory_of s (path_of a))
  one_way = parent_node s t (path_of a) (nil_left (way_to s a) [] way)

module _ (s : State) (o n : Target) (way : way_to s o ++ (way_to s n ++ []) ≡ []) (t : IsTree s) where
  old_clear : in_the_way s (parent (path_of o)) root ≡ []
  old_clear = nil_left (way_to s o) (way_to s n ++ []) way

  new_clear : in_the_way s (parent (path_of n)) root ≡ []
  new_clear = nil_left (way_to s n) [] (nil_right (way_to s o) (way_to s n ++ []) way)

  old_way : HasNode s (directory_of s (path_of o))
  old_way = parent_node s t (path_of o) old_clear

  new_way : HasNode s (directory_of s (path_of n))
  new_way = parent_node s t (path_of n) new_clear

not_root : (old new : Path) (above : Errno) → lying old new above ≡ [] → is_root new ≡ false
not_root old new above e =
    let busy = refuse (is_root old || is_root new) EBUSY in
    let beneath = refuse (is_beneath old new) EINVAL in
    (neither _ _ (not_refused _ EBUSY (nil_left busy beneath
    (nil_left (busy ++ beneath) (refuse (is_beneath new old) above) e)))).1

-- ---- what has no names in it

module _ (s : State) (t : IsTree s) (h : AreIn s) where
  a_dir : (d : ℕ) (n : Name) (x : ℕ) → child s d n ≡ Some x → kind_of s d ≡ Some Dir
  a_dir d n x c = let w = h d n x c in w.1 ∙ ap Some (t.dirs d n x c w.0 w.1)

  file_bare : (i : ℕ) → is_dir (kind_or_file s i) ≡ false → IsBare s i
  file_bare i e n x c = cc (sym e ∙ ap (λ k. is_dir (unwrap_or k Reg)) (a_dir i n x c))

  -- a node that a rename may replace
  replaced_bare : (i r : ℕ) → (i == r) ≡ false → replace_refusals s i r ≡ [] → IsBare s r
  replaced_bare i r differ none = by (is_dir (kind_or_file s r)) refl
    where
      first : List Errno
      first = refuse (is_dir (kind_or_file s r) && not (is_dir (kind_or_file s i))) EISDIR

      second : List Errno
      second = refuse (is_dir (kind_or_file s i) && not (is_dir (kind_or_file s r))) ENOTDIR

      third : List Errno
      third = refuse (is_dir (kind_or_file s r) && has_names s r) ENOTEMPTY

      all : (first ++ second) ++ third ≡ []
      all = ap (λ b. when (not b) ((first ++ second) ++ third)) (sym differ) ∙ none

      by : (b : Bool) → is_dir (kind_or_file s r) ≡ b → IsBare s r
      by false e n x c = file_bare r e n x c
      by true e n x c =
          cc (sym (not_empty s r n x c) ∙ ap (λ b. b && has_names s r) (sym e)
          ∙ not_refused _ ENOTEMPTY (nil_right (first ++ second) third all))

-- ---- the tree after a change

module _ (s : State) (h : AreIn s) where
  same_in : (t : State) → t.entries ≡ s.entries → ((i : ℕ) → kind_of t i ≡ kind_of s i) → AreIn t
  same_in t e k d n x c = let w = h d n x (ap (λ es. get es (dentry d n)) (sym e) ∙ c) in (w.0, k d ∙ w.1)

  put_in : (at : Dentry) (i : ℕ) → HasNode s at.directory → AreIn (with_name s at i)
  put_in at i here d n x c = elim (got_inserted dentry_total dentry_exact s.entries at i (dentry d n) x c) [
    | inl a ↦ (here.0, ap (λ (q : Dentry). kind_of s q.directory) a.0 ∙ here.1)
    | inr a ↦ h d n x a
  ]

  left_in : (at : Dentry) → AreIn (record s { entries = remove s.entries at })
  left_in at d n x c = h d n x (got_left dentry_total dentry_exact s.entries at (dentry d n) x c).0

  let_go_in : (r : ℕ) → IsBare s r → AreIn (let_go s r)
  let_go_in r bare d n x c =
      let was : child s d n ≡ Some x = ap (λ es. get es (dentry d n)) (sym (let_go_entries s r)) ∙ c in
      let w = h d n x was in
      (w.0, let_go_kind s r d (λ same. bare n x (ap (λ i. child s i n) (sym same) ∙ was)) ∙ w.1)

  made_in : (kind : Kind) (at : Dentry) → IsTree s → HasNode s at.directory → AreIn (with_node s kind at)
  made_in kind at t here d n x c =
      let w = put_in at s.next here d n x c in
      let old = t.nodes d w.0 w.1 in
      (w.0, make_kind_other s kind d at (λ same. absurd (omega arith)) ∙ w.1)

  bytes_in : (inode : ℕ) (bytes : List ℕ) → AreIn (with_bytes s inode bytes)
  bytes_in inode bytes = same_in (with_bytes s inode bytes) (with_bytes_entries s inode bytes)
      (bytes_kind s inode bytes)

unnamed_in : (s : State) → AreIn s → (at : Dentry) (r : ℕ) → IsBare s r → AreIn (without_name s at r)
unnamed_in s h at r bare = let_go_in (record s { entries = remove s.entries at }) (left_in s h at) r
    (λ n x c. bare n x (got_left dentry_total dentry_exact s.entries at (dentry r n) x c).0)

moved_in : (s : State) → AreIn s → (old new : Dentry) (i : ℕ) → HasNode s new.directory → AreIn (with_moved s old new i)
moved_in s h old new i there = put_in (record s { entries = remove s.entries old }) (left_in s h old) new i there

-- what had the new name has still nothing in it
moved_bare : (s : State) (old new : Dentry) (i r : ℕ) → child s new.directory new.name ≡ Some r → IsBare s r
    → IsBare (with_moved s old new i) r
moved_bare s old new i r there bare n x c =
    elim (got_inserted dentry_total dentry_exact (remove s.entries old) new i (dentry r n) x c) [
      | inl a ↦ bare new.name r (ap (λ (q : Dentry). child s q.directory new.name) a.0 ∙ there)
      | inr a ↦ bare n x (got_left dentry_total dentry_exact s.entries old (dentry r n) x a).0
    ]

-- ---- each call

module _ (s : State) (number : ℕ) (c : ClientRecord) (fresh : ℕ) (t : IsTree s) (h : AreIn s) where
  open_in : (mode : Mode) (a : Target) → Passes s c (Open mode a) → AreIn (done_of s number c (Open mode a) fresh).1
  open_in mode a p =
      elim (is_none (named s (path_of a))) as
      (λ b. AreIn (cond b (with_client (with_node s Reg (dentry_of s (path_of a))) number
      (with_opened s c mode (path_of a) s.next))
      (with_client (emptied s mode (inode_of s (path_of a))) number
      (with_opened s c mode (path_of a) (inode_of s (path_of a)))))) [
        | true ↦ made_in s h Reg (dentry_of s (path_of a)) t (one_way s a p.way t)
        | false ↦ elim mode.truncate as (λ b. AreIn (cond b (with_bytes s (inode_of s (path_of a)) []) s))
            [ true ↦ bytes_in s h (inode_of s (path_of a)) [] | false ↦ h ]
      ]

  close_in : (fd : ℕ) → AreFiles s c → Passes s c (Close fd) → AreIn (done_of s number c (Close fd) fresh).1
  close_in fd files p =
      let_go_in (with_client s number (record c { descriptors = remove c.descriptors fd })) h (inode_at c fd)
      (elim (get c.descriptors fd) as (λ o. get c.descriptors fd ≡ o → is_none o ≡ false
      → IsBare s (option_map_or (λ (d : Descriptor). d.inode) o 0)) [
        | None ↦ λ e f. absurd (cc f)
        | Some d ↦ λ e f n x g. cc (sym (files fd d e) ∙ a_dir s t h d.inode n x g)
      ] refl (not_refused _ EBADF p.numbers))

  rename_in : (o n : Target) → Passes s c (Rename o n) → AreIn (done_of s number c (Rename o n) fresh).1
  rename_in o n p = by (named s (path_of n)) refl p.kinds
    where
      old : Dentry
      old = dentry_of s (path_of o)

      new : Dentry
      new = dentry_of s (path_of n)

      inode : ℕ
      inode = inode_of s (path_of o)

      moved : AreIn (with_moved s old new inode)
      moved = moved_in s h old new inode (new_way s o n p.way t)

      by : (r : Option ℕ) → named s (path_of n) ≡ r → option_map_or (replace_refusals s inode) r [] ≡ []
          → AreIn (renamed s old new inode r)
      by None e none = moved
      by (Some r) e none =
          elim (inode == r) as (λ b. (inode == r) ≡ b → AreIn (cond b s (let_go (with_moved s old new inode) r))) [
            | true ↦ λ same. h
            | false ↦ λ differ. let_go_in (with_moved s old new inode) moved r
                (moved_bare s old new inode r
                (entry_at s t (path_of n) r (not_root (path_of o) (path_of n) ENOTEMPTY p.relation)
                (new_clear s o n p.way t) e) (replaced_bare s t h inode r differ none))
          ] refl

  done_in : (call : Call) → AreFiles s c → Passes s c call → AreIn (done_of s number c call fresh).1
  done_in (Make kind a) files p = made_in s h kind (dentry_of s (path_of a)) t (one_way s a p.way t)
  done_in (Open mode a) files p = open_in mode a p
  done_in (Read fd offset count) files p = h
  done_in (Write fd offset bytes) files p =
      elim (length bytes == 0) as (λ b. AreIn
      (cond b s (with_bytes s (inode_at c fd) (overwritten (bytes_of s (inode_at c fd)) offset bytes))))
      [ true ↦ h | false ↦ bytes_in s h _ _ ]
  done_in (Ftruncate fd size) files p = bytes_in s h _ _
  done_in (Close fd) files p = close_in fd files p
  done_in (Truncate a size) files p = bytes_in s h _ _
  done_in (ReadDir a) files p = h
  done_in (Stat a) files p = h
  done_in (Exec a) files p = h
  done_in (Unlink a) files p =
      unnamed_in s h (dentry_of s (path_of a)) (inode_of s (path_of a))
      (file_bare s t h (inode_of s (path_of a)) (not_refused _ EISDIR p.kinds))
  done_in (Rmdir a) files p =
      unnamed_in s h (dentry_of s (path_of a)) (inode_of s (path_of a))
      (λ n x e. cc (sym (not_empty s (inode_of s (path_of a)) n x e)
      ∙ not_refused _ ENOTEMPTY (nil_right (refuse (not (is_dir (kind_at s (path_of a)))) ENOTDIR)
      (refuse (has_names s (inode_of s (path_of a))) ENOTEMPTY) p.kinds)))
  done_in (Rename o n) files p = rename_in o n p
  done_in (RenameNoreplace o n) files p =
      moved_in s h (dentry_of s (path_of o)) (dentry_of s (path_of n)) (inode_of s (path_of o)) (new_way s o n p.way t)
  done_in (Exchange o n) files p =
      put_in (with_name s (dentry_of s (path_of n)) (inode_of s (path_of o)))
      (put_in s h (dentry_of s (path_of n)) (inode_of s (path_of o)) (new_way s o n p.way t))
      (dentry_of s (path_of o)) (inode_of s (path_of n)) (old_way s o n p.way t)
  done_in (Link o n) files p = put_in s h (dentry_of s (path_of n)) (inode_of s (path_of o)) (new_way s o n p.way t)
  done_in (Ruleset rights) files p = h
  done_in (Allow rs a rights) files p = h
  done_in (Confine rs) files p = h
  done_in Spawn files p = h
  done_in Connect files p = h

-- ---- whole histories

step_in : (s : State) (number : ℕ) (call : Call) (fresh : ℕ) → IsTree s → AreIn s → OpensFiles s
    → AreIn (step s number call fresh).1
step_in s number call fresh t h files = by (refusals s (client_of s number) call) refl
  where
    by : (rs : List Reply) → refusals s (client_of s number) call ≡ rs
        → AreIn (first_or s rs (done_of s number (client_of s number) call fresh)).1
    by (reply ∷ rs) e = h
    by [] e = done_in s number (client_of s number) fresh t h call (own_files s number files)
        (passes s (client_of s number) call e)

after_in : (s : State) (es : List Entry) → IsTree s → OpensFiles s → AreIn s → AreIn (state_after s es)
after_in s [] t files h = h
after_in s (e ∷ es) t files h = after_in (after s e) es (kept_tree s e t)
    (step_files s e.client e.call (fresh_of e.reply) t files) (step_in s e.client e.call (fresh_of e.reply) t h files)

pub all_in : (w : World) → AreIn (shown w)
all_in w = after_in (start w.rules w.room) w.history (start_tree w.rules w.room) (start_files w.rules w.room)
    (λ d n x c. absurd (cc (sym (get-empty ℕ dentry_cmp (dentry d n)) ∙ c)))
