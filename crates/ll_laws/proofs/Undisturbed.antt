-- What no call takes away: the entry of a directory that the call doesn't move, and that isn't empty or is no last node
-- of it.
use Rattle.std.specs.Prelude.{◌≡◌, ◌≢◌, ◌⊎◌, ℕ, ◌<◌, Bool, true, false, cond, not, ◌&&◌, ◌||◌, ◌==◌, List, [], ◌∷◌}
use Rattle.std.specs.Prelude.{◌++◌, map, filter, length, nat_lt, suc, Option, Some, None, is_some, is_none, unwrap_or}
use Rattle.std.specs.Prelude.{option_map, option_to_list, refl}
use Rattle.std.specs.Option.{option_map_or}
use Rattle.std.specs.Ordering.{eq_by_cmp}
use Rattle.std.specs.Cmp.{nat_cmp_total}
use Rattle.std.specs.FinMap.{nat_cmp-IsAntisymmetric}
use Rattle.std.specs.FinMap.Entries.{find}
use Rattle.std.proofs.Common.{sym, ap, ◌∙◌, inl, inr, arith}
use Rattle.std.proofs.lemmas.Bool.{eq-eqb, eqb-true, lt-ltb}
use Rattle.std.proofs.lemmas.List.Folds.{list_any-append}
use Rattle.ll_rights.specs.declared.kind.Kind.{Kind}
use Rattle.ll_rights.specs.declared.kind.Kind.TheVariants.{Reg, Dir}
use Rattle.ll_rights.specs.declared.errno.Errno.{Errno}
use Rattle.ll_rights.specs.declared.errno.Errno.TheVariants.{EISDIR, ENOTDIR, ENOTEMPTY, EEXIST, EBUSY, EINVAL, ENOENT}
use Rattle.ll_rights.specs.Errno.{refuse}
use Rattle.ll_rights.specs.Kind.{is_dir}
use Rattle.ll_rights.specs.Map.{get, insert, remove, entries}
use Rattle.ll_rights.proofs.Maps.{equal_at, get-insert_other, get-remove_other, insert_cases}
use Rattle.ll_path.specs.Path.{Path, parent, last_name, is_root, is_beneath}
use Rattle.ll_path.specs.declared.target.Target.{Target}
use Rattle.ll_decide.specs.Verdict.{when}
use Rattle.ll_seq.specs.declared.call.Mode.{Mode}
use Rattle.ll_seq.specs.declared.call.Call.{Call}
use Rattle.ll_seq.specs.declared.call.Call.TheVariants.{Make, Open, Read, Write, Ftruncate, Close, Truncate, ReadDir}
use Rattle.ll_seq.specs.declared.call.Call.TheVariants.{Stat, Exec, Unlink, Rmdir, Rename, RenameNoreplace, Exchange}
use Rattle.ll_seq.specs.declared.call.Call.TheVariants.{Link, Ruleset, Allow, Confine, Spawn, Connect}
use Rattle.ll_seq.specs.declared.client.ClientRecord.{ClientRecord}
use Rattle.ll_seq.specs.declared.dentries.Dentry.{Dentry}
use Rattle.ll_seq.specs.declared.node.Node.{Node}
use Rattle.ll_seq.specs.declared.reply.Reply.TheVariants.{Done}
use Rattle.ll_seq.specs.Call.{path_of, first_path, second_path}
use Rattle.ll_seq.specs.State.{Name, dentry, dentry_cmp, State, child, root, kind_of, bytes_of, empty_node}
use Rattle.ll_seq.specs.Tree.{named, inode_of, kind_or_file, kind_at, end_from}
use Rattle.ll_seq.specs.Stages.{in_the_way, way_to, missing, present, lying, has_names, replace_refusals}
use Rattle.ll_seq.specs.Effects.{lives, let_go, with_node, with_moved, renamed, with_bytes, with_client, with_opened}
use Rattle.ll_seq.specs.Effects.{emptied, dentry_of, overwritten, inode_at}
use Rattle.ll_seq.proofs.DentryOrder.{dentry_total, dentry_exact}
use Rattle.ll_seq.proofs.Parted.{end_push}
use Rattle.ll_laws.proofs.Chains.{same_Some}
use Rattle.ll_laws.proofs.Trees.{IsTree, root_dir}
use Rattle.ll_laws.proofs.Unrefused.{nil_left, nil_right, not_refused, neither, walked, inode_is, parent_last}
use Rattle.ll_laws.proofs.Changes.{IsPlace, let_go_shrinks, without_name_shrinks, close_shrinks, with_bytes_shrinks}
use Rattle.ll_laws.proofs.Gain.{done_of, Passes, there_is}
use Rattle.ll_laws.specs.Walk.{is_in}
use Rattle.ll_laws.specs.World.{is_done, last_node, last_nodes, moving, is_same_node, moved_by}
use Rattle.ll_laws.proofs.Tests.{or_false, itself_in, first_in, second_in, is_in_filter}

-- ---- places

place_of : (s : State) → IsTree s → (p : Path) → is_root p ≡ false → in_the_way s (parent p) root ≡ [] → (d : ℕ)
    × IsPlace s p d
place_of s t p r w = let x = walked s (parent p) root (root_dir s t) w in
    (x.0, record { not_root = r; dir = x.2; named = x.1 })

dentry_is : (s : State) (p : Path) (d : ℕ) → IsPlace s p d → dentry_of s p ≡ dentry d (last_name p)
dentry_is s p d h = ap (λ i. dentry i (last_name p)) (inode_is s (parent p) d h.named)

at_dentry : (s : State) (p : Path) (d x : ℕ) → IsPlace s p d → child s d (last_name p) ≡ Some x → named s p ≡ Some x
at_dentry s p d x h c = ap (λ q. end_from s q root) (parent_last p h.not_root)
    ∙ end_push s (parent p) (last_name p) root d x h.named c

-- what stands at the place of the path is what it names
entry_named : (s : State) (p : Path) (e : ℕ) → IsPlace s p e → (d : ℕ) (n : Name) (x : ℕ) → child s d n ≡ Some x
    → dentry d n ≡ dentry_of s p → named s p ≡ Some x
entry_named s p e h d n x c is = at_dentry s p e x h (ap (get s.entries) (sym (is ∙ dentry_is s p e h)) ∙ c)

-- so the entry of another node has another place
other_dentry : (s : State) (p : Path) (e : ℕ) → IsPlace s p e → (d : ℕ) (n : Name) (x : ℕ) → child s d n ≡ Some x
    → named s p ≢ Some x → dentry d n ≢ dentry_of s p
other_dentry s p e h d n x c away is = away (entry_named s p e h d n x c is)

insert_kept : (s : State) (p : Path) (e : ℕ) → IsPlace s p e → (i d : ℕ) (n : Name) (x : ℕ) → child s d n ≡ Some x
    → named s p ≢ Some x → get (insert s.entries (dentry_of s p) i) (dentry d n) ≡ Some x
insert_kept s p e h i d n x c away =
    get-insert_other dentry_total dentry_exact s.entries (dentry_of s p) i (dentry d n)
    (other_dentry s p e h d n x c away) ∙ c

remove_kept : (s : State) (p : Path) (e : ℕ) → IsPlace s p e → (d : ℕ) (n : Name) (x : ℕ) → child s d n ≡ Some x
    → named s p ≢ Some x → get (remove s.entries (dentry_of s p)) (dentry d n) ≡ Some x
remove_kept s p e h d n x c away =
    get-remove_other dentry_total dentry_exact s.entries (dentry_of s p) (dentry d n)
    (other_dentry s p e h d n x c away) ∙ c

pub let_go_entries : (s : State) (i : ℕ) → (let_go s i).entries ≡ s.entries
let_go_entries s i = elim (lives s i) as (λ b. (cond b s (record s { nodes = remove s.nodes i })).entries ≡ s.entries)
    [ true ↦ refl | false ↦ refl ]

pub with_bytes_entries : (s : State) (i : ℕ) (bytes : List ℕ) → (with_bytes s i bytes).entries ≡ s.entries
with_bytes_entries s i bytes =
    elim (get s.nodes i) as (λ o.
    (option_map_or (λ (n : Node). record s { nodes = insert s.nodes i (record n { bytes = bytes }) }) o s).entries
    ≡ s.entries) [ None ↦ refl | Some n ↦ refl ]

-- ---- what is empty

more_than_none : (k : ℕ) → nat_lt 0 (suc k) ≡ true
more_than_none k = lt-ltb 0 (suc k) (omega arith)

names_here : (es : List (Dentry × ℕ)) (d : ℕ) (n : Name) (x : ℕ) → find dentry_cmp (dentry d n) es ≡ Some x
    → nat_lt 0 (length (map (λ (e : Dentry × ℕ). e.0.name) (filter (λ (e : Dentry × ℕ). e.0.directory == d) es))) ≡ true
names_here [] d n x e = absurd (cc e)
names_here (f ∷ es) d n x e =
    elim (f.0.directory == d) as (λ b. (f.0.directory == d) ≡ b
    → nat_lt 0 (length (map (λ (g : Dentry × ℕ). g.0.name)
    (cond b (f ∷ filter (λ (g : Dentry × ℕ). g.0.directory == d) es)
    (filter (λ (g : Dentry × ℕ). g.0.directory == d) es)))) ≡ true) [
      | true ↦ λ h. more_than_none _
      | false ↦ λ h. elim (eq_by_cmp dentry_cmp (dentry d n) f.0) as (λ b. eq_by_cmp dentry_cmp (dentry d n) f.0 ≡ b
          → cond b (Some f.1) (find dentry_cmp (dentry d n) es) ≡ Some x
          → nat_lt 0 (length (map (λ (g : Dentry × ℕ). g.0.name) (filter (λ (g : Dentry × ℕ). g.0.directory == d) es)))
          ≡ true) [
            | true ↦ λ k g. absurd (cc (sym h
                ∙ eq-eqb f.0.directory d (sym
                (ap (λ (q : Dentry). q.directory) (dentry_exact (dentry d n) f.0 (equal_at _ k))))))
            | false ↦ λ k g. names_here es d n x g
          ] refl e
    ] refl

-- a directory that has a name isn't empty
pub not_empty : (s : State) (d : ℕ) (n : Name) (x : ℕ) → child s d n ≡ Some x → has_names s d ≡ true
unfolding get entries
not_empty s d n x e = names_here s.entries.list d n x e

-- ---- kinds

-- A node has the kind that it had. (One that is new has no entry before)
node_kinds : (s : State) (kind : Kind) (at : Dentry) (i : ℕ) (k : Kind) → i < s.next
    → kind_of (with_node s kind at) i ≡ Some k → kind_of s i ≡ Some k
node_kinds s kind at i k small f =
    elim (insert_cases nat_cmp_total nat_cmp-IsAntisymmetric s.nodes s.next (empty_node kind) i) [
      | inl a ↦ let w = a.0 in absurd (omega arith)
      | inr a ↦ sym (ap (option_map (λ (n : Node). n.kind)) a.1) ∙ f
    ]

renamed_kinds : (s : State) (old new : Dentry) (inode : ℕ) (replaced : Option ℕ) (i : ℕ) (k : Kind)
    → kind_of (renamed s old new inode replaced) i ≡ Some k → kind_of s i ≡ Some k
renamed_kinds s old new inode None i k f = f
renamed_kinds s old new inode (Some r) i k e =
    elim (inode == r) as (λ b. kind_of (cond b s (let_go (with_moved s old new inode) r)) i ≡ Some k
    → kind_of s i ≡ Some k) [
      | true ↦ λ f. f
      | false ↦ λ f. (let_go_shrinks (with_moved s old new inode) r).kinds i k f
    ] e

pub done_kinds : (s : State) (number : ℕ) (c : ClientRecord) (call : Call) (fresh i : ℕ) (k : Kind) → i < s.next
    → kind_of (done_of s number c call fresh).1 i ≡ Some k → kind_of s i ≡ Some k
done_kinds s number c (Make kind t) fresh i k small f = node_kinds s kind (dentry_of s (path_of t)) i k small f
done_kinds s number c (Open mode t) fresh i k small e =
    elim (is_none (named s (path_of t))) as
    (λ b. kind_of (cond b (with_client (with_node s Reg (dentry_of s (path_of t))) number
    (with_opened s c mode (path_of t) s.next))
    (with_client (emptied s mode (inode_of s (path_of t))) number
    (with_opened s c mode (path_of t) (inode_of s (path_of t))))) i ≡ Some k → kind_of s i ≡ Some k) [
      | true ↦ λ f. node_kinds s Reg (dentry_of s (path_of t)) i k small f
      | false ↦ elim mode.truncate as (λ b. kind_of (cond b (with_bytes s (inode_of s (path_of t)) []) s) i ≡ Some k
          → kind_of s i ≡ Some k) [
            | true ↦ λ f. (with_bytes_shrinks s (inode_of s (path_of t)) []).kinds i k f
            | false ↦ λ f. f
          ]
    ] e
done_kinds s number c (Read fd offset count) fresh i k small f = f
done_kinds s number c (Write fd offset bytes) fresh i k small e =
    elim (length bytes == 0) as (λ b. kind_of
    (cond b s (with_bytes s (inode_at c fd) (overwritten (bytes_of s (inode_at c fd)) offset bytes))) i ≡ Some k
    → kind_of s i ≡ Some k) [
      | true ↦ λ f. f
      | false ↦ λ f. (with_bytes_shrinks s (inode_at c fd) _).kinds i k f
    ] e
done_kinds s number c (Ftruncate fd size) fresh i k small f = (with_bytes_shrinks s (inode_at c fd) _).kinds i k f
done_kinds s number c (Close fd) fresh i k small f = (close_shrinks s number _ (inode_at c fd)).kinds i k f
done_kinds s number c (Truncate t size) fresh i k small f =
    (with_bytes_shrinks s (inode_of s (path_of t)) _).kinds i k f
done_kinds s number c (ReadDir t) fresh i k small f = f
done_kinds s number c (Stat t) fresh i k small f = f
done_kinds s number c (Exec t) fresh i k small f = f
done_kinds s number c (Unlink t) fresh i k small f =
    (without_name_shrinks s (dentry_of s (path_of t)) (inode_of s (path_of t))).kinds i k f
done_kinds s number c (Rmdir t) fresh i k small f =
    (without_name_shrinks s (dentry_of s (path_of t)) (inode_of s (path_of t))).kinds i k f
done_kinds s number c (Rename o n) fresh i k small f =
    renamed_kinds s (dentry_of s (path_of o)) (dentry_of s (path_of n)) (inode_of s (path_of o)) (named s (path_of n)) i
    k f
done_kinds s number c (RenameNoreplace o n) fresh i k small f = f
done_kinds s number c (Exchange o n) fresh i k small f = f
done_kinds s number c (Link o n) fresh i k small f = f
done_kinds s number c (Ruleset rights) fresh i k small f = f
done_kinds s number c (Allow rs t rights) fresh i k small f = f
done_kinds s number c (Confine rs) fresh i k small f = f
done_kinds s number c Spawn fresh i k small f = f
done_kinds s number c Connect fresh i k small f = f

-- ---- entries

-- a directory that the call leaves where it is: it isn't moved, and has names or is no last node
pub record Stays (s : State) (call : Call) (x : ℕ) : Type 0 where
  pub dir : kind_of s x ≡ Some Dir
  pub unmoved : is_in (moved_by s call Done) x ≡ false
  pub held : (has_names s x ≡ true) ⊎ (is_in (last_nodes s call) x ≡ false)

dir_is : (s : State) (p : Path) (x : ℕ) → named s p ≡ Some x → kind_of s x ≡ Some Dir → is_dir (kind_at s p) ≡ true
dir_is s p x e f = ap (λ i. is_dir (kind_or_file s i)) (inode_is s p x e) ∙ ap (λ o. is_dir (unwrap_or o Reg)) f

missing_away : (s : State) (p : Path) (x : ℕ) → is_some (named s p) ≡ false → named s p ≢ Some x
missing_away s p x e f = cc (sym e ∙ ap is_some f)

-- the last node of a path
last_is : (s : State) (p : Path) (x : ℕ) → is_root p ≡ false → named s p ≡ Some x → is_in (last_node s p) x ≡ true
last_is s p x r e = ap (λ b. is_in (when (not b) (option_to_list (named s p))) x) r
    ∙ ap (λ o. is_in (option_to_list o) x) e ∙ itself_in x []

-- what has names isn't empty
named_away : (s : State) (x i : ℕ) → i ≡ x → has_names s x ≡ true → has_names s i ≡ false → ⊥
named_away s x i e f g = cc (sym f ∙ ap (has_names s) (sym e) ∙ g)

no_root : (s : State) (p : Path) → is_none (named s p) ≡ true → is_root p ≡ false
no_root s [] e = absurd (cc e)
no_root s (m ∷ p) e = refl

-- the places of both names of a call that moves or links
record Places (s : State) (from to : Path) : Type 0 where
  left : ℕ
  here : IsPlace s from left
  entered : ℕ
  there : IsPlace s to entered

places : (s : State) → IsTree s → (o n : Target) (above : Errno) → lying (path_of o) (path_of n) above ≡ []
    → way_to s o ++ (way_to s n ++ []) ≡ [] → Places s (path_of o) (path_of n)
places s t o n above relation way =
    let busy = refuse (is_root (path_of o) || is_root (path_of n)) EBUSY in
    let beneath = refuse (is_beneath (path_of o) (path_of n)) EINVAL in
    let roots = neither _ _ (not_refused _ EBUSY
    (nil_left busy beneath (nil_left (busy ++ beneath) (refuse (is_beneath (path_of n) (path_of o)) above)
    relation))) in
    let from = place_of s t (path_of o) roots.0 (nil_left (way_to s o) (way_to s n ++ []) way) in
    let to = place_of s t (path_of n) roots.1 (nil_left (way_to s n) [] (nil_right (way_to s o) (way_to s n ++ []) way))
    in
    record { left = from.0; here = from.1; entered = to.0; there = to.1 }

-- the inodes that are directories
abbrev directories : State → List ℕ → List ℕ
directories s xs = filter (λ inode. is_dir (kind_or_file s inode)) xs

among_directories : (s : State) (xs : List ℕ) (x : ℕ) → kind_of s x ≡ Some Dir → is_in xs x ≡ true
    → is_in (directories s xs) x ≡ true
among_directories s [] x d i = i
among_directories s (y ∷ xs) x d i =
    elim (is_dir (kind_or_file s y)) as (λ b. is_dir (kind_or_file s y) ≡ b
    → is_in (cond b (y ∷ directories s xs) (directories s xs)) x ≡ true) [
      | true ↦ λ k. elim (y == x) as (λ b. (b || is_in xs x) ≡ true → (b || is_in (directories s xs) x) ≡ true)
          [ true ↦ λ f. refl | false ↦ λ f. among_directories s xs x d f ] i
      | false ↦ λ k. elim (y == x) as (λ b. (y == x) ≡ b → (b || is_in xs x) ≡ true
          → is_in (directories s xs) x ≡ true) [
            | true ↦ λ e f. absurd (cc (sym k ∙ ap (λ z. is_dir (kind_or_file s z)) (eqb-true y x e)
                ∙ ap (λ o. is_dir (unwrap_or o Reg)) d))
            | false ↦ λ e f. among_directories s xs x d f
          ] refl i
    ] refl

module _ (s : State) (number : ℕ) (c : ClientRecord) (fresh : ℕ) (t : IsTree s) (d : ℕ) (n : Name) (x : ℕ)
    (is : child s d n ≡ Some x) where
  make_kept : (kind : Kind) (p : Target) → Passes s c (Make kind p)
      → child (done_of s number c (Make kind p) fresh).1 d n ≡ Some x
  make_kept kind p h =
      let w = place_of s t (path_of p) (not_refused _ EBUSY h.relation) (nil_left (way_to s p) [] h.way) in
      insert_kept s (path_of p) w.0 w.1 s.next d n x is
      (missing_away s (path_of p) x (not_refused _ EEXIST h.existence))

  unlink_kept : (p : Target) → Passes s c (Unlink p) → Stays s (Unlink p) x
      → child (done_of s number c (Unlink p) fresh).1 d n ≡ Some x
  unlink_kept p h k =
      let w = place_of s t (path_of p) (not_refused _ EBUSY h.relation) (nil_left (way_to s p) [] h.way) in
      ap (λ es. get es (dentry d n)) (let_go_entries _ _)
      ∙ remove_kept s (path_of p) w.0 w.1 d n x is
      (λ e. cc (sym (dir_is s (path_of p) x e k.dir) ∙ not_refused _ EISDIR h.kinds))

  rmdir_kept : (p : Target) → Passes s c (Rmdir p) → Stays s (Rmdir p) x
      → child (done_of s number c (Rmdir p) fresh).1 d n ≡ Some x
  rmdir_kept p h k =
      let r = not_refused (is_root (path_of p)) EBUSY h.relation in
      let w = place_of s t (path_of p) r (nil_left (way_to s p) [] h.way) in
      let empty : has_names s (inode_of s (path_of p)) ≡ false =
      not_refused _ ENOTEMPTY (nil_right (refuse (not (is_dir (kind_at s (path_of p)))) ENOTDIR)
      (refuse (has_names s (inode_of s (path_of p))) ENOTEMPTY) h.kinds) in
      ap (λ es. get es (dentry d n)) (let_go_entries _ _)
      ∙ remove_kept s (path_of p) w.0 w.1 d n x is (λ e. elim k.held [
        | inl f ↦ named_away s x _ (inode_is s (path_of p) x e) f empty
        | inr f ↦ cc (sym f ∙ first_in (last_node s (path_of p)) [] x (last_is s (path_of p) x r e))
      ])

  open_kept : (mode : Mode) (p : Target) → Passes s c (Open mode p)
      → child (done_of s number c (Open mode p) fresh).1 d n ≡ Some x
  open_kept mode p h =
      elim (is_none (named s (path_of p))) as (λ b. is_none (named s (path_of p)) ≡ b
      → child (cond b (with_client (with_node s Reg (dentry_of s (path_of p))) number
      (with_opened s c mode (path_of p) s.next))
      (with_client (emptied s mode (inode_of s (path_of p))) number
      (with_opened s c mode (path_of p) (inode_of s (path_of p))))) d n ≡ Some x) [
        | true ↦ λ e.
            let w = place_of s t (path_of p) (no_root s (path_of p) e) (nil_left (way_to s p) [] h.way) in
            insert_kept s (path_of p) w.0 w.1 s.next d n x is (λ f. cc (sym e ∙ ap is_none f))
        | false ↦ λ e. elim mode.truncate as
            (λ b. get (cond b (with_bytes s (inode_of s (path_of p)) []) s).entries (dentry d n) ≡ Some x) [
              | true ↦ ap (λ es. get es (dentry d n)) (with_bytes_entries s _ _) ∙ is
              | false ↦ is
            ]
      ] refl

  module _ (o p : Target) where
    abbrev from : Path
    from = path_of o

    abbrev to : Path
    to = path_of p

    link_kept : Passes s c (Link o p) → child (done_of s number c (Link o p) fresh).1 d n ≡ Some x
    link_kept h =
        let w = places s t o p EEXIST h.relation h.way in
        insert_kept s to w.entered w.there (inode_of s from) d n x is
        (missing_away s to x (not_refused _ EEXIST (nil_right (missing s from) (present s to) h.existence)))

    -- what is moved isn't the node
    not_moved : (call : Call) → is_same_node s (first_path call) (second_path call) ≡ false → Stays s call x
        → is_in (map (inode_of s) (moving call)) x ≡ true → ⊥
    not_moved call differ k i =
        cc (sym k.unmoved
        ∙ ap (λ b. is_in (when (not b) (directories s (map (inode_of s) (moving call)))) x) differ
        ∙ among_directories s (map (inode_of s) (moving call)) x k.dir i)

    is_here : (xs : List ℕ) → named s from ≡ Some x → is_in (inode_of s from ∷ xs) x ≡ true
    is_here xs e = ap (λ i. is_in (i ∷ xs) x) (inode_is s from x e) ∙ itself_in x xs

    -- the entry stays where the one node moves that had the first name, and the other name isn't the directory's
    moved_kept : Places s from to → named s from ≢ Some x → named s to ≢ Some x
        → child (with_moved s (dentry_of s from) (dentry_of s to) (inode_of s from)) d n ≡ Some x
    moved_kept w not_old not_new =
        get-insert_other dentry_total dentry_exact (remove s.entries (dentry_of s from)) (dentry_of s to)
        (inode_of s from) (dentry d n) (other_dentry s to w.entered w.there d n x is not_new)
        ∙ remove_kept s from w.left w.here d n x is not_old

    rename_kept : Passes s c (Rename o p) → Stays s (Rename o p) x
        → child (done_of s number c (Rename o p) fresh).1 d n ≡ Some x
    rename_kept h k = by (named s to) refl h.kinds
      where
        w : Places s from to
        w = places s t o p ENOTEMPTY h.relation h.way

        not_old : is_same_node s from to ≡ false → named s from ≢ Some x
        not_old differ e = not_moved (Rename o p) differ k (is_here [] e)

        -- it would be replaced, and so be empty and the last node of the new path
        not_new : (r : ℕ) → named s to ≡ Some r → (inode_of s from == r) ≡ false
            → replace_refusals s (inode_of s from) r ≡ [] → named s to ≢ Some x
        not_new r e g kinds f =
            let first = refuse (is_dir (kind_or_file s r) && not (is_dir (kind_or_file s (inode_of s from)))) EISDIR in
            let second = refuse (is_dir (kind_or_file s (inode_of s from)) && not (is_dir (kind_or_file s r))) ENOTDIR
            in
            let third = refuse (is_dir (kind_or_file s r) && has_names s r) ENOTEMPTY in
            let same : r ≡ x = same_Some r x (sym e ∙ f) in
            let all : (first ++ second) ++ third ≡ [] =
            ap (λ b. when (not b) ((first ++ second) ++ third)) (sym g) ∙ kinds in
            let dir : is_dir (kind_or_file s r) ≡ true =
            ap (λ i. is_dir (kind_or_file s i)) same ∙ ap (λ q. is_dir (unwrap_or q Reg)) k.dir in
            let empty : has_names s r ≡ false =
            ap (λ b. b && has_names s r) (sym dir)
            ∙ not_refused _ ENOTEMPTY (nil_right (first ++ second) third all) in
            elim k.held [
              | inl i ↦ named_away s x r same i empty
              | inr i ↦ cc (sym i ∙ second_in (last_node s from) (last_node s to ++ []) x
                  (first_in (last_node s to) [] x (last_is s to x w.there.not_root f)))
            ]

        by : (r : Option ℕ) → named s to ≡ r → option_map_or (replace_refusals s (inode_of s from)) r [] ≡ []
            → child (renamed s (dentry_of s from) (dentry_of s to) (inode_of s from) r) d n ≡ Some x
        by None e kinds = moved_kept w (not_old (ap (λ q. option_map_or (λ node. inode_of s from == node) q false) e))
            (λ f. cc (sym e ∙ f))
        by (Some r) e kinds =
            elim (inode_of s from == r) as (λ b. (inode_of s from == r) ≡ b
            → child (cond b s (let_go (with_moved s (dentry_of s from) (dentry_of s to) (inode_of s from)) r)) d n
            ≡ Some x) [
              | true ↦ λ g. is
              | false ↦ λ g. ap (λ es. get es (dentry d n)) (let_go_entries _ r)
                  ∙ moved_kept w (not_old (ap (λ q. option_map_or (λ node. inode_of s from == node) q false) e ∙ g))
                  (not_new r e g kinds)
            ] refl

    noreplace_kept : Passes s c (RenameNoreplace o p) → Stays s (RenameNoreplace o p) x
        → child (done_of s number c (RenameNoreplace o p) fresh).1 d n ≡ Some x
    noreplace_kept h k =
        let free = not_refused _ EEXIST (nil_right (missing s from) (present s to) h.existence) in
        moved_kept (places s t o p EEXIST h.relation h.way)
        (λ e. not_moved (RenameNoreplace o p) (none (named s to) free) k (is_here [] e)) (missing_away s to x free)
      where
        none : (q : Option ℕ) → is_some q ≡ false → option_map_or (λ node. inode_of s from == node) q false ≡ false
        none None e = refl
        none (Some r) e = absurd (cc e)

    exchange_kept : Passes s c (Exchange o p) → Stays s (Exchange o p) x
        → child (done_of s number c (Exchange o p) fresh).1 d n ≡ Some x
    exchange_kept h k =
        elim (insert_cases dentry_total dentry_exact (insert s.entries (dentry_of s to) (inode_of s from))
        (dentry_of s from) (inode_of s to) (dentry d n)) [
          | inl a ↦
              let f = entry_named s from w.left w.here d n x is a.0 in
              a.1 ∙ ap Some (sym (same (λ differ. not_moved (Exchange o p) differ k (is_here (inode_of s to ∷ []) f)))
              ∙ inode_is s from x f)
          | inr a ↦ a.1 ∙ elim (insert_cases dentry_total dentry_exact s.entries (dentry_of s to) (inode_of s from)
              (dentry d n)) [
                | inl b ↦
                    let f = entry_named s to w.entered w.there d n x is b.0 in
                    b.1 ∙ ap Some (same (λ differ. not_moved (Exchange o p) differ k
                    (second_in (inode_of s from ∷ []) (inode_of s to ∷ []) x
                    (ap (λ i. is_in (i ∷ []) x) (inode_is s to x f) ∙ itself_in x []))) ∙ inode_is s to x f)
                | inr b ↦ b.1 ∙ is
              ]
        ]
      where
        w : Places s from to
        w = places s t o p EINVAL h.relation h.way

        -- one node has both names, as it isn't moved
        same : (is_same_node s from to ≡ false → ⊥) → inode_of s from ≡ inode_of s to
        same away = by (named s to) refl
          where
            at : (r : ℕ) → named s to ≡ Some r → (b : Bool) → (inode_of s from == r) ≡ b
                → inode_of s from ≡ inode_of s to
            at r e true g = eqb-true (inode_of s from) r g ∙ sym (inode_is s to r e)
            at r e false g = absurd (away (ap (λ q. option_map_or (λ node. inode_of s from == node) q false) e ∙ g))

            by : (q : Option ℕ) → named s to ≡ q → inode_of s from ≡ inode_of s to
            by None e = absurd (away (ap (λ q. option_map_or (λ node. inode_of s from == node) q false) e))
            by (Some r) e = at r e (inode_of s from == r) refl

  -- every call that isn't refused
  pub done_kept : (call : Call) → Passes s c call → Stays s call x
      → child (done_of s number c call fresh).1 d n ≡ Some x
  done_kept (Make kind p) h k = make_kept kind p h
  done_kept (Open mode p) h k = open_kept mode p h
  done_kept (Read fd offset count) h k = is
  done_kept (Write fd offset bytes) h k =
      elim (length bytes == 0) as (λ b. child
      (cond b s (with_bytes s (inode_at c fd) (overwritten (bytes_of s (inode_at c fd)) offset bytes))) d n
      ≡ Some x) [
        | true ↦ is
        | false ↦ ap (λ es. get es (dentry d n)) (with_bytes_entries s _ _) ∙ is
      ]
  done_kept (Ftruncate fd size) h k = ap (λ es. get es (dentry d n)) (with_bytes_entries s _ _) ∙ is
  done_kept (Close fd) h k = ap (λ es. get es (dentry d n)) (let_go_entries _ _) ∙ is
  done_kept (Truncate p size) h k = ap (λ es. get es (dentry d n)) (with_bytes_entries s _ _) ∙ is
  done_kept (ReadDir p) h k = is
  done_kept (Stat p) h k = is
  done_kept (Exec p) h k = is
  done_kept (Unlink p) h k = unlink_kept p h k
  done_kept (Rmdir p) h k = rmdir_kept p h k
  done_kept (Rename o p) h k = rename_kept o p h k
  done_kept (RenameNoreplace o p) h k = noreplace_kept o p h k
  done_kept (Exchange o p) h k = exchange_kept o p h k
  done_kept (Link o p) h k = link_kept o p h
  done_kept (Ruleset rights) h k = is
  done_kept (Allow rs p rights) h k = is
  done_kept (Confine rs) h k = is
  done_kept Spawn h k = is
  done_kept Connect h k = is

-- ---- what is moved is a last node

-- of two lists that it isn't in, neither
neither_in : (xs ys : List ℕ) (x : ℕ) → is_in (xs ++ ys) x ≡ false → (is_in xs x ≡ false) × (is_in ys x ≡ false)
neither_in xs ys x e = neither (is_in xs x) (is_in ys x) (sym (list_any-append (λ y. y == x) xs ys) ∙ e)

kept_away : (b : Bool) (test : ℕ → Bool) (xs : List ℕ) (x : ℕ) → is_in xs x ≡ false
    → is_in (when b (filter test xs)) x ≡ false
kept_away true test xs x e = is_in_filter test xs x ∙ ap (λ a. a && test x) e
kept_away false test xs x e = refl

module _ (s : State) (t : IsTree s) (c : ClientRecord) (x : ℕ) where
  not_named : (p : Path) (d : ℕ) → IsPlace s p d → is_none (named s p) ≡ false → is_in (last_node s p) x ≡ false
      → (inode_of s p == x) ≡ false
  not_named p d h there away = or_false _ (λ same.
      let node = there_is s p there in
      cc (sym away ∙ last_is s p x h.not_root (node.1
      ∙ ap Some (sym (inode_is s p node.0 node.1) ∙ eqb-true _ _ same))))

  moving_away : (call : Call) → Passes s c call → is_in (last_nodes s call) x ≡ false
      → is_in (map (inode_of s) (moving call)) x ≡ false
  moving_away (Make kind p) h away = refl
  moving_away (Open mode p) h away = refl
  moving_away (Read fd offset count) h away = refl
  moving_away (Write fd offset bytes) h away = refl
  moving_away (Ftruncate fd size) h away = refl
  moving_away (Close fd) h away = refl
  moving_away (Truncate p size) h away = refl
  moving_away (ReadDir p) h away = refl
  moving_away (Stat p) h away = refl
  moving_away (Exec p) h away = refl
  moving_away (Unlink p) h away = refl
  moving_away (Rmdir p) h away = refl
  moving_away (Rename o p) h away =
      let w = places s t o p ENOTEMPTY h.relation h.way in
      let last = neither_in (last_node s (path_of o)) (last_node s (path_of p) ++ []) x away in
      ap (λ b. b || false) (not_named (path_of o) w.left w.here (not_refused _ ENOENT h.existence) last.0)
  moving_away (RenameNoreplace o p) h away =
      let w = places s t o p EEXIST h.relation h.way in
      let last = neither_in (last_node s (path_of o)) (last_node s (path_of p) ++ []) x away in
      let there = not_refused _ ENOENT (nil_left (missing s (path_of o)) (present s (path_of p)) h.existence) in
      ap (λ b. b || false) (not_named (path_of o) w.left w.here there last.0)
  moving_away (Exchange o p) h away =
      let w = places s t o p EINVAL h.relation h.way in
      let last = neither_in (last_node s (path_of o)) (last_node s (path_of p) ++ []) x away in
      let old = not_refused _ ENOENT (nil_left (missing s (path_of o)) (missing s (path_of p)) h.existence) in
      let new = not_refused _ ENOENT (nil_right (missing s (path_of o)) (missing s (path_of p)) h.existence) in
      ap (λ b. b || ((inode_of s (path_of p) == x) || false)) (not_named (path_of o) w.left w.here old last.0)
      ∙ ap (λ b. b || false) (not_named (path_of p) w.entered w.there new
      (neither_in (last_node s (path_of p)) [] x last.1).0)
  moving_away (Link o p) h away = refl
  moving_away (Ruleset rights) h away = refl
  moving_away (Allow rs p rights) h away = refl
  moving_away (Confine rs) h away = refl
  moving_away Spawn h away = refl
  moving_away Connect h away = refl

  -- so a directory that is none stays where it is
  pub stays : (call : Call) → Passes s c call → kind_of s x ≡ Some Dir → is_in (last_nodes s call) x ≡ false
      → Stays s call x
  stays call h dir away = record {
    dir = dir;
    unmoved = kept_away (is_done Done && not (is_same_node s (first_path call) (second_path call)))
        (λ inode. is_dir (kind_or_file s inode)) (map (inode_of s) (moving call)) x (moving_away call h away);
    held = inr away;
  }
