-- Each descriptor is of a regular file, and that has a node as long as it is open.
use Rattle.std.specs.Prelude.{◌≡◌, ℕ, ◌+◌, ◌<◌, Bool, true, false, cond, not, ◌||◌, ◌==◌, List, [], ◌∷◌, length, Option}
use Rattle.std.specs.Prelude.{Some, None, unwrap_or, is_some, is_none, option_map, option_and_then, if◌then◌else◌, refl}
use Rattle.std.specs.Ordering.{nat_cmp}
use Rattle.std.specs.Cmp.{nat_cmp_total}
use Rattle.std.specs.FinMap.{nat_cmp-IsAntisymmetric}
use Rattle.std.proofs.Common.{sym, ap, ◌∙◌, inl, inr, arith}
use Rattle.std.proofs.lemmas.Bool.{eq-eqb}
use Rattle.std.proofs.lemmas.Bool.Decides.{nat_tests}
use Rattle.ll_rights.specs.declared.kind.Kind.{Kind}
use Rattle.ll_rights.specs.declared.kind.Kind.TheVariants.{Reg, Dir, Sym, Fifo, Sock, Char, Block}
use Rattle.ll_rights.specs.Kind.{is_dir}
use Rattle.ll_rights.specs.Map.{empty, get, has, remove}
use Rattle.ll_rights.proofs.Maps.{get-empty, got_inserted, got_left}
use Rattle.ll_path.specs.Path.{Path}
use Rattle.ll_path.specs.declared.target.Target.{Target}
use Rattle.ll_seq.specs.declared.call.Call.{Call}
use Rattle.ll_seq.specs.declared.call.Call.TheVariants.{Make, Open, Read, Write, Ftruncate, Close, Truncate, ReadDir}
use Rattle.ll_seq.specs.declared.call.Call.TheVariants.{Stat, Exec, Unlink, Rmdir, Rename, RenameNoreplace, Exchange}
use Rattle.ll_seq.specs.declared.call.Call.TheVariants.{Link, Ruleset, Allow, Confine, Spawn, Connect}
use Rattle.ll_seq.specs.declared.call.Mode.{Mode}
use Rattle.ll_seq.specs.declared.client.ClientRecord.{ClientRecord}
use Rattle.ll_seq.specs.declared.client.Descriptor.{Descriptor}
use Rattle.ll_seq.specs.declared.dentries.Dentry.{Dentry}
use Rattle.ll_seq.specs.declared.node.Node.{Node}
use Rattle.ll_seq.specs.declared.reply.Entry.{Entry}
use Rattle.ll_seq.specs.declared.reply.Reply.{Reply}
use Rattle.ll_seq.specs.declared.rules.Rules.{Rules}
use Rattle.ll_seq.specs.Call.{path_of}
use Rattle.ll_seq.specs.State.{State, start, root, child, kind_of, bytes_of, name_count, is_open, new_client}
use Rattle.ll_seq.specs.Tree.{end_from, named, inode_of, kind_or_file}
use Rattle.ll_seq.specs.Stages.{lowest_free}
use Rattle.ll_seq.specs.CallParts.{not_to_open, opened, exchanged}
use Rattle.ll_seq.specs.Effects.{dentry_of, lives, let_go, with_client, with_node, with_bytes, with_name, with_moved}
use Rattle.ll_seq.specs.Effects.{renamed, with_opened, emptied, inode_at, overwritten, child_of}
use Rattle.ll_seq.specs.Step.{step, refusals, first_or, client_of}
use Rattle.ll_seq.specs.Facts.{opens_in, open_count}
use Rattle.ll_seq.specs.History.{state_after, after}
use Rattle.ll_seq.proofs.Counts.{bit, opens_is, opens-less, client_among}
use Rattle.ll_laws.proofs.Chains.{same_Some}
use Rattle.ll_laws.proofs.Trees.{IsTree}
use Rattle.ll_laws.proofs.Unrefused.{inode_is, neither}
use Rattle.ll_laws.proofs.Gain.{Passes, passes, done_of, there_is, kept_tree, start_tree}
use Rattle.ll_laws.proofs.ClientChanges.{let_go_clients, with_bytes_clients}
use Rattle.ll_laws.specs.World.{World, shown}
use Rattle.ll_node.proofs.Survivors.{bytes_kind, let_go_kind, make_kind, make_kind_other}

-- each descriptor of the record is of a regular file
abbrev pub AreFiles : State → ClientRecord → Type 0
AreFiles s c = (fd : ℕ) (d : Descriptor) → get c.descriptors fd ≡ Some d → kind_of s d.inode ≡ Some Reg

-- each client's are
abbrev pub OpensFiles : State → Type 0
OpensFiles s = (number : ℕ) (c : ClientRecord) → get s.clients number ≡ Some c → AreFiles s c

-- ---- what leaves them so

-- the files stay
kept_files : (s t : State) → t.clients ≡ s.clients → ((i : ℕ) → kind_of s i ≡ Some Reg → kind_of t i ≡ Some Reg)
    → OpensFiles s → OpensFiles t
kept_files s t clients kept h number c is fd d g =
    kept d.inode (h number c (ap (λ m. get m number) (sym clients) ∙ is) fd d g)

other_client : (s : State) (number : ℕ) (c : ClientRecord) → OpensFiles s → AreFiles s c
    → OpensFiles (with_client s number c)
other_client s number c h files m r is fd d g =
    elim (got_inserted nat_cmp_total nat_cmp-IsAntisymmetric s.clients number c m r is) [
      | inl a ↦ files fd d (ap (λ (x : ClientRecord). get x.descriptors fd) (sym a.1) ∙ g)
      | inr a ↦ h m r a fd d g
    ]

no_files : (s : State) → AreFiles s new_client
no_files s fd d g = absurd (cc (sym (get-empty Descriptor nat_cmp fd) ∙ g))

pub own_files : (s : State) (number : ℕ) → OpensFiles s → AreFiles s (client_of s number)
own_files s number h fd d g = by (get s.clients number) refl g
  where
    by : (o : Option ClientRecord) → get s.clients number ≡ o → get (unwrap_or o new_client).descriptors fd ≡ Some d
        → kind_of s d.inode ≡ Some Reg
    by None is g = no_files s fd d g
    by (Some c) is g = h number c is fd d g

bytes_files : (s : State) (i : ℕ) (bytes : List ℕ) → OpensFiles s → OpensFiles (with_bytes s i bytes)
bytes_files s i bytes h = kept_files s (with_bytes s i bytes) (with_bytes_clients s i bytes)
    (λ j e. bytes_kind s i bytes j ∙ e) h

-- ---- a node stays as long as it is open

is_opened : (s : State) (number fd : ℕ) (c : ClientRecord) (d : Descriptor) → get s.clients number ≡ Some c
    → get c.descriptors fd ≡ Some d → is_open s d.inode ≡ true
is_opened s number fd c d is g =
    let some = client_among s.clients number d.inode c is in
    let all : open_count s d.inode ≡ opens_in c.descriptors d.inode + some.0 = some.1 in
    let one = opens-less c.descriptors fd d.inode d g in
    let itself = ap bit (eq-eqb d.inode d.inode refl) in
    opens_is s d.inode ∙ above (open_count s d.inode) (omega arith)
  where
    above : (n : ℕ) → 0 < n → not (n == 0) ≡ true
    above n h = grind (arith, nat_tests)

let_go_files : (s : State) (i : ℕ) → OpensFiles s → OpensFiles (let_go s i)
let_go_files s i h number c is fd d g = by (lives s i) refl
  where
    there : get s.clients number ≡ Some c
    there = ap (λ m. get m number) (sym (let_go_clients s i)) ∙ is

    by : (b : Bool) → lives s i ≡ b → kind_of (let_go s i) d.inode ≡ Some Reg
    by true e = ap (λ b. kind_of (cond b s (record s { nodes = remove s.nodes i })) d.inode) e ∙ h number c there fd d g
    by false e =
        let closed = (neither ((i == root) || not (name_count s i == 0)) (is_open s i) e).1 in
        let_go_kind s i d.inode (λ same. cc (sym closed ∙ ap (is_open s) (sym same)
        ∙ is_opened s number fd c d there g)) ∙ h number c there fd d g

-- ---- what is opened is a regular file

may_open : (k : Kind) → not_to_open k ≡ [] → k ≡ Reg
may_open Reg e = refl
may_open Dir e = absurd (cc e)
may_open Sym e = absurd (cc e)
may_open Fifo e = absurd (cc e)
may_open Sock e = absurd (cc e)
may_open Char e = absurd (cc e)
may_open Block e = absurd (cc e)

-- what a path names has a node
pub end_known : (s : State) → IsTree s → (p : Path) (i x : ℕ) → (k : Kind) × (kind_of s i ≡ Some k)
    → end_from s p i ≡ Some x → (k : Kind) × (kind_of s x ≡ Some k)
end_known s t [] i x known e = (known.0, ap (kind_of s) (sym (same_Some i x e)) ∙ known.1)
end_known s t (n ∷ p) i x known e =
    elim (child s i n) as (λ c. child s i n ≡ c → option_and_then (end_from s p) c ≡ Some x → (k : Kind)
    × (kind_of s x ≡ Some k)) [
      | None ↦ λ is g. absurd (cc g)
      | Some j ↦ λ is g. end_known s t p j x (t.known i n j is) g
    ] refl e

file_named : (s : State) → IsTree s → (p : Path) → is_none (named s p) ≡ false
    → not_to_open (kind_or_file s (inode_of s p)) ≡ [] → kind_of s (inode_of s p) ≡ Some Reg
file_named s t p there allowed =
    let node = there_is s p there in
    let known = end_known s t p root node.0 (Dir, t.root_node) node.1 in
    let kind : kind_of s (inode_of s p) ≡ Some known.0 = ap (kind_of s) (inode_is s p node.0 node.1) ∙ known.1 in
    kind ∙ ap Some (sym (ap (λ o. unwrap_or o Reg) kind) ∙ may_open (kind_or_file s (inode_of s p)) allowed)

-- the new descriptor, and those that were
open_files : (s u : State) (number : ℕ) (mode : Mode) (p : Path) (inode : ℕ) → OpensFiles u → u.clients ≡ s.clients
    → kind_of u inode ≡ Some Reg → OpensFiles (with_client u number (with_opened s (client_of s number) mode p inode))
open_files s u number mode p inode h same file = other_client u number (with_opened s c mode p inode) h (λ fd d g.
    elim (got_inserted nat_cmp_total nat_cmp-IsAntisymmetric c.descriptors (unwrap_or (lowest_free c.descriptors) 0)
    (opened s c mode p inode) fd d g) [
      | inl a ↦ ap (λ (e : Descriptor). kind_of u e.inode) a.1 ∙ file
      | inr a ↦ own_files u number h fd d (ap (λ m. get (unwrap_or (get m number) new_client).descriptors fd) same ∙ a)
    ])
  where
    c : ClientRecord
    c = client_of s number

-- ---- one call

new_node : (s : State) (kind : Kind) (at : Dentry) → IsTree s → OpensFiles s → OpensFiles (with_node s kind at)
new_node s kind at t h = kept_files s (with_node s kind at) refl
    (λ i e. let w = t.nodes i Reg e in make_kind_other s kind i at (λ is. omega arith) ∙ e) h

same_files : (s t : State) → t.clients ≡ s.clients → t.nodes ≡ s.nodes → OpensFiles s → OpensFiles t
same_files s t clients nodes h =
    kept_files s t clients (λ i e. ap (λ m. option_map (λ (n : Node). n.kind) (get m i)) nodes ∙ e) h

renamed_files : (s : State) (old new : Dentry) (i : ℕ) (replaced : Option ℕ) → OpensFiles s
    → OpensFiles (renamed s old new i replaced)
renamed_files s old new i None h = same_files s (with_moved s old new i) refl refl h
renamed_files s old new i (Some r) h =
    elim (i == r) as (λ b. OpensFiles (cond b s (let_go (with_moved s old new i) r))) [
      | true ↦ h
      | false ↦ let_go_files (with_moved s old new i) r (same_files s (with_moved s old new i) refl refl h)
    ]

module _ (s : State) (number : ℕ) (t : IsTree s) (h : OpensFiles s) where
  abbrev me : ClientRecord
  me = client_of s number

  on_open : (mode : Mode) (a : Target) → Passes s me (Open mode a) → (b : Bool) → is_none (named s (path_of a)) ≡ b
      → OpensFiles (cond b (with_client (with_node s Reg (dentry_of s (path_of a))) number
      (with_opened s me mode (path_of a) s.next))
      (with_client (emptied s mode (inode_of s (path_of a))) number
      (with_opened s me mode (path_of a) (inode_of s (path_of a)))))
  on_open mode a p true e =
      open_files s (with_node s Reg (dentry_of s (path_of a))) number mode (path_of a) s.next
      (new_node s Reg (dentry_of s (path_of a)) t h) refl (make_kind s Reg (dentry_of s (path_of a)))
  on_open mode a p false e = by mode.truncate
    where
      allowed : (o : Option ℕ) → is_none o ≡ false
          → (cond (is_some o) (not_to_open (kind_or_file s (inode_of s (path_of a)))) []) ≡ []
          → not_to_open (kind_or_file s (inode_of s (path_of a))) ≡ []
      allowed None none free = absurd (cc none)
      allowed (Some x) none free = free

      file : kind_of s (inode_of s (path_of a)) ≡ Some Reg
      file = file_named s t (path_of a) e (allowed (named s (path_of a)) e p.kinds)

      by : (b : Bool) → OpensFiles (with_client (cond b (with_bytes s (inode_of s (path_of a)) []) s) number
          (with_opened s me mode (path_of a) (inode_of s (path_of a))))
      by true =
          open_files s (with_bytes s (inode_of s (path_of a)) []) number mode (path_of a) (inode_of s (path_of a))
          (bytes_files s (inode_of s (path_of a)) [] h) (with_bytes_clients s (inode_of s (path_of a)) [])
          (bytes_kind s (inode_of s (path_of a)) [] (inode_of s (path_of a)) ∙ file)
      by false = open_files s s number mode (path_of a) (inode_of s (path_of a)) h refl file

  -- another record of the caller with its descriptors
  mine : (c : ClientRecord) → c.descriptors ≡ me.descriptors → OpensFiles (with_client s number c)
  mine c same = other_client s number c h (λ fd d g. own_files s number h fd d (ap (λ m. get m fd) (sym same) ∙ g))

  spawned : (b : Bool) (fd : ℕ) (d : Descriptor) → get (if b then me.descriptors else empty) fd ≡ Some d
      → kind_of s d.inode ≡ Some Reg
  spawned true fd d g = own_files s number h fd d g
  spawned false fd d g = no_files s fd d g

  done_files : (call : Call) (fresh : ℕ) → Passes s me call → OpensFiles (done_of s number me call fresh).1
  done_files (Make kind a) fresh p = new_node s kind (dentry_of s (path_of a)) t h
  done_files (Open mode a) fresh p = on_open mode a p (is_none (named s (path_of a))) refl
  done_files (Read fd offset count) fresh p = h
  done_files (Write fd offset bytes) fresh p =
      elim (length bytes == 0) as (λ b. OpensFiles
      (cond b s (with_bytes s (inode_at me fd) (overwritten (bytes_of s (inode_at me fd)) offset bytes)))) [
        | true ↦
            h
        | false ↦ bytes_files s _ _ h
      ]
  done_files (Ftruncate fd size) fresh p = bytes_files s _ _ h
  done_files (Truncate a size) fresh p = bytes_files s _ _ h
  done_files (Close fd) fresh p =
      let_go_files (with_client s number (record me { descriptors = remove me.descriptors fd })) _
      (other_client s number (record me { descriptors = remove me.descriptors fd }) h
      (λ q d g. own_files s number h q d
      (got_left nat_cmp_total nat_cmp-IsAntisymmetric me.descriptors fd q d g).0))
  done_files (ReadDir a) fresh p = h
  done_files (Stat a) fresh p = h
  done_files (Exec a) fresh p = h
  done_files (Unlink a) fresh p =
      let_go_files _ _ (same_files s (record s { entries = remove s.entries (dentry_of s (path_of a)) }) refl refl h)
  done_files (Rmdir a) fresh p =
      let_go_files _ _ (same_files s (record s { entries = remove s.entries (dentry_of s (path_of a)) }) refl refl h)
  done_files (Rename o n) fresh p =
      renamed_files s (dentry_of s (path_of o)) (dentry_of s (path_of n)) (inode_of s (path_of o)) (named s (path_of n))
      h
  done_files (RenameNoreplace o n) fresh p =
      same_files s (with_moved s (dentry_of s (path_of o)) (dentry_of s (path_of n)) (inode_of s (path_of o))) refl refl
      h
  done_files (Exchange o n) fresh p = same_files s (exchanged s (path_of o) (path_of n)) refl refl h
  done_files (Link o n) fresh p =
      same_files s (with_name s (dentry_of s (path_of n)) (inode_of s (path_of o))) refl refl h
  done_files (Ruleset rights) fresh p = mine _ refl
  done_files (Allow rs a rights) fresh p = mine _ refl
  done_files (Confine rs) fresh p = mine _ refl
  done_files Spawn fresh p = other_client s fresh (child_of s.rules me) h (spawned s.rules.copies)
  done_files Connect fresh p = other_client s number new_client h (no_files s)

pub step_files : (s : State) (number : ℕ) (call : Call) (fresh : ℕ) → IsTree s → OpensFiles s
    → OpensFiles (step s number call fresh).1
step_files s number call fresh t h = by (refusals s (client_of s number) call) refl
  where
    by : (rs : List Reply) → refusals s (client_of s number) call ≡ rs
        → OpensFiles (first_or s rs (done_of s number (client_of s number) call fresh)).1
    by [] e = done_files s number t h call fresh (passes s (client_of s number) call e)
    by (r ∷ rs) e = h

-- ---- whole histories

after_files : (s : State) (es : List Entry) → IsTree s → OpensFiles s → OpensFiles (state_after s es)
after_files s [] t h = h
after_files s (e ∷ es) t h = after_files (after s e) es (kept_tree s e t) (step_files s e.client e.call _ t h)

pub start_files : (rules : Rules) (room : ℕ) → OpensFiles (start rules room)
start_files rules room number c is = absurd (cc (sym (get-empty ClientRecord nat_cmp number) ∙ is))

pub file_kind : (w : World) (number fd : ℕ) (c : ClientRecord) (d : Descriptor) → get (shown w).clients number ≡ Some c
    → get c.descriptors fd ≡ Some d → kind_of (shown w) d.inode ≡ Some Reg
file_kind w number fd c d is g =
    after_files (start w.rules w.room) w.history (start_tree w.rules w.room) (start_files w.rules w.room) number c is fd
    d g

pub descriptor_file : (w : World) (number fd : ℕ) (c : ClientRecord) (d : Descriptor)
    → get (shown w).clients number ≡ Some c → get c.descriptors fd ≡ Some d
    → (has (shown w).nodes d.inode ≡ true) × (is_dir (kind_or_file (shown w) d.inode) ≡ false)
descriptor_file w number fd c d is g =
    let file = file_kind w number fd c d is g in
    (there (get (shown w).nodes d.inode) file, ap (λ o. is_dir (unwrap_or o Reg)) file)
  where
    there : (o : Option Node) → option_map (λ (n : Node). n.kind) o ≡ Some Reg → is_some o ≡ true
    there None e = absurd (cc e)
    there (Some n) e = refl
