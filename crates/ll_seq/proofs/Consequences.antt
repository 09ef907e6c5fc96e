-- What a step leaves, whatever the call: who stays, who comes, and how inode numbers grow.
use Rattle.std.specs.Prelude.{◌≡◌, ◌≢◌, ℕ, ◌+◌, ◌≤◌, Bool, true, false, List, [], length, Option, Some, None, is_some}
use Rattle.std.specs.Prelude.{is_none, ◌==◌, cond, if◌then◌else◌, unwrap_or, refl, ◌⊎◌}
use Rattle.std.specs.Option.{option_map_or}
use Rattle.std.specs.Ordering.{nat_cmp, eq_by_cmp}
use Rattle.std.specs.Cmp.{nat_cmp_total}
use Rattle.std.specs.FinMap.{nat_cmp-IsAntisymmetric}
use Rattle.std.proofs.Common.{ap, sym, ◌∙◌, inl, inr, arith}
use Rattle.std.proofs.lemmas.Bool.{false≢true}
use Rattle.ll_rights.specs.declared.kind.Kind.TheVariants.{Reg}
use Rattle.ll_rights.specs.Map.{Map, get, has, insert, remove}
use Rattle.ll_rights.proofs.Maps.{equal_at, get-insert, get-insert_same}
use Rattle.ll_path.specs.Path.{Path}
use Rattle.ll_seq.specs.declared.client.ClientRecord.{ClientRecord}
use Rattle.ll_seq.specs.declared.dentries.Dentry.{Dentry}
use Rattle.ll_seq.specs.declared.node.Node.{Node}
use Rattle.ll_seq.specs.declared.call.Mode.{Mode}
use Rattle.ll_seq.specs.declared.call.Call.{Call}
use Rattle.ll_seq.specs.declared.call.Call.TheVariants.{Make, Open, Read, Write, Ftruncate, Close, Truncate, ReadDir}
use Rattle.ll_seq.specs.declared.call.Call.TheVariants.{Stat, Exec, Unlink, Rmdir, Rename, RenameNoreplace, Exchange}
use Rattle.ll_seq.specs.declared.call.Call.TheVariants.{Link, Ruleset, Allow, Confine, Spawn, Connect}
use Rattle.ll_seq.specs.declared.reply.Reply.{Reply}
use Rattle.ll_seq.specs.declared.reply.Reply.TheVariants.{Done, Opened, Spawned}
use Rattle.ll_seq.specs.State.{State, dentry_cmp, bytes_of}
use Rattle.ll_seq.specs.Call.{first_path, second_path}
use Rattle.ll_seq.specs.Tree.{named, inode_of}
use Rattle.ll_seq.specs.Stages.{lowest_free}
use Rattle.ll_seq.specs.CallParts.{done, after_opening}
use Rattle.ll_seq.specs.Effects.{lives, let_go, without_name, with_moved, renamed, dentry_of, resized, overwritten}
use Rattle.ll_seq.specs.Effects.{with_bytes, with_client, with_node, with_opened, emptied, written, inode_at, child_of}
use Rattle.ll_seq.specs.Step.{step, refusals, client_of}
use Rattle.ll_seq.proofs.Settled.{is_spawned, refused_or, all_refuse, done_now}

-- what bytes and lost names leave alone
record Beside (s t : State) : Type 0 where
  clients : t.clients ≡ s.clients
  next : t.next ≡ s.next

bytes_beside : (s : State) (inode : ℕ) (bytes : List ℕ) → Beside s (with_bytes s inode bytes)
bytes_beside s inode bytes = of (get s.nodes inode)
  where
    of : (o : Option Node) → Beside s
        (option_map_or (λ (n : Node). record s { nodes = insert s.nodes inode (record n { bytes = bytes }) }) o s)
    of None = record { clients = refl; next = refl }
    of (Some n) = record { clients = refl; next = refl }

emptied_beside : (s : State) (mode : Mode) (inode : ℕ) → Beside s (emptied s mode inode)
emptied_beside s mode inode = of mode.truncate
  where
    of : (b : Bool) → Beside s (if b then with_bytes s inode [] else s)
    of true = bytes_beside s inode []
    of false = record { clients = refl; next = refl }

written_beside : (s : State) (inode offset : ℕ) (bytes : List ℕ) → Beside s (written s inode offset bytes)
written_beside s inode offset bytes = of (length bytes == 0)
  where
    of : (b : Bool) → Beside s (if b then s else with_bytes s inode (overwritten (bytes_of s inode) offset bytes))
    of true = record { clients = refl; next = refl }
    of false = bytes_beside s inode (overwritten (bytes_of s inode) offset bytes)

-- where a name went, its node may have gone with it
let_go_beside : (s : State) (entries : Map dentry_cmp ℕ) (inode : ℕ)
    → Beside s (let_go (record s { entries = entries }) inode)
let_go_beside s entries inode = of (lives (record s { entries = entries }) inode)
  where
    of : (b : Bool) → Beside s (if b then record s { entries = entries } else record s
        { entries = entries; nodes = remove s.nodes inode })
    of true = record { clients = refl; next = refl }
    of false = record { clients = refl; next = refl }

gone_beside : (s : State) (at : Dentry) (inode : ℕ) → Beside s (without_name s at inode)
gone_beside s at inode = let_go_beside s (remove s.entries at) inode

renamed_beside : (s : State) (old new : Dentry) (inode : ℕ) (replaced : Option ℕ)
    → Beside s (renamed s old new inode replaced)
renamed_beside s old new inode None = record { clients = refl; next = refl }
renamed_beside s old new inode (Some replaced) = of (inode == replaced)
  where
    of : (b : Bool) → Beside s (if b then s else let_go (with_moved s old new inode) replaced)
    of true = record { clients = refl; next = refl }
    of false = let_go_beside s (insert (remove s.entries old) new inode) replaced

-- the clients stand as before, or the caller has changed, or there is a new one, which is told
abbrev Touches : State → ℕ → ℕ → Reply → Map nat_cmp ClientRecord → Type 0
Touches s number fresh r clients =
    ((is_spawned r ≡ false) × ((clients ≡ s.clients) ⊎ ((x : ClientRecord) × (clients ≡ insert s.clients number x))))
    ⊎ ((r ≡ Spawned fresh) × ((x : ClientRecord) × (clients ≡ insert s.clients fresh x)))

stand : (s : State) (number fresh : ℕ) (r : Reply) (clients : Map nat_cmp ClientRecord) → is_spawned r ≡ false
    → clients ≡ s.clients → Touches s number fresh r clients
stand s number fresh r clients quiet is = inl (quiet, inl is)

own : (s : State) (number fresh : ℕ) (r : Reply) (x : ClientRecord) (clients : Map nat_cmp ClientRecord)
    → is_spawned r ≡ false → clients ≡ insert s.clients number x → Touches s number fresh r clients
own s number fresh r x clients quiet is = inl (quiet, inr (x, is))

opening_clients : (s : State) (number : ℕ) (c : ClientRecord) (mode : Mode) (path : Path) (fresh : ℕ) (r : Reply)
    → is_spawned r ≡ false → Touches s number fresh r (after_opening s number c mode path).clients
opening_clients s number c mode path fresh r quiet = of (is_none (named s path))
  where
    of : (b : Bool) → Touches s number fresh r
        (if b then with_client (with_node s Reg (dentry_of s path)) number (with_opened s c mode path s.next)
        else with_client (emptied s mode (inode_of s path)) number
        (with_opened s c mode path (inode_of s path))).clients
    of true = own s number fresh r (with_opened s c mode path s.next) _ quiet refl
    of false = own s number fresh r (with_opened s c mode path (inode_of s path)) _ quiet
        (ap (λ m. insert m number (with_opened s c mode path (inode_of s path)))
        (emptied_beside s mode (inode_of s path)).clients)

closed_clients : (s : State) (number : ℕ) (x : ClientRecord) (inode : ℕ)
    → (let_go (with_client s number x) inode).clients ≡ insert s.clients number x
closed_clients s number x inode = of (lives (with_client s number x) inode)
  where
    of : (b : Bool) → (if b then with_client s number x else record s
        { clients = insert s.clients number x; nodes = remove s.nodes inode }).clients ≡ insert s.clients number x
    of true = refl
    of false = refl

done_clients : (s : State) (number : ℕ) (c : ClientRecord) (call : Call) (at new : Path) (fresh : ℕ)
    → Touches s number fresh (done s number c call at new fresh).0 (done s number c call at new fresh).1.clients
done_clients s number c (Make kind t) at new fresh = stand s number fresh _ _ refl refl
done_clients s number c (Open mode t) at new fresh =
    opening_clients s number c mode at fresh (Opened (unwrap_or (lowest_free c.descriptors) 0)) refl
done_clients s number c (Read fd offset count) at new fresh = stand s number fresh _ _ refl refl
done_clients s number c (Write fd offset bytes) at new fresh =
    stand s number fresh _ _ refl (written_beside s (inode_at c fd) offset bytes).clients
done_clients s number c (Ftruncate fd size) at new fresh =
    stand s number fresh _ _ refl (bytes_beside s (inode_at c fd) (resized (bytes_of s (inode_at c fd)) size)).clients
done_clients s number c (Close fd) at new fresh =
    own s number fresh Done _ _ refl
    (closed_clients s number (record c { descriptors = remove c.descriptors fd }) (inode_at c fd))
done_clients s number c (Truncate t size) at new fresh =
    stand s number fresh _ _ refl (bytes_beside s (inode_of s at) (resized (bytes_of s (inode_of s at)) size)).clients
done_clients s number c (ReadDir t) at new fresh = stand s number fresh _ _ refl refl
done_clients s number c (Stat t) at new fresh = stand s number fresh _ _ refl refl
done_clients s number c (Exec t) at new fresh = stand s number fresh _ _ refl refl
done_clients s number c (Unlink t) at new fresh =
    stand s number fresh _ _ refl (gone_beside s (dentry_of s at) (inode_of s at)).clients
done_clients s number c (Rmdir t) at new fresh =
    stand s number fresh _ _ refl (gone_beside s (dentry_of s at) (inode_of s at)).clients
done_clients s number c (Rename o n) at new fresh =
    stand s number fresh _ _ refl
    (renamed_beside s (dentry_of s at) (dentry_of s new) (inode_of s at) (named s new)).clients
done_clients s number c (RenameNoreplace o n) at new fresh = stand s number fresh _ _ refl refl
done_clients s number c (Exchange o n) at new fresh = stand s number fresh _ _ refl refl
done_clients s number c (Link o n) at new fresh = stand s number fresh _ _ refl refl
done_clients s number c (Ruleset rights) at new fresh = own s number fresh _ _ _ refl refl
done_clients s number c (Allow rs t rights) at new fresh = own s number fresh _ _ _ refl refl
done_clients s number c (Confine rs) at new fresh = own s number fresh _ _ _ refl refl
done_clients s number c Spawn at new fresh = inr (refl, (child_of s.rules c, refl))
done_clients s number c Connect at new fresh = own s number fresh _ _ _ refl refl

step_clients : (s : State) (number : ℕ) (call : Call) (fresh : ℕ)
    → Touches s number fresh (step s number call fresh).0 (step s number call fresh).1.clients
step_clients s number call fresh =
    refused_or (λ r z. Touches s number fresh r z.clients) s (refusals s (client_of s number) call)
    (done_now s number call fresh) (all_refuse s number call fresh)
    (λ r refuses. stand s number fresh r s.clients refuses.1 refl)
    (done_clients s number (client_of s number) call (first_path call) (second_path call) fresh)

still_there : (b : Bool) (o : Option ClientRecord) (c : ClientRecord) → is_some o ≡ true
    → is_some (cond b (Some c) o) ≡ true
still_there true o c h = refl
still_there false o c h = h

has_inserted : (m : Map nat_cmp ClientRecord) (k : ℕ) (x : ClientRecord) (other : ℕ)
    → has (insert m k x) other ≡ is_some (cond (eq_by_cmp nat_cmp other k) (Some x) (get m other))
has_inserted m k x other = ap is_some (get-insert nat_cmp_total nat_cmp-IsAntisymmetric m k x other)

stays : (m : Map nat_cmp ClientRecord) (k : ℕ) (x : ClientRecord) (clients : Map nat_cmp ClientRecord) (other : ℕ)
    → clients ≡ insert m k x → has m other ≡ true → has clients other ≡ true
stays m k x clients other is h =
    ap (λ (n : Map nat_cmp ClientRecord). has n other) is ∙ has_inserted m k x other
    ∙ still_there (eq_by_cmp nat_cmp other k) (get m other) x h

pub step-clients_stay : (s : State) (number : ℕ) (call : Call) (fresh other : ℕ) → has s.clients other ≡ true
    → has (step s number call fresh).1.clients other ≡ true
step-clients_stay s number call fresh other h =
    elim (step_clients s number call fresh) [
      | inl quiet ↦ elim quiet.1 [
        | inl same ↦ ap (λ (m : Map nat_cmp ClientRecord). has m other) same ∙ h
        | inr made ↦ stays s.clients number made.0 _ other made.1 h
      ]
      | inr made ↦ stays s.clients fresh made.1.0 _ other made.1.1 h
    ]

beside : (b : Bool) (o : Option ClientRecord) (c : ClientRecord) → b ≡ false → is_some (cond b (Some c) o) ≡ is_some o
beside true o c h = absurd cc
beside false o c h = refl

unequal : (m n : ℕ) → m ≢ n → eq_by_cmp nat_cmp m n ≡ false
unequal m n differ = of (eq_by_cmp nat_cmp m n) refl
  where
    of : (b : Bool) → eq_by_cmp nat_cmp m n ≡ b → b ≡ false
    of true e = absurd (differ (nat_cmp-IsAntisymmetric m n (equal_at _ e)))
    of false e = refl

untouched : (m : Map nat_cmp ClientRecord) (k : ℕ) (x : ClientRecord) (clients : Map nat_cmp ClientRecord) (other : ℕ)
    → clients ≡ insert m k x → other ≢ k → has clients other ≡ has m other
untouched m k x clients other is differ =
    ap (λ (n : Map nat_cmp ClientRecord). has n other) is ∙ has_inserted m k x other
    ∙ beside (eq_by_cmp nat_cmp other k) (get m other) x (unequal other k differ)

-- other clients stand as before, but for one that is told as spawned
pub step-no_other : (s : State) (number : ℕ) (call : Call) (fresh other : ℕ) → other ≢ number
    → (step s number call fresh).0 ≢ Spawned other
    → has (step s number call fresh).1.clients other ≡ has s.clients other
step-no_other s number call fresh other a told =
    elim (step_clients s number call fresh) [
      | inl quiet ↦ elim quiet.1 [
        | inl same ↦ ap (λ (m : Map nat_cmp ClientRecord). has m other) same
        | inr made ↦ untouched s.clients number made.0 _ other made.1 a
      ]
      | inr made ↦ untouched s.clients fresh made.1.0 _ other made.1.1 (λ same. told (made.0 ∙ ap Spawned (sym same)))
    ]

no_spawn : (r : Reply) (number : ℕ) → is_spawned r ≡ false → r ≡ Spawned number → ⊥
no_spawn r number quiet is = false≢true (sym quiet ∙ ap is_spawned is)

-- a spawned client has the fresh number, and is there
pub step-spawned : (s : State) (number : ℕ) (call : Call) (fresh told : ℕ) → (step s number call fresh).0 ≡ Spawned told
    → (told ≡ fresh) × (has (step s number call fresh).1.clients told ≡ true)
step-spawned s number call fresh told is =
    elim (step_clients s number call fresh) [
      | inl quiet ↦ absurd (no_spawn _ told quiet.0 is)
      | inr made ↦ (
          let same : told ≡ fresh = (let both : Spawned told ≡ Spawned fresh = sym is ∙ made.0 in cc) in (
            same,
            ap (λ (m : Map nat_cmp ClientRecord). has m told) made.1.1
                ∙ ap (λ k. has (insert s.clients fresh made.1.0) k) same
                ∙ ap is_some (get-insert_same nat_cmp_total nat_cmp-IsAntisymmetric s.clients fresh made.1.0),
          ))
    ]

opening_next : (s : State) (number : ℕ) (c : ClientRecord) (mode : Mode) (path : Path)
    → (after_opening s number c mode path).next ≤ s.next + 1
opening_next s number c mode path = of (is_none (named s path))
  where
    of : (b : Bool) → (if b then with_client (with_node s Reg (dentry_of s path)) number
        (with_opened s c mode path s.next)
        else with_client (emptied s mode (inode_of s path)) number (with_opened s c mode path (inode_of s path))).next ≤
        s.next + 1
    of true = omega arith
    of false = omega (arith, (emptied_beside s mode (inode_of s path)).next)

closed_next : (s : State) (number : ℕ) (x : ClientRecord) (inode : ℕ)
    → (let_go (with_client s number x) inode).next ≡ s.next
closed_next s number x inode = of (lives (with_client s number x) inode)
  where
    of : (b : Bool) → (if b then with_client s number x else record s
        { clients = insert s.clients number x; nodes = remove s.nodes inode }).next ≡ s.next
    of true = refl
    of false = refl

done_next : (s : State) (number : ℕ) (c : ClientRecord) (call : Call) (at new : Path) (fresh : ℕ)
    → (done s number c call at new fresh).1.next ≤ s.next + 1
done_next s number c (Make kind t) at new fresh = omega arith
done_next s number c (Open mode t) at new fresh = opening_next s number c mode at
done_next s number c (Read fd offset count) at new fresh = omega arith
done_next s number c (Write fd offset bytes) at new fresh =
    omega (arith, (written_beside s (inode_at c fd) offset bytes).next)
done_next s number c (Ftruncate fd size) at new fresh =
    omega (arith, (bytes_beside s (inode_at c fd) (resized (bytes_of s (inode_at c fd)) size)).next)
done_next s number c (Close fd) at new fresh =
    omega (arith, closed_next s number (record c { descriptors = remove c.descriptors fd }) (inode_at c fd))
done_next s number c (Truncate t size) at new fresh =
    omega (arith, (bytes_beside s (inode_of s at) (resized (bytes_of s (inode_of s at)) size)).next)
done_next s number c (ReadDir t) at new fresh = omega arith
done_next s number c (Stat t) at new fresh = omega arith
done_next s number c (Exec t) at new fresh = omega arith
done_next s number c (Unlink t) at new fresh = omega (arith, (gone_beside s (dentry_of s at) (inode_of s at)).next)
done_next s number c (Rmdir t) at new fresh = omega (arith, (gone_beside s (dentry_of s at) (inode_of s at)).next)
done_next s number c (Rename o n) at new fresh =
    omega (arith, (renamed_beside s (dentry_of s at) (dentry_of s new) (inode_of s at) (named s new)).next)
done_next s number c (RenameNoreplace o n) at new fresh = omega arith
done_next s number c (Exchange o n) at new fresh = omega arith
done_next s number c (Link o n) at new fresh = omega arith
done_next s number c (Ruleset rights) at new fresh = omega arith
done_next s number c (Allow rs t rights) at new fresh = omega arith
done_next s number c (Confine rs) at new fresh = omega arith
done_next s number c Spawn at new fresh = omega arith
done_next s number c Connect at new fresh = omega arith

pub step-next : (s : State) (number : ℕ) (call : Call) (fresh : ℕ) → (step s number call fresh).1.next ≤ s.next + 1
step-next s number call fresh =
    refused_or (λ r z. z.next ≤ s.next + 1) s (refusals s (client_of s number) call) (done_now s number call fresh)
    (all_refuse s number call fresh)
    (λ r refuses. omega arith) (done_next s number (client_of s number) call (first_path call) (second_path call) fresh)
