-- A file is opened: one that is there, whose lent slot may be emptied, or one that was made.
use Rattle.std.specs.Prelude.{◌≡◌, ◌≢◌, ℕ, ◌+◌, ◌==◌, Bool, true, false, cond, List, [], ◌∷◌, ◌++◌, map}
use Rattle.std.specs.Prelude.{length, nat_lt, Option, Some, None, is_some, is_none, option_map, slice_set}
use Rattle.std.specs.Prelude.{refl}
use Rattle.std.specs.List.{list_any}
use Rattle.std.specs.Option.{option_map_or}
use Rattle.std.specs.Ordering.{nat_cmp}
use Rattle.std.specs.Cmp.{nat_cmp_total, unsigned_tied}
use Rattle.std.specs.FinMap.{nat_cmp-IsAntisymmetric}
use Rattle.std.proofs.Common.{sym, subst, ap, ◌∙◌, inl, inr, arith}
use Rattle.std.proofs.lemmas.Bool.{eq-eqb, ne_eqb, cond-true, cond-false}
use Rattle.ll_rights.specs.declared.kind.Kind.{Kind}
use Rattle.ll_rights.specs.declared.kind.Kind.TheVariants.{Reg}
use Rattle.ll_rights.specs.declared.limits.TheConstants.{TREE_CLIENTS}
use Rattle.ll_rights.specs.Map.{Map, get, has, insert, remove, len}
use Rattle.ll_rights.proofs.Maps.{get-insert}
use Rattle.ll_seq.specs.declared.client.ClientRecord.{ClientRecord}
use Rattle.ll_seq.specs.declared.client.Descriptor.{Descriptor}
use Rattle.ll_seq.specs.declared.facts.Fact.{Fact}
use Rattle.ll_seq.specs.declared.facts.TheConstants.{MOST_OPENS}
use Rattle.ll_seq.specs.declared.node.Node.{Node}
use Rattle.ll_seq.specs.Effects.{with_bytes, with_client, with_node}
use Rattle.ll_seq.specs.Facts.{has_room, open_count}
use Rattle.ll_seq.specs.Reach.{HasName}
use Rattle.ll_seq.specs.State.{State, kind_of, names_in, name_count}
use Rattle.ll_seq.proofs.FactsKept.{kept_bytes}
use Rattle.ll_seq.proofs.OrderedTables.{remove-insert}
use Rattle.ll_laws.proofs.Granted.{kind_known}
use Rattle.ll_seq.specs.declared.changes.Change.TheVariants.{Make, Open}
use Rattle.ll_seq.specs.declared.changes.Opening.{Opening}
use Rattle.ll_seq.specs.Effect.{CanOpen, FitsOpening, HasRoom, dentry_at, descriptor_of, with_descriptor}
use Rattle.ll_seq.specs.Effect.{with_opening}
use Rattle.ll_seq.specs.Near.{opened_inode}
use Rattle.ll_node.specs.declared.held.Held.{Held}
use Rattle.ll_node.specs.Lent.{emptied_in}
use Rattle.ll_node.specs.InodeTable.{Table, IsTable, NotIn}
use Rattle.ll_node.proofs.SlotLists.{same_or_not}
use Rattle.ll_node.specs.Accounts.{account, accounts}
use Rattle.ll_node.specs.Enactment.{Scene, InHand, IsGiven, Covers, IsMade, LeavesTable, MayEnact, in_hand}
use Rattle.ll_node.proofs.Accounted.{inode_at, account_held, account_inode, account_kept, not_here, told_by}
use Rattle.ll_rights.proofs.Sizes.{same_len}
use Rattle.ll_node.proofs.Survivors.{bytes_kind, bytes_next, make_kind}
use Rattle.ll_node.proofs.GivenSlots.{given_tree, kind_there, put_again, some_there}
use Rattle.ll_node.proofs.SlotAccounts.{bytes_put, bytes_other}

-- ---- other bytes leave the table that of the tree

module _ (s : State) (inode : ℕ) (bytes : List ℕ) where
  pub bytes_parts : ((with_bytes s inode bytes).clients ≡ s.clients) × ((with_bytes s inode bytes).room ≡ s.room)
  bytes_parts =
      elim (get s.nodes inode) as (λ o. (after o).clients ≡ s.clients × (after o).room ≡ s.room)
      [ None ↦ (refl, refl) | Some n ↦ (refl, refl) ]
    where
      after : Option Node → State
      after o = option_map_or (λ (n : Node). record s { nodes = insert s.nodes inode (record n { bytes = bytes }) }) o s

  bytes_has : (i : ℕ) → has (with_bytes s inode bytes).nodes i ≡ has s.nodes i
  bytes_has i = told (get (with_bytes s inode bytes).nodes i) (get s.nodes i) (bytes_kind s inode bytes i)
    where
      told : (a b : Option Node) → option_map (λ (n : Node). n.kind) a ≡ option_map (λ (n : Node). n.kind) b
          → is_some a ≡ is_some b
      told None None e = refl
      told None (Some n) e = absurd (cc e)
      told (Some m) None e = absurd (cc e)
      told (Some m) (Some n) e = refl

  bytes_len : len (with_bytes s inode bytes).nodes ≡ len s.nodes
  bytes_len = same_len (with_bytes s inode bytes).nodes s.nodes (λ (n : Node). n.kind) (λ (n : Node). n.kind)
      (bytes_kind s inode bytes)

  pub bytes_table : (spares : List ℕ) (t : Table) → IsTable s spares t → IsTable (with_bytes s inode bytes) spares t
  bytes_table spares t table = record {
    facts = kept_bytes s t.facts inode bytes table.facts;
    next = table.next ∙ sym (bytes_next s inode bytes);
    placed = table.placed;
    living = λ i. table.living i ∙ sym (bytes_has i);
    slots = table.slots ∙ ap (λ n. n + TREE_CLIENTS) (sym bytes_parts.1);
    free = table.free;
    spares = table.spares;
    distinct = table.distinct;
    count = ap (λ n. length t.free + length spares + n) bytes_len ∙ table.count
        ∙ ap (λ n. n + TREE_CLIENTS) (sym bytes_parts.1);
    few = let most = table.few in let many = bytes_len in let room = bytes_parts.1 in omega (arith, most, many, room);
  }

-- ---- a client that becomes another

-- as the table counts a descriptor more of the inode
abbrev pub Opens : Table → ℕ → Table → Type 0
Opens table inode table' =
    (s : State) (spares : List ℕ) (client : ℕ) (c : ClientRecord) (fd : ℕ) (d : Descriptor) → IsTable s spares table
    → get s.clients client ≡ Some c → get c.descriptors fd ≡ None → d.inode ≡ inode
    → has s.nodes inode ≡ true → IsTable (with_client s client (record c { descriptors = insert c.descriptors fd d }))
    spares table'

pub one_client : (clients : Map nat_cmp ClientRecord) (number : ℕ) (c : ClientRecord) (q : ℕ)
    → get (insert clients number c) q ≡ cond (q == number) (Some c) (get clients q)
one_client clients number c q =
    get-insert nat_cmp_total nat_cmp-IsAntisymmetric clients number c q
    ∙ ap (λ b. cond b (Some c) (get clients q)) (unsigned_tied q number)

-- the client with the descriptor put in
pub described : (c : ClientRecord) (o : Opening) (inode : ℕ) (d : Descriptor) (ds : Map nat_cmp Descriptor)
    → d ≡ descriptor_of o inode → ds ≡ insert c.descriptors o.number d
    → record c { descriptors = ds } ≡ with_descriptor c o inode
described c o inode d ds is put = ap (λ m. record c { descriptors = m }) (put ∙ ap (insert c.descriptors o.number) is)

-- ---- the file that is there

module _ {scene : Scene} {hand : InHand} (given : IsGiven scene hand) (o : Opening) where
  open scene use {state as s, marks, spares, number, place}
  open hand use {client as c, spare, table, slots, lent}

  module _ (inode : ℕ) (there : o.there ≡ Some inode) (fits : FitsOpening s c o) where
    file_kind : (kind : Kind) × (kind_of s inode ≡ Some kind)
    file_kind =
        let named : HasName s inode = subst (CanOpen s o) there fits.file in
        kind_known s (given_tree given) named.0 inode named.1

    file_some : inode ≢ 0
    file_some = some_there s spares table given.counted inode (kind_there s inode file_kind.0 file_kind.1)

    -- emptied or as it is
    abbrev found_file : Bool → State
    found_file b = cond b (with_bytes s inode []) s

    file_table : (b : Bool) → IsTable (found_file b) spares table
    file_table true = bytes_table s inode [] spares table given.counted
    file_table false = given.counted

    file_clients : (b : Bool) → (found_file b).clients ≡ s.clients
    file_clients true = (bytes_parts s inode []).0
    file_clients false = refl

    file_has : (b : Bool) → has (found_file b).nodes inode ≡ true
    file_has true = bytes_has s inode [] inode ∙ kind_there s inode file_kind.0 file_kind.1
    file_has false = kind_there s inode file_kind.0 file_kind.1

    emptied_slot : (k : ℕ) → account (with_bytes s inode []) marks table.inodes k
        ≡ emptied_in inode (account s marks table.inodes k)
    emptied_slot k = elim (same_or_not (inode_at table.inodes k) inode) [
      | inl lies ↦
          let was = account_held s marks table.inodes k inode lies file_some in
          account_held (with_bytes s inode []) marks table.inodes k inode lies file_some
          ∙ ap (λ d. record { inode = inode; node = record d { mark = marks inode } })
          (bytes_put s inode [] file_kind.0 file_kind.1)
          ∙ sym (cond-true (inode == inode) _ _ (eq-eqb inode inode refl))
          ∙ ap (emptied_in inode) (sym was)
      | inr away ↦
          account_kept s (with_bytes s inode []) marks table.inodes table.inodes k refl
          (λ some. bytes_other s inode [] (inode_at table.inodes k) away)
          ∙ sym (cond-false ((account s marks table.inodes k).inode == inode) _ _
          (ne_eqb _ inode (λ e. away (sym (account_inode s marks table.inodes k) ∙ e))))
    ]

    slots_told : (b : Bool) → cond b (map (emptied_in inode) lent) lent
        ≡ accounts (found_file b) marks table.inodes slots
    slots_told true = ap (map (emptied_in inode)) given.told
        ∙ told_by s (with_bytes s inode []) marks table.inodes table.inodes (emptied_in inode) emptied_slot slots
    slots_told false = given.told

    module _ (covers : Covers hand (Open o)) where
      slots_kept : (b : Bool) (k : ℕ) → NotIn k slots
          → account (found_file b) marks table.inodes k ≡ account s marks table.inodes k
      slots_kept true k out =
          let away : inode_at table.inodes k ≢ inode =
          subst (λ i. i ≢ 0 → inode_at table.inodes k ≢ i) (ap (opened_inode o.at) there)
          (λ some. not_here table.inodes table.places given.counted.placed (opened_inode o.at o.there) some slots
          covers.touched.0 k out) file_some
          in
          account_kept s (with_bytes s inode []) marks table.inodes table.inodes k refl
          (λ some. bytes_other s inode [] (inode_at table.inodes k) away)
      slots_kept false k out = refl

      pub opened : (b : Bool) → o.is_emptied ≡ b → (c' : ClientRecord) (table' : Table) (lent' : List Held)
          → c' ≡ with_descriptor c o inode → Opens table inode table' → table'.inodes ≡ table.inodes
          → table'.free ≡ table.free
          → lent' ≡ cond b (map (emptied_in inode) lent) lent
          → IsMade scene (with_opening s number c o o.there) hand (in_hand c' spare table' slots lent')
      opened b emptied c' table' lent' client opens inodes free put =
          subst (λ d. IsMade scene (with_opening s number c o o.there) hand (in_hand d spare table' slots lent'))
          (sym client)
          (subst (λ t. IsMade scene (with_opening s number c o t) hand
          (in_hand (with_descriptor c o inode) spare table' slots lent')) (sym there)
          (subst (λ a. IsMade scene (with_client (found_file a) number (with_descriptor c o inode)) hand
          (in_hand (with_descriptor c o inode) spare table' slots lent')) (sym emptied) (record {
            counted = subst (λ ks. IsTable (with_client (found_file b) number (with_descriptor c o inode)) ks table')
                (sym (put_again spares place spare given.kept)) counted;
            next = let new = counted.next in let old = given.counted.next in let same = file_next b in
                omega (arith, new, old, same);
            clients = λ q. one_client (found_file b).clients number (with_descriptor c o inode) q
                ∙ ap (λ m. cond (q == number) (Some (with_descriptor c o inode)) (get m q)) (file_clients b);
            told = put ∙ slots_told b ∙ ap (λ is. accounts (found_file b) marks is slots) (sym inodes);
            others = λ k out. ap (λ is. account (found_file b) marks is k) inodes ∙ slots_kept b k out;
            freed = inl (given.kept, record { inodes = inodes; free = free });
          })))
        where
          file_next : (a : Bool) → (found_file a).next ≡ s.next
          file_next true = bytes_next s inode []
          file_next false = refl

          counted : IsTable (with_client (found_file b) number (with_descriptor c o inode)) spares table'
          counted =
              opens (found_file b) spares number c o.number (descriptor_of o inode) (file_table b)
              (ap (λ m. get m number) (file_clients b) ∙ given.client)
              fits.free refl (file_has b)

-- ---- a file that is made

pub covers_new : {hand : InHand} (o : Opening) → o.there ≡ None → Covers hand (Open o) → Covers hand (Make o.at Reg)
covers_new {hand} o none covers = record {
  touched = (
    subst (λ i. list_any (λ k. inode_at hand.table.inodes k == i) hand.slots ≡ true) (ap (opened_inode o.at) none)
        covers.touched.0,
    tt,
  );
  new = λ e. covers.new (ap is_none none);
}

pub room_new : (s : State) (c : ClientRecord) (o : Opening) → o.there ≡ None → FitsOpening s c o → HasRoom s o.at
room_new s c o none fits = subst (CanOpen s o) none fits.file

pub may_make : {hand : InHand} (o : Opening) → o.there ≡ None → MayEnact (Open o) hand → MayEnact (Make o.at Reg) hand
may_make {hand} o none may = record {
  scene = may.scene;
  given = may.given;
  fits = room_new may.scene.state hand.client o none may.fits;
  covers = covers_new o none may.covers;
}

-- mid: in hand once the file is made
module _ {scene : Scene} {hand mid : InHand} (given : IsGiven scene hand) (o : Opening)
    (made : IsMade scene (with_node scene.state Reg (dentry_at o.at)) hand mid) (inode : ℕ)
    (next : inode ≡ hand.table.next) where
  open scene use {state as s, marks, spares, number, place}
  open hand use {client as c, table, slots}

  abbrev made_file : State
  made_file = with_node s Reg (dentry_at o.at)

  is_next : inode ≡ s.next
  is_next = next ∙ given.counted.next

  -- nobody has it open yet
  pub can_open : has_room mid.table.facts inode ≡ true
  can_open =
      let told = made.counted.facts.told s.next ∙ ap (option_map (fact s.next)) (make_kind s Reg (dentry_at o.at)) in
      ap (has_room mid.table.facts) is_next
      ∙ ap (λ f. option_map_or (λ (f : Fact). nat_lt f.opens MOST_OPENS) f true) told
      ∙ ap (λ n. nat_lt n MOST_OPENS) (given.counted.facts.unused s.next (omega arith)).opens
    where
      fact : ℕ → Kind → Fact
      fact i kind = record {
        kind = kind;
        names = length (names_in made_file i);
        links = name_count made_file i;
        opens = open_count made_file i;
      }

  pub opened_new : o.there ≡ None → FitsOpening s c o → (c' : ClientRecord) (table' : Table)
      → c' ≡ with_descriptor c o inode → Opens mid.table inode table' → table'.inodes ≡ mid.table.inodes
      → table'.free ≡ mid.table.free
      → IsMade scene (with_opening s number c o o.there) hand (record mid { client = c'; table = table' })
  opened_new none fits c' table' client opens inodes free =
      subst (λ d. IsMade scene (with_opening s number c o o.there) hand (record mid { client = d; table = table' }))
      (sym (client ∙ ap (with_descriptor c o) is_next))
      (subst (λ t. IsMade scene (with_opening s number c o t) hand
      (record mid { client = with_descriptor c o s.next; table = table' })) (sym none) (record {
        counted = counted;
        next = let new = counted.next in let old = given.counted.next in omega (arith, new, old);
        clients = one_client s.clients number (with_descriptor c o s.next);
        told = made.told ∙ ap (λ is. accounts made_file marks is slots) (sym inodes);
        others = λ k out. ap (λ is. account made_file marks is k) inodes ∙ made.others k out;
        freed = freed_then made.freed;
      }))
    where
      freed_then : LeavesTable scene made_file hand mid
          → LeavesTable scene (with_client made_file number (with_descriptor c o s.next)) hand
          (record mid { client = with_descriptor c o s.next; table = table' })
      freed_then (inl keeps) = inl (keeps.0, record { inodes = inodes ∙ keeps.1.inodes; free = free ∙ keeps.1.free })
      freed_then (inr (inl takes)) =
          inr (inl (record {
            made = takes.made;
            free = takes.free ∙ ap (λ ks. ks ++ mid.spare ∷ []) (sym free);
            inodes = inodes ∙ takes.inodes;
          }))
      freed_then (inr (inr gives)) =
          let back = gives.1 in
          inr (inr (
            gives.0,
            record {
              slot = back.slot;
              lent = back.lent;
              there = back.there;
              gone = back.gone;
              inodes = inodes ∙ back.inodes;
              free = free ∙ back.free;
            },
          ))

      lives : has made_file.nodes inode ≡ true
      lives = ap (has made_file.nodes) is_next
          ∙ kind_there made_file s.next Reg (make_kind s Reg (dentry_at o.at))

      counted : IsTable (with_client made_file number (with_descriptor c o s.next)) (slice_set spares place mid.spare)
          table'
      counted =
          opens made_file (slice_set spares place mid.spare) number c o.number (descriptor_of o s.next) made.counted
          given.client fits.free (sym is_next) lives

-- what is taken out again was never there
pub undescribed : (c : ClientRecord) (o : Opening) (d : Descriptor) (ds ds' : Map nat_cmp Descriptor)
    → get c.descriptors o.number ≡ None → ds ≡ insert c.descriptors o.number d → ds' ≡ remove ds o.number
    → record c { descriptors = ds' } ≡ c
undescribed c o d ds ds' none put taken =
    ap (λ m. record c { descriptors = m }) (taken ∙ ap (λ m. remove m o.number) put
    ∙ remove-insert c.descriptors o.number d none)
