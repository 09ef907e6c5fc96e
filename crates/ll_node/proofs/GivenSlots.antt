-- What a change may rely on where its slots are lent to it, and what is to be shown of one by which no node comes.
use Rattle.std.specs.Prelude.{◌≡◌, ◌≢◌, ◌⊎◌, ℕ, zero, suc, Bool, true, false, cond, ◌||◌, ◌==◌, List, [], ◌∷◌, ◌++◌}
use Rattle.std.specs.Prelude.{map, Option, Some, None, is_some, option_map, slice_get, slice_set, slice_index_or}
use Rattle.std.specs.Prelude.{if◌then◌else◌, refl}
use Rattle.std.specs.List.{AllByRecursion, list_any}
use Rattle.std.proofs.Common.{sym, subst, ap, ◌∙◌, inl, inr, arith}
use Rattle.std.proofs.lemmas.Bool.{eqb-true, eqb-false, eq-eqb}
use Rattle.ll_rights.specs.declared.kind.Kind.{Kind}
use Rattle.ll_rights.specs.declared.kind.Kind.TheVariants.{Dir}
use Rattle.ll_rights.specs.Map.{get, has}
use Rattle.ll_seq.specs.declared.client.ClientRecord.{ClientRecord}
use Rattle.ll_seq.specs.declared.node.Node.{Node}
use Rattle.ll_seq.specs.Reach.{HasName}
use Rattle.ll_seq.specs.State.{State, start, kind_of}
use Rattle.ll_laws.proofs.Chains.{same_Some}
use Rattle.ll_laws.proofs.Trees.{IsTree}
use Rattle.ll_laws.proofs.Gain.{start_tree, after_tree}
use Rattle.ll_laws.proofs.Granted.{kind_known}
use Rattle.ll_seq.specs.declared.changes.At.{At}
use Rattle.ll_seq.specs.Effect.{IsDirectory, Holds}
use Rattle.ll_node.specs.declared.held.Held.{Held}
use Rattle.ll_node.specs.Lent.{vacant}
use Rattle.ll_node.specs.InodeTable.{Table, IsTable, NotIn, without_inode}
use Rattle.ll_node.proofs.SlotLists.{left_there}
use Rattle.ll_node.specs.Accounts.{account, accounts}
use Rattle.ll_node.specs.Enactment.{Scene, InHand, IsReached, IsGiven, IsMade, GivesBack, KeepsSlots, in_hand}
use Rattle.ll_node.proofs.Accounted.{inode_at, got, account_held, account_vacant, account_inode, told_by, not_here}
use Rattle.ll_node.proofs.Accounted.{all_lent}
use Rattle.ll_node.proofs.SlotAccounts.{content_of}

-- ---- the tree, and the inodes in it

pub tree_reached : (s : State) → IsReached s → IsTree s
tree_reached s reached = subst IsTree (sym reached.is)
    (after_tree (start reached.rules reached.room) reached.entries (start_tree reached.rules reached.room))

-- a node of a kind is there
pub kind_there : (s : State) (i : ℕ) (k : Kind) → kind_of s i ≡ Some k → has s.nodes i ≡ true
kind_there s i k e = by (get s.nodes i) e
  where
    by : (o : Option Node) → option_map (λ (n : Node). n.kind) o ≡ Some k → is_some o ≡ true
    by None f = absurd (cc f)
    by (Some n) f = refl

-- no node has the number 0
pub some_there : (s : State) (spares : List ℕ) (table : Table) → IsTable s spares table → (i : ℕ) → has s.nodes i ≡ true
    → i ≢ 0
some_there s spares table counted i there = by (get table.places i) refl (counted.living i ∙ there)
  where
    by : (o : Option ℕ) → get table.places i ≡ o → is_some o ≡ true → i ≢ 0
    by None e f = absurd (cc f)
    by (Some slot) e f = (counted.placed.there i slot e).1

module _ (s : State) (tree : IsTree s) where
  pub directory_kind : (at : At) → IsDirectory s at.directory → kind_of s at.directory ≡ Some Dir
  directory_kind at dir = dir tree.root_node

  pub directory_there : (at : At) → IsDirectory s at.directory → has s.nodes at.directory ≡ true
  directory_there at dir = kind_there s at.directory Dir (directory_kind at dir)

  pub held_there : (at : At) (x : ℕ) → Holds s at x → has s.nodes x ≡ true
  held_there at x holds = let known = tree.known at.directory at.name.now x holds.child in
      kind_there s x known.0 known.1

  pub named_there : (x : ℕ) → HasName s x → has s.nodes x ≡ true
  named_there x named = let known = kind_known s tree named.0 x named.1 in kind_there s x known.0 known.1

-- ---- what lies in a slot

-- an inode with its node
abbrev pub held_of : State → (ℕ → Option ℕ) → ℕ → Held
held_of s marks i = record { inode = i; node = record (content_of s i) { mark = marks i } }

-- nothing, or a node that is there
pub account_is : (s : State) (marks : ℕ → Option ℕ) (inodes : List ℕ) (k : ℕ)
    → ((inode_at inodes k ≡ 0) × (account s marks inodes k ≡ vacant))
    ⊎ ((inode_at inodes k ≢ 0) × (account s marks inodes k ≡ held_of s marks (inode_at inodes k)))
account_is s marks inodes k =
    elim (inode_at inodes k == 0) as (λ b. (inode_at inodes k == 0) ≡ b
    → ((inode_at inodes k ≡ 0) × (account s marks inodes k ≡ vacant))
    ⊎ ((inode_at inodes k ≢ 0) × (account s marks inodes k ≡ held_of s marks (inode_at inodes k)))) [
      | true ↦ λ e. let none = eqb-true (inode_at inodes k) 0 e in inl (none, account_vacant s marks inodes k none)
      | false ↦ λ e. let some = eqb-false (inode_at inodes k) 0 e in
          inr (some, account_held s marks inodes k (inode_at inodes k) refl some)
    ] refl

-- what holds of the inode's node holds in the slot that is lent for it
pub all_given : (P : Held → Type 0) (s : State) (marks : ℕ → Option ℕ) (inodes slots : List ℕ) (lent : List Held)
    → lent ≡ accounts s marks inodes slots → (i : ℕ) → i ≢ 0 → P (held_of s marks i)
    → AllByRecursion (λ (held : Held). held.inode ≡ i → P held) lent
all_given P s marks inodes slots lent told i some holds =
    subst (AllByRecursion (λ (held : Held). held.inode ≡ i → P held)) (sym told)
    (all_lent (λ held. held.inode ≡ i → P held) s marks inodes each slots)
  where
    each : (k : ℕ) → (account s marks inodes k).inode ≡ i → P (account s marks inodes k)
    each k same = subst P (sym (account_held s marks inodes k i (sym (account_inode s marks inodes k) ∙ same) some))
        holds

-- ---- what is done to each slot

module _ (s t : State) (marks : ℕ → Option ℕ) (inodes : List ℕ) (f : Held → Held) (idle : f vacant ≡ vacant) where
  -- all inodes stay where they are
  pub each_stays : ((i : ℕ) → i ≢ 0 → f (held_of s marks i) ≡ held_of t marks i) → (k : ℕ)
      → account t marks inodes k ≡ f (account s marks inodes k)
  each_stays each k = elim (account_is s marks inodes k) [
    | inl none ↦ account_vacant t marks inodes k none.0 ∙ sym (ap f none.1 ∙ idle)
    | inr some ↦ account_held t marks inodes k (inode_at inodes k) refl some.0
        ∙ sym (ap f some.1 ∙ each (inode_at inodes k) some.0)
  ]

  -- all but one
  pub each_but : (gone : ℕ) → f (held_of s marks gone) ≡ vacant
      → ((i : ℕ) → i ≢ 0 → i ≢ gone → f (held_of s marks i) ≡ held_of t marks i) → (k : ℕ)
      → account t marks (without_inode inodes gone) k ≡ f (account s marks inodes k)
  each_but gone leaves each k = elim (account_is s marks inodes k) [
    | inl none ↦ account_vacant t marks (without_inode inodes gone) k (nothing none.0) ∙ sym (ap f none.1 ∙ idle)
    | inr some ↦ elim (inode_at inodes k == gone) as (λ b. (inode_at inodes k == gone) ≡ b
        → account t marks (without_inode inodes gone) k ≡ f (account s marks inodes k)) [
          | true ↦ λ e.
              account_vacant t marks (without_inode inodes gone) k
              (out inodes gone k (eqb-true (inode_at inodes k) gone e))
              ∙ sym (ap f some.1 ∙ ap (λ i. f (held_of s marks i)) (eqb-true (inode_at inodes k) gone e) ∙ leaves)
          | false ↦ λ e. let other = eqb-false (inode_at inodes k) gone e in
              account_held t marks (without_inode inodes gone) k (inode_at inodes k) (left inodes gone k other) some.0
              ∙ sym (ap f some.1 ∙ each (inode_at inodes k) some.0 other)
        ] refl
  ]
    where
      out : (is : List ℕ) (gone k : ℕ) → inode_at is k ≡ gone → inode_at (without_inode is gone) k ≡ 0
      out [] gone k e = refl
      out (i ∷ is) gone zero e = ap (λ b. cond b 0 i) (eq-eqb i gone e)
      out (i ∷ is) gone (suc k) e = out is gone k e

      left : (is : List ℕ) (gone k : ℕ) → inode_at is k ≢ gone → inode_at (without_inode is gone) k ≡ inode_at is k
      left [] gone k other = refl
      left (i ∷ is) gone zero other =
          elim (i == gone) as (λ b. (i == gone) ≡ b → cond b 0 i ≡ i)
          [ true ↦ λ e. absurd (other (eqb-true i gone e)) | false ↦ λ e. refl ] refl
      left (i ∷ is) gone (suc k) other = left is gone k other

      nothing : inode_at inodes k ≡ 0 → inode_at (without_inode inodes gone) k ≡ 0
      nothing none = elim (0 == gone) as (λ b. (0 == gone) ≡ b → inode_at (without_inode inodes gone) k ≡ 0) [
        | true ↦ λ e. out inodes gone k (none ∙ eqb-true 0 gone e)
        | false ↦ λ e. left inodes gone k (λ z. eqb-false 0 gone e (sym none ∙ z)) ∙ none
      ] refl

-- ---- where a node goes

module _ {scene : Scene} {hand : InHand} (given : IsGiven scene hand) (inode : ℕ) (some : inode ≢ 0) where
  open scene use {state as s, spares}
  open hand use {table, slots}
  open given use {counted}

  -- some slot that is lent is its own
  slot_lent : (ks : List ℕ) → list_any (λ k. inode_at table.inodes k == inode) ks ≡ true → (k : ℕ)
      × (list_any (λ l. l == k) ks ≡ true) × (inode_at table.inodes k ≡ inode)
  slot_lent [] any = absurd (cc any)
  slot_lent (k ∷ ks) any =
      elim (inode_at table.inodes k == inode) as (λ b. (inode_at table.inodes k == inode) ≡ b
      → (b || list_any (λ k. inode_at table.inodes k == inode) ks) ≡ true
      → (l : ℕ) × (list_any (λ m. m == l) (k ∷ ks) ≡ true) × (inode_at table.inodes l ≡ inode)) [
        | true ↦ λ e f. (
          k,
          ap (λ b. b || list_any (λ m. m == k) ks) (eq-eqb k k refl),
          eqb-true (inode_at table.inodes k) inode e,
        )
        | false ↦ λ e f. let more = slot_lent ks f in
            (more.0, or_also (k == more.0) (list_any (λ m. m == more.0) ks) more.1, more.2)
      ] refl any
    where
      or_also : (a b : Bool) → b ≡ true → (a || b) ≡ true
      or_also true b e = refl
      or_also false b e = e

  -- no slot has it any more, so its node is gone
  gone_so : (t : State) (table' : Table) → IsTable t spares table' → table'.inodes ≡ without_inode table.inodes inode
      → kind_of t inode ≡ None
  gone_so t table' after inodes = by (get t.nodes inode) refl (get table'.places inode) refl
    where
      by : (o : Option Node) → get t.nodes inode ≡ o → (p : Option ℕ) → get table'.places inode ≡ p
          → option_map (λ (n : Node). n.kind) o ≡ None
      by None e p f = refl
      by (Some n) e None f = absurd (cc (sym (ap is_some f) ∙ after.living inode ∙ ap is_some e))
      by (Some n) e (Some slot) f =
          absurd ((left_there table.inodes inode slot inode (ap (λ is. slice_get is slot) (sym inodes)
          ∙ (after.placed.there inode slot f).0) some).1 refl)

  pub given_back : list_any (λ k. inode_at table.inodes k == inode) slots ≡ true
      → (t : State) (table' : Table) → IsTable t spares table'
      → table'.inodes ≡ without_inode table.inodes inode
      → ((slot : ℕ) → get table.places inode ≡ Some slot → table'.free ≡ table.free ++ slot ∷ [])
      → GivesBack scene t hand table'
  given_back any t table' after inodes free =
      let here = slot_lent slots any in
      record {
        slot = here.0;
        lent = here.1;
        there =
            ap (has s.nodes) here.2 ∙ sym (counted.living inode)
            ∙ ap is_some (counted.placed.lies here.0 inode (got table.inodes here.0 inode here.2 some) some);
        gone = ap (kind_of t) here.2 ∙ gone_so t table' after inodes;
        inodes = inodes ∙ ap (without_inode table.inodes) (sym here.2);
        free = free here.0 (counted.placed.lies here.0 inode (got table.inodes here.0 inode here.2 some) some);
      }

-- ---- what comes of the change

-- a list where an element is put again
pub put_again : (xs : List ℕ) (i x : ℕ) → slice_get xs i ≡ Some x → slice_set xs i x ≡ xs
put_again [] i x at = refl
put_again (y ∷ xs) zero x at = ap (λ z. z ∷ xs) (sym (same_Some y x at))
put_again (y ∷ xs) (suc i) x at = ap (λ zs. y ∷ zs) (put_again xs i x at)

-- one client's record stays
pub client_stays : (s t : State) (number : ℕ) (c : ClientRecord) → t.clients ≡ s.clients → get s.clients number ≡ Some c
    → (q : ℕ) → get t.clients q ≡ (if q == number then Some c else get s.clients q)
client_stays s t number c same at q =
    ap (λ m. get m q) same
    ∙ elim (q == number) as (λ b. (q == number) ≡ b → get s.clients q ≡ cond b (Some c) (get s.clients q))
    [ true ↦ λ e. ap (get s.clients) (eqb-true q number e) ∙ at | false ↦ λ e. refl ] refl

module _ {scene : Scene} {hand : InHand} (given : IsGiven scene hand) where
  open scene use {state as s, marks, spares, number, place}
  open hand use {client as c, spare, table, slots, lent}

  pub given_tree : IsTree s
  given_tree = tree_reached s given.reached

  -- in a slot that isn't lent lies nothing that is touched
  pub away : (touched : List ℕ) → AllByRecursion (λ i. i ≢ 0) touched
      → AllByRecursion (λ i. list_any (λ k. slice_index_or table.inodes k 0 == i) slots ≡ true) touched → (k : ℕ)
      → NotIn k slots → NotIn (inode_at table.inodes k) touched
  away [] somes covered k out = tt
  away (i ∷ is) somes covered k out = (
    not_here table.inodes table.places given.counted.placed i somes.0 slots covered.0 k out,
    away is somes.1 covered.1 k out,
  )

  -- so what changes only what is touched leaves it
  pub others_stay : (f : Held → Held) (touched : List ℕ) → AllByRecursion (λ i. i ≢ 0) touched
      → AllByRecursion (λ i. list_any (λ k. slice_index_or table.inodes k 0 == i) slots ≡ true) touched
      → ((held : Held) → NotIn held.inode touched → f held ≡ held) → (k : ℕ) → NotIn k slots
      → f (account s marks table.inodes k) ≡ account s marks table.inodes k
  others_stay f touched somes covered spared k out =
      spared (account s marks table.inodes k)
      (subst (λ i. NotIn i touched) (sym (account_inode s marks table.inodes k)) (away touched somes covered k out))

  -- what is done to each slot alike, and leaves what isn't touched, is made
  pub made_by : (t : State) (c' : ClientRecord) (table' : Table) (lent' : List Held) (f : Held → Held)
      (touched : List ℕ) → IsTable t spares table' → t.next ≡ s.next
      → ((q : ℕ) → get t.clients q ≡ (if q == number then Some c' else get s.clients q))
      → lent' ≡ map f lent → ((k : ℕ) → account t marks table'.inodes k ≡ f (account s marks table.inodes k))
      → AllByRecursion (λ i. i ≢ 0) touched
      → AllByRecursion (λ i. list_any (λ k. slice_index_or table.inodes k 0 == i) slots ≡ true) touched
      → ((held : Held) → NotIn held.inode touched → f held ≡ held) → KeepsSlots table table'
      ⊎ GivesBack scene t hand table'
      → IsMade scene t hand (in_hand c' spare table' slots lent')
  made_by t c' table' lent' f touched counted next clients done each somes covered spared free = record {
    counted = subst (λ kept. IsTable t kept table') (sym (put_again spares place spare given.kept)) counted;
    next = (let was = given.counted.next in let is = counted.next in omega (arith, was, is, next));
    clients = clients;
    told = done ∙ ap (map f) given.told ∙ told_by s t marks table.inodes table'.inodes f each slots;
    others = λ k out. each k ∙ others_stay f touched somes covered spared k out;
    freed = elim free [ inl keeps ↦ inl (given.kept, keeps) | inr back ↦ inr (inr (given.kept, back)) ];
  }

  -- where nothing is done, it is made
  pub made_idle : IsMade scene s hand hand
  made_idle = record {
    counted = subst (λ kept. IsTable s kept table) (sym (put_again spares place spare given.kept)) given.counted;
    next = omega arith;
    clients = client_stays s s number c refl given.client;
    told = given.told;
    others = λ k out. refl;
    freed = inl (given.kept, record { inodes = refl; free = refl });
  }
