-- A new node comes to lie in the client's spare slot, and a lent directory gets its name.
use Rattle.std.specs.Prelude.{◌≡◌, ◌≢◌, ℕ, zero, suc, ◌<◌, ◌==◌, Bool, true, false, cond, ◌||◌, List, [], ◌∷◌, ◌++◌}
use Rattle.std.specs.Prelude.{map, length, Option, Some, None, IfSome, IfNone, is_some, nat_le}
use Rattle.std.specs.Prelude.{slice_get, slice_set, refl}
use Rattle.std.specs.List.{AllByRecursion, AllWithin, HoldsAt, list_any}
use Rattle.std.specs.Option.{MatchOption}
use Rattle.std.specs.Ordering.{nat_cmp, eq_by_cmp}
use Rattle.std.specs.Cmp.Lexicographic.{slice_cmp, nat_list_cmp_total}
use Rattle.std.proofs.Common.{sym, subst, ap, ◌∙◌, inl, inr, arith}
use Rattle.std.proofs.lemmas.Bool.{eqb-true, eq-eqb, ne_eqb, cases_eq, cond-true, cond-false, leb-false}
use Rattle.std.proofs.lemmas.Option.{get_or_from_slice_get, slice_get-get_or}
use Rattle.ll_rights.specs.declared.errno.Errno.{Errno}
use Rattle.ll_rights.specs.declared.errno.Errno.TheVariants.{ENOSPC}
use Rattle.ll_rights.specs.declared.kind.Kind.{Kind}
use Rattle.ll_rights.specs.Errno.{refuse}
use Rattle.ll_rights.specs.Map.{get, has, insert, remove, len}
use Rattle.ll_rights.proofs.Maps.{equal_at, get-insert, get-remove}
use Rattle.ll_node.specs.Slot.{NameMap, Slot, new_slot}
use Rattle.ll_node.proofs.NameTable.{names_exact}
use Rattle.ll_seq.specs.State.{Name, State}
use Rattle.ll_seq.specs.Stages.{is_crowded}
use Rattle.ll_seq.specs.Effects.{with_node}
use Rattle.ll_laws.proofs.Trees.{IsTree}
use Rattle.ll_seq.specs.declared.changes.At.{At}
use Rattle.ll_seq.specs.declared.changes.Change.TheVariants.{Make}
use Rattle.ll_seq.specs.Effect.{dentry_at, HasRoom}
use Rattle.ll_node.specs.declared.held.Held.{Held}
use Rattle.ll_node.specs.Lent.{named_in, unnamed_in, filled}
use Rattle.ll_node.proofs.InSlots.{named_here, named_elsewhere}
use Rattle.ll_node.specs.InodeTable.{Table, IsTable, AreDistinct, NotIn, IsVacant}
use Rattle.ll_node.proofs.SlotLists.{same_or_not, set_same}
use Rattle.ll_node.specs.Accounts.{account, accounts, names_map}
use Rattle.ll_node.specs.Enactment.{Scene, InHand, IsGiven, Covers, IsMade, in_hand}
use Rattle.ll_node.proofs.GivenSlots.{client_stays, given_tree, kind_there}
use Rattle.ll_node.proofs.NamedSlots.{Takes, takes_name}
use Rattle.ll_node.proofs.StayingSlots.{directory_some, of_lent}
use Rattle.ll_node.proofs.Accounted.{inode_at, got, account_held, account_inode, account_kept, not_here}
use Rattle.ll_node.proofs.ChangedSlots.{made_in, made_new}
use Rattle.ll_node.proofs.Survivors.{make_kind}
use Rattle.ll_node.proofs.NameMaps.{same_names, get-names_map}
use Rattle.ll_node.proofs.SlotAccounts.{content_of, make_other}

-- ---- lists

all_at : (P : ℕ → Type 0) (xs : List ℕ) (i x : ℕ) → AllByRecursion P xs → slice_get xs i ≡ Some x → P x
all_at P [] i x all at = absurd (cc at)
all_at P (y ∷ xs) zero x all at = subst P (cc at) all.0
all_at P (y ∷ xs) (suc i) x all at = all_at P xs i x all.1 at

within : (xs : List ℕ) (i x : ℕ) → slice_get xs i ≡ Some x → i < length xs
within [] i x at = absurd (cc at)
within (y ∷ xs) zero x at = omega arith
within (y ∷ xs) (suc i) x at = let rest = within xs i x at in omega (arith, rest)

put_other : (xs : List ℕ) (i k y : ℕ) → k ≢ i → inode_at (slice_set xs i y) k ≡ inode_at xs k
put_other [] i k y other = refl
put_other (x ∷ xs) zero zero y other = absurd (other refl)
put_other (x ∷ xs) zero (suc k) y other = refl
put_other (x ∷ xs) (suc i) zero y other = refl
put_other (x ∷ xs) (suc i) (suc k) y other = put_other xs i k y (λ e. other (ap suc e))

pub listed : (x : ℕ) (ks : List ℕ) → list_any (λ k. k == x) ks ≡ true → (j : ℕ) → NotIn j ks → j ≢ x
listed x [] any j out same = absurd (cc any)
listed x (k ∷ ks) any j out same =
    elim (k == x) as (λ b. (k == x) ≡ b → (b || list_any (λ l. l == x) ks) ≡ true → ⊥) [
      | true ↦ λ e f. out.0 (same ∙ sym (eqb-true k x e))
      | false ↦ λ e f. listed x ks f j out.1 same
    ] refl any

-- of slots that are apart all but one change alike
module _ (f : Held → Held) (one : ℕ) (x : Held) (before after : ℕ → Held) (here : after one ≡ x) (elsewhere : (k : ℕ)
    → k ≢ one → after k ≡ f (before k)) where
  rest_changed : (slots : List ℕ) → NotIn one slots → map f (map before slots) ≡ map after slots
  rest_changed [] out = refl
  rest_changed (k ∷ slots) out = λ i. sym (elsewhere k (λ e. out.0 (sym e))) i ∷ rest_changed slots out.1 i

  pub one_filled : (slots : List ℕ) → AreDistinct slots → (place : ℕ) → slice_get slots place ≡ Some one
      → slice_set (map f (map before slots)) place x ≡ map after slots
  one_filled [] apart place at = absurd (cc at)
  one_filled (k ∷ slots) apart zero at =
      let same : k ≡ one = cc at in
      λ i. (sym here ∙ ap after (sym same)) i ∷ rest_changed slots (subst (λ j. NotIn j slots) same apart.0) i
  one_filled (k ∷ slots) apart (suc place) at =
      λ i. sym (elsewhere k (differs k slots place apart.0 at)) i ∷ one_filled slots apart.1 place at i
    where
      differs : (k : ℕ) (ks : List ℕ) (i : ℕ) → NotIn k ks → slice_get ks i ≡ Some one → k ≢ one
      differs k [] i out at = absurd (cc at)
      differs k (j ∷ ks) zero out at = λ e. out.0 (e ∙ sym (cc at))
      differs k (j ∷ ks) (suc i) out at = differs k ks i out.1 at

-- where the spare stands among the slots, if it does
abbrev pub IsPlace : ℕ → List ℕ → Option ℕ → Type 0
IsPlace spare slots found =
    MatchOption found (AllWithin (λ (k : ℕ). k ≢ spare) slots 0 (length slots))
    (λ i. (i < length slots) × HoldsAt (λ (k : ℕ). k ≡ spare) slots i × AllWithin (λ (k : ℕ). k ≢ spare) slots 0 i)

pub it_stands : (spare : ℕ) (slots : List ℕ) (found : Option ℕ) → IsPlace spare slots found
    → IfSome found (λ i. slice_get slots i ≡ Some spare)
it_stands spare slots None is = tt
it_stands spare slots (Some i) is = slice_get-get_or slots i 0 is.0 ∙ ap Some (is.1 0)

nowhere : (spare : ℕ) (slots : List ℕ) → AllWithin (λ (k : ℕ). k ≢ spare) slots 0 (length slots) → NotIn spare slots
nowhere spare [] all = tt
nowhere spare (k ∷ slots) all = (
  λ e. all 0 k (omega arith) (omega arith) (sym e),
  nowhere spare slots (λ j d low less. all (suc j) d (omega arith) (omega arith)),
)

pub it_is_away : (spare : ℕ) (slots : List ℕ) (found : Option ℕ) → IsPlace spare slots found
    → IfNone found (NotIn spare slots)
it_is_away spare slots None is = nowhere spare slots is
it_is_away spare slots (Some i) is = tt

-- ---- a name that is put in and taken out again

taken_back : (m : NameMap) (name : Name) (inode : ℕ) → get m name ≡ None → remove (insert m name inode) name ≡ m
taken_back m name inode none =
    same_names (remove (insert m name inode) name) m (λ q.
    get-remove nat_list_cmp_total names_exact (insert m name inode) name q
    ∙ ap (cond (eq_by_cmp (slice_cmp nat_cmp) q name) None) (get-insert nat_list_cmp_total names_exact m name inode q)
    ∙ by q (eq_by_cmp (slice_cmp nat_cmp) q name) refl)
  where
    by : (q : Name) (b : Bool) → eq_by_cmp (slice_cmp nat_cmp) q name ≡ b
        → cond b None (cond b (Some inode) (get m q)) ≡ get m q
    by q true e = sym (ap (get m) (names_exact q name (equal_at _ e)) ∙ none)
    by q false e = refl

module _ (directory : ℕ) (name : Name) (inode : ℕ) where
  abbrev Lacking : Held → Type 0
  Lacking held = held.inode ≡ directory → get held.node.names name ≡ None

  back_one : (held : Held) → Lacking held → unnamed_in directory name (named_in directory name inode held) ≡ held
  back_one held lacks = elim (cases_eq held.inode directory) [
    | inl lies ↦
        ap (unnamed_in directory name) (sym (named_here directory name inode held lies))
        ∙ cond-true (held.inode == directory) _ _ (eq-eqb held.inode directory lies)
        ∙ ap (λ (m : NameMap). record held { node = record held.node { names = m } })
        (taken_back held.node.names name inode (lacks lies))
    | inr other ↦ ap (unnamed_in directory name) (named_elsewhere directory name inode held other)
        ∙ cond-false (held.inode == directory) _ held (ne_eqb held.inode directory other)
  ]

  pub all_back : (lent : List Held) → AllByRecursion Lacking lent
      → map (unnamed_in directory name) (map (named_in directory name inode) lent) ≡ lent
  all_back [] lacking = refl
  all_back (held ∷ lent) lacking = λ i. back_one held lacking.0 i ∷ all_back lent lacking.1 i

-- ---- what is given

not_refused : (b : Bool) (e : Errno) → refuse b e ≡ [] → b ≡ false
not_refused true e free = absurd (cc free)
not_refused false e free = refl

neither : (a b : Bool) → (a || b) ≡ false → (a ≡ false) × (b ≡ false)
neither true b e = absurd (cc e)
neither false b e = (refl, e)

module _ {scene : Scene} {hand : InHand} (given : IsGiven scene hand) where
  open scene use {state as s, marks, spares, number, place}
  open hand use {client as c, spare, table, slots, lent}

  tree : IsTree s
  tree = given_tree given

  pub spare_vacant : slice_get table.inodes spare ≡ Some 0
  spare_vacant = all_at (IsVacant table.inodes) spares place spare given.counted.spares given.kept

  pub spare_within : spare < length table.inodes
  spare_within = within table.inodes spare 0 spare_vacant

  pub next_unused : get s.nodes table.next ≡ None
  next_unused = ap (get s.nodes) given.counted.next ∙ (given.counted.facts.unused s.next (omega arith)).node

  pub next_unplaced : get table.places table.next ≡ None
  next_unplaced = by (get table.places table.next) (given.counted.living table.next ∙ ap is_some next_unused)
    where
      by : (o : Option ℕ) → is_some o ≡ false → o ≡ None
      by None e = refl
      by (Some k) e = absurd (cc e)

  -- nothing lies in a slot under the next inode
  pub next_nowhere : (k : ℕ) → inode_at table.inodes k ≢ 0 → inode_at table.inodes k ≢ table.next
  next_nowhere k some same =
      cc (sym next_unplaced ∙ ap (get table.places) (sym same)
      ∙ given.counted.placed.lies k (inode_at table.inodes k)
      (got table.inodes k (inode_at table.inodes k) refl some) some)

  module _ (at : At) (kind : Kind) (fits : HasRoom s at) where
    directory_here : at.directory ≢ 0
    directory_here = directory_some given at fits.lacks.directory

    space : (is_crowded s at.directory ≡ false) × (nat_le s.room (len s.nodes) ≡ false)
    space = neither (is_crowded s at.directory) (nat_le s.room (len s.nodes)) (not_refused _ ENOSPC fits.space)

    pub not_crowded : is_crowded s at.directory ≡ false
    not_crowded = space.0

    pub few_nodes : len s.nodes < s.room
    few_nodes = leb-false s.room (len s.nodes) space.1

    pub lent_takes : AllByRecursion (λ (held : Held). held.inode ≡ at.directory → Takes at.name.now held.node) lent
    lent_takes = takes_name given at fits.lacks not_crowded

    pub lent_lacks : AllByRecursion (λ (held : Held). held.inode ≡ at.directory
        → get held.node.names at.name.now ≡ None) lent
    lent_lacks =
        of_lent given at.directory (λ (slot : Slot). get slot.names at.name.now ≡ None) directory_here
        (get-names_map s at.directory at.name.now ∙ fits.lacks.child)

    -- ---- the new node

    abbrev made_inodes : List ℕ
    made_inodes = slice_set table.inodes spare table.next

    abbrev made_state : State
    made_state = with_node s kind (dentry_at at)

    next_some : table.next ≢ 0
    next_some none = let above = tree.above in let same = given.counted.next in omega (arith, above, same, none)

    made_here : account made_state marks made_inodes spare ≡ filled table.next kind
    made_here =
        let lies : inode_at made_inodes spare ≡ table.next =
        get_or_from_slice_get made_inodes spare table.next 0 (set_same table.inodes spare 0 table.next spare_vacant)
        in
        let content : content_of made_state table.next ≡ new_slot kind =
        ap (content_of made_state) given.counted.next ∙ made_new s tree at kind fits in
        let mark : marks table.next ≡ None = ap marks given.counted.next ∙ given.unmarked in
        account_held made_state marks made_inodes spare table.next lies next_some
        ∙ (λ i. record { inode = table.next; node = record (content i) { mark = mark i } })

    made_elsewhere : (k : ℕ) → k ≢ spare
        → account made_state marks made_inodes k
        ≡ named_in at.directory at.name.now table.next (account s marks table.inodes k)
    made_elsewhere k other = elim (same_or_not (inode_at table.inodes k) at.directory) [
      | inl lies ↦
          account_held made_state marks made_inodes k at.directory (kept ∙ lies) directory_here
          ∙ ap (λ c. record { inode = at.directory; node = record c { mark = marks at.directory } })
          (made_in s tree at kind fits)
          ∙ ap (λ n. record {
            inode = at.directory;
            node = record (content_of s at.directory)
                { names = insert (names_map s at.directory) at.name.now n; mark = marks at.directory };
          })
          (sym given.counted.next)
          ∙ named_here at.directory at.name.now table.next
          (record { inode = at.directory; node = record (content_of s at.directory) { mark = marks at.directory } })
          refl
          ∙ ap (named_in at.directory at.name.now table.next)
          (sym (account_held s marks table.inodes k at.directory lies directory_here))
      | inr away ↦
          account_kept s made_state marks table.inodes made_inodes k kept
          (λ some. make_other s kind (dentry_at at) (inode_at table.inodes k) away
          (λ e. next_nowhere k some (e ∙ sym given.counted.next)))
          ∙ sym (named_elsewhere at.directory at.name.now table.next (account s marks table.inodes k)
          (λ e. away (sym (account_inode s marks table.inodes k) ∙ e)))
    ]
      where
        kept : inode_at made_inodes k ≡ inode_at table.inodes k
        kept = put_other table.inodes spare k table.next other

    module _ (covers : Covers hand (Make at kind)) where
      made_others : (k : ℕ) → NotIn k slots → account made_state marks made_inodes k ≡ account s marks table.inodes k
      made_others k out =
          made_elsewhere k (listed spare slots (covers.new refl) k out)
          ∙ named_elsewhere at.directory at.name.now table.next (account s marks table.inodes k)
          (λ e. not_here table.inodes table.places given.counted.placed at.directory directory_here slots
          covers.touched.0 k out (sym (account_inode s marks table.inodes k) ∙ e))

      pub made : (fresh : ℕ) (table' : Table) (lent' : List Held) (k : ℕ)
          → IsTable made_state (slice_set spares place fresh) table' → table'.inodes ≡ made_inodes
          → table.free ≡ table'.free ++ fresh ∷ [] → slice_get slots k ≡ Some spare
          → lent' ≡ slice_set (map (named_in at.directory at.name.now table.next) lent) k (filled table.next kind)
          → IsMade scene made_state hand (in_hand c fresh table' slots lent')
      made fresh table' lent' k counted inodes free lies put = record {
        counted = counted;
        next = let new = counted.next in let old = given.counted.next in omega (arith, new, old);
        clients = client_stays s made_state number c refl given.client;
        told =
            put
            ∙ ap (λ l. slice_set (map (named_in at.directory at.name.now table.next) l) k (filled table.next kind))
            given.told
            ∙ one_filled (named_in at.directory at.name.now table.next) spare (filled table.next kind)
            (account s marks table.inodes) (account made_state marks made_inodes) made_here made_elsewhere slots
            given.apart k lies
            ∙ ap (λ is. accounts made_state marks is slots) (sym inodes);
        others = λ j out. ap (λ is. account made_state marks is j) inodes ∙ made_others j out;
        freed = inr (inl (record {
          made = ap (has made_state.nodes) given.counted.next
              ∙ kind_there made_state s.next kind (make_kind s kind (dentry_at at));
          free = free;
          inodes = inodes ∙ ap (λ k. slice_set table.inodes k table.next)
              (sym (get_or_from_slice_get spares place spare 0 given.kept));
        }));
      }
