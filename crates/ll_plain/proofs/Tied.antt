-- What changes of the tree do to what its tables keep.
use Rattle.std.proofs.Common.{◌≡◌, ◌≢◌, ◌==◌, ℕ, ◌+◌, ◌-◌, ◌≤◌, Bool, true, false, cond, not, ◌||◌, List, [], ◌∷◌}
use Rattle.std.proofs.Common.{length, filter, Option, Some, None, is_some, refl, ap, sym, ◌∙◌, subst, inl, inr, arith}
use Rattle.std.specs.Prelude.{◌⊎◌, if◌then◌else◌, option_map, option_and_then}
use Rattle.std.specs.Ordering.{nat_cmp, eq_by_cmp}
use Rattle.std.specs.Cmp.{nat_cmp_total}
use Rattle.std.specs.FinMap.{nat_cmp-IsAntisymmetric}
use Rattle.std.specs.Option.{option_map_or}
use Rattle.std.proofs.lemmas.Bool.{cases_lt, eqb-true, eq-eqb}
use Rattle.ll_rights.specs.declared.kind.Kind.{Kind}
use Rattle.ll_rights.specs.declared.kind.Kind.TheVariants.{Dir}
use Rattle.ll_rights.specs.MapCodes.{same_list_map}
use Rattle.ll_rights.specs.Map.{Map, empty, entries, get, has, insert, remove}
use Rattle.ll_rights.proofs.Maps.{equal_at, get-insert, get-insert_same, get-remove, get-remove_other, get-insert_other}
use Rattle.ll_rights.proofs.Maps.{insert_cases, same_map}
use Rattle.ll_path.specs.Path.{Path}
use Rattle.ll_seq.specs.declared.client.ClientRecord.{ClientRecord}
use Rattle.ll_seq.specs.declared.dentries.Dentry.{Dentry}
use Rattle.ll_seq.specs.declared.node.Node.{Node}
use Rattle.ll_seq.specs.State.{State, bytes_of, child, dentry, dentry_cmp, empty_node, is_open, kind_of, name_count}
use Rattle.ll_seq.specs.State.{root, start}
use Rattle.ll_seq.specs.Tree.{end_from, named}
use Rattle.ll_seq.specs.Reach.{HasName}
use Rattle.ll_seq.specs.Effects.{with_bytes, with_node, with_name, without_name, with_moved, lives, let_go}
use Rattle.ll_seq.specs.Facts.{AreKept, IsUnused}
use Rattle.ll_seq.specs.declared.facts.Fact.{Fact}
use Rattle.ll_seq.specs.declared.rules.Rules.{Rules}
use Rattle.ll_seq.specs.Effect.{IsDirectory}
use Rattle.ll_plain.specs.Tables.{HasNodes, IsTied}
use Rattle.ll_plain.proofs.Written.{bytes_changed}
use Rattle.ll_seq.proofs.Counts.{bit, opens_is, links-new, links-over, links-less}
use Rattle.ll_seq.proofs.DentryOrder.{dentry_total, dentry_exact}
use Rattle.ll_seq.proofs.FactsKept.{kept_bytes, unlike}
use Rattle.ll_seq.proofs.OpensKept.{kept_client}
use Rattle.ll_seq.proofs.OrderedTables.{remove-absent, remove-insert, two_keys}

-- ---- nodes that are there

no_node : (o : Option Node) → option_map (λ (n : Node). n.kind) o ≡ None → o ≡ None
no_node None e = refl
no_node (Some n) e = absurd (cc e)

there_by : (s : State) (q : ℕ) (k : Kind) → kind_of s q ≡ Some k → has s.nodes q ≡ true
there_by s q k is = of (get s.nodes q) is
  where
    of : (o : Option Node) → option_map (λ (n : Node). n.kind) o ≡ Some k → is_some o ≡ true
    of None e = absurd (cc e)
    of (Some n) e = refl

there_or_not : (s : State) (q : ℕ) → (has s.nodes q ≡ true) ⊎ (get s.nodes q ≡ None)
there_or_not s q = of (get s.nodes q)
  where
    of : (o : Option Node) → (is_some o ≡ true) ⊎ (o ≡ None)
    of None = inr refl
    of (Some n) = inl refl

differ : (s : State) (i q : ℕ) → has s.nodes i ≡ true → get s.nodes q ≡ None → (i == q) ≡ false
differ s i q there none = unlike i q (λ e. absurd (cc (sym there ∙ ap is_some (ap (get s.nodes) (sym e) ∙ none))))

module _ (s : State) (h : HasNodes s) where
  root_there : has s.nodes root ≡ true
  root_there = there_by s root Dir h.root

  pub directory_there : (d : ℕ) → IsDirectory s d → has s.nodes d ≡ true
  directory_there d is = there_by s d Dir (is h.root)

  -- what a name stands for has a node
  child_there : (at : Dentry) (inode : ℕ) → get s.entries at ≡ Some inode → has s.nodes inode ≡ true
  child_there at inode is = elim (there_or_not s inode) [
    | inl there ↦ there
    | inr none ↦ absurd (
        let no_names = h.named inode none in
        let less = links-less s.entries at inode inode is in
        let one = ap bit (eq-eqb inode inode refl) in
        omega arith)
  ]

  along : (inode : ℕ) (path : Path) (from : ℕ) → has s.nodes from ≡ true → end_from s path from ≡ Some inode
      → has s.nodes inode ≡ true
  along inode [] from there e = let same : from ≡ inode = cc e in ap (has s.nodes) (sym same) ∙ there
  along inode (name ∷ path) from there e = of (child s from name) refl e (along inode path)
    where
      of : (o : Option ℕ) → child s from name ≡ o → option_and_then (end_from s path) o ≡ Some inode
          → ((j : ℕ) → has s.nodes j ≡ true → end_from s path j ≡ Some inode → has s.nodes inode ≡ true)
          → has s.nodes inode ≡ true
      of None is f rest = absurd (cc f)
      of (Some j) is f rest = rest j (child_there (dentry from name) j is) f

  pub named_there : (inode : ℕ) → HasName s inode → has s.nodes inode ≡ true
  named_there inode n = along inode n.0 root root_there n.1

  -- what a path names is of some kind
  pub named_kind : (path : Path) (inode : ℕ) → named s path ≡ Some inode → (kind : Kind) × (kind_of s inode ≡ Some kind)
  named_kind path inode e = of (get s.nodes inode) (named_there inode (path, e))
    where
      of : (o : Option Node) → is_some o ≡ true → (kind : Kind) × (option_map (λ (n : Node). n.kind) o ≡ Some kind)
      of None e = absurd (cc e)
      of (Some n) e = (n.kind, refl)

-- ---- other names

-- the same kinds, and names for what has a node alone
nodes_alike : (s t : State) → HasNodes s → ((q : ℕ) → kind_of t q ≡ kind_of s q)
    → ((q : ℕ) → get s.nodes q ≡ None → name_count t q ≡ 0) → HasNodes t
nodes_alike s t h kinds named = record {
  root = kinds root ∙ h.root;
  named = λ q none. named q (no_node (get s.nodes q) (sym (kinds q) ∙ ap (option_map (λ (n : Node). n.kind)) none));
}

pub nodes_name : (s : State) (at : Dentry) (inode : ℕ) → HasNodes s → has s.nodes inode ≡ true → get s.entries at ≡ None
    → HasNodes (with_name s at inode)
nodes_name s at inode h there free =
    nodes_alike s (with_name s at inode) h (λ q. refl) (λ q none.
    let before = h.named q none in
    let more = links-new s.entries at q inode free in
    let other = ap bit (differ s inode q there none) in
    omega arith)

pub nodes_taken : (s : State) (at : Dentry) (inode : ℕ) → HasNodes s → get s.entries at ≡ Some inode
    → HasNodes (record s { entries = remove s.entries at })
nodes_taken s at inode h there =
    nodes_alike s (record s { entries = remove s.entries at }) h (λ q. refl) (λ q none.
    let before = h.named q none in
    let less = links-less s.entries at q inode there in
    omega arith)

still_none : (b : Bool) (o : Option ℕ) → o ≡ None → cond b None o ≡ None
still_none true o none = refl
still_none false o none = none

module _ (s : State) (old new : Dentry) (inode : ℕ) (h : HasNodes s) (there : get s.entries old ≡ Some inode) where
  pub nodes_moved : get s.entries new ≡ None → HasNodes (with_moved s old new inode)
  nodes_moved free =
      nodes_name (record s { entries = remove s.entries old }) new inode (nodes_taken s old inode h there)
      (child_there s h old inode there)
      (get-remove dentry_total dentry_exact s.entries old new
      ∙ still_none (eq_by_cmp dentry_cmp new old) (get s.entries new) free)

  pub nodes_over : (replaced : ℕ) → get s.entries new ≡ Some replaced → inode ≢ replaced
      → HasNodes (with_moved s old new inode)
  nodes_over replaced taken unequal =
      let other : get (remove s.entries old) new ≡ Some replaced =
      get-remove_other dentry_total dentry_exact s.entries old new
      (two_keys s.entries new old (Some replaced) (Some inode) taken there (λ e. unequal (cc e))) ∙ taken in
      nodes_alike s (with_moved s old new inode) h (λ q. refl) (λ q none.
      let before = h.named q none in
      let less = links-less s.entries old q inode there in
      let over = links-over (remove s.entries old) new q inode replaced other in
      omega arith)

  pub nodes_exchanged : (second : ℕ) → get s.entries new ≡ Some second
      → HasNodes (with_name (with_name s new inode) old second)
  nodes_exchanged second beside =
      let still : get (insert s.entries new inode) old ≡ Some inode =
      elim (insert_cases dentry_total dentry_exact s.entries new inode old) [
        | inl here ↦ here.1
        | inr away ↦ away.1
            ∙ there
      ] in
      nodes_alike s (with_name (with_name s new inode) old second) h (λ q. refl) (λ q none.
      let before = h.named q none in
      let one = links-over s.entries new q inode second beside in
      let other = links-over (insert s.entries new inode) old q second inode still in
      let first_differs = ap bit (differ s inode q (child_there s h old inode there) none) in
      let second_differs = ap bit (differ s second q (child_there s h new second beside) none) in
      omega arith)

-- ---- other nodes

pub nodes_node : (s : State) (kind : Kind) (at : Dentry) → HasNodes s → get s.nodes s.next ≡ None
    → get s.entries at ≡ None → HasNodes (with_node s kind at)
nodes_node s kind at h new free = record {
  root = ap (option_map (λ (n : Node). n.kind))
      (get-insert_other nat_cmp_total nat_cmp-IsAntisymmetric s.nodes s.next (empty_node kind) root
      (λ e. absurd (cc (sym (root_there s h) ∙ ap is_some (ap (get s.nodes) e ∙ new)))))
      ∙ h.root;
  named = λ q none. elim (insert_cases nat_cmp_total nat_cmp-IsAntisymmetric s.nodes s.next (empty_node kind) q) [
    | inl here ↦ absurd (cc (sym here.1 ∙ none))
    | inr away ↦ (
        let before = h.named q (sym away.1 ∙ none) in
        let more = links-new s.entries at q s.next free in
        let other = ap bit (unlike s.next q away.0) in
        omega arith)
  ];
}

unkept : (a n o : Bool) → (a || not n || o) ≡ false → (a ≡ false) × (n ≡ true)
unkept true n o e = absurd (cc e)
unkept false true o e = (refl, refl)
unkept false false o e = absurd (cc e)

pub nodes_let_go : (s : State) (inode : ℕ) → HasNodes s → HasNodes (let_go s inode)
nodes_let_go s inode h = of (lives s inode) refl
  where
    left : lives s inode ≡ false → (q : ℕ) (b : Bool) → eq_by_cmp nat_cmp q inode ≡ b
        → cond b None (get s.nodes q) ≡ None → name_count s q ≡ 0
    left dead q true tied none =
        ap (name_count s) (nat_cmp-IsAntisymmetric q inode (equal_at _ tied))
        ∙ eqb-true (name_count s inode) 0 (unkept (inode == root) (name_count s inode == 0) (is_open s inode) dead).1
    left dead q false tied none = h.named q none

    of : (b : Bool) → lives s inode ≡ b → HasNodes (if b then s else record s { nodes = remove s.nodes inode })
    of true alive = h
    of false dead = record {
      root = ap (option_map (λ (n : Node). n.kind))
          (get-remove_other nat_cmp_total nat_cmp-IsAntisymmetric s.nodes inode root
          (λ e. absurd (cc (sym (eq-eqb inode root (sym e))
          ∙ (unkept (inode == root) (name_count s inode == 0) (is_open s inode) dead).0))))
          ∙ h.root;
      named = λ q none. left dead q (eq_by_cmp nat_cmp q inode) refl
          (sym (get-remove nat_cmp_total nat_cmp-IsAntisymmetric s.nodes inode q) ∙ none);
    }

-- ---- a node taken away where nothing keeps it

module _ (s : State) (inode : ℕ) (goes : Bool) (is : has s.nodes inode ≡ true → goes ≡ not (lives s inode)) where
  abbrev taken_away : State
  taken_away = record s { nodes = remove s.nodes inode }

  same_nodes : get s.nodes inode ≡ None → taken_away ≡ s
  same_nodes none = ap (λ m. record s { nodes = m })
      (remove-absent nat_cmp_total nat_cmp-IsAntisymmetric s.nodes inode none)

  goes_so : goes ≡ true → taken_away ≡ let_go s inode
  goes_so true_is = elim (there_or_not s inode) [
    | inl there ↦ by (lives s inode) (sym (is there) ∙ true_is)
    | inr none ↦ absent (lives s inode) none
  ]
    where
      by : (b : Bool) → not b ≡ true → taken_away ≡ (if b then s else taken_away)
      by true e = absurd (cc e)
      by false e = refl

      absent : (b : Bool) → get s.nodes inode ≡ None → taken_away ≡ (if b then s else taken_away)
      absent true none = same_nodes none
      absent false none = refl

  stays_so : goes ≡ false → s ≡ let_go s inode
  stays_so false_is = elim (there_or_not s inode) [
    | inl there ↦ by (lives s inode) (sym (is there) ∙ false_is)
    | inr none ↦ absent (lives s inode) none
  ]
    where
      by : (b : Bool) → not b ≡ false → s ≡ (if b then s else taken_away)
      by true e = refl
      by false e = absurd (cc e)

      absent : (b : Bool) → get s.nodes inode ≡ None → s ≡ (if b then s else taken_away)
      absent true none = refl
      absent false none = sym (same_nodes none)

  pub left_so : (nodes : Map nat_cmp Node) → nodes ≡ (if goes then remove s.nodes inode else s.nodes)
      → record s { nodes = nodes } ≡ let_go s inode
  left_so nodes left = of goes refl
    where
      of : (b : Bool) → goes ≡ b → record s { nodes = nodes } ≡ let_go s inode
      of true e = ap (λ m. record s { nodes = m }) (left ∙ ap (λ b. if b then remove s.nodes inode else s.nodes) e)
          ∙ goes_so e
      of false e = ap (λ m. record s { nodes = m }) (left ∙ ap (λ b. if b then remove s.nodes inode else s.nodes) e)
          ∙ stays_so e

-- ---- other bytes

nodes_bytes : (s : State) (inode : ℕ) (bytes : List ℕ) → HasNodes s → HasNodes (with_bytes s inode bytes)
nodes_bytes s inode bytes h = of (get s.nodes inode) refl
  where
    of : (o : Option Node) → get s.nodes inode ≡ o
        → HasNodes (option_map_or (λ (n : Node). record s { nodes = insert s.nodes inode (record n { bytes = bytes }) })
        o s)
    of None is = h
    of (Some n) is =
        nodes_alike s (record s { nodes = insert s.nodes inode (record n { bytes = bytes }) }) h
        (λ q. elim (insert_cases nat_cmp_total nat_cmp-IsAntisymmetric s.nodes inode (record n { bytes = bytes }) q) [
          | inl here ↦ ap (option_map (λ (m : Node). m.kind)) here.1
              ∙ sym (ap (option_map (λ (m : Node). m.kind)) (ap (get s.nodes) here.0 ∙ is))
          | inr away ↦ ap (option_map (λ (m : Node). m.kind)) away.1
        ])
        h.named

pub tied_bytes : (s : State) (f : Map nat_cmp Fact) (inode : ℕ) (change : List ℕ → List ℕ) (nodes : Map nat_cmp Node)
    → IsTied s f
    → nodes ≡ option_map_or (λ (n : Node). insert s.nodes inode (record n { bytes = change n.bytes }))
    (get s.nodes inode) s.nodes → IsTied (record s { nodes = nodes }) f
tied_bytes s f inode change nodes tied is =
    subst (λ z. IsTied z f) (sym (bytes_changed s s nodes inode change refl is))
    (record {
      kept = kept_bytes s f inode (change (bytes_of s inode)) tied.kept;
      nodes = nodes_bytes s inode (change (bytes_of s inode)) tied.nodes;
    })

-- ---- other clients

pub tied_with : (s : State) (g : Map nat_cmp Fact) (after clients : Map nat_cmp ClientRecord) → HasNodes s
    → after ≡ clients → AreKept (record s { clients = clients }) g → IsTied (record s { clients = after }) g
tied_with s g after clients h is kept =
    subst (λ m. IsTied (record s { clients = m }) g) (sym is)
    (record { kept = kept; nodes = record { root = h.root; named = h.named } })

-- a record with the same descriptors
pub tied_client : (s : State) (f : Map nat_cmp Fact) (n : ℕ) (after : Map nat_cmp ClientRecord) (c d : ClientRecord)
    → IsTied s f → get s.clients n ≡ Some c → after ≡ insert s.clients n d → d.descriptors ≡ c.descriptors
    → IsTied (record s { clients = after }) f
tied_client s f n after c d tied there is same =
    tied_with s f after (insert s.clients n d) tied.nodes is (kept_client s f f n c tied.kept there d same)

-- ---- the root alone

no_links : (q : ℕ) → length (filter (λ (e : Dentry × ℕ). e.1 == q) (entries {X = ℕ} {R = dentry_cmp} empty)) ≡ 0
unfolding empty entries
no_links q = refl

pub nodes_start : (rules : Rules) (room : ℕ) → HasNodes (start rules room)
nodes_start rules room = record {
  root = ap (option_map (λ (n : Node). n.kind))
      (get-insert_same nat_cmp_total nat_cmp-IsAntisymmetric empty root (empty_node Dir));
  named = λ q none. no_links q;
}

-- ---- a node made, and its one name taken again

back_again : (m : Map dentry_cmp ℕ) (k q : Dentry) (v : ℕ) (b : Bool) → get m k ≡ None → eq_by_cmp dentry_cmp q k ≡ b
    → cond b None (cond b (Some v) (get m q)) ≡ get m q
back_again m k q v true none tied = sym none ∙ ap (get m) (sym (dentry_exact q k (equal_at _ tied)))
back_again m k q v false none tied = refl

pub name_back : (m : Map dentry_cmp ℕ) (k : Dentry) (v : ℕ) → get m k ≡ None → remove (insert m k v) k ≡ m
name_back m k v none =
    same_list_map _ _ (same_map dentry_total dentry_exact (remove (insert m k v) k) m (λ q.
    get-remove dentry_total dentry_exact (insert m k v) k q
    ∙ ap (λ o. cond (eq_by_cmp dentry_cmp q k) None o) (get-insert dentry_total dentry_exact m k v q)
    ∙ back_again m k q v (eq_by_cmp dentry_cmp q k) none refl))

module _ (s : State) (h : HasNodes s) (unused : IsUnused s s.next) where
  not_root : (s.next == root) ≡ false
  not_root = unlike s.next root
      (λ e. absurd (cc (sym (root_there s h) ∙ ap is_some (ap (get s.nodes) e ∙ unused.node))))

  abbrev with_bare : Kind → State
  with_bare kind = record s { nodes = insert s.nodes s.next (empty_node kind); next = s.next + 1 }

  dead : (kind : Kind) → lives (with_bare kind) s.next ≡ false
  dead kind =
      ap (λ b. b || not (name_count s s.next == 0) || is_open s s.next) not_root
      ∙ ap (λ n. not (n == 0) || is_open s s.next) unused.links
      ∙ opens_is s s.next ∙ ap (λ n. not (n == 0)) unused.opens

  -- nothing but the number is left of it
  unmade : (kind : Kind) (at : Dentry) → get s.entries at ≡ None
      → without_name (with_node s kind at) at s.next ≡ record s { next = s.next + 1 }
  unmade kind at free =
      ap (λ m. let_go (record (with_bare kind) { entries = m }) s.next) (name_back s.entries at s.next free)
      ∙ ap (λ b. if b then with_bare kind else record (with_bare kind) { nodes = remove (with_bare kind).nodes s.next })
      (dead kind)
      ∙ ap (λ m. record s { nodes = m; next = s.next + 1 }) (remove-insert s.nodes s.next (empty_node kind) unused.node)

  -- and it is given back
  number_back : (z : State) (g : Map nat_cmp Fact) → z ≡ record s { next = s.next + 1 } → IsTied z g
      → (record z { next = z.next - 1 } ≡ s) × IsTied (record z { next = z.next - 1 }) g
  number_back z g is tied =
      let less : s.next + 1 - 1 ≡ s.next = omega arith in
      let same : record z { next = z.next - 1 } ≡ s =
      ap (λ (y : State). record y { next = y.next - 1 }) is ∙ ap (λ n. record s { next = n }) less in
      (same, subst (λ y. IsTied y g) (sym same) (before (subst (λ y. IsTied y g) is tied)))
    where
      later : AreKept (record s { next = s.next + 1 }) g → (q : ℕ) → s.next ≤ q → IsUnused s q
      later kept q past = elim (cases_lt s.next q) [
        | inl more ↦ (let u = kept.unused q (omega arith)
            in record { node = u.node; names = u.names; links = u.links; opens = u.opens })
        | inr less ↦ (let same : s.next ≡ q = omega arith in subst (IsUnused s) same unused)
      ]

      before : IsTied (record s { next = s.next + 1 }) g → IsTied s g
      before t = record {
        kept = record { told = t.kept.told; unused = later t.kept };
        nodes = record { root = t.nodes.root; named = t.nodes.named };
      }

  -- so all is as before where a node is made, and its name taken again
  pub as_before : (kind : Kind) (at : Dentry) → get s.entries at ≡ None → (made left : State) (g : Map nat_cmp Fact)
      → made ≡ with_node s kind at → left ≡ without_name made at s.next → IsTied left g
      → (record left { next = left.next - 1 } ≡ s) × IsTied (record left { next = left.next - 1 }) g
  as_before kind at free made left g is taken tied =
      number_back left g (taken ∙ ap (λ z. without_name z at s.next) is ∙ unmade kind at free) tied
