-- Facts that are true stay so as the tree changes: nodes are made, named, moved, written to.
use Rattle.std.proofs.Common.{◌≡◌, ◌≢◌, ◌==◌, ℕ, ◌+◌, ◌-◌, ◌^◌, ◌<◌, ◌≤◌, min, Bool, true, false, cond, not, ◌&&◌, ◌||◌}
use Rattle.std.proofs.Common.{List, length, Option, Some, None, is_some, refl, ap, sym, ◌∙◌, subst, inl, inr, arith}
use Rattle.std.specs.Prelude.{if◌then◌else◌, option_map, nat_le}
use Rattle.std.specs.Option.{option_map_or}
use Rattle.std.specs.Ordering.{nat_cmp, eq_by_cmp}
use Rattle.std.specs.Cmp.{nat_cmp_total}
use Rattle.std.specs.FinMap.{nat_cmp-IsAntisymmetric}
use Rattle.std.proofs.lemmas.Bool.{eqb-true, eq-eqb}
use Rattle.std.proofs.lemmas.Bool.Decides.{nat_tests}
use Rattle.ll_rights.specs.declared.kind.Kind.{Kind}
use Rattle.ll_rights.specs.declared.kind.Kind.TheVariants.{Dir}
use Rattle.ll_rights.specs.Map.{Map, empty, entries, get, has, insert, remove}
use Rattle.ll_rights.proofs.Maps.{get-remove, get-insert_same, get-insert_other, get-remove_other, insert_cases}
use Rattle.ll_seq.specs.declared.dentries.Dentry.{Dentry}
use Rattle.ll_seq.specs.declared.facts.Fact.{Fact}
use Rattle.ll_seq.specs.declared.node.Node.{Node}
use Rattle.ll_seq.specs.declared.rules.Rules.{Rules}
use Rattle.ll_seq.specs.State.{State, dentry_cmp, kind_of, names_in, name_count, empty_node, start}
use Rattle.ll_seq.specs.Stages.{is_crowded, has_many_names}
use Rattle.ll_seq.specs.Effects.{with_node, with_name, with_moved, lives, let_go, with_bytes}
use Rattle.ll_seq.specs.Facts.{open_count, AreKept}
use Rattle.ll_seq.proofs.Counts.{bit, opens_is, names-new, links-new, names-over, links-over, names-less, links-less}
use Rattle.ll_seq.proofs.DentryOrder.{dentry_total, dentry_exact}
use Rattle.ll_seq.proofs.OrderedTables.{remove-absent, two_keys}

abbrev pub Facts : Type 0
Facts = Map nat_cmp Fact

abbrev pub fact_with : State → ℕ → Kind → Fact
fact_with s q kind = record {
  kind = kind;
  names = length (names_in s q);
  links = name_count s q;
  opens = open_count s q;
}

-- ---- facts changed one by one

-- each is changed alone
abbrev pub Steps : Facts → Facts → (ℕ → Fact → Fact) → Type 0
Steps before after change = (q : ℕ) → get after q ≡ option_map (change q) (get before q)

pub both_steps : (f g h : Facts) (one other : ℕ → Fact → Fact) → Steps f g one → Steps g h other
    → Steps f h (λ q x. other q (one q x))
both_steps f g h one other a b q = b q ∙ ap (option_map (other q)) (a q) ∙ of (get f q)
  where
    of : (o : Option Fact) → option_map (other q) (option_map (one q) o) ≡ option_map (λ x. other q (one q x)) o
    of None = refl
    of (Some x) = refl

pub unlike : (k q : ℕ) → q ≢ k → (k == q) ≡ false
unlike k q differ = elim (k == q) as (λ b. (k == q) ≡ b → b ≡ false)
    [ true ↦ λ e. absurd (differ (sym (eqb-true k q e))) | false ↦ λ e. refl ] refl

left_alone : (b : Bool) (x : Fact) (o : Option Fact) → b ≡ false → o ≡ option_map (λ (f : Fact). if b then x else f) o
left_alone b x None is = refl
left_alone b x (Some y) is = ap (λ c. Some (if c then x else y)) (sym is)

-- the fact of a number that has one
pub put_steps : (m : Facts) (k : ℕ) (v w : Fact) → get m k ≡ Some v
    → Steps m (insert m k w) (λ q f. if k == q then w else f)
put_steps m k v w there q = elim (insert_cases nat_cmp_total nat_cmp-IsAntisymmetric m k w q) [
  | inl here ↦ here.1 ∙ sym (ap (λ o. option_map (λ (f : Fact). if k == q then w else f) o) (ap (get m) here.0 ∙ there)
      ∙ ap (λ b. Some (if b then w else v)) (eq-eqb k q (sym here.0)))
  | inr away ↦ away.1 ∙ left_alone (k == q) w (get m q) (unlike k q away.0)
]

-- of one that has none
pub no_steps : (m : Facts) (k : ℕ) (w : Fact) → get m k ≡ None → Steps m m (λ q f. if k == q then w else f)
no_steps m k w none q = elim (k == q) as (λ b. (k == q) ≡ b
    → get m q ≡ option_map (λ (f : Fact). if b then w else f) (get m q)) [
      | true ↦ λ e. (let gone : get m q ≡ None = ap (get m) (sym (eqb-true k q e)) ∙ none in gone
          ∙ sym (ap (option_map (λ (f : Fact). w)) gone))
      | false ↦ λ e. left_alone false w (get m q) refl
    ] refl

-- ---- counts up and down

pub raised : (b : Bool) (n m : ℕ) → m ≡ n + bit b → (b ≡ true → n < 2 ^ 63)
    → (if b then min (n + 1) (2 ^ 64 - 1) else n) ≡ m
raised true n m is fits = let less = fits refl in omega arith
raised false n m is fits = omega arith

pub lowered : (b : Bool) (n m : ℕ) → m + bit b ≡ n → (if b then n - 1 else n) ≡ m
lowered true n m is = omega arith
lowered false n m is = omega arith

abbrev the_fact : Kind → ℕ → ℕ → ℕ → Fact
the_fact k a b c = record { kind = k; names = a; links = b; opens = c }

pub same_fact : (k : Kind) (a b c x y z : ℕ) → a ≡ x → b ≡ y → c ≡ z → the_fact k a b c ≡ the_fact k x y z
same_fact k a b c x y z e f g = λ i. record { kind = k; names = e i; links = f i; opens = g i }

still_none : {X : Type 0} (b : Bool) (o : Option X) → o ≡ None → cond b None o ≡ None
still_none true o none = refl
still_none false o none = none

-- ---- a tree with the same nodes

no_node : (o : Option Node) → option_map (λ (n : Node). n.kind) o ≡ None → o ≡ None
no_node None e = refl
no_node (Some n) e = absurd (cc e)

a_node : (o : Option Node) → is_some o ≡ true → (k : Kind) × (option_map (λ (n : Node). n.kind) o ≡ Some k)
a_node None e = absurd (cc e)
a_node (Some n) e = (n.kind, refl)

-- a node that lives stands for no number that is yet to be given
pub given_out : (s : State) (f : Facts) (i q : ℕ) → AreKept s f → has s.nodes i ≡ true → s.next ≤ q → (i == q) ≡ false
given_out s f i q kept there past = elim (i == q) as (λ b. (i == q) ≡ b → b ≡ false) [
  | true ↦ λ e. (let same : i ≡ q = eqb-true i q e in let none = (kept.unused i (omega arith)).node
      in absurd (cc (sym there ∙ ap is_some none)))
  | false ↦ λ e. refl
] refl

module _ (s t : State) (f g : Facts) (change : ℕ → Fact → Fact) (kept : AreKept s f) (steps : Steps f g change)
    (kinds : (q : ℕ) → kind_of t q ≡ kind_of s q) (next : t.next ≡ s.next) where
  pub kept_by : ((q : ℕ) (k : Kind) → kind_of s q ≡ Some k → change q (fact_with s q k) ≡ fact_with t q k)
      → ((q : ℕ) → s.next ≤ q → (length (names_in t q) ≡ length (names_in s q)) × (name_count t q ≡ name_count s q)
      × (open_count t q ≡ open_count s q)) → AreKept t g
  kept_by changes stay = record {
    told = λ q. steps q ∙ ap (option_map (change q)) (kept.told q) ∙ of q (kind_of s q) refl
        ∙ ap (option_map (fact_with t q)) (sym (kinds q));
    unused = λ q past.
        let at : s.next ≤ q = omega arith in
        let before = kept.unused q at in
        let same = stay q at in
        record {
          node = no_node (get t.nodes q) (kinds q ∙ ap (option_map (λ (n : Node). n.kind)) before.node);
          names = same.0 ∙ before.names;
          links = same.1 ∙ before.links;
          opens = same.2 ∙ before.opens;
        };
  }
    where
      of : (q : ℕ) (o : Option Kind) → kind_of s q ≡ o
          → option_map (change q) (option_map (fact_with s q) o) ≡ option_map (fact_with t q) o
      of q None is = refl
      of q (Some k) is = ap Some (changes q k is)

itself : (o : Option Fact) → o ≡ option_map (λ (x : Fact). x) o
itself None = refl
itself (Some x) = refl

-- a tree of which every count is the same
pub kept_same : (s t : State) (f : Facts) → AreKept s f → ((q : ℕ) → kind_of t q ≡ kind_of s q) → t.next ≡ s.next
    → ((q : ℕ) → (length (names_in t q) ≡ length (names_in s q)) × (name_count t q ≡ name_count s q)
    × (open_count t q ≡ open_count s q)) → AreKept t f
kept_same s t f kept kinds next same =
    kept_by s t f f (λ q x. x) kept (λ q. itself (get f q)) kinds next
    (λ q k is. let e = same q in same_fact k _ _ _ _ _ _ (sym e.0) (sym e.1) (sym e.2)) (λ q past. same q)

pub nothing_added : (n : ℕ) (b : Bool) (m : ℕ) → m ≡ n + bit b → b ≡ false → m ≡ n
nothing_added n b m is none = let zero_bit = ap bit none in omega arith

-- ---- names

abbrev pub more_names : ℕ → ℕ → Fact → Fact
more_names i q f = record f { names = if i == q then min (f.names + 1) (2 ^ 64 - 1) else f.names }

abbrev pub more_links : ℕ → ℕ → Fact → Fact
more_links i q f = record f { links = if i == q then min (f.links + 1) (2 ^ 64 - 1) else f.links }

abbrev pub less_names : ℕ → ℕ → Fact → Fact
less_names i q f = record f { names = if i == q then f.names - 1 else f.names }

abbrev pub less_links : ℕ → ℕ → Fact → Fact
less_links i q f = record f { links = if i == q then f.links - 1 else f.links }

not_crowded : (s : State) (i q : ℕ) → is_crowded s i ≡ false → (i == q) ≡ true → length (names_in s q) < 2 ^ 63
not_crowded s i q free same =
    let at : is_crowded s q ≡ false = ap (is_crowded s) (sym (eqb-true i q same)) ∙ free in
    few (length (names_in s q)) at
  where
    few : (n : ℕ) → nat_le 1024 n ≡ false → n < 2 ^ 63
    few n e = grind (arith, nat_tests)

not_many : (s : State) (i q : ℕ) → has_many_names s i ≡ false → (i == q) ≡ true → name_count s q < 2 ^ 63
not_many s i q free same =
    let at : has_many_names s q ≡ false = ap (has_many_names s) (sym (eqb-true i q same)) ∙ free in
    few (name_count s q) at
  where
    few : (n : ℕ) → nat_le 1000 n ≡ false → n < 2 ^ 63
    few n e = grind (arith, nat_tests)

pub kept_name : (s : State) (f g : Facts) (at : Dentry) (inode : ℕ) → AreKept s f
    → Steps f g (λ q x. more_links inode q (more_names at.directory q x))
    → has s.nodes at.directory ≡ true → has s.nodes inode ≡ true → get s.entries at ≡ None
    → is_crowded s at.directory ≡ false → has_many_names s inode ≡ false → AreKept (with_name s at inode) g
kept_name s f g at inode kept steps directory node new room few =
    kept_by s (with_name s at inode) f g _ kept steps (λ q. refl) refl
    (λ q k is. same_fact k _ _ _ _ _ _
    (raised (at.directory == q) (length (names_in s q)) (length (names_in (with_name s at inode) q))
    (names-new s.entries at q inode new) (not_crowded s at.directory q room))
    (raised (inode == q) (name_count s q) (name_count (with_name s at inode) q) (links-new s.entries at q inode new)
    (not_many s inode q few))
    refl)
    (λ q past. (
      nothing_added _ (at.directory == q) _ (names-new s.entries at q inode new)
          (given_out s f at.directory q kept directory past),
      nothing_added _ (inode == q) _ (links-new s.entries at q inode new) (given_out s f inode q kept node past),
      refl,
    ))

pub nothing_taken : (n : ℕ) (b : Bool) (m : ℕ) → m + bit b ≡ n → n ≡ 0 → m ≡ n
nothing_taken n b m is none = omega arith

module _ (s : State) (at : Dentry) where
  abbrev pub name_gone : State
  name_gone = record s { entries = remove s.entries at }

  pub kept_taken : (f g : Facts) (inode : ℕ) → AreKept s f
      → Steps f g (λ q x. less_links inode q (less_names at.directory q x)) → get s.entries at ≡ Some inode
      → AreKept name_gone g
  kept_taken f g inode kept steps there =
      kept_by s name_gone f g _ kept steps (λ q. refl) refl
      (λ q k is. same_fact k _ _ _ _ _ _
      (lowered (at.directory == q) (length (names_in s q)) (length (names_in name_gone q))
      (names-less s.entries at q inode there))
      (lowered (inode == q) (name_count s q) (name_count name_gone q) (links-less s.entries at q inode there))
      refl)
      (λ q past. (
        nothing_taken _ (at.directory == q) _ (names-less s.entries at q inode there) (kept.unused q past).names,
        nothing_taken _ (inode == q) _ (links-less s.entries at q inode there) (kept.unused q past).links,
        refl,
      ))

-- ---- a node that nothing keeps

abbrev pub is_dead : ℕ → Fact → Bool
is_dead inode x = not ((inode == 1) || not (x.links == 0) || not (x.opens == 0))

dead_is : (s : State) (inode : ℕ) (k : Kind) → is_dead inode (fact_with s inode k) ≡ not (lives s inode)
dead_is s inode k = ap (λ b. not ((inode == 1) || not (name_count s inode == 0) || b)) (sym (opens_is s inode))

module _ (s : State) (f g : Facts) (inode : ℕ) (gone : Bool) (kept : AreKept s f)
    (dead : gone ≡ option_map_or (is_dead inode) (get f inode) false) where
  gone_is : (o : Option Kind) → kind_of s inode ≡ o → gone ≡ option_map_or (λ (k : Kind). not (lives s inode)) o false
  gone_is None is = dead ∙ ap (λ o. option_map_or (is_dead inode) o false) (kept.told inode
      ∙ ap (option_map (fact_with s inode)) is)
  gone_is (Some k) is = dead ∙ ap (λ o. option_map_or (is_dead inode) o false) (kept.told inode
      ∙ ap (option_map (fact_with s inode)) is) ∙ dead_is s inode k

  pub goes : has s.nodes inode ≡ true → gone ≡ not (lives s inode)
  goes there = let kind = a_node (get s.nodes inode) there in gone_is (Some kind.0) kind.1

  kind_gone : (q : ℕ) → kind_of (record s { nodes = remove s.nodes inode }) q
      ≡ cond (eq_by_cmp nat_cmp q inode) None (kind_of s q)
  kind_gone q = ap (option_map (λ (n : Node). n.kind))
      (get-remove nat_cmp_total nat_cmp-IsAntisymmetric s.nodes inode q) ∙ of (eq_by_cmp nat_cmp q inode)
    where
      of : (b : Bool) → option_map (λ (n : Node). n.kind) (cond b None (get s.nodes q)) ≡ cond b None (kind_of s q)
      of true = refl
      of false = refl

  removed : AreKept (record s { nodes = remove s.nodes inode }) (remove f inode)
  removed = record {
    told = λ q. get-remove nat_cmp_total nat_cmp-IsAntisymmetric f inode q
        ∙ ap (cond (eq_by_cmp nat_cmp q inode) None) (kept.told q) ∙ of q (eq_by_cmp nat_cmp q inode)
        ∙ ap (option_map (fact_with s q)) (sym (kind_gone q));
    unused = λ q past.
        let before = kept.unused q past in
        record {
          node = get-remove nat_cmp_total nat_cmp-IsAntisymmetric s.nodes inode q
              ∙ still_none (eq_by_cmp nat_cmp q inode) (get s.nodes q) before.node;
          names = before.names;
          links = before.links;
          opens = before.opens;
        };
  }
    where
      of : (q : ℕ) (b : Bool) → cond b None (option_map (fact_with s q) (kind_of s q))
          ≡ option_map (fact_with s q) (cond b None (kind_of s q))
      of q true = refl
      of q false = refl

  pub kept_let_go : g ≡ (if gone then remove f inode else f) → AreKept (let_go s inode) g
  kept_let_go left = of (kind_of s inode) refl
    where
      by : (b c : Bool) → lives s inode ≡ b → gone ≡ c → c ≡ not b
          → AreKept (if b then s else record s { nodes = remove s.nodes inode }) g
      by true c lives is same = subst (AreKept s) (sym (left ∙ ap (λ x. if x then remove f inode else f) (is ∙ same)))
          kept
      by false c lives is same = subst (AreKept (record s { nodes = remove s.nodes inode }))
          (sym (left ∙ ap (λ x. if x then remove f inode else f) (is ∙ same))) removed

      absent : (b : Bool) → kind_of s inode ≡ None → gone ≡ false
          → AreKept (if b then s else record s { nodes = remove s.nodes inode }) g
      absent true none stays = subst (AreKept s) (sym (left ∙ ap (λ x. if x then remove f inode else f) stays)) kept
      absent false none stays =
          let same : remove s.nodes inode ≡ s.nodes =
          remove-absent nat_cmp_total nat_cmp-IsAntisymmetric s.nodes inode (no_node (get s.nodes inode) none) in
          subst (λ m. AreKept (record s { nodes = m }) g) (sym same)
          (subst (AreKept s) (sym (left ∙ ap (λ x. if x then remove f inode else f) stays)) kept)

      of : (o : Option Kind) → kind_of s inode ≡ o → AreKept (let_go s inode) g
      of None is = absent (lives s inode) is (gone_is None is)
      of (Some k) is = by (lives s inode) gone refl refl (gone_is (Some k) is)

-- ---- a name that moves

abbrev pub moved_names : ℕ → ℕ → ℕ → Fact → Fact
moved_names from into q f =
    if from == into then f else record f {
      names = if into == q then min ((if from == q then f.names - 1 else f.names) + 1) (2 ^ 64 - 1) else if from ==
          q then f.names - 1 else f.names;
    }

module _ (s : State) (f g : Facts) (old new : Dentry) (inode : ℕ) (kept : AreKept s f)
    (there : get s.entries old ≡ Some inode) where
  nothing_there : get s.entries new ≡ None → get (remove s.entries old) new ≡ None
  nothing_there none = get-remove dentry_total dentry_exact s.entries old new
      ∙ still_none (eq_by_cmp dentry_cmp new old) (get s.entries new) none

  pub names_moved : (into : has s.nodes new.directory ≡ true) → get s.entries new ≡ None
      → Steps f g (λ q x. moved_names old.directory new.directory q x)
      → (not (old.directory == new.directory) && is_crowded s new.directory) ≡ false
      → AreKept (with_moved s old new inode) g
  names_moved into free steps room =
      kept_by s (with_moved s old new inode) f g _ kept steps (λ q. refl) refl
      (λ q k is. of q k (old.directory == new.directory) refl)
      (λ q past.
      let taken = names-less s.entries old q inode there in
      let put = names-new (remove s.entries old) new q inode (nothing_there free) in
      let none = (kept.unused q past).names in
      let away = ap bit (given_out s f new.directory q kept into past) in
      (omega arith, links q, refl))
    where
      links : (q : ℕ) → name_count (with_moved s old new inode) q ≡ name_count s q
      links q =
          let taken = links-less s.entries old q inode there in
          let put = links-new (remove s.entries old) new q inode (nothing_there free) in
          omega arith

      of : (q : ℕ) (k : Kind) (b : Bool) → (old.directory == new.directory) ≡ b
          → (if b then fact_with s q k else record (fact_with s q k) {
            names = if new.directory == q then min
                ((if old.directory == q then length (names_in s q) - 1 else length (names_in s q)) + 1) (2 ^ 64 - 1)
                else
                if old.directory == q then length (names_in s q) - 1 else length (names_in s q);
          })
          ≡ fact_with (with_moved s old new inode) q k
      of q k true same =
          let taken = names-less s.entries old q inode there in
          let put = names-new (remove s.entries old) new q inode (nothing_there free) in
          let alike = ap (λ d. bit (d == q)) (eqb-true old.directory new.directory same) in
          same_fact k _ _ _ _ _ _ (omega arith) (sym (links q)) refl
      of q k false differ =
          let taken = names-less s.entries old q inode there in
          let put = names-new (remove s.entries old) new q inode (nothing_there free) in
          let lower = lowered (old.directory == q) (length (names_in s q)) _ taken in
          same_fact k _ _ _ _ _ _
          (ap (λ n. if new.directory == q then min (n + 1) (2 ^ 64 - 1) else n) lower
          ∙ raised (new.directory == q) _ _ put
          (λ same. let few = not_crowded s new.directory q
          (sym (ap (λ b. not b && is_crowded s new.directory) differ) ∙ room) same in omega arith))
          (sym (links q)) refl

  pub name_over : (replaced : ℕ) → get s.entries new ≡ Some replaced → inode ≢ replaced
      → Steps f g (λ q x. less_links replaced q (less_names old.directory q x)) → AreKept (with_moved s old new inode) g
  name_over replaced taken differ steps =
      let other : get (remove s.entries old) new ≡ Some replaced =
      get-remove_other dentry_total dentry_exact s.entries old new
      (two_keys s.entries new old (Some replaced) (Some inode) taken there (λ e. differ (cc e))) ∙ taken in
      kept_by s (with_moved s old new inode) f g _ kept steps (λ q. refl) refl
      (λ q k is.
      let names = names-over (remove s.entries old) new q inode replaced other in
      let less = names-less s.entries old q inode there in
      let links = links-over (remove s.entries old) new q inode replaced other in
      let lost = links-less s.entries old q inode there in
      same_fact k _ _ _ _ _ _
      (lowered (old.directory == q) (length (names_in s q)) (length (names_in (with_moved s old new inode) q))
      (omega arith))
      (lowered (replaced == q) (name_count s q) (name_count (with_moved s old new inode) q) (omega arith))
      refl)
      (λ q past.
      let names = names-over (remove s.entries old) new q inode replaced other in
      let less = names-less s.entries old q inode there in
      let links = links-over (remove s.entries old) new q inode replaced other in
      let lost = links-less s.entries old q inode there in
      let none = kept.unused q past in
      let no_names = none.names in
      let no_links = none.links in
      (omega arith, omega arith, refl))

-- ---- two names that change places

pub kept_exchange : (s : State) (f : Facts) (old new : Dentry) (i j : ℕ) → AreKept s f → get s.entries old ≡ Some i
    → get s.entries new ≡ Some j → AreKept (with_name (with_name s new i) old j) f
kept_exchange s f old new i j kept at_old at_new =
    kept_same s (with_name (with_name s new i) old j) f kept (λ q. refl) refl (λ q.
    let names = names-over s.entries new q i j at_new in
    let names_2 = names-over (insert s.entries new i) old q j i still in
    let links = links-over s.entries new q i j at_new in
    let links_2 = links-over (insert s.entries new i) old q j i still in
    (omega arith, omega arith, refl))
  where
    still : get (insert s.entries new i) old ≡ Some i
    still = elim (insert_cases dentry_total dentry_exact s.entries new i old) [
      | inl here ↦ here.1
      | inr away ↦ away.1
          ∙ at_old
    ]

-- ---- other bytes

pub kept_bytes : (s : State) (f : Facts) (inode : ℕ) (bytes : List ℕ) → AreKept s f
    → AreKept (with_bytes s inode bytes) f
kept_bytes s f inode bytes kept = of (get s.nodes inode) refl
  where
    of : (o : Option Node) → get s.nodes inode ≡ o
        → AreKept (option_map_or (λ (n : Node). record s { nodes = insert s.nodes inode (record n { bytes = bytes }) })
        o s) f
    of None is = kept
    of (Some n) is =
        kept_same s (record s { nodes = insert s.nodes inode (record n { bytes = bytes }) }) f kept
        (λ q. elim (insert_cases nat_cmp_total nat_cmp-IsAntisymmetric s.nodes inode (record n { bytes = bytes }) q) [
          | inl here ↦ ap (option_map (λ (m : Node). m.kind)) here.1
              ∙ sym (ap (λ i. kind_of s i) here.0 ∙ ap (option_map (λ (m : Node). m.kind)) is)
          | inr away ↦ ap (option_map (λ (m : Node). m.kind)) away.1
        ]) refl (λ q. (refl, refl, refl))

-- ---- a new node

-- without a name
abbrev pub with_bare_node : State → Kind → State
with_bare_node s kind = record s { nodes = insert s.nodes s.next (empty_node kind); next = s.next + 1 }

pub kept_node : (s : State) (f : Facts) (kind : Kind) → AreKept s f
    → AreKept (with_bare_node s kind) (insert f s.next (record { kind = kind; names = 0; links = 0; opens = 0 }))
kept_node s f kind kept = record {
  told = λ q. elim (insert_cases nat_cmp_total nat_cmp-IsAntisymmetric f s.next (the_fact kind 0 0 0) q) [
    | inl here ↦ here.1
        ∙ ap Some (let none = kept.unused q (let e = here.0 in omega arith)
        in same_fact kind _ _ _ _ _ _ (sym none.names) (sym none.links) (sym none.opens))
        ∙ sym (ap (option_map (fact_with (with_bare_node s kind) q))
        (ap (λ i. option_map (λ (n : Node). n.kind) (get (insert s.nodes s.next (empty_node kind)) i)) here.0
        ∙ ap (option_map (λ (n : Node). n.kind))
        (get-insert_same nat_cmp_total nat_cmp-IsAntisymmetric s.nodes s.next (empty_node kind))))
    | inr away ↦ away.1 ∙ kept.told q
        ∙ sym (ap (λ o. option_map (fact_with s q) (option_map (λ (n : Node). n.kind) o))
        (get-insert_other nat_cmp_total nat_cmp-IsAntisymmetric s.nodes s.next (empty_node kind) q away.0))
  ];
  unused = λ q past.
      let before = kept.unused q (omega arith) in
      record {
        node = get-insert_other nat_cmp_total nat_cmp-IsAntisymmetric s.nodes s.next (empty_node kind) q
            (λ e. omega arith) ∙ before.node;
        names = before.names;
        links = before.links;
        opens = before.opens;
      };
}

pub has-insert : {V : Type 0} (m : Map nat_cmp V) (k q : ℕ) (v : V) → has m q ≡ true → has (insert m k v) q ≡ true
has-insert m k q v there = elim (insert_cases nat_cmp_total nat_cmp-IsAntisymmetric m k v q)
    [ inl here ↦ ap is_some here.1 | inr away ↦ ap is_some away.1 ∙ there ]

pub kept_make : (s : State) (f g : Facts) (kind : Kind) (at : Dentry) → AreKept s f
    → (AreKept (with_bare_node s kind) (insert f s.next (record { kind = kind; names = 0; links = 0; opens = 0 }))
    → has (with_bare_node s kind).nodes at.directory ≡ true
    → has (with_bare_node s kind).nodes s.next ≡ true → has_many_names (with_bare_node s kind) s.next ≡ false
    → AreKept (with_node s kind at) g)
    → has s.nodes at.directory ≡ true → AreKept (with_node s kind at) g
kept_make s f g kind at kept named there =
    named (kept_node s f kind kept) (has-insert s.nodes s.next at.directory (empty_node kind) there)
    (ap is_some (get-insert_same nat_cmp_total nat_cmp-IsAntisymmetric s.nodes s.next (empty_node kind)))
    (ap (nat_le 1000) (kept.unused s.next (omega arith)).links)

-- ---- the root alone

nowhere : Rules → ℕ → State
nowhere rules room = record { entries = empty; nodes = empty; next = 1; room = room; rules = rules; clients = empty }

kept_nowhere : (rules : Rules) (room : ℕ) → AreKept (nowhere rules room) empty
unfolding nowhere empty entries get
kept_nowhere rules room = record {
  told = λ q. refl;
  unused = λ q past. record { node = refl; names = refl; links = refl; opens = refl };
}

pub kept_start : (rules : Rules) (room : ℕ)
    → AreKept (start rules room) (insert empty 1 (record { kind = Dir; names = 0; links = 0; opens = 0 }))
unfolding nowhere
kept_start rules room = kept_node (nowhere rules room) empty Dir (kept_nowhere rules room)
