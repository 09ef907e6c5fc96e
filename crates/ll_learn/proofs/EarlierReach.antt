-- What a layer under which a history passes reaches at some time of it, it reached at the cut.
use Rattle.std.specs.Prelude.{◌≡◌, ◌<◌, ℕ, suc, Bool, true, false, not, ◌||◌, List, [], ◌∷◌, ◌++◌, Option}
use Rattle.std.specs.Prelude.{None, Some, Contains, IsTrue, option_and_then, refl}
use Rattle.std.specs.Option.{option_map_or}
use Rattle.std.specs.List.{list_any}
use Rattle.std.specs.Ordering.{nat_cmp}
use Rattle.std.proofs.Common.{sym, subst, ap, ◌∙◌, inl, inr, arith}
use Rattle.std.proofs.lemmas.List.Folds.{list_any-append}
use Rattle.ll_rights.specs.Map.{Map}
use Rattle.ll_rights.specs.declared.kind.Kind.{Kind}
use Rattle.ll_rights.specs.declared.kind.Kind.TheVariants.{Dir}
use Rattle.ll_path.specs.Path.{Path}
use Rattle.ll_rules.specs.Layer.{Layer, grants_on, has_rule, restricts}
use Rattle.ll_seq.specs.CallParts.{is_relevant}
use Rattle.ll_seq.specs.History.{IsLegal, after, fresh_of, state_after}
use Rattle.ll_seq.specs.Reach.{InReach}
use Rattle.ll_seq.specs.State.{State, child, kind_of, root}
use Rattle.ll_seq.specs.Step.{client_of, first_or, refusals}
use Rattle.ll_seq.specs.Tree.{chain_from, end_from, named}
use Rattle.ll_seq.specs.declared.client.ClientRecord.{ClientRecord}
use Rattle.ll_seq.specs.declared.reply.Entry.{Entry}
use Rattle.ll_seq.specs.declared.reply.Reply.{Reply}
use Rattle.ll_seq.specs.declared.reply.Reply.TheVariants.{Done}
use Rattle.ll_seq.proofs.Parted.{last}
use Rattle.ll_laws.specs.NoGain.{is_move}
use Rattle.ll_laws.proofs.Gain.{done_of, kept_tree, one_entry}
use Rattle.ll_laws.proofs.Trees.{IsTree}
use Rattle.ll_laws.proofs.Undisturbed.{done_kinds}
use Rattle.ll_learn.specs.Bound.{MovesAreTheirs}
use Rattle.ll_learn.specs.PassedCalls.{IsOpen, Openings, joins, opened_at}
use Rattle.ll_learn.proofs.SameReplies.{Follows}
use Rattle.ll_learn.proofs.TwinSteps.{caller_layered, entry_goes, standing_undenied}
use Rattle.ll_learn.proofs.Twins.{Twins, with_all}

-- ---- paths

none_left : (xs ys : List ℕ) (x : ℕ) → [] ≡ xs ++ x ∷ ys → ⊥
none_left [] ys x e = cc
none_left (y ∷ xs) ys x e = cc

-- a beginning of the path names each inode on its chain
pub chain_prefix : (s : State) (p : Path) (i : ℕ) (front : List ℕ) (x : ℕ) (behind : List ℕ)
    → chain_from s p i ≡ front ++ x ∷ behind
    → (q : Path) × (end_from s q i ≡ Some x) × (chain_from s q i ≡ front ++ x ∷ [])
chain_prefix s [] i [] x behind e = let same : i ≡ x = cc in ([], ap Some same, ap (λ z. z ∷ []) same)
chain_prefix s [] i (y ∷ front) x behind e = absurd (none_left front behind x cc)
chain_prefix s (n ∷ p) i [] x behind e = let same : i ≡ x = cc in ([], ap Some same, ap (λ z. z ∷ []) same)
chain_prefix s (n ∷ p) i (y ∷ front) x behind e =
    by (child s i n) refl e (λ j f. chain_prefix s p j front x behind f)
  where
    by : (o : Option ℕ) → child s i n ≡ o → i ∷ option_map_or (chain_from s p) o [] ≡ y ∷ (front ++ x ∷ behind)
        → ((j : ℕ) → chain_from s p j ≡ front ++ x ∷ behind
        → (q : Path) × (end_from s q j ≡ Some x) × (chain_from s q j ≡ front ++ x ∷ []))
        → (q : Path) × (end_from s q i ≡ Some x) × (chain_from s q i ≡ y ∷ (front ++ x ∷ []))
    by None is f rest = absurd (none_left front behind x cc)
    by (Some j) is f rest =
        let same : i ≡ y = cc in
        let w = rest j cc in (
          n ∷ w.0,
          ap (option_and_then (end_from s w.0)) is ∙ w.1,
          ap (λ o. i ∷ option_map_or (chain_from s w.0) o []) is ∙ (λ k. same k ∷ w.2 k),
        )

pub named_kind : (s : State) → IsTree s → (q : Path) (x : ℕ) → named s q ≡ Some x
    → (k : Kind) × (kind_of s x ≡ Some k)
named_kind s t q x e = elim (last s q root x e) [
  | inl a ↦ (Dir, ap (kind_of s) (sym a.1) ∙ t.root_node)
  | inr l ↦ t.known l.directory l.name x l.names
]

-- ---- one entry

contains_middle : (front : List Layer) (layer : Layer) (back : List Layer) → Contains (front ++ layer ∷ back) layer
contains_middle [] layer back = (0, omega arith, refl)
contains_middle (y ∷ front) layer back = let w = contains_middle front layer back in (suc w.0, omega arith, w.2)

-- no kind changes
entry_kinds : (s : State) (e : Entry) (x : ℕ) (k : Kind) → x < s.next → kind_of (after s e) x ≡ Some k
    → kind_of s x ≡ Some k
entry_kinds s e x k small f = by (refusals s (client_of s e.client) e.call) f
  where
    by : (rs : List Reply)
        → kind_of (first_or s rs (done_of s e.client (client_of s e.client) e.call (fresh_of e.reply))).1 x ≡ Some k
        → kind_of s x ≡ Some k
    by [] g = done_kinds s e.client (client_of s e.client) e.call (fresh_of e.reply) x k small g
    by (r ∷ rs) g = g

tree_all : (s : State) (m : Map nat_cmp ClientRecord) → IsTree s → IsTree (with_all s m)
tree_all s m t = record {
  dirs = t.dirs;
  one = t.one;
  rootless = t.rootless;
  known = t.known;
  old = t.old;
  nodes = t.nodes;
  above = t.above;
  root_node = t.root_node;
}

reach_all : (s : State) (m : Map nat_cmp ClientRecord) (layer : Layer) (x right : ℕ) → InReach s layer x right
    → InReach (with_all s m) layer x right
reach_all s m layer x right r =
    record { path = r.path; names = r.names; relevant = r.relevant; granted = r.granted }

reach_alone : (s : State) (m : Map nat_cmp ClientRecord) (layer : Layer) (x right : ℕ)
    → InReach (with_all s m) layer x right → InReach s layer x right
reach_alone s m layer x right r =
    record { path = r.path; names = r.names; relevant = r.relevant; granted = r.granted }

-- ---- some entries

pub record Earlier (s t : State) (layer : Layer) (x right : ℕ) : Type 0 where
  pub reach : InReach t layer x right → InReach s layer x right
  pub kinds : (k : Kind) → kind_of t x ≡ Some k → kind_of s x ≡ Some k
  pub tree : IsTree t

pub earlier : (layer : Layer) (x right : ℕ) (s : State) (m : Map nat_cmp ClientRecord) (on : ℕ → Bool)
    (known : Openings) → Twins layer on known s.clients m → (early late : List Entry) → IsLegal s (early ++ late)
    → IsOpen s on (early ++ late) → IsLegal (with_all s m) (early ++ late) → MovesAreTheirs on (early ++ late)
    → IsTree s → x < s.next → Earlier s (state_after s early) layer x right
earlier layer x right s m on known w [] late legal fine stands theirs t small =
    record { reach = λ r. r; kinds = λ k e. e; tree = t }
earlier layer x right s m on known w (e ∷ early) late legal fine stands theirs t small =
    let goes : Follows layer on known e s m = entry_goes layer s m on known w e legal.0 fine.0
    (λ g. standing_undenied layer s m on known w e legal.0 g (fine.0 g) stands.0) in
    let one = one_entry (with_all s m) e layer x right (tree_all s m t) stands.0 under small in
    let below : x < (after s e).next = subst (λ (z : State). x < z.next) goes.state one.0 in
    let rest = earlier layer x right (after s e) goes.clients (joins on e) (opened_at s known e) goes.twins early late
    legal.1 fine.1 (subst (λ (z : State). IsLegal z (early ++ late)) goes.state stands.1) theirs.1 (kept_tree s e t)
    below in
    record {
      reach = λ r. reach_alone s m layer x right (one.1 (subst (λ (z : State). InReach z layer x right) (sym goes.state)
          (reach_all (after s e) goes.clients layer x right (rest.reach r))));
      kinds = λ k f. entry_kinds s e x k small (rest.kinds k f);
      tree = rest.tree;
    }
  where
    under : IsTrue (is_move e.call) → e.reply ≡ Done → Contains (client_of (with_all s m) e.client).domain layer
    under moves done =
        let l = caller_layered layer s m on known w e legal.0 (theirs.0 moves done) in
        subst (λ (z : List Layer). Contains z layer) (sym l.is) (contains_middle l.front layer l.back)

-- ---- a right that is granted at some time

-- of an inode on the path that has the last rule
pub reach_then : (s : State) (layer : Layer) (p : Path) (front : List ℕ) (x : ℕ) (behind : List ℕ) (right : ℕ)
    → chain_from s p root ≡ front ++ x ∷ behind → restricts layer right ≡ true
    → list_any (has_rule layer right) behind ≡ false → grants_on layer (front ++ x ∷ behind) right ≡ true
    → IsTrue (is_relevant (kind_of s x) right) → InReach s layer x right
reach_then s layer p front x behind right chain restricted none granted relevant =
    let w = chain_prefix s p root front x behind chain in
    let ruled : list_any (has_rule layer right) (front ++ x ∷ behind) ≡ true =
    sym (ap (λ b. not b || list_any (has_rule layer right) (front ++ x ∷ behind)) restricted) ∙ granted in
    let parts : (list_any (has_rule layer right) front || (has_rule layer right x || list_any (has_rule layer right)
    behind)) ≡ true = sym (list_any-append (has_rule layer right) front (x ∷ behind)) ∙ ruled in
    let here : list_any (has_rule layer right) (chain_from s w.0 root) ≡ true =
    ap (list_any (has_rule layer right)) w.2 ∙ list_any-append (has_rule layer right) front (x ∷ [])
    ∙ ap (λ b. list_any (has_rule layer right) front || (has_rule layer right x || b)) (sym none) ∙ parts in
    record {
      path = w.0;
      names = w.1;
      relevant = relevant;
      granted = ap (λ b. not (restricts layer right) || b) here ∙ so (not (restricts layer right));
    }
  where
    so : (b : Bool) → (b || true) ≡ true
    so true = refl
    so false = refl
