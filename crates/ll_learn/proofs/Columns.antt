-- What lists of inodes hold after a change, and what paths hold by them.
use Rattle.std.specs.Prelude.{◌≡◌, ℕ, zero, suc, ◌+◌, ◌<◌, ◌≤◌, ◌==◌, Bool, true, false, not, ◌&&◌, ◌||◌, List, []}
use Rattle.std.specs.Prelude.{◌∷◌, length, slice_index_or, slice_set, take, if◌then◌else◌, refl}
use Rattle.std.specs.List.{list_all, list_any}
use Rattle.std.proofs.Common.{ap, sym, ◌∙◌, subst, arith, below_more, inl, inr}
use Rattle.std.proofs.lemmas.Bool.{and_from, and_parts, both_ways, cases_eq, eq-eqb, eqb-true, false_from_ne_true}
use Rattle.std.proofs.lemmas.Bool.{ne_eqb, not-false, or_cases, or_left, or_parts, or_right}
use Rattle.std.proofs.lemmas.List.{get_or-set_other, length-set}
use Rattle.std.proofs.lemmas.List.Folds.{list_all_more}
use Rattle.ll_rights.specs.Access.{holds}
use Rattle.ll_seq.specs.State.{root}
use Rattle.ll_learn.specs.Columns.{Grows, Shrinks, free_count, held_count, is_at}
use Rattle.ll_learn.specs.Draft.{IsScope, is_gainless, is_granted, is_met, may_have, without}
use Rattle.ll_learn.specs.Needs.{StartsAtRoot}
use Rattle.ll_learn.specs.declared.draft.Scope.{Scope}
use Rattle.ll_learn.specs.declared.needs.Asked.{Asked}
use Rattle.ll_learn.specs.declared.needs.Moved.{Moved}
use Rattle.ll_learn.specs.declared.needs.Needs.{Needs}

-- ---- one inode set

pub held_within : (held : List Bool) (inode : ℕ) → is_at held inode ≡ true → inode < length held
held_within [] inode at = absurd (cc at)
held_within (h ∷ hs) zero at = omega arith
held_within (h ∷ hs) (suc inode) at = let ih = held_within hs inode at in omega arith

pub set_kept : (held : List Bool) (k inode : ℕ) → is_at held inode ≡ true → is_at (slice_set held k true) inode ≡ true
set_kept [] k inode at = absurd (cc at)
set_kept (h ∷ hs) zero zero at = refl
set_kept (h ∷ hs) zero (suc inode) at = at
set_kept (h ∷ hs) (suc k) zero at = at
set_kept (h ∷ hs) (suc k) (suc inode) at = set_kept hs k inode at

pub set_here : (held : List Bool) (k : ℕ) → k < length held → is_at (slice_set held k true) k ≡ true
set_here [] k lt = absurd (omega arith)
set_here (h ∷ hs) zero lt = refl
set_here (h ∷ hs) (suc k) lt = set_here hs k (omega arith)

-- what is set anew is that inode
pub set_within : (held : List Bool) (k inode : ℕ) (may : ℕ → Bool) → may k ≡ true
    → is_at (slice_set held k true) inode ≡ true → (is_at held inode || may inode) ≡ true
set_within [] k inode may can at = absurd (cc at)
set_within (h ∷ hs) zero zero may can at = ap (λ b. h || b) can ∙ or_true h
  where
    or_true : (b : Bool) → (b || true) ≡ true
    or_true true = refl
    or_true false = refl
set_within (h ∷ hs) zero (suc inode) may can at = ap (λ b. b || may (suc inode)) at
set_within (h ∷ hs) (suc k) zero may can at = ap (λ b. b || may 0) at
set_within (h ∷ hs) (suc k) (suc inode) may can at = set_within hs k inode (λ i. may (suc i)) can at

pub set_fewer : (held : List Bool) (k : ℕ) → k < length held → is_at held k ≡ false
    → free_count (slice_set held k true) < free_count held
set_fewer [] k lt at = absurd (omega arith)
set_fewer (true ∷ hs) zero lt at = absurd (cc at)
set_fewer (false ∷ hs) zero lt at = omega arith
set_fewer (true ∷ hs) (suc k) lt at = set_fewer hs k (omega arith) at
set_fewer (false ∷ hs) (suc k) lt at = let ih = set_fewer hs k (omega arith) at in omega arith

set_none : (held : List Bool) (k : ℕ) → is_at (slice_set held k false) k ≡ false
set_none [] k = refl
set_none (h ∷ hs) zero = refl
set_none (h ∷ hs) (suc k) = set_none hs k

and_false : (b : Bool) → false ≡ (b && false)
and_false true = refl
and_false false = refl

and_true : (b : Bool) → b ≡ (b && true)
and_true true = refl
and_true false = refl

pub cleared : (held : List Bool) (k inode : ℕ) → is_at (slice_set held k false) inode ≡ without k (is_at held) inode
cleared held k inode = elim (cases_eq inode k) [
  | inl e ↦ ap (λ i. is_at (slice_set held k false) i) e ∙ set_none held k ∙ and_false (is_at held inode)
      ∙ ap (λ b. is_at held inode && not b) (sym (eq-eqb inode k e))
  | inr ne ↦ get_or-set_other held k inode false false ne ∙ and_true (is_at held inode)
      ∙ ap (λ b. is_at held inode && not b) (sym (ne_eqb inode k ne))
]

pub cleared_all : (held : List Bool) (k : ℕ) → is_at (slice_set held k false) ≡ without k (is_at held)
cleared_all held k = λ i inode. cleared held k inode i

pub cleared_fewer : (held : List Bool) (k : ℕ) → is_at held k ≡ true
    → held_count (slice_set held k false) < held_count held
cleared_fewer [] k at = absurd (cc at)
cleared_fewer (false ∷ hs) zero at = absurd (cc at)
cleared_fewer (true ∷ hs) zero at = omega arith
cleared_fewer (true ∷ hs) (suc k) at = let ih = cleared_fewer hs k at in omega arith
cleared_fewer (false ∷ hs) (suc k) at = cleared_fewer hs k at

-- ---- what paths hold

pub any_of : (p : ℕ → Bool) (inode : ℕ) (inodes : List ℕ) → p inode ≡ true → list_any (λ i. i == inode) inodes ≡ true
    → list_any p inodes ≡ true
any_of p inode [] so there = absurd (cc there)
any_of p inode (i ∷ is) so there = elim (or_cases (i == inode) (list_any (λ i. i == inode) is) there) [
  | inl e ↦ or_left (p i) (list_any p is) (ap p (eqb-true i inode e) ∙ so)
  | inr e ↦ or_right (p i) (list_any p is) (any_of p inode is so e)
]

pub any_more : (p q : ℕ → Bool) (inodes : List ℕ) → ((inode : ℕ) → p inode ≡ true → q inode ≡ true)
    → list_any p inodes ≡ true → list_any q inodes ≡ true
any_more p q [] more there = there
any_more p q (i ∷ is) more there = elim (or_cases (p i) (list_any p is) there) [
  | inl e ↦ or_left (q i) (list_any q is) (more i e)
  | inr e ↦ or_right (q i) (list_any q is) (any_more p q is more e)
]

pub any_not : (p : ℕ → Bool) (inode : ℕ) (inodes : List ℕ) → list_any (λ i. i == inode) inodes ≡ true
    → list_any p inodes ≡ false → p inode ≡ false
any_not p inode inodes there none =
    false_from_ne_true (p inode) (λ so. both_ways (list_any p inodes) none (any_of p inode inodes so there))

pub granted_more : (p q : ℕ → Bool) (right : ℕ) (a : Asked) → ((inode : ℕ) → p inode ≡ true → q inode ≡ true)
    → is_granted p right a ≡ true → is_granted q right a ≡ true
granted_more p q right a more is =
    elim (or_cases (not (holds a.rights.0 right)) (list_any p a.inodes.items) is) [
      | inl e ↦ or_left (not (holds a.rights.0 right)) (list_any q a.inodes.items) e
      | inr e ↦ or_right (not (holds a.rights.0 right)) (list_any q a.inodes.items)
          (any_more p q a.inodes.items more e)
    ]

pub all_more : {X : Type 0} (p q : X → Bool) (xs : List X) → ((x : X) → p x ≡ true → q x ≡ true)
    → list_all p xs ≡ true → list_all q xs ≡ true
all_more p q [] more all = refl
all_more p q (x ∷ xs) more all = let parts = and_parts (p x) (list_all p xs) all in
    and_from (q x) (list_all q xs) (more x parts.0) (all_more p q xs more parts.1)

pub pass_at : {X : Type 0} (p : X → Bool) (xs : List X) (k : ℕ) (d : X) → list_all p xs ≡ true → k < length xs
    → p (slice_index_or xs k d) ≡ true
pass_at p [] k d all lt = absurd (omega arith)
pass_at p (x ∷ xs) zero d all lt = (and_parts (p x) (list_all p xs) all).0
pass_at p (x ∷ xs) (suc k) d all lt = pass_at p xs k d (and_parts (p x) (list_all p xs) all).1 (omega arith)

-- one item more, as a step of a loop has it
pub all_step : {X : Type 0} (p : X → Bool) (xs : List X) (k : ℕ) (x : X) → k < length xs → x ≡ slice_index_or xs k x
    → list_all p (take k xs) ≡ true → p x ≡ true → list_all p (take (k + 1) xs) ≡ true
all_step p xs k x lt is before so =
    list_all_more p xs k x lt
    ∙ and_from (list_all p (take k xs)) (p (slice_index_or xs k x)) before (ap p (sym is) ∙ so)

-- ---- leaving out

pub record IsPruned (needs : Needs) (right : ℕ) (first now : List Bool) (changed : Bool) : Type 0 where
  pub shrinks : Shrinks first now
  pub met : is_met (is_at now) right needs ≡ true
  pub same : changed ≡ false → now ≡ first
  pub less : changed ≡ true → held_count now < held_count first

fewer_than : (first now new : List Bool) (changed : Bool) → (changed ≡ false → now ≡ first)
    → (changed ≡ true → held_count now < held_count first) → held_count new < held_count now
    → held_count new < held_count first
fewer_than first now new true same less lt = let l = less refl in omega arith
fewer_than first now new false same less lt = let e = ap held_count (same refl) in omega arith

pub pruned_more : (needs : Needs) (right : ℕ) (first now new : List Bool) (changed : Bool) (inode : ℕ)
    → IsPruned needs right first now changed → is_at now inode ≡ true → new ≡ slice_set now inode false
    → is_met (without inode (is_at now)) right needs ≡ true → IsPruned needs right first new true
pruned_more needs right first now new changed inode old at is met = record {
  shrinks = record {
    len = ap length is ∙ length-set now inode false ∙ old.shrinks.len;
    within = λ other there. old.shrinks.within other
        (and_parts (is_at now other) (not (other == inode)) (sym (cleared now inode other)
        ∙ ap (λ hs. is_at hs other) (sym is) ∙ there)).0;
  };
  met = ap (λ hs. is_met (is_at hs) right needs) is
      ∙ ap (λ held. is_met held right needs) (cleared_all now inode) ∙ met;
  same = λ off. absurd (cc off);
  less = λ _. fewer_than first now new changed old.same old.less
      (let e = ap held_count is in let lt = cleared_fewer now inode at in omega arith);
}

pub pruned_same : (needs : Needs) (right : ℕ) (first now new : List Bool) (changed next : Bool)
    → IsPruned needs right first now changed → new ≡ now → next ≡ changed → IsPruned needs right first new next
pruned_same needs right first now new changed next old is e =
    subst (λ hs. IsPruned needs right first hs next) (sym is)
    (subst (λ b. IsPruned needs right first now b) (sym e) old)

pub needed_more : (needs : Needs) (right : ℕ) (now new : List Bool) (i : ℕ) → new ≡ now
    → ((k : ℕ) → k < i → is_at now k ≡ true → is_met (without k (is_at now)) right needs ≡ false)
    → (is_at now i ≡ true → is_met (without i (is_at now)) right needs ≡ false)
    → (k : ℕ) → k < i + 1 → is_at new k ≡ true → is_met (without k (is_at new)) right needs ≡ false
needed_more needs right now new i is before here =
    subst (λ hs. (k : ℕ) → k < i + 1 → is_at hs k ≡ true → is_met (without k (is_at hs)) right needs ≡ false) (sym is)
    (below_more (λ k. is_at now k ≡ true → is_met (without k (is_at now)) right needs ≡ false) i before here)

-- ---- growing

pub grows_none : (may : ℕ → Bool) (held : List Bool) → Grows may held held
grows_none may held = record {
  len = refl;
  kept = λ inode at. at;
  within = λ inode at. or_left (is_at held inode) (may inode) at;
}

pub grows_on : (may : ℕ → Bool) (first now new : List Bool) → Grows may first now → Grows may now new
    → Grows may first new
grows_on may first now new old more = record {
  len = more.len ∙ old.len;
  kept = λ inode at. more.kept inode (old.kept inode at);
  within = λ inode at. elim (or_cases (is_at now inode) (may inode) (more.within inode at)) [
    | inl before ↦ old.within inode before
    | inr can ↦ or_right (is_at first inode) (may inode) can
  ];
}

pub grows_wider : (may more : ℕ → Bool) (old new : List Bool)
    → ((inode : ℕ) → may inode ≡ true → more inode ≡ true) → Grows may old new → Grows more old new
grows_wider may more old new wider grows = record {
  len = grows.len;
  kept = grows.kept;
  within = λ inode at. elim (or_cases (is_at old inode) (may inode) (grows.within inode at)) [
    | inl before ↦ or_left (is_at old inode) (more inode) before
    | inr can ↦ or_right (is_at old inode) (more inode) (wider inode can)
  ];
}

pub grown_within : (may : ℕ → Bool) (first now : List Bool) → Grows may first now
    → ((inode : ℕ) → is_at first inode ≡ true → may inode ≡ true) → (inode : ℕ) → is_at now inode ≡ true
    → may inode ≡ true
grown_within may first now grows within inode at =
    elim (or_cases (is_at first inode) (may inode) (grows.within inode at)) [
      | inl before ↦ within inode before
      | inr can ↦ can
    ]

pub set_grows : (may : ℕ → Bool) (held new : List Bool) (k : ℕ) → may k ≡ true → new ≡ slice_set held k true
    → Grows may held new
set_grows may held new k can is = record {
  len = ap length is ∙ length-set held k true;
  kept = λ inode at. ap (λ hs. is_at hs inode) is ∙ set_kept held k inode at;
  within = λ inode at. set_within held k inode may can (ap (λ hs. is_at hs inode) (sym is) ∙ at);
}

pub granted_so_far : (may : ℕ → Bool) (right : ℕ) (asks : List Asked) (now new : List Bool) (i : ℕ) (a : Asked)
    → Grows may now new → i < length asks → a ≡ slice_index_or asks i a
    → list_all (is_granted (is_at now) right) (take i asks) ≡ true → is_granted (is_at new) right a ≡ true
    → list_all (is_granted (is_at new) right) (take (i + 1) asks) ≡ true
granted_so_far may right asks now new i a grows lt is before here =
    all_step (is_granted (is_at new) right) asks i a lt is
    (all_more (is_granted (is_at now) right) (is_granted (is_at new) right) (take i asks)
    (λ one. granted_more (is_at now) (is_at new) right one grows.kept) before) here

pub any_some : (p : ℕ → Bool) (inodes : List ℕ) → list_any p inodes ≡ true → (i : ℕ) × (p i ≡ true)
any_some p [] there = absurd (cc there)
any_some p (i ∷ is) there = elim (or_cases (p i) (list_any p is) there) [
  | inl e ↦ (i, e)
  | inr e ↦ any_some p is e
]

-- what would be gained may be held on the node's own path
pub can_mend : (scope : Scope) (right : ℕ) (held : List Bool) (m : Moved) (path : List ℕ) → IsScope scope → right < 15
    → ((inode : ℕ) → is_at held inode ≡ true → may_have scope right inode ≡ true) → StartsAtRoot m.from.items
    → is_gainless (is_at held) right m ≡ false → path ≡ m.from.items → list_any (may_have scope right) path ≡ true
can_mend scope right held m path is known within starts gains same =
    let may = may_have scope right in
    let into = list_any (is_at held) m.into.items in
    let from = list_any (is_at held) m.from.items in
    let entered = not-false into (or_parts (not into) from (or_parts (not (holds m.rights.0 right)) (not into || from)
    gains).1).0 in
    let some = any_some (is_at held) m.into.items entered in
    let top = is.top some.0 right known (within some.0 some.1) in
    ap (list_any may) (same ∙ starts.1) ∙ or_left (may root) (list_any may starts.0) top

less_free : (first now new : List Bool) (changed : Bool) → (changed ≡ false → now ≡ first)
    → (changed ≡ true → free_count now < free_count first) → free_count new < free_count now
    → free_count new < free_count first
less_free first now new true same less lt = let l = less refl in omega arith
less_free first now new false same less lt = let e = ap free_count (same refl) in omega arith

pub record IsClosed (may : ℕ → Bool) (right : ℕ) (moves : List Moved) (first now : List Bool) (changed : Bool)
    : Type 0 where
  pub grows : Grows may first now
  pub same : changed ≡ false → now ≡ first
  pub more : changed ≡ true → free_count now < free_count first
  pub done : changed ≡ false → list_all (is_gainless (is_at now) right) moves ≡ true

pub closed_more : (may : ℕ → Bool) (right : ℕ) (moves : List Moved) (first now new : List Bool) (changed : Bool)
    (moves' : List Moved) → IsClosed may right moves first now changed → Grows may now new
    → free_count new < free_count now → IsClosed may right moves' first new true
closed_more may right moves first now new changed moves' old grows less = record {
  grows = grows_on may first now new old.grows grows;
  same = λ off. absurd (cc off);
  more = λ _. less_free first now new changed old.same old.more less;
  done = λ off. absurd (cc off);
}

pub closed_same : (may : ℕ → Bool) (right : ℕ) (moves : List Moved) (first now : List Bool) (changed : Bool) (i : ℕ)
    (m : Moved) → IsClosed may right (take i moves) first now changed → i < length moves → m ≡ slice_index_or moves i m
    → is_gainless (is_at now) right m ≡ true → IsClosed may right (take (i + 1) moves) first now changed
closed_same may right moves first now changed i m old lt is so = record {
  grows = old.grows;
  same = old.same;
  more = old.more;
  done = λ off. all_step (is_gainless (is_at now) right) moves i m lt is (old.done off) so;
}

-- a measure of loops that go on as long as something changed
pub falls : (old new : ℕ) (was now : Bool) → was ≡ true → (now ≡ true → new < old) → (now ≡ false → new ≤ old)
    → new + (if now then 1 else 0) < old + (if was then 1 else 0)
falls old new false now so lt le = absurd (cc so)
falls old new true true so lt le = let l = lt refl in omega arith
falls old new true false so lt le = let l = le refl in omega arith
