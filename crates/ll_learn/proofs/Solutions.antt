-- From one right after the other to a layer, and what no layer meets.
use Rattle.std.specs.Prelude.{◌≡◌, ℕ, ◌+◌, ◌<◌, ◌≤◌, ◌==◌, Bool, true, false, not, ◌&&◌, ◌||◌, List, [], ◌∷◌, length}
use Rattle.std.specs.Prelude.{slice_get}
use Rattle.std.specs.Prelude.{slice_index_or, zero, suc, All, Option, Some, None, IfSome, refl}
use Rattle.std.specs.List.{list_all, list_any}
use Rattle.std.proofs.Common.{ap, sym, ◌∙◌, subst, arith, inl, inr}
use Rattle.std.proofs.lemmas.Bool.{and_from, and_left, and_parts, both_ways, cases_lt, eq-eqb, ne_eqb}
use Rattle.std.proofs.lemmas.Bool.{or_left, or_right}
use Rattle.std.proofs.lemmas.List.FromFn.{get_or-range_with_len}
use Rattle.std.proofs.lemmas.List.Sums.{list_all-from_AllPass}
use Rattle.std.proofs.lemmas.Option.{get_or_from_slice_get, slice_get_within}
use Rattle.ll_rights.specs.Access.{holds}
use Rattle.ll_rights.specs.Right.{all_rights, refer}
use Rattle.ll_rules.specs.Layer.{Layer, grants_on, has_rule, restricts}
use Rattle.ll_decide.proofs.OneByOne.{holds_none}
use Rattle.ll_rights.specs.declared.access.Access.{Access}
use Rattle.ll_learn.specs.Columns.{is_at}
use Rattle.ll_learn.specs.Draft.{IsInScope, IsLeast, IsOf, IsNeed, IsScope, IsUnmet, has, is_gainless, is_granted}
use Rattle.ll_learn.specs.Draft.{is_met, is_restricted}
use Rattle.ll_learn.specs.Draft.{may_have, right_at, without}
use Rattle.ll_learn.specs.Least.{AreNeeded}
use Rattle.ll_learn.specs.Needs.{GainsNothing, IsGranted, Meets}
use Rattle.ll_learn.specs.declared.draft.Draft.{Draft}
use Rattle.ll_learn.specs.declared.draft.Need.{Need}
use Rattle.ll_learn.specs.declared.draft.Need.TheVariants.{Asks, Moves}
use Rattle.ll_learn.specs.declared.draft.Scope.{Scope}
use Rattle.ll_learn.specs.declared.needs.Asked.{Asked}
use Rattle.ll_learn.specs.declared.needs.Moved.{Moved}
use Rattle.ll_learn.specs.declared.needs.Needs.{Needs}
use Rattle.ll_learn.proofs.Columns.{granted_more, pass_at}
use Rattle.ll_learn.proofs.Places.{placed_may}

pub right_is : (k d : ℕ) → k < 15 → slice_index_or all_rights k d ≡ k
right_is k d lt = let e = get_or-range_with_len 0 15 k d lt in omega arith

pub may_within : (sets : List Access) (right inode : ℕ) → right_at sets right inode ≡ true → inode < length sets
may_within sets right inode so = elim (cases_lt inode (length sets)) [
  | inl lt ↦ lt
  | inr ge ↦ absurd (both_ways (right_at sets right inode) (outside sets right inode ge) so)
]
  where
    outside : (sets : List Access) (right inode : ℕ) → length sets ≤ inode → right_at sets right inode ≡ false
    outside [] right inode ge = holds_none right
    outside (s ∷ sets) right zero ge = absurd (omega arith)
    outside (s ∷ sets) right (suc inode) ge = outside sets right inode (omega arith)

-- ---- one right more

pub none_least : (scope : Scope) (needs : Needs) (right : ℕ) (held : ℕ → Bool) → ((inode : ℕ) → held inode ≡ false)
    → is_restricted scope right ≡ false → IsLeast scope needs right held
none_least scope needs right held none free = record {
  placed = λ inode at. absurd (both_ways (held inode) (none inode) at);
  derived = λ inode at. absurd (both_ways (held inode) (none inode) at);
  met = λ so. absurd (both_ways (is_restricted scope right) free so);
  needed = λ inode at. absurd (both_ways (held inode) (none inode) at);
}

same_least : (scope : Scope) (needs : Needs) (right : ℕ) (held other : ℕ → Bool)
    → ((inode : ℕ) → held inode ≡ other inode) → IsLeast scope needs right held → IsLeast scope needs right other
same_least scope needs right held other same least =
    let e : held ≡ other = λ i inode. same inode i in subst (IsLeast scope needs right) e least

or_none : (a b : Bool) → a ≡ false → (a || b) ≡ b
or_none true b e = absurd (cc e)
or_none false b e = refl

or_false : (a b : Bool) → b ≡ false → a ≡ (a || b)
or_false true b e = refl
or_false false b e = sym e

module _ (scope : Scope) (needs : Needs) (old new : Draft) (k r : ℕ) (column : List Bool) (same : r ≡ k)
    (known : k < 15) (put : (inode other : ℕ) → other < 15
    → has new other inode ≡ (has old other inode || ((other == r) && is_at column inode))) where
  others_stay : (inode right : ℕ) → right < 15 → (right ≡ k → ⊥) → has old right inode ≡ has new right inode
  others_stay inode right known' ne =
      or_false (has old right inode) ((right == r) && is_at column inode)
      (and_left (right == r) (is_at column inode) (ne_eqb right r (λ e. ne (e ∙ same))))
      ∙ sym (put inode right known')

  pub put_behind : ((inode right : ℕ) → right < 15 → k ≤ right → has old right inode ≡ false)
      → (inode right : ℕ) → right < 15 → k + 1 ≤ right → has new right inode ≡ false
  put_behind behind inode right known' le =
      sym (others_stay inode right known' (λ e. absurd (omega arith))) ∙ behind inode right known' (omega arith)

  pub put_before : ((right : ℕ) → right < k → IsLeast scope needs right (has old right))
      → ((inode right : ℕ) → right < 15 → k ≤ right → has old right inode ≡ false)
      → IsLeast scope needs r (is_at column) → (right : ℕ) → right < k + 1 → IsLeast scope needs right (has new right)
  put_before before behind least right lt = elim (cases_lt right k) [
    | inl below ↦ same_least scope needs right (has old right) (has new right)
        (λ inode. others_stay inode right (omega arith) (λ e. absurd (omega arith))) (before right below)
    | inr above ↦ let here : right ≡ r = omega arith in
        same_least scope needs right (is_at column) (has new right)
        (λ inode. sym (put inode right (omega arith) ∙ or_none (has old right inode)
        ((right == r) && is_at column inode) (behind inode right (omega arith) (omega arith))
        ∙ ap (λ b. b && is_at column inode) (eq-eqb right r here)))
        (subst (λ n. IsLeast scope needs n (is_at column)) (sym here) least)
  ]

pub skipped_before : (scope : Scope) (needs : Needs) (draft : Draft) (k r : ℕ) → r ≡ k → k < 15
    → ((right : ℕ) → right < k → IsLeast scope needs right (has draft right))
    → ((inode right : ℕ) → right < 15 → k ≤ right → has draft right inode ≡ false)
    → is_restricted scope r ≡ false → (right : ℕ) → right < k + 1 → IsLeast scope needs right (has draft right)
skipped_before scope needs draft k r same known before behind free right lt = elim (cases_lt right k) [
  | inl below ↦ before right below
  | inr above ↦ let here : right ≡ r = omega arith in
      none_least scope needs right (has draft right) (λ inode. behind inode right (omega arith) (omega arith))
      (ap (is_restricted scope) here ∙ free)
]

-- ---- a layer

granted_or : (r : Bool) (g : Bool) → (r ≡ true → g ≡ true) → (not r || g) ≡ true
granted_or true g so = so refl
granted_or false g so = refl

by_rule : (r : Bool) (g : Bool) → r ≡ true → (not r || g) ≡ true → g ≡ true
by_rule true g so is = is
by_rule false g so is = absurd (cc so)

-- one right of what a layer meets
pub meets_right : (layer : Layer) (needs : Needs) (right : ℕ) → right < 15 → restricts layer right ≡ true
    → Meets (grants_on layer) needs → is_met (has_rule layer right) right needs ≡ true
meets_right layer needs right known so meets =
    and_from (list_all (is_granted (has_rule layer right) right) needs.asks.items)
    (list_all (is_gainless (has_rule layer right) right) needs.moves.items)
    (list_all-from_AllPass (is_granted (has_rule layer right) right) needs.asks.items (λ k d lt.
    let a = slice_index_or needs.asks.items k d in
    granted_or (holds a.rights.0 right) (list_any (has_rule layer right) a.inodes.items) (λ asks.
    by_rule (restricts layer right) (list_any (has_rule layer right) a.inodes.items) so
    (meets.asks k d lt right known asks))))
    (list_all-from_AllPass (is_gainless (has_rule layer right) right) needs.moves.items (λ k d lt.
    let m = slice_index_or needs.moves.items k d in
    let into = list_any (has_rule layer right) m.into.items in
    let from = list_any (has_rule layer right) m.from.items in
    granted_or (holds m.rights.0 right) (not into || from) (λ means. granted_or into from (λ entered.
    by_rule (restricts layer right) from so (meets.moves k d lt right known means
    (or_right (not (restricts layer right)) into entered))))))

same_restricts : (scope : Scope) (layer : Layer) (right : ℕ) → layer.handled ≡ scope.handled.0
    → restricts layer right ≡ is_restricted scope right
same_restricts scope layer right e = ap (λ n. holds n right || (right == refer)) e

pub in_scope : (scope : Scope) (needs : Needs) (draft : Draft) (layer : Layer) → draft.handled ≡ scope.handled
    → ((right : ℕ) → right < 15 → IsLeast scope needs right (has draft right)) → IsOf draft layer
    → IsInScope scope layer
in_scope scope needs draft layer handled least is = record {
  handled = is.handled ∙ ap (λ (a : Access). a.0) handled;
  rules = λ inode right known at. placed_may scope needs right inode
      ((least right known).placed inode (sym (is.rules inode right known) ∙ at));
}

module _ (scope : Scope) (needs : Needs) (draft : Draft) (layer : Layer) (handled : draft.handled ≡ scope.handled)
    (least : (right : ℕ) → right < 15 → IsLeast scope needs right (has draft right)) (is : IsOf draft layer) where
  met_by : (right : ℕ) → right < 15 → restricts layer right ≡ true → is_met (has_rule layer right) right needs ≡ true
  met_by right known so =
      let e : has draft right ≡ has_rule layer right = λ i inode. sym (is.rules inode right known) i in
      let free = same_restricts scope layer right (is.handled ∙ ap (λ (a : Access). a.0) handled) in
      ap (λ held. is_met held right needs) (sym e) ∙ (least right known).met (sym free ∙ so)

  asks_met : All (IsGranted (grants_on layer)) needs.asks.items
  asks_met k d lt right known asks =
      let a = slice_index_or needs.asks.items k d in
      let held = has_rule layer right in
      granted_or (restricts layer right) (list_any held a.inodes.items) (λ so.
      let all = (and_parts (list_all (is_granted held right) needs.asks.items)
      (list_all (is_gainless held right) needs.moves.items) (met_by right known so)).0 in
      by_rule (holds a.rights.0 right) (list_any held a.inodes.items) asks
      (pass_at (is_granted held right) needs.asks.items k d all lt))

  moves_met : All (GainsNothing (grants_on layer)) needs.moves.items
  moves_met k d lt right known means entered =
      let m = slice_index_or needs.moves.items k d in
      let held = has_rule layer right in
      let into = list_any held m.into.items in
      let from = list_any held m.from.items in
      granted_or (restricts layer right) from (λ so.
      let all = (and_parts (list_all (is_granted held right) needs.asks.items)
      (list_all (is_gainless held right) needs.moves.items) (met_by right known so)).1 in
      by_rule into from (by_rule (restricts layer right) into so entered)
      (by_rule (holds m.rights.0 right) (not into || from) means
      (pass_at (is_gainless held right) needs.moves.items k d all lt)))

  pub all_met : Meets (grants_on layer) needs
  all_met = record { asks = asks_met; moves = moves_met }

  pub all_needed : IsScope scope → AreNeeded (λ less. Meets (grants_on less) needs) layer
  all_needed scoped inode right known there less without' meets =
      let at : has draft right inode ≡ true = sym (is.rules inode right known) ∙ there in
      let has_all : layer.handled ≡ scope.handled.0 = is.handled ∙ ap (λ (a : Access). a.0) handled in
      let so : restricts less right ≡ true = same_restricts scope less right (without'.handled ∙ has_all)
      ∙ or_left (holds scope.handled.0 right) (right == refer)
      (scoped.handled inode right known (placed_may scope needs right inode ((least right known).placed inode at))) in
      let one : (other : ℕ) → has_rule less right other ≡ without inode (has draft right) other =
      λ other. without'.rules other right known ∙ left_out inode other in
      let e : has_rule less right ≡ without inode (has draft right) = λ i other. one other i in
      both_ways (is_met (without inode (has draft right)) right needs) ((least right known).needed inode at)
      (ap (λ held. is_met held right needs) (sym e) ∙ meets_right less needs right known so meets)
    where
      this_right : (b : Bool) → (b && (right == right)) ≡ b
      this_right true = eq-eqb right right refl
      this_right false = refl

      left_out : (inode other : ℕ) → (has_rule layer right other && not ((other == inode) && (right == right)))
          ≡ (has draft right other && not (other == inode))
      left_out inode other = λ i. is.rules other right known i && not (this_right (other == inode) i)

-- ---- what can't be met

pub none_meets : (scope : Scope) (needs : Needs) (number : ℕ) (layer : Layer) → IsUnmet scope needs.asks.items number
    → IsInScope scope layer → Meets (grants_on layer) needs → ⊥
none_meets scope needs number layer unmet inside meets =
    let asks = needs.asks.items in
    let a = unmet.0 in
    let right = unmet.2 in
    let known = unmet.3 in
    let held = has_rule layer right in
    let so : restricts layer right ≡ true = same_restricts scope layer right inside.handled ∙ unmet.4 in
    let all = (and_parts (list_all (is_granted held right) asks) (list_all (is_gainless held right) needs.moves.items)
    (meets_right layer needs right known so meets)).0 in
    let one = pass_at (is_granted held right) asks number a all (slice_get_within asks number a unmet.1) in
    let granted : is_granted held right a ≡ true =
    ap (is_granted held right) (sym (get_or_from_slice_get asks number a a unmet.1)) ∙ one in
    both_ways (is_granted (may_have scope right) right a) unmet.5
    (granted_more held (may_have scope right) right a (λ inode at. inside.rules inode right known at) granted)

-- ---- reasons

pub of_asks : (held other : ℕ → Bool) (right : ℕ) (asks given : List Asked) (moves : List Moved) (need : Need)
    → held ≡ other → given ≡ asks → IsNeed held right given [] need → IsNeed other right asks moves need
of_asks held other right asks given moves (Asks origin) same e is = (
  is.0,
  is.1,
  ap (λ xs. slice_get xs is.0) (sym e) ∙ is.2,
  is.3,
  ap (λ h. is_granted h right is.1) (sym same) ∙ is.4,
)
of_asks held other right asks given moves (Moves origin) same e is = absurd (no_item is.0 is.1 is.2)
  where
    no_item : (k : ℕ) (m : Moved) → slice_get [] k ≡ Some m → ⊥
    no_item zero m at = cc
    no_item (suc k) m at = cc

pub of_moves : (held other : ℕ → Bool) (right : ℕ) (asks : List Asked) (moves given : List Moved) (need : Need)
    → held ≡ other → given ≡ moves → IsNeed held right [] given need → IsNeed other right asks moves need
of_moves held other right asks moves given (Moves origin) same e is = (
  is.0,
  is.1,
  ap (λ xs. slice_get xs is.0) (sym e) ∙ is.2,
  is.3,
  ap (λ h. is_gainless h right is.1) (sym same) ∙ is.4,
)
of_moves held other right asks moves given (Asks origin) same e is = absurd (no_item is.0 is.1 is.2)
  where
    no_item : (k : ℕ) (a : Asked) → slice_get [] k ≡ Some a → ⊥
    no_item zero a at = cc
    no_item (suc k) a at = cc

pub some_of_moves : (held other : ℕ → Bool) (right : ℕ) (asks : List Asked) (moves given : List Moved)
    (found : Option Need) → held ≡ other → given ≡ moves → IfSome found (IsNeed held right [] given)
    → IfSome found (IsNeed other right asks moves)
some_of_moves held other right asks moves given None same e is = tt
some_of_moves held other right asks moves given (Some need) same e is =
    of_moves held other right asks moves given need same e is
