-- No two walks mark one directory.
use Rattle.std.specs.Prelude.{◌≡◌, ◌⊎◌, ℕ, ◌+◌, Bool, true, false, cond, ◌&&◌, ◌||◌, ◌==◌, List, [], Option, Some, None}
use Rattle.std.specs.Prelude.{refl}
use Rattle.std.specs.Ordering.{nat_cmp}
use Rattle.std.specs.List.{list_any}
use Rattle.std.specs.Cmp.{nat_cmp_total}
use Rattle.std.specs.FinMap.{nat_cmp-IsAntisymmetric}
use Rattle.std.proofs.Common.{sym, ap, ◌∙◌, inl, inr}
use Rattle.std.proofs.lemmas.Bool.{eqb-true}
use Rattle.ll_rights.specs.Map.{get, insert, remove}
use Rattle.ll_rights.proofs.Maps.{get-empty, got_inserted}
use Rattle.ll_path.specs.Path.{is_root}
use Rattle.ll_seq.specs.declared.call.Call.{Call}
use Rattle.ll_seq.specs.Call.{first_path, second_path}
use Rattle.ll_seq.specs.State.{root}
use Rattle.ll_seq.proofs.Parted.{or_split}
use Rattle.ll_laws.proofs.Chains.{same_Some}
use Rattle.ll_laws.specs.Walk.{Walk, Leg, Position, Above, Down, Split, has_two_paths, trunk_path, first_leg, toward}
use Rattle.ll_laws.specs.Walk.{with_turn, forked, marks, legs}
use Rattle.ll_laws.specs.World.{World, new_world, shown, domain_of, takes_gate, map_values, overtaken, is_marked}
use Rattle.ll_laws.specs.World.{moved_by, reply_to}
use Rattle.ll_laws.specs.Walks.{AfterSteps, AreApart}
use Rattle.ll_laws.proofs.WalkMaps.{found, was_other}
use Rattle.ll_laws.proofs.Turns.{Keeps, steps_kept}

abbrev pub Apart : World → Type 0
Apart w = (c d : ℕ) (v u : Walk) → get w.walks c ≡ Some v → get w.walks d ≡ Some u → (i : ℕ) → marks v i ≡ true
    → marks u i ≡ true → c ≡ d

-- what the client marks now it marked before, or nobody did
abbrev FewMarks : World → ℕ → Walk → Type 0
FewMarks w number walk = (i : ℕ) → marks walk i ≡ true → (is_marked w i ≡ false)
    ⊎ ((old : Walk) × (get w.walks number ≡ Some old) × (marks old i ≡ true))

put_apart : (w : World) (number : ℕ) (walk : Walk) (gate : Option ℕ) → Apart w → FewMarks w number walk
    → Apart (record w { walks = insert w.walks number walk; gate = gate })
put_apart w number walk gate h few c d v u e f i m n =
    by (got_inserted nat_cmp_total nat_cmp-IsAntisymmetric w.walks number walk c v e)
    (got_inserted nat_cmp_total nat_cmp-IsAntisymmetric w.walks number walk d u f)
  where
    -- of the new walk and another
    of : (d : ℕ) (u : Walk) → get w.walks d ≡ Some u → marks walk i ≡ true → marks u i ≡ true → number ≡ d
    of d u f m n = elim (few i m) [
      | inl a ↦ absurd (cc (sym a ∙ found w.walks (λ e. marks e.1 i) d u f n))
      | inr a ↦ h number d a.0 u a.1 f i a.2 n
    ]

    by : ((c ≡ number) × (v ≡ walk)) ⊎ (get w.walks c ≡ Some v) → ((d ≡ number) × (u ≡ walk)) ⊎ (get w.walks d ≡ Some u)
        → c ≡ d
    by (inl a) (inl b) = a.0 ∙ sym b.0
    by (inl a) (inr b) = a.0 ∙ of d u b (ap (λ x. marks x i) (sym a.1) ∙ m) n
    by (inr a) (inl b) = sym (of c v a (ap (λ x. marks x i) (sym b.1) ∙ n) m) ∙ sym b.0
    by (inr a) (inr b) = h c d v u a b i m n

abbrev pub any_mark : Position → ℕ → Bool
any_mark at i = list_any (λ (leg : Leg). leg.here == i) (legs at)

pub turn_marks : (at : Position) (leg : Leg) (i : ℕ) → any_mark (with_turn at leg) i ≡ true → (leg.here ≡ i)
    ⊎ (any_mark at i ≡ true)
turn_marks Above leg i e = absurd (cc e)
turn_marks (Down trunk) leg i e =
    elim (or_split (leg.here == i) false e) [ inl a ↦ inl (eqb-true leg.here i a) | inr a ↦ absurd (cc a) ]
turn_marks (Split trunk old new) leg i e =
    elim (is_root old.ahead) as (λ b. any_mark (cond b (Split trunk old leg) (Split trunk leg new)) i ≡ true
    → (leg.here ≡ i) ⊎ (any_mark (Split trunk old new) i ≡ true)) [
      | true ↦ λ f. last (trunk.here == i) (old.here == i) (leg.here == i) (new.here == i) refl f
      | false ↦ λ f. middle (trunk.here == i) (leg.here == i) (new.here == i) (old.here == i) refl f
    ] e
  where
    last : (a b c d : Bool) → (leg.here == i) ≡ c → (a || (b || (c || false))) ≡ true → (leg.here ≡ i)
        ⊎ ((a || (b || (d || false))) ≡ true)
    last true b c d is f = inr refl
    last false true c d is f = inr refl
    last false false true d is f = inl (eqb-true leg.here i is)
    last false false false d is f = absurd (cc f)

    middle : (a c b d : Bool) → (leg.here == i) ≡ c → (a || (c || (b || false))) ≡ true → (leg.here ≡ i)
        ⊎ ((a || (d || (b || false))) ≡ true)
    middle true c b d is f = inr refl
    middle false true b d is f = inl (eqb-true leg.here i is)
    middle false false true true is f = inr refl
    middle false false true false is f = inr refl
    middle false false false d is f = absurd (cc f)

pub fork_marks : (call : Call) (at next : Position) (i : ℕ) → forked call at ≡ Some next → any_mark next i ≡ true
    → any_mark at i ≡ true
fork_marks call Above next i e m = absurd (cc e)
fork_marks call (Split a b c) next i e m = absurd (cc e)
fork_marks call (Down trunk) next i e m =
    elim (has_two_paths call && is_root trunk.ahead) as (λ b. cond b (Some split) None ≡ Some next
    → any_mark (Down trunk) i ≡ true) [
      | true ↦ λ f. thrice (trunk.here == i) (ap (λ p. any_mark p i) (same_Some split next f) ∙ m)
      | false ↦ λ f. absurd (cc f)
    ] e
  where
    split : Position
    split = Split trunk (toward trunk (first_path call)) (toward trunk (second_path call))

    thrice : (a : Bool) → (a || (a || (a || false))) ≡ true → (a || false) ≡ true
    thrice true f = refl
    thrice false f = f

unmarked_at : (w : World) (x i : ℕ) → is_marked w x ≡ false → x ≡ i → is_marked w i ≡ false
unmarked_at w x i e same = ap (is_marked w) (sym same) ∙ e

left_apart : (w : World) (number : ℕ) (moved : List ℕ) → Apart w → (c d : ℕ) (v u : Walk)
    → get (map_values (overtaken moved) (remove w.walks number)) c ≡ Some v
    → get (map_values (overtaken moved) (remove w.walks number)) d ≡ Some u
    → (i : ℕ) → marks v i ≡ true → marks u i ≡ true → c ≡ d
left_apart w number moved h c d v u e f i m n =
    let a = was_other w number moved c v e in
    let b = was_other w number moved d u f in
    h c d a.1 b.1 a.2 b.2 i (ap (λ x. marks x i) a.3 ∙ m) (ap (λ x. marks x i) b.3 ∙ n)

pub apart : Keeps Apart
apart = record {
  begins = λ w number call h idle walked g.
      put_apart w number (record { call = call; starts = 1; stale = false; at = Above })
      (cond (takes_gate call) (Some number) w.gate) h (λ i m. absurd (cc m));
  enters = λ w number walk h is fresh high free g.
      put_apart w number (record walk { at = Down (first_leg (domain_of w number) (trunk_path walk.call)) })
      (cond (walk.starts == 4) (Some number) w.gate) h
      (λ i m. inl (unmarked_at w root i free
      (elim (or_split (root == i) false m) [ inl a ↦ eqb-true root i a | inr a ↦ absurd (cc a) ])));
  stands = λ w number walk leg h is fresh low e free.
      put_apart w number (record walk { at = with_turn walk.at leg }) w.gate h
      (λ i m. elim (turn_marks walk.at leg i m) [
        | inl a ↦ inl (unmarked_at w leg.here i free a)
        | inr a ↦ inr (walk, is, a)
      ]);
  forks = λ w number walk at h is fresh e.
      put_apart w number (record walk { at = at }) w.gate h
      (λ i m. inr (walk, is, fork_marks walk.call walk.at at i e m));
  restarts = λ w number walk h is stale.
      put_apart w number (record walk { starts = walk.starts + 1; stale = false; at = Above }) w.gate h
      (λ i m. absurd (cc m));
  gives_up = λ w number walk h is. left_apart w number [] h;
  commits = λ w number walk h is may not_full. left_apart w number
      (moved_by (shown w) walk.call (reply_to w number walk.call)) h;
  calls = λ w number call h idle plain unwalked not_full. h;
  joins = λ w h not_full answer. h;
}

pub marks_are_apart : AfterSteps AreApart
marks_are_apart rules room limit steps =
    λ c v e d u. steps_kept Apart apart (new_world rules room limit) steps
    (λ c d v u e. absurd (cc (sym e ∙ get-empty Walk nat_cmp c))) c d v u e
