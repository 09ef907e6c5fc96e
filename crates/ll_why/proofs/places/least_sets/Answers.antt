use Rattle.std.specs.Prelude.{◌≡◌, ◌≢◌, ℕ, ◌<◌, ◌^◌, Bool, true, false, ◌&&◌, ◌||◌, not, Option, Some, None}
use Rattle.std.specs.Prelude.{find, is_none, refl}
use Rattle.std.specs.List.{range_with_len}
use Rattle.std.proofs.Common.{ap, arith, sym, ◌∙◌}
use Rattle.ll_rights.specs.Access.{holds}
use Rattle.ll_rights.specs.declared.access.Access.{Access}
use Rattle.ll_decide.proofs.Bits.{holds_all}
use Rattle.ll_decide.proofs.OneByOne.{holds_none}
use Rattle.ll_decide.specs.declared.demands.On.TheVariants.{Itself, Other, Parent, Left, Entered}
use Rattle.ll_why.specs.declared.places.Sets.{Sets}
use Rattle.ll_why.specs.Places.{chosen_by, denies, fits, granted_with, is_chosen, is_reached, may_hold, numbers, passes}
use Rattle.ll_why.specs.Places.{serves, set_in}
use Rattle.ll_why.proofs.AcceptedRules.{some_right}
use Rattle.ll_why.proofs.FirstChoice.{chosen_more, rest_more}
use Rattle.ll_why.proofs.Denials.{denies_same}
use Rattle.ll_why.proofs.places.least_sets.Goals as goal

all_of : (a b c : Bool) → ((a && b) && c) ≡ (a && (b && c))
all_of true b c = refl
all_of false b c = refl

pub loop-number-init : goal.loop-number-init
loop-number-init c =
    let zero : Access = record { 0 = 0 } in
    let none : Sets = record { itself = zero; other = zero; entered = zero; parent = zero } in
    record {
      few = omega arith;
      known = λ on. elim on as (λ on. set_in none on < 2 ^ 15) [
        | Itself ↦ omega arith
        | Other ↦ omega arith
        | Parent ↦ omega arith
        | Left ↦ omega arith
        | Entered ↦ omega arith
      ];
      rest = λ right known. holds_all right known;
      added = λ on right known. elim on as (λ on. holds (set_in none on) right ≡ false) [
        | Itself ↦ holds_none right
        | Other ↦ holds_none right
        | Parent ↦ holds_none right
        | Left ↦ holds_none right
        | Entered ↦ holds_none right
      ];
    }

pub loop-number-preserved : goal.loop-number-preserved
loop-number-preserved c =
    let asks = c.args.asks.now in
    let layer = c.args.layer.now in
    let n = c.loop-number.number in
    let old = c.loop-number.invariant in
    let test : ℕ → ℕ → Bool = λ right. serves c.args.level c.args.tree.now asks layer right in
    let denied : (right : ℕ) → right < 15 → holds c.denied-denied.result.0 right
    ≡ denies (granted_with asks layer (chosen_by n)) asks.demands right =
    λ right known. c.denied-denied.ensures right known
    ∙ denies_same (λ on r. holds (set_in c.added.result on) r) (granted_with asks layer (chosen_by n)) asks.demands
    right (λ on. c.added.ensures asks (chosen_by n) c.of_call-ways.ensures c.of_number-places.ensures on right known
    ∙ ap (λ b. b || is_reached asks (chosen_by n) on) (c.granted-granted.ensures on right known)) in
    let shared : (right : ℕ) → right < 15 → holds c.shared.result.0 right
    ≡ fits (may_hold c.args.level c.args.tree.now asks) (chosen_by n) right =
    λ right known. c.shared.ensures right known
    ∙ (λ i. fits (λ on. c.allowed-allowed.ensures on i) (λ on. c.of_number-places.ensures on i) right) in
    let passing : (right : ℕ) → right < 15 → holds c.both-passing.result.0 right
    ≡ (is_none (find (test right) (range_with_len 0 n)) && test right n) =
    λ right known. c.both-passing.ensures.rights right
    ∙ (λ i. (c.without.ensures.rights right known
    ∙ (λ j. old.rest right known j && not (denied right known j))) i && shared right known i)
    ∙ all_of (is_none (find (test right) (range_with_len 0 n))) (passes asks layer right n)
    (fits (may_hold c.args.level c.args.tree.now asks) (chosen_by n) right) in
    let few = old.few in
    let less = c.without.ensures.fewer in
    let lesser = c.both-passing.ensures.fewer in
    let rest = c.without-rest.ensures.fewer in
    record {
      few = omega (arith, few, rest);
      known = c.with-added.ensures.known old.known (omega (arith, few, less, lesser));
      rest = λ right known. c.without-rest.ensures.rights right known
          ∙ (λ i. old.rest right known i && not (passing right known i)) ∙ rest_more (test right) n;
      added = λ on right known. c.with-added.ensures.rights on right
          ∙ (λ i. old.added on right known i || (c.of_number-places.ensures on i && passing right known i))
          ∙ chosen_more (test right) n on;
    }

is_some_of : (o : Option ℕ) → is_none o ≡ false → o ≢ None
is_some_of None e f = cc e
is_some_of (Some n) e f = cc f

is_none_of : (o : Option ℕ) → is_none o ≡ true → o ≡ None
is_none_of None e = refl
is_none_of (Some n) e = absurd (cc e)

pub returns-then-rest-eq0 : goal.returns-then-rest-eq0
returns-then-rest-eq0 c =
    let end : c.loop-number.number ≡ 16 = omega arith in
    let test : ℕ → ℕ → Bool = λ right. serves c.args.level c.args.tree.now c.args.asks.now c.args.layer.now right in
    record {
      known = c.loop-number.invariant.known;
      found = λ right known. is_some_of (find (test right) numbers)
          (ap (λ n. is_none (find (test right) (range_with_len 0 n))) (sym end)
          ∙ sym (c.loop-number.invariant.rest right known)
          ∙ ap (λ n. holds n right) c.if-rest-eq0.true ∙ holds_none right);
      chosen = λ on right known. c.loop-number.invariant.added on right known
          ∙ ap (λ n. is_chosen (range_with_len 0 n) (test right) on) end;
    }

pub returns-else-rest-eq0 : goal.returns-else-rest-eq0
returns-else-rest-eq0 c =
    let end : c.loop-number.number ≡ 16 = omega arith in
    let test : ℕ → ℕ → Bool = λ right. serves c.args.level c.args.tree.now c.args.asks.now c.args.layer.now right in
    let some = some_right c.loop-number.rest.0 c.if-rest-eq0.false c.loop-number.invariant.few in (
      some.0,
      (
        some.1.0,
        is_none_of (find (test some.0) numbers)
            (ap (λ n. is_none (find (test some.0) (range_with_len 0 n))) (sym end)
            ∙ sym (c.loop-number.invariant.rest some.0 some.1.0) ∙ some.1.1),
      ),
    )
