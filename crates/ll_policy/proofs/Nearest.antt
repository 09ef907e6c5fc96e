-- The right with the nearest name, found one after another.
use Rattle.std.proofs.Common.{◌≡◌, ◌≤◌, ◌<◌, ◌+◌, ℕ, true, List, Option, Some, None, arith, get_or, inl, inr, refl}
use Rattle.std.proofs.Common.{subst}
use Rattle.std.specs.Prelude.{IfNone, IfSome, ◌==◌}
use Rattle.std.proofs.lemmas.Bool.{agree_below_at, cases_lt, eqb-true}
use Rattle.ll_rights.specs.Right.{all_rights, right_text}
use Rattle.ll_policy.specs.MeantRights.{IsMeant, IsStrange, edits}

-- the edits to the name of a right
abbrev pub away : List ℕ → ℕ → ℕ
away word right = edits word (right_text right)

-- the nearest of so many rights, and how far it is: less than three edits
abbrev pub IsNearest : List ℕ → ℕ → Option ℕ → ℕ → Type 0
IsNearest word count None least = (least ≡ 3) × ((right : ℕ) → right < count → 3 ≤ away word right)
IsNearest word count (Some it) least =
    (it < count) × (least ≡ away word it) × (least < 3)
    × ((right : ℕ) → right < count → least ≤ away word right) × ((right : ℕ) → right < it → least < away word right)

pub none_seen : (word : List ℕ) → IsNearest word 0 None 3
none_seen word = (refl, λ right low. absurd (omega arith))

upto : (word : List ℕ) (count bound : ℕ) → ((right : ℕ) → right < count → bound ≤ away word right)
    → bound ≤ away word count → (right : ℕ) → right < count + 1 → bound ≤ away word right
upto word count bound before here right low = elim (cases_lt right count) [
  | inl below ↦ before right below
  | inr above ↦ (let same : count ≡ right = omega arith in subst (λ r. bound ≤ away word r) same here)
]

-- the next right is nearer
pub nearer : (word : List ℕ) (count : ℕ) (found : Option ℕ) (least : ℕ) → IsNearest word count found least
    → away word count < least → IsNearest word (count + 1) (Some count) (away word count)
nearer word count None least so_far less = (
  omega arith,
  refl,
  omega (arith, so_far.0),
  upto word count (away word count)
      (λ right low. let far = so_far.1 right low in omega (arith, so_far.0)) (omega arith),
  λ right low. let far = so_far.1 right low in omega (arith, so_far.0),
)
nearer word count (Some it) least so_far less = (
  omega arith,
  refl,
  omega (arith, so_far.2),
  upto word count (away word count)
      (λ right low. let far = so_far.3 right low in omega arith) (omega arith),
  λ right low. let far = so_far.3 right low in omega arith,
)

-- the next right isn't
pub farther : (word : List ℕ) (count : ℕ) (found : Option ℕ) (least : ℕ) → IsNearest word count found least
    → least ≤ away word count → IsNearest word (count + 1) found least
farther word count None least so_far far =
    (so_far.0, upto word count 3 so_far.1 (omega (arith, so_far.0)))
farther word count (Some it) least so_far far = (
  omega (arith, so_far.0),
  so_far.1,
  so_far.2,
  upto word count least so_far.3 far,
  so_far.4,
)

pub is_meant : (word : List ℕ) (found : Option ℕ) (least : ℕ) → IsNearest word 15 found least
    → IfSome found (IsMeant word)
is_meant word None least so_far = tt
is_meant word (Some it) least so_far = record {
  known = so_far.0;
  near = omega (arith, so_far.1, so_far.2);
  nearest = λ other low. let far = so_far.3 other low in omega (arith, so_far.1);
  first = λ other low. let far = so_far.4 other low in omega (arith, so_far.1);
}

pub is_strange : (word : List ℕ) (found : Option ℕ) (least : ℕ) → IsNearest word 15 found least
    → IfNone found (IsStrange word)
is_strange word None least so_far = λ right low. let far = so_far.1 right low in omega arith
is_strange word (Some it) least so_far = tt

-- all rights come in their order
pub in_order : (k other : ℕ) → k < 15 → get_or all_rights k other ≡ k
in_order k other within = eqb-true _ _
    (agree_below_at (λ k. get_or all_rights k other == k) (λ _. true) 15 k refl within)
