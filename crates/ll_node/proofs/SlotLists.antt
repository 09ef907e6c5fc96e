-- Lists of slots, and what lies in them, where an entry changes.
use Rattle.std.specs.Prelude.{◌≡◌, ◌≢◌, ◌⊎◌, ℕ, zero, suc, ◌==◌, Bool, true, false, cond, List, [], ◌∷◌, ◌++◌, Option}
use Rattle.std.specs.Prelude.{Some, None, option_map, slice_get, slice_set, if◌then◌else◌, refl}
use Rattle.std.specs.List.{AllByRecursion}
use Rattle.std.proofs.Common.{sym, subst, ap, ◌∙◌, inl, inr, arith}
use Rattle.std.proofs.lemmas.Bool.{eqb-true, eq-eqb}
use Rattle.ll_node.specs.InodeTable.{NotIn, AreDistinct, IsVacant, without_inode}

pub same_Some : (a b : ℕ) → Some a ≡ Some b → a ≡ b
same_Some a b e = cc e

pub same_or_not : (a b : ℕ) → (a ≡ b) ⊎ (a ≢ b)
same_or_not a b = elim (a == b) as (λ t. (a == b) ≡ t → (a ≡ b) ⊎ (a ≢ b)) [
  | true ↦ λ e. inl (eqb-true a b e)
  | false ↦ λ e. inr (λ same. cc (sym e ∙ eq-eqb a b same))
] refl

-- ---- an entry that is set

pub set_same : {A : Type 0} (xs : List A) (i : ℕ) (x y : A) → slice_get xs i ≡ Some x
    → slice_get (slice_set xs i y) i ≡ Some y
set_same [] i x y e = absurd (cc e)
set_same (z ∷ xs) zero x y e = refl
set_same (z ∷ xs) (suc i) x y e = set_same xs i x y e

pub set_other : {A : Type 0} (xs : List A) (i j : ℕ) (y : A) → i ≢ j → slice_get (slice_set xs i y) j ≡ slice_get xs j
set_other [] i j y n = refl
set_other (z ∷ xs) zero zero y n = absurd (n refl)
set_other (z ∷ xs) zero (suc j) y n = refl
set_other (z ∷ xs) (suc i) zero y n = refl
set_other (z ∷ xs) (suc i) (suc j) y n = set_other xs i j y (λ e. n (ap suc e))

pub all_set : (P : ℕ → Type 0) (ks : List ℕ) (i k : ℕ) → AllByRecursion P ks → P k → AllByRecursion P (slice_set ks i k)
all_set P [] i k all one = tt
all_set P (j ∷ ks) zero k all one = (one, all.1)
all_set P (j ∷ ks) (suc i) k all one = (all.0, all_set P ks i k all.1 one)

pub all_more : (P : ℕ → Type 0) (ks : List ℕ) (k : ℕ) → AllByRecursion P ks → P k → AllByRecursion P (ks ++ k ∷ [])
all_more P [] k all one = (one, tt)
all_more P (j ∷ ks) k all one = (all.0, all_more P ks k all.1 one)

pub all_less : (P : ℕ → Type 0) (ks : List ℕ) (k : ℕ) → AllByRecursion P (ks ++ k ∷ []) → AllByRecursion P ks × P k
all_less P [] k all = (tt, all.0)
all_less P (j ∷ ks) k all = let rest = all_less P ks k all.1 in ((all.0, rest.0), rest.1)

-- ---- slots that are not in a list

pub in_neither : (k : ℕ) (js ks : List ℕ) → NotIn k (js ++ ks) → NotIn k js × NotIn k ks
in_neither k [] ks out = (tt, out)
in_neither k (j ∷ js) ks out = let rest = in_neither k js ks out.1 in ((out.0, rest.0), rest.1)

pub not_in_both : (k : ℕ) (js ks : List ℕ) → NotIn k js → NotIn k ks → NotIn k (js ++ ks)
not_in_both k [] ks a b = b
not_in_both k (j ∷ js) ks a b = (a.0, not_in_both k js ks a.1 b)

not_in_set : (k : ℕ) (ks : List ℕ) (i j : ℕ) → NotIn k ks → k ≢ j → NotIn k (slice_set ks i j)
not_in_set k [] i j out differ = tt
not_in_set k (x ∷ ks) zero j out differ = (differ, out.1)
not_in_set k (x ∷ ks) (suc i) j out differ = (out.0, not_in_set k ks i j out.1 differ)

pub differs_at : (k : ℕ) (ks : List ℕ) (i j : ℕ) → NotIn k ks → slice_get ks i ≡ Some j → k ≢ j
differs_at k [] i j out at = absurd (cc at)
differs_at k (x ∷ ks) zero j out at = λ e. out.0 (e ∙ sym (same_Some x j at))
differs_at k (x ∷ ks) (suc i) j out at = differs_at k ks i j out.1 at

-- ---- no slot twice

distinct_set : (ks : List ℕ) (i k : ℕ) → NotIn k ks → AreDistinct ks → AreDistinct (slice_set ks i k)
distinct_set [] i k out apart = tt
distinct_set (x ∷ ks) zero k out apart = (out.1, apart.1)
distinct_set (x ∷ ks) (suc i) k out apart =
    (not_in_set x ks i k apart.0 (λ e. out.0 (sym e)), distinct_set ks i k out.1 apart.1)

-- the last of the free slots takes the place of a spare
pub distinct_lent : (free spares : List ℕ) (fresh place : ℕ) → AreDistinct ((free ++ fresh ∷ []) ++ spares)
    → AreDistinct (free ++ slice_set spares place fresh)
distinct_lent [] spares fresh place apart = distinct_set spares place fresh apart.0 apart.1
distinct_lent (x ∷ free) spares fresh place apart =
    let out = in_neither x (free ++ fresh ∷ []) spares apart.0 in
    let front = in_neither x free (fresh ∷ []) out.0 in (
      not_in_both x free (slice_set spares place fresh) front.0 (not_in_set x spares place fresh out.1 front.1.0),
      distinct_lent free spares fresh place apart.1,
    )

pub distinct_right : (js ks : List ℕ) → AreDistinct (js ++ ks) → AreDistinct ks
distinct_right [] ks apart = apart
distinct_right (j ∷ js) ks apart = distinct_right js ks apart.1

pub last_apart : (free spares : List ℕ) (fresh : ℕ) → AreDistinct ((free ++ fresh ∷ []) ++ spares) → NotIn fresh spares
last_apart [] spares fresh apart = apart.0
last_apart (x ∷ free) spares fresh apart = last_apart free spares fresh apart.1

-- a spare is no free slot
pub not_free : (free spares : List ℕ) (fresh place spare : ℕ) → AreDistinct ((free ++ fresh ∷ []) ++ spares)
    → slice_get spares place ≡ Some spare → NotIn spare free
not_free [] spares fresh place spare apart at = tt
not_free (x ∷ free) spares fresh place spare apart at =
    let out = in_neither x (free ++ fresh ∷ []) spares apart.0 in
    (λ e. differs_at x spares place spare out.1 at (sym e), not_free free spares fresh place spare apart.1 at)

-- and no spare any more once another slot has its place
pub no_spare : (spares : List ℕ) (fresh place spare : ℕ) → AreDistinct spares → NotIn fresh spares
    → slice_get spares place ≡ Some spare → NotIn spare (slice_set spares place fresh)
no_spare [] fresh place spare apart out at = tt
no_spare (x ∷ spares) fresh zero spare apart out at =
    let same : x ≡ spare = same_Some x spare at in
    (λ e. out.0 (sym e ∙ sym same), subst (λ k. NotIn k spares) same apart.0)
no_spare (x ∷ spares) fresh (suc place) spare apart out at =
    (λ e. differs_at x spares place spare apart.0 at (sym e), no_spare spares fresh place spare apart.1 out.1 at)

-- a slot that was neither free nor spare
pub distinct_freed : (free spares : List ℕ) (slot : ℕ) → NotIn slot free → NotIn slot spares
    → AreDistinct (free ++ spares) → AreDistinct ((free ++ slot ∷ []) ++ spares)
distinct_freed [] spares slot a b apart = (b, apart)
distinct_freed (x ∷ free) spares slot a b apart =
    let out = in_neither x free spares apart.0 in (
      not_in_both x (free ++ slot ∷ []) spares (not_in_both x free (slot ∷ []) out.0 (λ e. a.0 (sym e), tt)) out.1,
      distinct_freed free spares slot a.1 b apart.1,
    )

-- ---- vacant slots

-- the slot where an inode lies is none of them
pub taken_out : (inodes : List ℕ) (slot inode : ℕ) (ks : List ℕ) → slice_get inodes slot ≡ Some inode → inode ≢ 0
    → AllByRecursion (IsVacant inodes) ks → NotIn slot ks
taken_out inodes slot inode [] at some all = tt
taken_out inodes slot inode (k ∷ ks) at some all = (
  λ e. some (same_Some inode 0 (sym at ∙ ap (slice_get inodes) e ∙ all.0)),
  taken_out inodes slot inode ks at some all.1,
)

-- they stay so where an inode comes to lie in another one
pub vacant_still : (inodes : List ℕ) (slot inode : ℕ) (ks : List ℕ) → NotIn slot ks
    → AllByRecursion (IsVacant inodes) ks → AllByRecursion (IsVacant (slice_set inodes slot inode)) ks
vacant_still inodes slot inode [] out all = tt
vacant_still inodes slot inode (k ∷ ks) out all =
    (set_other inodes slot k inode out.0 ∙ all.0, vacant_still inodes slot inode ks out.1 all.1)

-- ---- without an inode

abbrev pub out_of : ℕ → ℕ → ℕ
out_of inode i = if i == inode then 0 else i

pub without_get : (inodes : List ℕ) (inode k : ℕ)
    → slice_get (without_inode inodes inode) k ≡ option_map (out_of inode) (slice_get inodes k)
without_get [] inode k = refl
without_get (i ∷ inodes) inode zero = refl
without_get (i ∷ inodes) inode (suc k) = without_get inodes inode k

pub out_itself : (inode i : ℕ) → i ≡ inode → out_of inode i ≡ 0
out_itself inode i same = ap (λ b. cond b 0 i) (eq-eqb i inode same)

pub out_other : (inode i : ℕ) → i ≢ inode → out_of inode i ≡ i
out_other inode i differ = elim (i == inode) as (λ b. (i == inode) ≡ b → cond b 0 i ≡ i)
    [ true ↦ λ e. absurd (differ (eqb-true i inode e)) | false ↦ λ e. refl ] refl

-- what lies somewhere afterwards lay there before, and is another inode
pub left_there : (inodes : List ℕ) (inode k i : ℕ) → slice_get (without_inode inodes inode) k ≡ Some i → i ≢ 0
    → (slice_get inodes k ≡ Some i) × (i ≢ inode)
left_there inodes inode k i at some = by (slice_get inodes k) refl (sym (without_get inodes inode k) ∙ at)
  where
    by : (o : Option ℕ) → slice_get inodes k ≡ o → (option_map (out_of inode) o ≡ Some i)
        → (slice_get inodes k ≡ Some i) × (i ≢ inode)
    by None is e = absurd (cc e)
    by (Some j) is e = elim (same_or_not j inode) [
      | inl same ↦ absurd (some (same_Some i 0 (sym e ∙ ap Some (out_itself inode j same))))
      | inr differ ↦ (let j_is : j ≡ i = same_Some j i (ap Some (sym (out_other inode j differ)) ∙ e)
          in (is ∙ ap Some j_is, λ s. differ (j_is ∙ s)))
    ]

pub vacant_without : (inodes : List ℕ) (inode : ℕ) (ks : List ℕ) → AllByRecursion (IsVacant inodes) ks
    → AllByRecursion (IsVacant (without_inode inodes inode)) ks
vacant_without inodes inode [] all = tt
vacant_without inodes inode (k ∷ ks) all = (
  without_get inodes inode k ∙ ap (option_map (out_of inode)) all.0
      ∙ ap Some (nothing (0 == inode)),
  vacant_without inodes inode ks all.1,
)
  where
    nothing : (b : Bool) → cond b zero zero ≡ zero
    nothing true = refl
    nothing false = refl

-- its slot is vacant
pub gone_from : (inodes : List ℕ) (inode slot : ℕ) → slice_get inodes slot ≡ Some inode
    → IsVacant (without_inode inodes inode) slot
gone_from inodes inode slot at =
    without_get inodes inode slot ∙ ap (option_map (out_of inode)) at ∙ ap Some (out_itself inode inode refl)

-- where it is none
pub without_nothing : (inodes : List ℕ) (inode : ℕ) → inode ≡ 0 → without_inode inodes inode ≡ inodes
without_nothing [] inode nothing = refl
without_nothing (i ∷ inodes) inode nothing =
    let head : out_of inode i ≡ i =
    elim (same_or_not i inode) [
      | inl same ↦ out_itself inode i same
          ∙ sym (same ∙ nothing)
      | inr differ ↦ out_other inode i differ
    ] in
    λ j. head j ∷ without_nothing inodes inode nothing j

-- where it lies nowhere
pub without_none : (inodes : List ℕ) (inode : ℕ) → ((k : ℕ) → slice_get inodes k ≢ Some inode)
    → without_inode inodes inode ≡ inodes
without_none [] inode none = refl
without_none (i ∷ inodes) inode none =
    let head : out_of inode i ≡ i = out_other inode i (λ e. none 0 (ap Some e)) in
    let tail : without_inode inodes inode ≡ inodes = without_none inodes inode (λ k. none (suc k)) in
    λ j. head j ∷ tail j

-- where it lies in one slot
pub without_one : (inodes : List ℕ) (inode slot : ℕ) → slice_get inodes slot ≡ Some inode
    → ((k : ℕ) → slice_get inodes k ≡ Some inode → k ≡ slot) → slice_set inodes slot 0 ≡ without_inode inodes inode
without_one [] inode slot at only = absurd (cc at)
without_one (i ∷ inodes) inode zero at only =
    let head : out_of inode i ≡ 0 = out_itself inode i (same_Some i inode at) in
    let tail : without_inode inodes inode ≡ inodes = without_none inodes inode (λ k e. cc (only (suc k) e)) in
    λ j. sym head j ∷ sym tail j
without_one (i ∷ inodes) inode (suc slot) at only =
    let head : out_of inode i ≡ i = out_other inode i (λ e. cc (only 0 (ap Some e))) in
    let tail = without_one inodes inode slot at (λ k e. pred_same (only (suc k) e)) in
    λ j. sym head j ∷ tail j
  where
    pred_same : {k : ℕ} → suc k ≡ suc slot → k ≡ slot
    pred_same e = omega (arith, e)
