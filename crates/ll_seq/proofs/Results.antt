-- Results of calls, and the first of several refusals.
use Rattle.std.specs.Prelude.{◌≡◌, ◌≢◌, ◌⊎◌, ℕ, ◌<◌, List, [], Option, Some, Result, Ok, Err, OnOk, IfOk, IfErr, length}
use Rattle.std.specs.Prelude.{get_or, slice_get, refl}
use Rattle.std.proofs.Common.{sym, ap, ◌∙◌, arith, inl, inr}
use Rattle.std.proofs.lemmas.Option.{slice_get_read}
use Rattle.ll_rights.specs.declared.errno.Errno.{Errno}
use Rattle.ll_rights.specs.declared.errno.Errno.TheVariants.{NoMemory}
use Rattle.ll_seq.specs.Fails.{Fails}

pub on_ok : {A E : Type 0} {P Q : Type 0} (r : Result A E) → OnOk r P → (P → Q) → OnOk r Q
on_ok (Ok a) p f = f p
on_ok (Err e) p f = tt

pub if_ok : {A E : Type 0} {P Q : A → Type 0} (r : Result A E) → IfOk r P → ((a : A) → P a → Q a) → IfOk r Q
if_ok (Ok a) p f = f a p
if_ok (Err e) p f = tt

pub if_err : {A E : Type 0} {P Q : E → Type 0} (r : Result A E) → IfErr r P → ((e : E) → P e → Q e) → IfErr r Q
if_err (Ok a) p f = tt
if_err (Err e) p f = f e p

-- ---- refusals

pub wants_memory : (errno : Errno) → (errno ≡ NoMemory) ⊎ (errno ≢ NoMemory)
wants_memory NoMemory = inl refl
wants_memory _ = inr (λ e. cc)

-- want of memory comes only where there is no refusal, and any other error is the first of them
pub fails : {A : Type 0} (refusals : List Errno) (r : Result A Errno)
    → IfErr r (λ errno. errno ≢ NoMemory → slice_get refusals 0 ≡ Some errno) → (r ≡ Err NoMemory → refusals ≡ [])
    → IfErr r (Fails refusals)
fails refusals (Ok a) first starved = tt
fails refusals (Err errno) first starved = elim (wants_memory errno) [
  | inl memory ↦ inr (memory, starved (ap Err memory))
  | inr other ↦ inl (first other)
]

-- ---- an element by its index

pub element : {A : Type 0} (xs ys : List A) (i : ℕ) (x : A) → xs ≡ ys → i < length ys → x ≡ get_or xs i x
    → slice_get ys i ≡ Some x
element xs ys i x same lt is =
    ap (λ zs. slice_get zs i) (sym same) ∙ slice_get_read xs (length xs) i x refl (omega (arith, ap length same)) is

pub same_element : {A : Type 0} (xs : List A) (i : ℕ) (x y : A) → slice_get xs i ≡ Some x → slice_get xs i ≡ Some y
    → x ≡ y
same_element xs i x y e f = let both : Some x ≡ Some y = sym e ∙ f in cc

pub same_some : {A : Type 0} {o : Option A} {x y : A} → o ≡ Some x → o ≡ Some y → x ≡ y
same_some {o = o} {x = x} {y = y} e f = let both : Some x ≡ Some y = sym e ∙ f in cc
