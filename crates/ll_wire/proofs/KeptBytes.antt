-- Known bytes that interrupted calls have kept.
use Rattle.std.proofs.Common.{◌≡◌, ◌∙◌, ℕ, List, ◌++◌, Option, None, Some, Result, Ok, Err, refl, subst, take, length}
use Rattle.std.specs.Io.KnownBytes.{Appends, Consumes, IsAtEnd, Keeps, ReadConsumes, WriteAppends}

pub kept_none : (known : Option (List ℕ)) → Keeps known known
kept_none None = tt
kept_none (Some xs) = refl

pub kept_more : (old mid new : Option (List ℕ)) → Keeps old mid → Keeps mid new → Keeps old new
kept_more None mid new first then = tt
kept_more (Some xs) None new first then = absurd first
kept_more (Some xs) (Some ys) None first then = absurd then
kept_more (Some xs) (Some ys) (Some zs) first then = then ∙ first

pub reads_kept : {E : Type 0} (old mid new : Option (List ℕ)) (r : Result ℕ E) (buf : List ℕ) → Keeps old mid
    → ReadConsumes mid new r buf → ReadConsumes old new r buf
reads_kept None mid new (Ok n) buf kept read = (tt, read.1)
reads_kept None mid new (Err e) buf kept read = tt
reads_kept (Some xs) None new r buf kept read = absurd kept
reads_kept (Some xs) (Some ys) new r buf kept read =
    subst (λ (zs : List ℕ). ReadConsumes (Some zs) new r buf) kept read

pub writes_kept : {E : Type 0} (old mid new : Option (List ℕ)) (r : Result ℕ E) (buf : List ℕ) → Keeps old mid
    → WriteAppends mid new r buf → WriteAppends old new r buf
writes_kept None mid new (Ok n) buf kept wrote = tt
writes_kept None mid new (Err e) buf kept wrote = tt
writes_kept (Some xs) None new r buf kept wrote = absurd kept
writes_kept (Some xs) (Some ys) new r buf kept wrote =
    subst (λ (zs : List ℕ). WriteAppends (Some zs) new r buf) kept wrote
