-- A text that is written, or isn't.
use Rattle.std.specs.Prelude.{◌≡◌, ◌⊎◌, ℕ, List, Option, IfErr, IfSome, OnOk, Result, Ok, Err, refl}
use Rattle.std.specs.Io.KnownBytes.{Appends}
use Rattle.std.proofs.Common.{inl, inr, subst, sym}
use Rattle.ll_program.specs.declared.failure.Failure.{Failure}
use Rattle.ll_program.specs.declared.failure.Failure.TheVariants.{NoMemory, Output}
use Rattle.ll_wire.specs.Transcript.{Writes}
use Rattle.ll_wire.specs.WriterGains.{AppendsFront}
use Rattle.ll_commands.specs.Output.{FailsToTell}

-- such a text is written, where the text is known
abbrev pub IsWritten : (known out out' : Option (List ℕ)) → (List ℕ → List ℕ → Type 0) → Type 0
IsWritten known out out' IsText =
    (text : List ℕ) × IfSome known (λ told. text ≡ told) × Writes out out' (IsText text)

-- or isn't, for a reason or by the output
abbrev pub IsUnwritten : (known out out' : Option (List ℕ)) → (List ℕ → List ℕ → Type 0) → (List ℕ → Failure → Type 0)
    → Failure → Type 0
IsUnwritten known out out' IsText IsReason failure =
    (text : List ℕ) × IfSome known (λ told. text ≡ told)
    × FailsToTell (IsText text) (IsReason text) out out' failure

module _ (known out out' : Option (List ℕ)) (IsText : List ℕ → List ℕ → Type 0) (text told : List ℕ)
    (is : IfSome known (λ bytes. text ≡ bytes)) (one : IsText text told) where
  pub written : {A : Type 0} (r : Result A Failure) → OnOk r (Appends out out' told)
      → OnOk r (IsWritten known out out' IsText)
  written (Ok done) appends = (text, is, (told, one, appends))
  written (Err failure) appends = tt

  pub broken : {A : Type 0} (IsReason : List ℕ → Failure → Type 0) (r : Result A Failure)
      → IfErr r (λ failure. (failure ≡ Output) × AppendsFront out out' told)
      → IfErr r (IsUnwritten known out out' IsText IsReason)
  broken IsReason (Ok done) fails = tt
  broken IsReason (Err failure) fails = (text, is, inr (fails.0, told, one, fails.1))

  pub starved_or_broken : {A : Type 0} (IsReason : List ℕ → Failure → Type 0) → IsReason text NoMemory
      → (r : Result A Failure)
      → IfErr r (λ failure. ((failure ≡ NoMemory) × (out' ≡ out))
      ⊎ ((failure ≡ Output) × AppendsFront out out' told))
      → IfErr r (IsUnwritten known out out' IsText IsReason)
  starved_or_broken IsReason memory (Ok done) fails = tt
  starved_or_broken IsReason memory (Err failure) (inl starved) =
      (text, is, inl (subst (IsReason text) (sym starved.0) memory, starved.1))
  starved_or_broken IsReason memory (Err failure) (inr fails) = (text, is, inr (fails.0, told, one, fails.1))
