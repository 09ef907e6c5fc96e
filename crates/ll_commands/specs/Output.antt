-- How a command fails that writes one text. own
use Rattle.std.specs.Prelude.{◌≡◌, ◌⊎◌, ℕ, List, Option}
use Rattle.ll_program.specs.declared.failure.Failure.{Failure}
use Rattle.ll_program.specs.declared.failure.Failure.TheVariants.{Output}
use Rattle.ll_wire.specs.WriterGains.{AppendsFront}

-- there is no such text for this reason, and nothing is written; or the output fails after a prefix of one
abbrev pub FailsToTell : (IsText : List ℕ → Type 0) → (IsReason : Failure → Type 0) → (out out' : Option (List ℕ))
    → Failure → Type 0
FailsToTell IsText IsReason out out' failure =
    (IsReason failure × (out' ≡ out))
    ⊎ ((failure ≡ Output) × (text : List ℕ) × IsText text × AppendsFront out out' text)
