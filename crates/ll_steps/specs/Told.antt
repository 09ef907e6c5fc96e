-- What is written for a whole schedule. own
use Rattle.std.specs.Prelude.{◌≡◌, ◌⊎◌, ℕ, suc, Bool, true, false, List, ◌∷◌, ◌++◌, length, Option, None, Some}
use Rattle.ll_audit.specs.Saved.{verdict_line}
use Rattle.ll_audit.specs.declared.verdict.Verdict.TheVariants.{Legal}
use Rattle.ll_wire.specs.Transcript.{Transcript}
use Rattle.ll_laws.specs.World.{World, new_world}
use Rattle.ll_wire.specs.Pieces.{pieces}
use Rattle.ll_steps.specs.declared.setup.WorldSetup.{WorldSetup}
use Rattle.ll_steps.specs.declared.halt.Halt.{Halt}
use Rattle.ll_steps.specs.Tells.{Answers, Tells, TellsMade, answer_line, is_made}

-- the world before the first line
abbrev pub opened : WorldSetup → World
opened setup = new_world setup.rules setup.nodes setup.history

-- the number of the history's entries
abbrev pub last_line : World → List ℕ
last_line w = verdict_line (Legal (length w.history))

-- the lines for the pieces, in order, and then the last line
abbrev pub IsTold : WorldSetup → (input text : List ℕ) → Type 0
IsTold setup input text =
    (lines : List ℕ) × (last : World) × Transcript Tells (opened setup) (pieces input) lines last
    × (text ≡ lines ++ last_line last)

-- a prefix of that, or of the lines for some first pieces
abbrev pub IsBegun : WorldSetup → (input text : List ℕ) → Type 0
IsBegun setup input text =
    ((whole back : List ℕ) × IsTold setup input whole × (whole ≡ text ++ back))
    ⊎ ((done more : List (List ℕ)) × (lines back : List ℕ) × (last : World) × (pieces input ≡ done ++ more)
    × Transcript Tells (opened setup) done lines last × (lines ≡ text ++ back))

-- ---- Strict schedules

-- Every line was a step that was enabled and made, and all is written as above. Or a first line wasn't: the lines up to
-- and with it are written, and it is named by its number, from 1, and its outcome
abbrev pub IsToldStrictly : WorldSetup → (input text : List ℕ) → Option Halt → Type 0
IsToldStrictly setup input text None =
    (lines : List ℕ) × (last : World) × Transcript TellsMade (opened setup) (pieces input) lines last
    × (text ≡ lines ++ last_line last)
IsToldStrictly setup input text (Some halt) =
    (done more : List (List ℕ)) × (piece lines : List ℕ) × (before after : World)
    × (pieces input ≡ done ++ piece ∷ more) × (halt.line ≡ suc (length done))
    × Transcript TellsMade (opened setup) done lines before
    × Answers before piece halt.answer after × (is_made halt.answer ≡ false)
    × (text ≡ lines ++ answer_line after.history halt.answer)

-- a prefix of that, or of the lines for some first pieces
abbrev pub IsBegunStrictly : WorldSetup → (input text : List ℕ) → Type 0
IsBegunStrictly setup input text =
    ((halt : Option Halt) × (whole back : List ℕ) × IsToldStrictly setup input whole halt × (whole ≡ text ++ back))
    ⊎ ((done more : List (List ℕ)) × (lines back : List ℕ) × (last : World) × (pieces input ≡ done ++ more)
    × Transcript TellsMade (opened setup) done lines last × (lines ≡ text ++ back))

-- ---- Schedules, strict or not

-- what is written, and which line has ended it: only a strict one has such a line
abbrev pub IsToldAs : (strict : Bool) → WorldSetup → (input text : List ℕ) → Option Halt → Type 0
IsToldAs false setup input text halt = (halt ≡ None) × IsTold setup input text
IsToldAs true setup input text halt = IsToldStrictly setup input text halt

abbrev pub IsBegunAs : (strict : Bool) → WorldSetup → (input text : List ℕ) → Type 0
IsBegunAs false setup input text = IsBegun setup input text
IsBegunAs true setup input text = IsBegunStrictly setup input text

-- how many lines were answered
abbrev pub lines_answered : List ℕ → Option Halt → ℕ
lines_answered input None = length (pieces input)
lines_answered input (Some halt) = halt.line
