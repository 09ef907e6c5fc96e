-- How far a schedule is, line after line. No public contract cites it. own
use Rattle.std.specs.Prelude.{◌≡◌, ◌+◌, ◌&&◌, Bool, false, not, ℕ, List, [], Option, Some, None, Result, cond}
use Rattle.std.proofs.Common.{◌∙◌, refl}
use Rattle.ll_rights.specs.declared.errno.Errno.{Errno}
use Rattle.ll_laws.specs.World.{World}
use Rattle.ll_steps.specs.Tells.{Answers, answer_line, is_made}
use Rattle.ll_steps.specs.Told.{last_line}
use Rattle.ll_steps.specs.declared.halt.Halt.{Halt}
use Rattle.ll_steps.specs.declared.halt.Pace.{Pace}
use Rattle.ll_steps.specs.declared.report.Report.{Report}

-- no line is answered yet
abbrev pub first_pace : (strict : Bool) → Pace
first_pace strict = record { is_strict = strict; lines = 0; halt = None }

-- the next line, with this outcome
abbrev pub halt_at : Pace → Result Report Errno → Halt
halt_at p answer = record { line = p.lines + 1; answer = answer }

-- one more line has this outcome, which may end a strict schedule
abbrev pub noted : Pace → Result Report Errno → Pace
noted p answer =
    record {
      is_strict = p.is_strict;
      lines = p.lines + 1;
      halt = cond (p.is_strict && not (is_made answer)) (Some (halt_at p answer)) p.halt;
    }

-- if no line has ended the schedule yet, the piece is answered with this line
abbrev pub TellsOn : World × Pace → (piece line : List ℕ) → World × Pace → Type 0
TellsOn s piece line t =
    (s.1.halt ≡ None)
    × ((answer : Result Report Errno) × Answers s.0 piece answer t.0 × (line ≡ answer_line t.0.history answer)
    × (t.1 ≡ noted s.1 answer))

-- the last line of a schedule that no line has ended
abbrev pub end_text : World → Option Halt → List ℕ
end_text w None = last_line w
end_text w (Some halt) = []

-- ---- Any number of lines

-- a schedule stays strict or not, and no line ends one that isn't strict
abbrev pub StaysAs : Pace → Pace → Type 0
StaysAs p q = (q.is_strict ≡ p.is_strict) × (p.is_strict ≡ false → q.halt ≡ p.halt)

pub stays : (p : Pace) → StaysAs p p
stays p = (refl, λ lax. refl)

pub stays_on : (p q r : Pace) → StaysAs p q → StaysAs q r → StaysAs p r
stays_on p q r one two = (two.0 ∙ one.0, λ lax. two.1 (one.0 ∙ lax) ∙ one.1 lax)
