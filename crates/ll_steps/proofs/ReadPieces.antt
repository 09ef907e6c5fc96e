-- The outcome of a piece, as its line was read.
use Rattle.std.proofs.Common.{◌≡◌, ℕ, ◌≤◌, true, List, Option, None, Ok, Err, arith, inl, inr, subst, sym}
use Rattle.std.specs.Prelude.{IfSome}
use Rattle.ll_rights.specs.declared.errno.Errno.{Errno}
use Rattle.ll_rights.specs.declared.errno.Errno.TheVariants.{BadLine}
use Rattle.ll_rights.specs.Map.{len}
use Rattle.ll_wire.proofs.Cuts.{long}
use Rattle.ll_wire.specs.LineCuts.{Holds}
use Rattle.ll_steps.specs.declared.report.Report.{Report}
use Rattle.ll_laws.specs.World.{World, shown}
use Rattle.ll_wire.specs.Reads.{ReadsBy}
use Rattle.ll_wire.specs.ScheduleLines.{SpellsScheduleLine, client_in, line_holds_text}
use Rattle.ll_wire.specs.declared.schedule.ScheduleLine.{ScheduleLine}
use Rattle.ll_steps.specs.Tells.{Answers, Does, bad, does, unread}

-- the bytes spell a line, whose client, if it names one, is one of the first so many
abbrev pub SpellsOne : List ℕ → ℕ → ScheduleLine → Type 0
SpellsOne bytes clients value = SpellsScheduleLine bytes value × IfSome (client_in value) (λ client. client ≤ clients)

-- the same of the piece and of the clients that have come
of_piece : (w : World) (bytes piece : List ℕ) (clients : ℕ) (value : ScheduleLine) → bytes ≡ piece
    → clients ≡ len (shown w).clients → SpellsOne bytes clients value
    → SpellsOne piece (len (shown w).clients) value
of_piece w bytes piece clients value same count is =
    subst (λ (b : List ℕ). SpellsOne b (len (shown w).clients) value) same
    (subst (λ (n : ℕ). SpellsOne bytes n value) count is)

pub is_done : (w w' : World) (bytes piece : List ℕ) (clients : ℕ) (value : ScheduleLine) (outcome : Report)
    → bytes ≡ piece → clients ≡ len (shown w).clients → SpellsOne bytes clients value
    → Does w value outcome w' → Answers w piece (Ok outcome) w'
is_done w w' bytes piece clients value outcome same count is done =
    let spells = of_piece w bytes piece clients value same count is in does value outcome w' spells.0 spells.1 done

pub too_long : (w : World) (line : Option (List ℕ)) (piece : List ℕ) → line ≡ None → Holds line piece
    → Answers w piece (Err BadLine) w
too_long w line piece none held =
    bad (λ value spells come. let more = long line piece none held in let less = spells.short
    in omega (arith, more, less))

-- nothing was read: the piece spells nothing, or there was no memory for its word or bytes
pub not_read : (w : World) (bytes piece : List ℕ) (clients : ℕ) (errno : Errno) → bytes ≡ piece
    → clients ≡ len (shown w).clients
    → ReadsBy (SpellsOne bytes clients) (λ value. line_holds_text value ≡ true) (Err errno)
    → Answers w piece (Err errno) w
not_read w bytes piece clients errno same count (inl h) =
    subst (λ (e : Errno). Answers w piece (Err e) w) (sym h.0)
    (bad (λ value spells come. h.1 value (of_piece_back value (spells, come))))
  where
    of_piece_back : (value : ScheduleLine) → SpellsOne piece (len (shown w).clients) value
        → SpellsOne bytes clients value
    of_piece_back value is = subst (λ (n : ℕ). SpellsOne bytes n value) (sym count)
        (subst (λ (b : List ℕ). SpellsOne b (len (shown w).clients) value) (sym same) is)
not_read w bytes piece clients errno same count (inr h) =
    subst (λ (e : Errno). Answers w piece (Err e) w) (sym h.0)
    (let spells = of_piece w bytes piece clients h.1 same count h.2 in unread h.1 spells.0 spells.1 h.3)
