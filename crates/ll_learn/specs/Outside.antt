-- Moves by clients that a layer isn't on. own
use Rattle.std.specs.Prelude.{ℕ, ◌+◌, Bool, true, false, not, ◌&&◌, List, [], ◌∷◌, Option, Some, None}
use Rattle.std.specs.Prelude.{if◌then◌else◌}
use Rattle.std.specs.Option.{option_or}
use Rattle.ll_seq.specs.declared.reply.Entry.{Entry}
use Rattle.ll_seq.specs.declared.reply.Reply.{Reply}
use Rattle.ll_seq.specs.declared.reply.Reply.TheVariants.{Done}
use Rattle.ll_laws.specs.NoGain.{is_move}
use Rattle.ll_learn.specs.declared.needs.Origin.{Origin}
use Rattle.ll_learn.specs.PassedCalls.{joins}

abbrev pub is_done : Reply → Bool
is_done Done = true
is_done reply = false

-- the entry's call is a move, and it succeeds
abbrev pub is_moved : Entry → Bool
is_moved e = is_move e.call && is_done e.reply

abbrev pub outside_of : (ℕ → Bool) → Entry → Origin → Option Origin
outside_of is_on e origin = if is_moved e && not (is_on e.client) then Some origin else None

-- the first such move among these entries of a history. number: the first entry's
abbrev pub first_outside : (ℕ → Bool) → (history number : ℕ) → List Entry → Option Origin
first_outside is_on history number [] = None
first_outside is_on history number (e ∷ es) =
    option_or (outside_of is_on e (record { history = history; entry = number }))
    (first_outside (joins is_on e) history (number + 1) es)
