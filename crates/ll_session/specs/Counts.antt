-- What sessions count, and how far they are. own
use Rattle.std.specs.Prelude.{◌≡◌, ◌+◌, ◌&&◌, ℕ, Bool, false, Option, Some, None, cond}
use Rattle.ll_seq.specs.declared.reply.Reply.{Reply}
use Rattle.ll_seq.specs.declared.reply.Reply.TheVariants.{Denied}
use Rattle.ll_session.specs.declared.score.Score.{Score}
use Rattle.ll_session.specs.declared.stop.Stop.{Stop}
use Rattle.ll_session.specs.declared.stop.Stop.TheVariants.{AtLine}
use Rattle.ll_session.specs.declared.tally.Tally.{Tally}

abbrev pub nothing : Tally
nothing = record { lines = 0; denials = 0 }

-- how much this reply adds to the denials
abbrev pub denied : Reply → ℕ
denied (Denied denial) = 1
denied reply = 0

-- one more line, answered with this reply
abbrev pub counted : Tally → Reply → Tally
counted t reply = record { lines = t.lines + 1; denials = t.denials + denied reply }

-- no line is answered yet
abbrev pub first_score : (strict : Bool) → Score
first_score strict = record { is_strict = strict; tally = nothing; end = None }

-- this reply is counted; in a strict session it is the end if `is_end`
abbrev pub noted : Score → Reply → (is_end : Bool) → Score
noted s reply is_end = record {
  is_strict = s.is_strict;
  tally = counted s.tally reply;
  end = cond (s.is_strict && is_end) (Some reply) s.end;
}

-- what ended a session after this many lines, if this reply did
abbrev pub stop_at : ℕ → Option Reply → Option Stop
stop_at lines None = None
stop_at lines (Some reply) = Some (AtLine lines reply)

abbrev pub stop_of : Score → Option Stop
stop_of s = stop_at s.tally.lines s.end

-- a session stays strict or not, and no reply ends one that isn't strict
abbrev pub StaysAs : Score → Score → Type 0
StaysAs s t = (t.is_strict ≡ s.is_strict) × (s.is_strict ≡ false → t.end ≡ s.end)
