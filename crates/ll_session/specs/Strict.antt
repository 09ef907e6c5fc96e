-- Strict runs: they end at the first line that isn't a command, so that nothing goes on with fewer layers than asked
-- for. own
use Rattle.std.specs.Prelude.{◌≡◌, ◌⊎◌, ◌&&◌, ℕ, Bool, true, false, List, ◌++◌, length, Option, Some, None, is_some}
use Rattle.ll_rights.specs.declared.errno.Errno.TheVariants.{BadLine, HistoryFull, NoMemory}
use Rattle.ll_seq.specs.declared.call.Call.{Call}
use Rattle.ll_seq.specs.declared.call.Call.TheVariants.{Allow, Confine, Ruleset, Spawn}
use Rattle.ll_seq.specs.declared.reply.Entry.{Entry}
use Rattle.ll_seq.specs.declared.reply.Reply.{Reply}
use Rattle.ll_seq.specs.declared.reply.Reply.TheVariants.{Refused}
use Rattle.ll_wire.specs.Devices.{Devices}
use Rattle.ll_wire.specs.Reached.{AnswersAll, AnswersFirst}
use Rattle.ll_wire.specs.Transcript.{Transcript}
use Rattle.ll_plain.specs.Refusal.{is_refusal}
use Rattle.ll_session.specs.PartySession.{Session}
use Rattle.ll_wire.specs.Grammar.{SpellsCommand, reply_line}
use Rattle.ll_wire.specs.Pieces.{pieces}
use Rattle.ll_session.specs.Counts.{counted}
use Rattle.ll_session.specs.FirstClients.{Opens, begun, refused}
use Rattle.ll_session.specs.Session.{Answers}
use Rattle.ll_session.specs.declared.score.Score.{Score}
use Rattle.ll_session.specs.declared.setup.Setup.{Setup}
use Rattle.ll_session.specs.declared.stop.Stop.{Stop}
use Rattle.ll_session.specs.declared.stop.Stop.TheVariants.{AtOpening, AtLine}

-- the calls that set up layers, or create clients that have them
abbrev pub is_of_layers : Call → Bool
is_of_layers (Ruleset rights) = true
is_of_layers (Allow number target rights) = true
is_of_layers (Confine number) = true
is_of_layers Spawn = true
is_of_layers call = false

-- this reply ends a strict run, for a call that sets up layers or for another one
abbrev pub ends_strictly : (of_layers : Bool) → Reply → Bool
ends_strictly of_layers (Refused BadLine) = true
ends_strictly of_layers (Refused HistoryFull) = true
ends_strictly of_layers (Refused NoMemory) = true
ends_strictly of_layers reply = of_layers && is_refusal reply

-- this reply to the call ends a strict run
abbrev pub is_end : Call → Reply → Bool
is_end call reply = ends_strictly (is_of_layers call) reply

-- the reply to this piece, if it ends a strict run
abbrev pub IsEnd : (piece : List ℕ) → Reply → Option Reply → Type 0
IsEnd piece reply None = (n : ℕ) × (call : Call) × SpellsCommand piece n call × (is_end call reply ≡ false)
IsEnd piece reply (Some last) =
    (last ≡ reply) × ((reply ≡ Refused BadLine)
    ⊎ ((n : ℕ) × (call : Call) × SpellsCommand piece n call × (is_end call reply ≡ true)))

-- the reply that ends a session, strict or not: none ends one that isn't strict
abbrev pub EndsAt : (strict : Bool) → (piece : List ℕ) → Reply → Option Reply → Type 0
EndsAt false piece reply end = end ≡ None
EndsAt true piece reply end = IsEnd piece reply end

module _ {S : Type 0} (Answers : S → List ℕ → Reply → S → Type 0) where
  -- if no reply has ended the run yet, the piece gets this line, and its reply may end it
  abbrev pub GoesOn : S × Option Reply → (piece line : List ℕ) → S × Option Reply → Type 0
  GoesOn s piece line t =
      (s.1 ≡ None) × ((reply : Reply) × Answers s.0 piece reply t.0 × (line ≡ reply_line reply) × IsEnd piece reply t.1)

  -- so does a piece of a session that counts its replies, strict or not
  abbrev pub Scores : S × Score → (piece line : List ℕ) → S × Score → Type 0
  Scores s piece line t =
      (s.1.end ≡ None) × ((reply : Reply) × Answers s.0 piece reply t.0 × (line ≡ reply_line reply)
      × EndsAt s.1.is_strict piece reply t.1.end × (t.1.tally ≡ counted s.1.tally reply)
      × (t.1.is_strict ≡ s.1.is_strict))

  -- lines are answered from s to t: all of them, or those up to the one that ended the session
  abbrev pub ScoresTo : (s t : S × Score) → (old new : Devices) → Type 0
  ScoresTo s t old new =
      (is_some t.1.end ≡ false → AnswersAll Scores s t old new)
      × (is_some t.1.end ≡ true → AnswersFirst Scores s t old new)

-- the lines of a strict session on a tree that nobody else calls
abbrev pub TellsStrictly : Session × Option Reply → (piece line : List ℕ) → Session × Option Reply → Type 0
TellsStrictly = GoesOn Answers

-- A strict run over these pieces writes the replies to all, or to those up to the line that ends it; or the refusal of
-- its opening. Lines are counted from 1
abbrev pub RunsStrictlyOver : Setup → List (List ℕ) → List ℕ → Option Stop → Session → Type 0
RunsStrictlyOver setup pieces text None last =
    (first : Session) × Opens setup (begun first) × Transcript TellsStrictly (first, None) pieces text (last, None)
RunsStrictlyOver setup pieces text (Some (AtLine line reply)) last =
    (first : Session) × (done more : List (List ℕ)) × Opens setup (begun first) × (pieces ≡ done ++ more)
    × (line ≡ length done) × Transcript TellsStrictly (first, None) done text (last, Some reply)
RunsStrictlyOver setup pieces text (Some (AtOpening refusal)) last =
    Opens setup (refused refusal last) × (text ≡ reply_line refusal.reply)

-- a strict run leaves these entries
abbrev pub RunsStrictly : Setup → (input text : List ℕ) → Option Stop → List Entry → Type 0
RunsStrictly setup input text stop entries =
    (last : Session) × RunsStrictlyOver setup (pieces input) text stop last × (entries ≡ last.entries)
