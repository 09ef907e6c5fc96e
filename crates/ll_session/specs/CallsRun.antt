-- A run of calls: each gets the reply that a script's line with this call would get. own
use Rattle.std.specs.Prelude.{◌≡◌, ℕ, List, [], ◌∷◌, ◌++◌, map}
use Rattle.std.specs.List.{flat_map}
use Rattle.ll_seq.specs.declared.reply.Entry.{Entry}
use Rattle.ll_seq.specs.declared.reply.Reply.{Reply}
use Rattle.ll_client.specs.Entries.{Knows}
use Rattle.ll_wire.specs.Grammar.{call_tokens, client_tokens, line_of, reply_line}
use Rattle.ll_wire.specs.Transcript.{Transcript}
use Rattle.ll_session.specs.Beside.{AnswersBeside}
use Rattle.ll_session.specs.FirstClients.{Opens, begun, refused}
use Rattle.ll_session.specs.PartySession.{Session}
use Rattle.ll_session.specs.Progress.{without}
use Rattle.ll_session.specs.Session.{Answers, Tells}
use Rattle.ll_session.specs.declared.calls_run.CallReplies.{CallReplies}
use Rattle.ll_session.specs.declared.calls_run.CallReplies.TheVariants.{Answered, Refused}
use Rattle.ll_session.specs.declared.client_call.ClientCall.{ClientCall}
use Rattle.ll_session.specs.declared.setup.Setup.{Setup}

-- the line that spells the call
abbrev pub call_line : ClientCall → List ℕ
call_line made = line_of (client_tokens made.client ++ call_tokens made.call)

-- each call in turn gets the reply that its line would get
abbrev pub Replied : Session → List ClientCall → List Reply → Session → Type 0
Replied s [] [] t = t ≡ s
Replied s [] (reply ∷ replies) t = ⊥
Replied s (made ∷ calls) [] t = ⊥
Replied s (made ∷ calls) (reply ∷ replies) t =
    (mid : Session) × Answers s (call_line made) reply mid × Replied mid calls replies t

-- The session is opened, and each call gets its reply; or the opening is refused like this. These entries are left
abbrev pub Makes : Setup → List ClientCall → CallReplies → List Entry → Type 0
Makes setup calls (Answered replies) entries =
    (first last : Session) × Opens setup (begun first) × Replied first calls replies.items last
    × (entries ≡ last.entries)
Makes setup calls (Refused refusal) entries =
    (last : Session) × Opens setup (refused refusal last) × (entries ≡ last.entries)

-- for the lines of the calls, a session writes the lines of the replies
abbrev pub LinesGetTheReplies : Type 0
LinesGetTheReplies =
    (s t : Session) (calls : List ClientCall) (replies : List Reply) → Replied s calls replies t
    → Transcript Tells s (map call_line calls) (flat_map reply_line replies) t

-- ---- parts, which no public contract cites

-- each call in turn gets its reply while others call; the first `before` clients came before the session
abbrev pub RepliedBeside : (limit before : ℕ) → List Knows → List ClientCall → List Reply → List Knows → Type 0
RepliedBeside limit before ks [] [] ks' = ks' ≡ ks
RepliedBeside limit before ks [] (reply ∷ replies) ks' = ⊥
RepliedBeside limit before ks (made ∷ calls) [] ks' = ⊥
RepliedBeside limit before ks (made ∷ calls) (reply ∷ replies) ks' =
    (mid : List Knows) × AnswersBeside limit before ks (call_line made) reply mid
    × RepliedBeside limit before mid calls replies ks'

-- each call of the session gets its reply
abbrev pub RepliesTo : ℕ → List ClientCall → List Reply → (s t : Session) → Type 0
RepliesTo before calls replies s t = Replied (without before s) calls replies (without before t)
