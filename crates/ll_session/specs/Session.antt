-- The line that answers each piece in a session. own
use Rattle.std.specs.Prelude.{◌≡◌, ℕ, ◌+◌, ◌-◌, ◌<◌, true, false, List, length, Some, None}
use Rattle.std.specs.Prelude.{slice_get}
use Rattle.std.specs.List.{All}
use Rattle.ll_rights.specs.declared.errno.Errno.TheVariants.{NoMemory, BadLine}
use Rattle.ll_seq.specs.declared.call.Call.{Call}
use Rattle.ll_seq.specs.declared.reply.Reply.{Reply}
use Rattle.ll_seq.specs.declared.reply.Reply.TheVariants.{Refused, Spawned}
use Rattle.ll_seq.specs.History.{is_connect}
pub use Rattle.ll_session.specs.PartySession.{Session, Called}
use Rattle.ll_wire.specs.Grammar.{SpellsCommand, reply_line}
use Rattle.ll_wire.specs.Reads.{holds_text}

-- none is a connect
abbrev pub AreOthers : List Call → Type 0
AreOthers = All (λ call. is_connect call ≡ false)

-- lines name clients by their places
abbrev pub as_written : List ℕ → Reply → Reply
as_written clients (Spawned number) = Spawned (length clients + 1)
as_written clients reply = reply

-- A piece that spells a call of a client of the session gets the reply to that call. If the history has room and the
-- call has a word or bytes, it may get NoMemory instead. Every other piece gets `refused 23 BadLine`
pub data Answers (s : Session) (piece : List ℕ) : Reply → Session → Type 0 where
  calls : (n client : ℕ) (call : Call) (reply : Reply) (t : Session) → SpellsCommand piece n call
      → slice_get s.clients (n - 1) ≡ Some client → Called s client call reply t
      → Answers s piece (as_written s.clients reply) t
  unread : (n client : ℕ) (call : Call) → SpellsCommand piece n call → slice_get s.clients (n - 1) ≡ Some client
      → length s.entries < s.limit → holds_text call ≡ true → Answers s piece (Refused NoMemory) s
  bad : ((n : ℕ) (call : Call) → SpellsCommand piece n call → slice_get s.clients (n - 1) ≡ None)
      → Answers s piece (Refused BadLine) s

-- the piece gets this line
abbrev pub Tells : Session → List ℕ → List ℕ → Session → Type 0
Tells s piece line t = (reply : Reply) × Answers s piece reply t × (line ≡ reply_line reply)
