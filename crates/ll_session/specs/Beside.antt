-- A session whose clients call while others call on the same tree: how its clients change, in terms of what each of
-- them knows. own
use Rattle.std.specs.Prelude.{◌≡◌, ◌⊎◌, ℕ, ◌+◌, ◌-◌, ◌<◌, ◌≤◌, true, false, List, [], ◌∷◌, length}
use Rattle.ll_rights.specs.declared.errno.Errno.TheVariants.{HistoryFull, NoMemory, BadLine}
use Rattle.ll_seq.specs.declared.call.Call.{Call}
use Rattle.ll_seq.specs.declared.reply.Reply.{Reply}
use Rattle.ll_seq.specs.declared.reply.Reply.TheVariants.{Refused, Spawned}
use Rattle.ll_plain.specs.Refusal.{is_refusal}
use Rattle.ll_client.specs.Entries.{Knows}
use Rattle.ll_session.specs.Counts.{counted}
use Rattle.ll_session.specs.Talk.{AsksFor, Looks, seen_by}
use Rattle.ll_session.specs.declared.tally.Tally.{Tally}
use Rattle.ll_wire.specs.Grammar.{SpellsCommand, reply_line}
use Rattle.ll_wire.specs.Reads.{holds_text}

-- with this many clients, lines name the newest by its place
abbrev pub placed : ℕ → Reply → Reply
placed clients (Spawned number) = Spawned clients
placed clients reply = reply

-- The first `before` clients came before the session; lines name the others by place. A piece that spells a call of one
-- of these gets its reply. If there is no memory for the piece's words or bytes, it gets HistoryFull if the history is
-- full, and else NoMemory. Every other piece gets `refused 23 BadLine`
pub data AnswersBeside (limit before : ℕ) (ks : List Knows) (piece : List ℕ) : Reply → List Knows → Type 0 where
  calls : (n : ℕ) (call : Call) (reply : Reply) (ks' : List Knows) → SpellsCommand piece n call
      → before + n ≤ length ks → AsksFor limit ks (before + n - 1) call reply ks'
      → AnswersBeside limit before ks piece (placed (length ks' - before) reply) ks'
  full : (n : ℕ) (call : Call) (ks' : List Knows) → SpellsCommand piece n call → before + n ≤ length ks
      → holds_text call ≡ true → Looks ks ks' → limit ≤ seen_by ks'
      → AnswersBeside limit before ks piece (Refused HistoryFull) ks'
  unread : (n : ℕ) (call : Call) (ks' : List Knows) → SpellsCommand piece n call → before + n ≤ length ks
      → holds_text call ≡ true → Looks ks ks' → seen_by ks' < limit
      → AnswersBeside limit before ks piece (Refused NoMemory) ks'
  bad : ((n : ℕ) (call : Call) → SpellsCommand piece n call → length ks < before + n)
      → AnswersBeside limit before ks piece (Refused BadLine) ks

-- the piece gets this line, and its reply is counted
abbrev pub CountsBeside : (limit before : ℕ) → List Knows × Tally → (piece line : List ℕ) → List Knows × Tally → Type 0
CountsBeside limit before s piece line t =
    (reply : Reply) × AnswersBeside limit before s.0 piece reply t.0 × (line ≡ reply_line reply)
    × (t.1 ≡ counted s.1 reply)

-- the client at this place makes these calls in turn, and none is refused
abbrev pub MakesBeside : (limit : ℕ) → List Knows → (place : ℕ) → List Call → List Knows → Type 0
MakesBeside limit ks place [] ks' = ks' ≡ ks
MakesBeside limit ks place (call ∷ list) ks' =
    (reply : Reply) × (mid : List Knows) × AsksFor limit ks place call reply mid × (is_refusal reply ≡ false)
    × MakesBeside limit mid place list ks'

-- the first of them that is refused is the one with this number, from 1, and gets this reply
abbrev pub StopsBeside : (limit : ℕ) → List Knows → (place : ℕ) → List Call → (number : ℕ) → Reply → List Knows → Type 0
StopsBeside limit ks place [] number reply ks' = ⊥
StopsBeside limit ks place (call ∷ list) number reply ks' =
    (told : Reply) × (mid : List Knows) × AsksFor limit ks place call told mid
    × (((is_refusal told ≡ true) × (number ≡ 1) × (reply ≡ told) × (ks' ≡ mid))
    ⊎ ((is_refusal told ≡ false) × (later : ℕ) × (number ≡ later + 1)
    × StopsBeside limit mid place list later reply ks'))
