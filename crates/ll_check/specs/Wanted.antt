-- What the reply to a command must be, and how that is spelled. own
use Rattle.std.specs.Prelude.{⊤, ◌≡◌, ◌<◌, ℕ, Bool, true, false, List, ◌++◌, codes}
use Rattle.std.specs.List.{join_with_byte}
use Rattle.ll_rights.specs.Right.{right_text}
use Rattle.ll_rights.specs.declared.errno.Errno.TheVariants.{HistoryFull, NoMemory, BadLine}
use Rattle.ll_decide.specs.Denial.{place_text}
use Rattle.ll_decide.specs.declared.denial.Denial.{Denial}
use Rattle.ll_seq.specs.declared.reply.Reply.{Reply}
use Rattle.ll_seq.specs.declared.reply.Reply.TheVariants as reply
use Rattle.ll_wire.specs.FirstWords.{Begins, first_told, first_tokens}
use Rattle.ll_wire.specs.Grammar.{IsReply, reply_tokens}
use Rattle.ll_wire.specs.declared.first_words.FirstWords.TheVariants as first
use Rattle.ll_check.specs.declared.wanted.Wanted.{Wanted}
use Rattle.ll_check.specs.declared.wanted.Wanted.TheVariants.{Success, Allowed, Denied, DeniedRight, DeniedAt, Whole}
use Rattle.ll_check.specs.declared.wanted.Wanted.TheVariants.{First}

-- neither a refusal nor a denial
abbrev pub is_success : Reply → Bool
is_success (reply.Refused errno) = false
is_success (reply.Denied denial) = false
is_success _ = true

-- The tree's own reply, and no layer denies the call. (HistoryFull, NoMemory and a client that doesn't exist aren't the
-- tree's replies)
abbrev pub is_allowed : Reply → Bool
is_allowed (reply.Denied denial) = false
is_allowed (reply.Refused HistoryFull) = false
is_allowed (reply.Refused NoMemory) = false
is_allowed (reply.Refused BadLine) = false
is_allowed _ = true

-- the reply is as expected
abbrev pub Satisfies : Wanted → Reply → Type 0
Satisfies Success got = is_success got ≡ true
Satisfies Allowed got = is_allowed got ≡ true
Satisfies Denied got = (denial : Denial) × (got ≡ reply.Denied denial)
Satisfies (DeniedRight right) got = (denial : Denial) × (got ≡ reply.Denied denial) × (denial.right ≡ right)
Satisfies (DeniedAt right place) got =
    (denial : Denial) × (got ≡ reply.Denied denial) × (denial.right ≡ right) × (denial.place ≡ place)
Satisfies (Whole given) got = got ≡ given
Satisfies (First words) got = Begins words got

-- a denial is expected, or the first words of one
abbrev pub wants_denial : Wanted → Bool
wants_denial Denied = true
wants_denial (DeniedRight right) = true
wants_denial (DeniedAt right place) = true
wants_denial (Whole (reply.Denied denial)) = true
wants_denial (First (first.Denied told)) = true
wants_denial _ = false

-- when an expectation has a spelling after a command, and its text. Without one, success is expected
abbrev pub wanted_told : Wanted → Type 0 × List ℕ
wanted_told Success = (⊥, codes "neither refused nor denied")
wanted_told Allowed = (⊤, codes "allowed")
wanted_told Denied = (⊤, codes "denied")
wanted_told (DeniedRight right) = (right < 15, codes "denied " ++ right_text right)
wanted_told (DeniedAt right place) =
    (right < 15, codes "denied " ++ (right_text right ++ (codes " " ++ place_text place)))
wanted_told (Whole given) = (IsReply given, join_with_byte 32 (reply_tokens given))
wanted_told (First words) = ((first_told words).0, join_with_byte 32 (first_tokens words) ++ codes " ..")

abbrev pub wanted_text : Wanted → List ℕ
wanted_text wanted = (wanted_told wanted).1

abbrev pub SpellsWanted : List ℕ → Wanted → Type 0
SpellsWanted text wanted = (wanted_told wanted).0 × (text ≡ wanted_text wanted)

-- ---- parts, which no public contract cites

-- it is expected of the layers
abbrev pub is_of_layers : Wanted → Bool
is_of_layers Allowed = true
is_of_layers Denied = true
is_of_layers (DeniedRight right) = true
is_of_layers (DeniedAt right place) = true
is_of_layers _ = false

abbrev pub SpellsVerdict : List ℕ → Wanted → Type 0
SpellsVerdict text wanted = SpellsWanted text wanted × (is_of_layers wanted ≡ true)
