-- The first words of a reply: how they are spelled, and which replies begin with them. own
use Rattle.std.specs.Prelude.{◌≡◌, ⊤, ℕ, ◌^◌, ◌<◌, ◌≤◌, Bool, true, false, List, [], ◌∷◌, ◌++◌, Option, None, Some}
use Rattle.std.specs.Prelude.{codes, decimal}
use Rattle.std.specs.List.{join_with_byte}
use Rattle.ll_rights.specs.Errno.{errno_number, errno_text}
use Rattle.ll_rights.specs.Kind.{kind_text}
use Rattle.ll_rights.specs.Right.{right_text}
use Rattle.ll_rights.specs.declared.errno.Errno.{Errno}
use Rattle.ll_decide.specs.Denial.{cause_errno, place_text}
use Rattle.ll_decide.specs.declared.denial.Denial.{Denial}
use Rattle.ll_seq.specs.Listed.{IsData, AreListed}
use Rattle.ll_seq.specs.declared.reply.Reply.{Reply}
use Rattle.ll_seq.specs.declared.reply.Reply.TheVariants as replies
use Rattle.ll_seq.specs.declared.reply.Status.{Status}
use Rattle.ll_wire.specs.Grammar.{IsU64, data_text}
use Rattle.ll_wire.specs.declared.first_words.FirstWords.{FirstWords}
use Rattle.ll_wire.specs.declared.first_words.FirstWords.TheVariants.{Done, Opened, Bytes, Wrote, Listed, Found}
use Rattle.ll_wire.specs.declared.first_words.FirstWords.TheVariants.{Created, Spawned, Refused, Denied}
use Rattle.ll_wire.specs.declared.first_words.StatusWords.{StatusWords}
use Rattle.ll_wire.specs.declared.first_words.StatusWords.TheVariants as status
use Rattle.ll_wire.specs.declared.first_words.RefusalWords.{RefusalWords}
use Rattle.ll_wire.specs.declared.first_words.RefusalWords.TheVariants as refusal
use Rattle.ll_wire.specs.declared.first_words.DenialWords.{DenialWords}
use Rattle.ll_wire.specs.declared.first_words.DenialWords.TheVariants as denial

-- ---- the words after a reply's name: when they have a spelling, and their tokens

abbrev pub number_told : Option ℕ → Type 0 × List (List ℕ)
number_told None = (⊤, [])
number_told (Some number) = (IsU64 number, decimal number ∷ [])

abbrev pub bytes_told : Option (List ℕ) → Type 0 × List (List ℕ)
bytes_told None = (⊤, [])
bytes_told (Some bytes) = (IsData bytes, data_text bytes ∷ [])

abbrev pub status_told : StatusWords → Type 0 × List (List ℕ)
status_told status.Nothing = (⊤, [])
status_told (status.Inode inode) = (IsU64 inode, decimal inode ∷ [])
status_told (status.Kind inode kind) = (IsU64 inode, decimal inode ∷ kind_text kind ∷ [])
status_told (status.Size inode kind size) =
    (IsU64 inode × IsU64 size, decimal inode ∷ kind_text kind ∷ decimal size ∷ [])
status_told (status.Whole s) = (
  IsU64 s.inode × IsU64 s.size × IsU64 s.links,
  decimal s.inode ∷ kind_text s.kind ∷ decimal s.size ∷ decimal s.links ∷ [],
)

abbrev pub refusal_told : RefusalWords → Type 0 × List (List ℕ)
refusal_told refusal.Nothing = (⊤, [])
refusal_told (refusal.Number number) = ((3 ≤ number) × (number ≤ 23), decimal number ∷ [])
refusal_told (refusal.Whole errno) = (
  (3 ≤ errno_number errno) × (errno_number errno ≤ 23),
  decimal (errno_number errno) ∷ errno_text errno ∷ [],
)

abbrev pub denial_told : DenialWords → Type 0 × List (List ℕ)
denial_told denial.Nothing = (⊤, [])
denial_told (denial.Cause cause) = (⊤, errno_text (cause_errno cause) ∷ [])
denial_told (denial.Layer cause) = (⊤, errno_text (cause_errno cause) ∷ codes "layer" ∷ [])
denial_told (denial.Number cause layer) =
    (IsU64 layer, errno_text (cause_errno cause) ∷ codes "layer" ∷ decimal layer ∷ [])
denial_told (denial.Right cause layer right) = (
  IsU64 layer × (right < 15),
  errno_text (cause_errno cause) ∷ codes "layer" ∷ decimal layer ∷ right_text right ∷ [],
)
denial_told (denial.Whole d) = (
  IsU64 d.layer × (d.right < 15),
  errno_text (cause_errno d.cause) ∷ codes "layer" ∷ decimal d.layer ∷ right_text d.right ∷ place_text d.place ∷ [],
)

-- ---- the words with the reply's name before them

abbrev pub named : List ℕ → Type 0 × List (List ℕ) → Type 0 × List (List ℕ)
named name told = (told.0, name ∷ told.1)

-- when first words have a spelling, and their tokens
abbrev pub first_told : FirstWords → Type 0 × List (List ℕ)
first_told Done = (⊤, codes "ok" ∷ [])
first_told (Opened number) = named (codes "fd") (number_told number)
first_told (Bytes bytes) = named (codes "data") (bytes_told bytes)
first_told (Wrote count) = named (codes "wrote") (number_told count)
first_told (Listed names) = (AreListed names, codes "names" ∷ names)
first_told (Found words) = named (codes "stat") (status_told words)
first_told (Created number) = named (codes "ruleset") (number_told number)
first_told (Spawned number) = named (codes "client") (number_told number)
first_told (Refused words) = named (codes "refused") (refusal_told words)
first_told (Denied words) = named (codes "denied") (denial_told words)

abbrev pub first_tokens : FirstWords → List (List ℕ)
first_tokens words = (first_told words).1

-- the text is these words, with a space (32) between any two
abbrev pub SpellsFirst : List ℕ → FirstWords → Type 0
SpellsFirst text words = (first_told words).0 × (text ≡ join_with_byte 32 (first_tokens words))

-- they include names or bytes
abbrev pub holds_text : FirstWords → Bool
holds_text (Bytes (Some bytes)) = true
holds_text (Listed names) = true
holds_text _ = false

-- ---- which replies begin with them

abbrev pub BeginsNumber : Option ℕ → ℕ → Type 0
BeginsNumber None number = ⊤
BeginsNumber (Some given) number = number ≡ given

abbrev pub BeginsBytes : Option (List ℕ) → List ℕ → Type 0
BeginsBytes None bytes = ⊤
BeginsBytes (Some given) bytes = bytes ≡ given

abbrev pub IsFrontOf : List (List ℕ) → List (List ℕ) → Type 0
IsFrontOf front names = (more : List (List ℕ)) × (names ≡ front ++ more)

abbrev pub BeginsStatus : StatusWords → Status → Type 0
BeginsStatus status.Nothing s = ⊤
BeginsStatus (status.Inode inode) s = s.inode ≡ inode
BeginsStatus (status.Kind inode kind) s = (s.inode ≡ inode) × (s.kind ≡ kind)
BeginsStatus (status.Size inode kind size) s = (s.inode ≡ inode) × (s.kind ≡ kind) × (s.size ≡ size)
BeginsStatus (status.Whole given) s = s ≡ given

-- without a number, the tree's own refusal is meant: neither HistoryFull, NoMemory nor BadLine
abbrev pub BeginsRefusal : RefusalWords → Errno → Type 0
BeginsRefusal refusal.Nothing errno = errno_number errno ≤ 20
BeginsRefusal (refusal.Number number) errno = errno_number errno ≡ number
BeginsRefusal (refusal.Whole given) errno = errno ≡ given

abbrev pub BeginsDenial : DenialWords → Denial → Type 0
BeginsDenial denial.Nothing d = ⊤
BeginsDenial (denial.Cause cause) d = d.cause ≡ cause
BeginsDenial (denial.Layer cause) d = d.cause ≡ cause
BeginsDenial (denial.Number cause layer) d = (d.cause ≡ cause) × (d.layer ≡ layer)
BeginsDenial (denial.Right cause layer right) d = (d.cause ≡ cause) × (d.layer ≡ layer) × (d.right ≡ right)
BeginsDenial (denial.Whole given) d = d ≡ given

-- the reply has this name, and these words after it
abbrev pub Begins : FirstWords → Reply → Type 0
Begins Done replies.Done = ⊤
Begins (Opened number) (replies.Opened got) = BeginsNumber number got
Begins (Bytes bytes) (replies.Bytes got) = BeginsBytes bytes got
Begins (Wrote count) (replies.Wrote got) = BeginsNumber count got
Begins (Listed names) (replies.Listed got) = IsFrontOf names got
Begins (Found words) (replies.Found got) = BeginsStatus words got
Begins (Created number) (replies.Created got) = BeginsNumber number got
Begins (Spawned number) (replies.Spawned got) = BeginsNumber number got
Begins (Refused words) (replies.Refused got) = BeginsRefusal words got
Begins (Denied words) (replies.Denied got) = BeginsDenial words got
Begins words reply = ⊥

-- ---- parts, which no public contract cites

abbrev pub SpellsNumberWords : List (List ℕ) → Option ℕ → Type 0
SpellsNumberWords tokens words = (number_told words).0 × (tokens ≡ (number_told words).1)

abbrev pub SpellsStatusWords : List (List ℕ) → StatusWords → Type 0
SpellsStatusWords tokens words = (status_told words).0 × (tokens ≡ (status_told words).1)

abbrev pub SpellsRefusalWords : List (List ℕ) → RefusalWords → Type 0
SpellsRefusalWords tokens words = (refusal_told words).0 × (tokens ≡ (refusal_told words).1)

abbrev pub SpellsDenialWords : List (List ℕ) → DenialWords → Type 0
SpellsDenialWords tokens words = (denial_told words).0 × (tokens ≡ (denial_told words).1)

abbrev pub SpellsFirstTokens : List (List ℕ) → FirstWords → Type 0
SpellsFirstTokens tokens words = (first_told words).0 × (tokens ≡ first_tokens words)

-- they include neither names nor bytes
abbrev pub SpellsShortWords : List (List ℕ) → FirstWords → Type 0
SpellsShortWords tokens words = SpellsFirstTokens tokens words × (holds_text words ≡ false)
