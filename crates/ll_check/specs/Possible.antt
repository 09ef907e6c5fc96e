-- What a command may be answered, whatever the tree. own
use Rattle.std.specs.Prelude.{⊤, ◌≡◌, ◌≤◌, ◌⊎◌, ℕ, Bool, true, false, ◌&&◌, ◌||◌, ◌==◌}
use Rattle.ll_rights.specs.Errno.{errno_number}
use Rattle.ll_rights.specs.declared.errno.Errno.{Errno}
use Rattle.ll_rights.specs.declared.errno.Errno.TheVariants.{BadLine}
use Rattle.ll_rights.specs.Kind.{make_right}
use Rattle.ll_rights.specs.Right as right_of
use Rattle.ll_decide.specs.declared.denial.Place.{Place}
use Rattle.ll_decide.specs.declared.denial.Place.TheVariants.{At, Old, New}
use Rattle.ll_seq.specs.Call.{creates, reads, writes}
use Rattle.ll_seq.specs.State.{State}
use Rattle.ll_seq.specs.Step.{step}
use Rattle.ll_seq.specs.declared.call.Call.{Call}
use Rattle.ll_seq.specs.declared.call.Call.TheVariants.{Make, Open, Read, Write, Ftruncate, Close, Truncate, ReadDir}
use Rattle.ll_seq.specs.declared.call.Call.TheVariants.{Stat, Exec, Unlink, Rmdir, Rename, RenameNoreplace, Exchange}
use Rattle.ll_seq.specs.declared.call.Call.TheVariants.{Link, Ruleset, Allow, Confine, Spawn, Connect}
use Rattle.ll_seq.specs.declared.call.Mode.{Mode}
use Rattle.ll_seq.specs.declared.reply.Reply.{Reply}
use Rattle.ll_seq.specs.declared.reply.Reply.TheVariants as reply
use Rattle.ll_wire.specs.declared.first_words.FirstWords.{FirstWords}
use Rattle.ll_wire.specs.declared.first_words.FirstWords.TheVariants as first
use Rattle.ll_wire.specs.declared.first_words.DenialWords.{DenialWords}
use Rattle.ll_wire.specs.declared.first_words.DenialWords.TheVariants as denial
use Rattle.ll_wire.specs.declared.first_words.RefusalWords.{RefusalWords}
use Rattle.ll_wire.specs.declared.first_words.RefusalWords.TheVariants as refusal
use Rattle.ll_check.specs.declared.possible.Form.{Form}
use Rattle.ll_check.specs.declared.possible.Form.TheVariants as form
use Rattle.ll_check.specs.declared.wanted.Wanted.{Wanted}
use Rattle.ll_check.specs.declared.wanted.Wanted.TheVariants.{Success, Allowed, Denied, DeniedRight, DeniedAt, Whole}
use Rattle.ll_check.specs.declared.wanted.Wanted.TheVariants.{First}
use Rattle.ll_check.specs.Wanted.{Satisfies}

-- ---- denials

-- an opening like this may ask for the right
abbrev pub may_open : Mode → ℕ → Bool
may_open mode right =
    ((right == right_of.make_reg) && creates mode.creation) || ((right == right_of.read_file) && reads mode.access)
    || ((right == right_of.write_file) && writes mode.access) || ((right == right_of.truncate) && mode.truncate)

-- it may deny the right of a command with one path or none (for that path, its directory, or an open file)
abbrev pub is_asked : Call → (right : ℕ) → Bool
is_asked (Make kind target) right = right == make_right kind
is_asked (Open mode target) right = may_open mode right
is_asked (Ftruncate fd size) right = right == right_of.truncate
is_asked (Truncate target size) right = right == right_of.truncate
is_asked (ReadDir target) right = right == right_of.read_dir
is_asked (Exec target) right = (right == right_of.execute) || (right == right_of.read_file)
is_asked (Unlink target) right = right == right_of.remove_file
is_asked (Rmdir target) right = right == right_of.remove_dir
is_asked _ right = false

-- asked for the name that is left
abbrev pub is_left_by : (right : ℕ) → Bool
is_left_by right =
    (right == right_of.remove_file) || (right == right_of.remove_dir) || (right == right_of.refer)

-- at the old one of two paths. What an exchange brings back may gain any right
abbrev pub is_asked_old : Call → (right : ℕ) → Bool
is_asked_old (Rename from into) right = is_left_by right
is_asked_old (RenameNoreplace from into) right = is_left_by right
is_asked_old (Exchange from into) right = true
is_asked_old (Link from into) right = right == right_of.refer
is_asked_old _ right = false

-- at the new one: what enters there may gain any right
abbrev pub has_two_paths : Call → Bool
has_two_paths (Rename from into) = true
has_two_paths (RenameNoreplace from into) = true
has_two_paths (Exchange from into) = true
has_two_paths (Link from into) = true
has_two_paths _ = false

-- a layer may deny the command this right at this place
abbrev pub may_deny : Call → (right : ℕ) → Place → Bool
may_deny call right At = is_asked call right
may_deny call right Old = is_asked_old call right
may_deny call right New = has_two_paths call

-- a layer may deny it at some place
abbrev pub may_deny_right : Call → (right : ℕ) → Bool
may_deny_right call right = is_asked call right || is_asked_old call right || has_two_paths call

-- layers have a say in the command
abbrev pub is_deniable : Call → Bool
is_deniable (Read fd offset count) = false
is_deniable (Write fd offset bytes) = false
is_deniable (Close fd) = false
is_deniable (Stat target) = false
is_deniable (Ruleset rights) = false
is_deniable (Allow number target rights) = false
is_deniable (Confine number) = false
is_deniable Spawn = false
is_deniable Connect = false
is_deniable _ = true

-- ---- refusals

-- the numbers of the tree's own refusals
abbrev pub IsOwn : (number : ℕ) → Type 0
IsOwn number = (3 ≤ number) × (number ≤ 20)

-- A test may expect a refusal with this number: the tree's own, or BadLine (23), which a line gets if its client isn't
-- there. HistoryFull (21) and NoMemory (22) say only that the check lacks room or memory, and nothing of the tree
abbrev pub MayRefuse : (number : ℕ) → Type 0
MayRefuse number = IsOwn number ⊎ (number ≡ errno_number BadLine)

-- ---- replies

-- the form of the command's reply if nothing is in its way
abbrev pub success_of : Call → Form
success_of (Open mode target) = form.Opened
success_of (Read fd offset count) = form.Bytes
success_of (Write fd offset bytes) = form.Wrote
success_of (ReadDir target) = form.Listed
success_of (Stat target) = form.Found
success_of (Ruleset rights) = form.Created
success_of Spawn = form.Spawned
success_of _ = form.Done

abbrev pub form_of : Reply → Form
form_of reply.Done = form.Done
form_of (reply.Opened number) = form.Opened
form_of (reply.Bytes bytes) = form.Bytes
form_of (reply.Wrote count) = form.Wrote
form_of (reply.Listed names) = form.Listed
form_of (reply.Found status) = form.Found
form_of (reply.Created number) = form.Created
form_of (reply.Spawned number) = form.Spawned
form_of (reply.Refused errno) = form.Refused
form_of (reply.Denied denial) = form.Denied

abbrev pub form_begun : FirstWords → Form
form_begun first.Done = form.Done
form_begun (first.Opened number) = form.Opened
form_begun (first.Bytes bytes) = form.Bytes
form_begun (first.Wrote count) = form.Wrote
form_begun (first.Listed names) = form.Listed
form_begun (first.Found words) = form.Found
form_begun (first.Created number) = form.Created
form_begun (first.Spawned number) = form.Spawned
form_begun (first.Refused words) = form.Refused
form_begun (first.Denied words) = form.Denied

-- The tree may answer the command so: by a refusal of its own, a denial of a right that a layer may deny it, or the
-- command's own form
abbrev pub MayAnswer : Call → Reply → Type 0
MayAnswer call (reply.Refused errno) = IsOwn (errno_number errno)
MayAnswer call (reply.Denied denial) = may_deny call denial.right denial.place ≡ true
MayAnswer call got = success_of call ≡ form_of got

-- a line with the command may get this reply: such an answer, or BadLine
abbrev pub MayGet : Call → Reply → Type 0
MayGet call (reply.Refused errno) = MayRefuse (errno_number errno)
MayGet call got = MayAnswer call got

-- a refusal that a test may expect may begin so
abbrev pub MayBeRefused : RefusalWords → Type 0
MayBeRefused refusal.Nothing = ⊤
MayBeRefused (refusal.Number number) = MayRefuse number
MayBeRefused (refusal.Whole errno) = MayRefuse (errno_number errno)

-- a denial of the command may begin so
abbrev pub MayBeDenied : Call → DenialWords → Type 0
MayBeDenied call (denial.Right cause layer right) = may_deny_right call right ≡ true
MayBeDenied call (denial.Whole given) = may_deny call given.right given.place ≡ true
MayBeDenied call words = is_deniable call ≡ true

-- such a reply may begin so
abbrev pub MayBegin : Call → FirstWords → Type 0
MayBegin call (first.Refused words) = MayBeRefused words
MayBegin call (first.Denied words) = MayBeDenied call words
MayBegin call words = success_of call ≡ form_begun words

-- such a reply may be as expected
abbrev pub CanCome : Call → Wanted → Type 0
CanCome call Success = ⊤
CanCome call Allowed = ⊤
CanCome call Denied = is_deniable call ≡ true
CanCome call (DeniedRight right) = may_deny_right call right ≡ true
CanCome call (DeniedAt right place) = may_deny call right place ≡ true
CanCome call (Whole given) = MayGet call given
CanCome call (First words) = MayBegin call words

-- every tree answers so
abbrev pub AnswersFit : Type 0
AnswersFit = (s : State) (client fresh : ℕ) (call : Call) → MayAnswer call (step s client call fresh).0

-- Whatever the tree, its answer to the command isn't as expected, and no refusal that a test may expect is
abbrev pub NeverComes : Call → Wanted → Type 0
NeverComes call wanted =
    ((s : State) (client fresh : ℕ) → Satisfies wanted (step s client call fresh).0 → ⊥)
    × ((errno : Errno) → MayRefuse (errno_number errno) → Satisfies wanted (reply.Refused errno) → ⊥)
