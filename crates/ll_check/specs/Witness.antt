-- What makes a test pass: an entry of the history of its section's tree. own
use Rattle.std.specs.Prelude.{◌≡◌, ◌-◌, ◌==◌, ℕ, Bool, true, false, List, Some, map, slice_get}
use Rattle.std.specs.List.{AllByRecursion}
use Rattle.std.specs.declared.alloc.Global.{Global}
use Rattle.std.specs.declared.vec.Vec.{Vec}
use Rattle.ll_rights.specs.Errno.{errno_number}
use Rattle.ll_rights.specs.declared.errno.Errno.TheVariants.{BadLine}
use Rattle.ll_seq.specs.History.{IsLegal}
use Rattle.ll_seq.specs.State.{start}
use Rattle.ll_seq.specs.declared.reply.Entry.{Entry}
use Rattle.ll_seq.specs.declared.reply.Reply.{Reply}
use Rattle.ll_seq.specs.declared.reply.Reply.TheVariants as reply
use Rattle.ll_wire.specs.declared.first_words.FirstWords.TheVariants as first
use Rattle.ll_wire.specs.declared.first_words.RefusalWords.TheVariants as refusal
use Rattle.ll_session.specs.CallsRun.{Replied}
use Rattle.ll_session.specs.FirstClients.{Opens, begun}
use Rattle.ll_session.specs.PartySession.{Session}
use Rattle.ll_session.specs.declared.calls_run.CallReplies.TheVariants.{Answered}
use Rattle.ll_session.specs.declared.client_call.ClientCall.{ClientCall}
use Rattle.ll_session.specs.declared.setup.Setup.{Setup}
use Rattle.ll_check.specs.declared.check_text.Test.{Test}
use Rattle.ll_check.specs.declared.reporter.Style.{Style}
use Rattle.ll_check.specs.declared.reporter.Tally.{Tally}
use Rattle.ll_check.specs.declared.wanted.Wanted.{Wanted}
use Rattle.ll_check.specs.declared.wanted.Wanted.TheVariants.{Whole, First}
use Rattle.ll_check.specs.Checks.{Tests}
use Rattle.ll_check.specs.Files.{AreTestsIn, Source}
use Rattle.ll_check.specs.Report.{AreJudged, IsChecked, Judged, passed}

-- BadLine is expected, which a line gets if its client isn't there
abbrev pub wants_bad_line : Wanted → Bool
wants_bad_line (Whole (reply.Refused errno)) = errno_number errno == errno_number BadLine
wants_bad_line (First (first.Refused (refusal.Number number))) = number == errno_number BadLine
wants_bad_line (First (first.Refused (refusal.Whole errno))) = errno_number errno == errno_number BadLine
wants_bad_line _ = false

-- the same reply; a line names a new client by its place among these, and an entry by its number
abbrev pub SameReply : (clients : List ℕ) → (told entered : Reply) → Type 0
SameReply clients (reply.Spawned place) (reply.Spawned number) = slice_get clients (place - 1) ≡ Some number
SameReply clients told entered = told ≡ entered

-- the entry has the call, by the client at the call's place among these, and this reply
pub record IsEntryOf (clients : List ℕ) (made : ClientCall) (told : Reply) (e : Entry) : Type 0 where
  pub caller : slice_get clients (made.client - 1) ≡ Some e.client
  pub call : e.call ≡ made.call
  pub reply : SameReply clients told e.reply

-- if the test passes without expecting BadLine, one of the entries has its call and its reply
abbrev pub PassesByEntry : (clients : List ℕ) → List Entry → Judged → Type 0
PassesByEntry clients entries it =
    it.passes ≡ true → wants_bad_line it.test.wanted ≡ false
    → (number : ℕ) × (e : Entry) × (slice_get entries number ≡ Some e) × IsEntryOf clients it.test.call it.reply e

-- The calls of the tests get these replies in a session with this setup. The entries that it leaves are a legal history
-- of its tree. By the replies so many tests pass, and each of these by an entry
pub record AreWitnessed (setup : Setup) (tests : List Test) (replies : List Reply) (entries : List Entry)
    (tally : Tally) : Type 0 where
  pub first : Session
  pub last : Session
  pub opens : Opens setup (begun first)
  pub replied : Replied first (map (λ test. test.call) tests) replies last
  pub left : entries ≡ last.entries
  pub legal : IsLegal (start setup.rules setup.nodes) entries
  pub verdicts : List Judged
  pub judged : AreJudged tests replies verdicts
  pub count : tally.passed ≡ passed verdicts
  pub each : AllByRecursion (PassesByEntry last.clients entries) verdicts

-- A test that passes, passes by an entry of the legal history of its section's tree, unless it expects BadLine. So
-- neither HistoryFull nor NoMemory makes a test pass, and BadLine none that expects something else
abbrev pub TestsPassByEntries : Type 0
TestsPassByEntries =
    (sources : List Source) (files : List Tests) (index : ℕ) (file : Tests) → AreTestsIn sources files
    → slice_get files index ≡ Some file
    → (style : Style) (setup : Setup) (replies : Vec Reply Global) (entries : List Entry) (before after : List ℕ)
    (tally : Tally)
    → IsChecked style setup file.name file.section file.tests (Answered replies) entries before after tally
    → AreWitnessed setup file.tests replies.items entries tally
