-- How an export ends whose profile must pass checks. own
use Rattle.std.specs.Prelude.{⊤, ◌≡◌, ◌≢◌, ◌⊎◌, ℕ, true, false, List, Option, Some, None, Result, Ok, Err, length}
use Rattle.std.specs.Prelude.{map}
use Rattle.std.specs.List.{AllByRecursion, AllZip}
use Rattle.std.specs.declared.alloc.Global.{Global}
use Rattle.std.specs.declared.vec.Vec.{Vec}
use Rattle.std.specs.Io.KnownBytes.{Keeps}
use Rattle.ll_rights.specs.declared.limits.TheConstants.{TREE_NODES}
use Rattle.ll_seq.specs.declared.reply.Entry.{Entry}
use Rattle.ll_seq.specs.declared.reply.Reply.{Reply}
use Rattle.ll_session.specs.CallsRun.{Makes}
use Rattle.ll_session.specs.declared.calls_run.CallReplies.TheVariants.{Answered}
use Rattle.ll_session.specs.declared.setup.Setup.{Setup}
use Rattle.ll_program.specs.Options.{CheckOrder, ExportOrder, checked_tree}
use Rattle.ll_program.specs.Policy.{IsSetup}
use Rattle.ll_program.specs.declared.conclusion.Conclusion.{Conclusion}
use Rattle.ll_program.specs.declared.conclusion.Conclusion.TheVariants.{Checked, Differs, Done, Judged, Stopped}
use Rattle.ll_program.specs.declared.checked.Checked.TheVariants.{Passed}
use Rattle.ll_program.specs.declared.report.ReportForm.TheVariants.{Text}
use Rattle.ll_program.specs.declared.failure.Failure.{Failure}
use Rattle.ll_program.specs.declared.failure.Failure.TheVariants.{Output}
use Rattle.ll_check.specs.Checks.{Tests, has_test}
use Rattle.ll_check.specs.Ends.{IsCheckedUnder, IsPolicyText, IsSource}
use Rattle.ll_check.specs.Files.{AreTestsIn, Source, room_for}
use Rattle.ll_check.specs.Wanted.{Satisfies}
use Rattle.ll_commands.specs.Export.{IsExport}
use Rattle.ll_wire.specs.Transcript.{Writes}
use Rattle.ll_wire.specs.WriterGains.{AppendsFront}

-- the check of the files that the words name, by the policy and under the exported profile
abbrev pub check_of : ExportOrder → CheckOrder
check_of order =
    record {
      files = order.checked;
      nodes = TREE_NODES;
      level = None;
      policy = Some order.policy;
      profile = Some order.profile;
      quiet = false;
      verbose = false;
      form = Some Text;
      schedule = false;
    }

-- if the checks pass, the same text of the policy is exported; if not, with 3
abbrev pub EndsChecked : (texts : Option (List ℕ) → Option (List ℕ)) → ExportOrder → (out out' : Option (List ℕ))
    → Result Conclusion Failure → Type 0
EndsChecked texts order out out' (Ok Done) =
    (policy : List ℕ) × IsPolicyText texts (Some order.policy) policy
    × IsCheckedUnder texts (check_of order) policy Passed × Writes out out' (IsExport order policy)
EndsChecked texts order out out' (Ok (Stopped stopped)) = ⊥
EndsChecked texts order out out' (Ok (Judged verdict)) = ⊥
EndsChecked texts order out out' (Ok (Checked end)) =
    (policy : List ℕ) × IsPolicyText texts (Some order.policy) policy
    × IsCheckedUnder texts (check_of order) policy end × (end ≢ Passed)
EndsChecked texts order out out' (Ok Differs) = ⊥
EndsChecked texts order out out' (Err failure) = ⊤

-- An export that ends well wrote a text, of the policy that is named. Otherwise nothing is written, or a prefix of one
-- if the output fails
abbrev pub WritesExport : (texts : Option (List ℕ) → Option (List ℕ)) → ExportOrder → (out out' : Option (List ℕ))
    → Result Conclusion Failure → Type 0
WritesExport texts order out out' (Ok Done) =
    (policy : List ℕ) × IsPolicyText texts (Some order.policy) policy × Writes out out' (IsExport order policy)
WritesExport texts order out out' (Ok conclusion) = Keeps out out'
WritesExport texts order out out' (Err failure) =
    Keeps out out'
    ⊎ ((failure ≡ Output) × (policy text : List ℕ) × IsPolicyText texts (Some order.policy) policy
    × IsExport order policy text × AppendsFront out out' text)

-- ---- a law

-- The section has a test. In a tree of the policy with this text, whose client is under the exported profile, the calls
-- of its tests were made, and each reply is as its test expects
pub record PassesUnder (order : ExportOrder) (policy : List ℕ) (section : Tests) : Type 0 where
  pub tested : has_test section ≡ true
  pub setup : Setup
  pub set : IsSetup (checked_tree (check_of order) (room_for setup (length section.tests))) policy setup
  pub replies : Vec Reply Global
  pub entries : List Entry
  pub made : Makes setup (map (λ test. test.call) section.tests) (Answered replies) entries
  pub each : AllZip (λ test reply. Satisfies test.wanted reply) section.tests replies.items

-- what was exported after checks is of the named policy, under whose profile each section of the named files passed
abbrev pub ExportsWhatPasses : Type 0
ExportsWhatPasses =
    (texts : Option (List ℕ) → Option (List ℕ)) (order : ExportOrder) (out out' : Option (List ℕ))
    → EndsChecked texts order out out' (Ok Done)
    → (policy : List ℕ) × (sources : List Source) × (sections : List Tests)
    × IsPolicyText texts (Some order.policy) policy × AllZip (IsSource texts) order.checked sources
    × AreTestsIn sources sections × AllByRecursion (PassesUnder order policy) sections
    × Writes out out' (IsExport order policy)
