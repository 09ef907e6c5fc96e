-- What the words and the policy's file set up. own
use Rattle.std.specs.Prelude.{bytes_eq, ◌≡◌, ◌⊎◌, ⊤, ℕ, Bool, true, List, [], Option, Some, None, option_map, slice_get}
use Rattle.std.specs.Prelude.{false, unwrap_or, is_some, IfSome, string_bytes, Result, Ok, Err}
use Rattle.std.specs.Io.KnownBytes.{Appends}
use Rattle.std.specs.Map.{lookup}
use Rattle.std.specs.Str.{IsUtf8}
use Rattle.toml.specs.Parse.{parse_document}
use Rattle.ll_seq.specs.declared.call.Call.{Call}
use Rattle.ll_seq.specs.declared.reply.Entry.{Entry}
use Rattle.ll_seq.specs.History.{IsLegal}
use Rattle.ll_seq.specs.State.{start}
use Rattle.ll_policy.specs.declared.fault.PolicyFault.TheVariants.{NotToml}
use Rattle.ll_policy.specs.Faults.{document_faults}
use Rattle.ll_policy.specs.Plan.{Plan, IsPlanOf}
use Rattle.ll_program.specs.Comments.{spoken_numbers, spoken_text, stop_there}
use Rattle.ll_program.specs.declared.failure.Failure.{Failure}
use Rattle.ll_program.specs.declared.failure.Failure.TheVariants.{CommandLine, Policy, Opening, File, Output, Socket}
use Rattle.ll_program.specs.declared.failure.Failure.TheVariants.{NoMemory}
use Rattle.ll_session.specs.declared.fault.RunFault.{RunFault}
use Rattle.ll_session.specs.declared.refusal.Refusal.{Refusal}
use Rattle.ll_session.specs.declared.setup.Setup.{Setup}
use Rattle.ll_session.specs.declared.stop.Stop.{Stop}
use Rattle.ll_program.specs.declared.conclusion.Conclusion.{Conclusion}
use Rattle.ll_program.specs.declared.conclusion.Conclusion.TheVariants.{Checked, Differs, Done, Judged, Stopped}
use Rattle.ll_program.specs.Failure.{failure_of, IsOfBeginning, IsOfSaving, stop_line}
use Rattle.ll_program.specs.Sources.{named, text_in}
use Rattle.ll_wire.specs.declared.header.Header.{Header}
use Rattle.ll_wire.specs.declared.header.Version.TheVariants.{Three}
use Rattle.ll_session.specs.Run.{BeginsBy, IsOpened, MayEnd, RunsAs}
use Rattle.ll_wire.specs.Transcript.{Writes}
use Rattle.ll_audit.specs.Saved.{saved_text}
use Rattle.ll_program.specs.Options.{RunOrder, TreeOrder, tree_of}

-- the calls of the profile asked for, or none without one. None if the plan doesn't have that profile
abbrev pub profile_of : Option (List ℕ) → Plan → Option (List Call)
profile_of None plan = Some []
profile_of (Some name) plan = lookup (bytes_eq name) plan.profiles

-- the setup by a policy with this plan
pub record ByPlan (order : TreeOrder) (plan : Plan) (setup : Setup) : Type 0 where
  pub rules : setup.rules ≡ record { abi = plan.abi; copies = true }
  pub loader : option_map (λ calls. calls.items) setup.loader ≡ Some plan.opening
  pub profile : Some setup.profile.items ≡ profile_of order.profile plan

-- the setup without a policy
pub record ByLevel (order : TreeOrder) (setup : Setup) : Type 0 where
  pub rules : setup.rules ≡ record { abi = unwrap_or order.level 3; copies = true }
  pub loader : setup.loader ≡ None
  pub profile : setup.profile.items ≡ []

-- a policy: a text without a fault
abbrev pub IsPolicy : List ℕ → Type 0
IsPolicy text = IsUtf8 text × (document_faults (parse_document text) ≡ [])

-- the setup by the policy in this text, if a policy's file is named
abbrev pub IsSetBy : Option (List ℕ) → TreeOrder → List ℕ → Setup → Type 0
IsSetBy None order text setup = ByLevel order setup
IsSetBy (Some file) order text setup =
    IsPolicy text × ((plan : Plan) × IsPlanOf (parse_document text) plan × ByPlan order plan setup)

-- the setup asked for, if the policy's file has this text
abbrev pub IsSetup : TreeOrder → List ℕ → Setup → Type 0
IsSetup order text setup =
    (setup.nodes ≡ order.nodes) × (setup.history ≡ order.history) × IsSetBy order.policy order text setup

-- Why there is no setup: the first fault of the policy's text, a profile that the policy doesn't have, a file that
-- can't be read, or NoMemory
abbrev pub Lacks : TreeOrder → List ℕ → Failure → Type 0
Lacks order text (Policy fault) =
    ((IsUtf8 text → ⊥) × (fault ≡ NotToml))
    ⊎ (IsUtf8 text × (slice_get (document_faults (parse_document text)) 0 ≡ Some fault))
Lacks order text CommandLine =
    (plan : Plan) × IsPlanOf (parse_document text) plan × (profile_of order.profile plan ≡ None)
Lacks order text File = ⊤
Lacks order text NoMemory = ⊤
Lacks order text (Opening refusal) = ⊥
Lacks order text Output = ⊥
Lacks order text Socket = ⊥

-- the header of the history of a run with this setup
abbrev pub header_of : Setup → Header
header_of setup = record { version = Three setup.rules.abi; nodes = setup.nodes }

-- The file's contents afterwards. If a file is named: what was blank, then the run's history under its header.
-- Otherwise what was there before
abbrev pub IsSaved : Option (List ℕ) → Setup → List Entry → (blank old new : Option (List ℕ)) → Type 0
IsSaved None setup entries blank old new = new ≡ old
IsSaved (Some name) setup entries blank old new = Appends blank new (saved_text (header_of setup) entries)

-- what the program concludes from what ended a strict run of this script, if anything did
abbrev pub IsConcluded : List ℕ → Option Stop → Conclusion → Type 0
IsConcluded script None end = end ≡ Done
IsConcluded script (Some stop) (Stopped stopped) = string_bytes stopped.line ≡ stop_line script stop
IsConcluded script (Some stop) Done = ⊥
IsConcluded script (Some stop) (Judged verdict) = ⊥
IsConcluded script (Some stop) (Checked end) = ⊥
IsConcluded script (Some stop) Differs = ⊥

-- what a run with this setup, which was made to its end, has read of the script and written
abbrev pub HasRun : (strict : Bool) → Setup → (script script' out out' : Option (List ℕ)) → Option Stop → List Entry
    → Type 0
HasRun strict setup script script' out out' stop entries =
    IfSome script (λ input. Writes out out' (λ text. RunsAs strict setup input script' text stop entries))

-- or of a script with comments, whose lines that aren't silent are run once all of it is read
abbrev pub HasRunAs : (comments strict : Bool) → Setup → (script script' out out' : Option (List ℕ)) → Option Stop
    → List Entry → Type 0
HasRunAs false strict setup script script' out out' stop entries =
    HasRun strict setup script script' out out' stop entries
HasRunAs true strict setup script script' out out' stop entries =
    IfSome script (λ text. (there : Option Stop) × (left : Option (List ℕ))
    × (stop ≡ option_map (stop_there (spoken_numbers text)) there)
    × HasRun strict setup (Some (spoken_text text)) left out out' there entries)

-- A run with the setup asked for, if the policy's file has this text. What was read of the script and written, and what
-- is saved, are of one history, which is legal in the setup's tree. It is concluded by what ended it. Only a strict run
-- ends before its script
abbrev pub IsRun : RunOrder → List ℕ → Conclusion → (script script' out out' blank file file' : Option (List ℕ))
    → Type 0
IsRun order text end script script' out out' blank file file' =
    (setup : Setup) × (entries : List Entry) × (stop : Option Stop) × IsSetup (tree_of order) text setup
    × IsLegal (start setup.rules setup.nodes) entries
    × HasRunAs order.comments order.strict setup script script' out out' stop entries
    × (order.strict ≡ false → stop ≡ None)
    × IsSaved order.save setup entries blank file file' × IsConcluded order.script stop end

-- The opening of the run that is asked for was refused like this, if the policy's file has this text: the line of that
-- reply is all that was written. Or a session began
abbrev pub HasOpened : RunOrder → List ℕ → (out out' : Option (List ℕ)) → Option Refusal → Type 0
HasOpened order text out out' refusal =
    (setup : Setup) × (entries : List Entry) × IsSetup (tree_of order) text setup
    × IsOpened setup out out' refusal entries

-- what a run that this fault ended has written: a prefix of the lines for some first pieces
abbrev pub HasBegun : (strict : Bool) → Setup → (script out out' : Option (List ℕ)) → RunFault → Type 0
HasBegun strict setup script out out' fault =
    IfSome script (λ input. Writes out out' (BeginsBy strict setup fault input))

-- or of a script with comments
abbrev pub HasBegunAs : (comments strict : Bool) → Setup → (script out out' : Option (List ℕ)) → RunFault → Type 0
HasBegunAs false strict setup script out out' fault = HasBegun strict setup script out out' fault
HasBegunAs true strict setup script out out' fault =
    IfSome script (λ text. HasBegun strict setup (Some (spoken_text text)) out out' fault)

-- why a script with comments isn't run: it can't be read, or memory runs out
abbrev pub IsUnread : (comments : Bool) → Failure → Type 0
IsUnread false failure = ⊥
IsUnread true failure = (failure ≡ File) ⊎ (failure ≡ NoMemory)

-- why a run that was made to its end isn't kept: no memory for the line on what ended it, or its history can't be saved
abbrev pub IsUnkept : RunOrder → Option Stop → Failure → Type 0
IsUnkept order stop failure =
    ((is_some stop ≡ true) × (failure ≡ NoMemory)) ⊎ ((is_some order.save ≡ true) × IsOfSaving failure)

-- Why nothing is run to its end and saved, and what is written then. A policy is named, and gives no setup, or a script
-- with comments can't be read: nothing. A fault ends the run with the setup: a prefix of its lines. The run isn't kept:
-- all of them
abbrev pub MayFail : RunOrder → List ℕ → (script script' out out' : Option (List ℕ)) → Failure → Type 0
MayFail order text script script' out out' failure =
    ((is_some order.policy ≡ true) × Lacks (tree_of order) text failure × (out' ≡ out))
    ⊎ (IsUnread order.comments failure × (out' ≡ out))
    ⊎ ((setup : Setup) × IsSetup (tree_of order) text setup × (fault : RunFault) × MayEnd setup fault
    × (failure ≡ failure_of fault) × HasBegunAs order.comments order.strict setup script out out' fault)
    ⊎ ((setup : Setup) × IsSetup (tree_of order) text setup × (stop : Option Stop) × (entries : List Entry)
    × HasRunAs order.comments order.strict setup script script' out out' stop entries
    × IsUnkept order stop failure)

-- How a run ends, if the files have these texts. It is done, or stopped, for the script that is named. Or it fails as
-- above, or before it begins, and then nothing is written
abbrev pub EndsRun : (texts : Option (List ℕ) → Option (List ℕ)) → RunOrder → (out out' : Option (List ℕ))
    → Result Conclusion Failure → Type 0
EndsRun texts order out out' (Ok end) =
    (text : List ℕ) × (script' blank file file' : Option (List ℕ))
    × IfSome (text_in texts order.policy) (λ told. text ≡ told)
    × IsRun order text end (texts (named order.script)) script' out out' blank file file'
EndsRun texts order out out' (Err failure) =
    (IsOfBeginning order.save failure × (out' ≡ out))
    ⊎ ((text : List ℕ) × (script' : Option (List ℕ)) × IfSome (text_in texts order.policy) (λ told. text ≡ told)
    × MayFail order text (texts (named order.script)) script' out out' failure)
