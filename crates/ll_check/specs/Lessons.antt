-- What is learned from files of checks, and what is written about it. own
use Rattle.std.specs.Prelude.{⊤, ◌≡◌, ◌⊎◌, ◌<◌, ◌≤◌, ◌-◌, ℕ, Bool, true, false, not, is_some, List, [], Option}
use Rattle.std.specs.Prelude.{Some, None, Result, Ok, Err, codes, length, map, slice_get, take, if◌then◌else◌}
use Rattle.std.specs.List.{AllByRecursion, AllZip, filter, list_all, list_any}
use Rattle.std.specs.Option.{option_map_or}
use Rattle.std.specs.declared.alloc.Global.{Global}
use Rattle.std.specs.declared.vec.Vec.{Vec}
use Rattle.ll_rights.specs.Access.{known_set}
use Rattle.ll_rights.specs.declared.errno.Errno.TheVariants as errno
use Rattle.ll_rights.specs.declared.limits.TheConstants.{HISTORY_ENTRIES}
use Rattle.ll_path.specs.Path.{path_of_text}
use Rattle.ll_seq.specs.declared.call.Call.{Call}
use Rattle.ll_seq.specs.declared.reply.Entry.{Entry}
use Rattle.ll_seq.specs.declared.reply.Reply.{Reply}
use Rattle.ll_seq.specs.declared.reply.Reply.TheVariants as reply
use Rattle.ll_audit.specs.Saved.{opened}
use Rattle.ll_learn.specs.declared.fault.Unlearned.{Unlearned}
use Rattle.ll_learn.specs.declared.fault.Unlearned.TheVariants.{NoNode}
use Rattle.ll_learn.specs.declared.fault.Unlearned.TheVariants as fault
use Rattle.ll_learn.specs.declared.learned.Aim.{Aim}
use Rattle.ll_learn.specs.declared.needs.Origin.{Origin}
use Rattle.ll_learn.specs.declared.profile.LearnedProfile.{LearnedProfile}
use Rattle.ll_learn.specs.Learned.{IsLearned, IsUnlearned}
use Rattle.ll_learn.specs.Profile.{calls_of, profile_text}
use Rattle.ll_wire.specs.Transcript.{Writes}
use Rattle.ll_wire.specs.WriterGains.{AppendsFront}
use Rattle.ll_session.specs.CallsRun.{Makes}
use Rattle.ll_session.specs.Run.{MayEnd}
use Rattle.ll_session.specs.declared.calls_run.CallReplies.{CallReplies}
use Rattle.ll_session.specs.declared.calls_run.CallReplies.TheVariants.{Answered, Refused}
use Rattle.ll_session.specs.declared.fault.RunFault.TheVariants as run
use Rattle.ll_session.specs.declared.refusal.Refusal.{Refusal}
use Rattle.ll_session.specs.declared.setup.Setup.{Setup}
use Rattle.ll_program.specs.Learn.{HasWrongWord, IsWithheld, most_rules, profile_name}
use Rattle.ll_program.specs.Options.{LearnOrder, lesson_tree}
use Rattle.ll_program.specs.Policy.{IsSetup, Lacks, header_of}
use Rattle.ll_program.specs.declared.checked.Checked.{Checked}
use Rattle.ll_program.specs.declared.checked.Checked.TheVariants.{BadLine, Failed, Passed}
use Rattle.ll_program.specs.declared.failure.Failure.{Failure}
use Rattle.ll_program.specs.declared.failure.Failure.TheVariants.{CommandLine, File, NoMemory, Opening, Output}
use Rattle.ll_check.specs.declared.lessons.FileLessons.{FileLessons}
use Rattle.ll_check.specs.declared.check_text.Test.{Test}
use Rattle.ll_check.specs.Checks.{Tests, has_own, has_test}
use Rattle.ll_check.specs.Files.{AreTestsIn, HasBadLine, Source, room_for}
use Rattle.ll_check.specs.Report.{AreJudged, Judged, heading}
use Rattle.ll_check.specs.Wanted.{Satisfies, is_allowed, wants_denial}

-- ---- Trees

-- the setup that the policy's file gives, in which nobody has a layer
abbrev pub IsBlank : LearnOrder → (policy : List ℕ) → Setup → Type 0
IsBlank order policy setup = IsSetup (lesson_tree order HISTORY_ENTRIES) policy setup

-- the same setup, with room for this many tests, and with these calls made by the first client before them
pub record IsTree (order : LearnOrder) (policy : List ℕ) (calls : List Call) (tests : ℕ) (setup : Setup) : Type 0
  where
    pub blank : Setup
    pub is : IsBlank order policy blank
    pub rules : setup.rules ≡ blank.rules
    pub nodes : setup.nodes ≡ blank.nodes
    pub loader : setup.loader ≡ blank.loader
    pub history : setup.history ≡ room_for setup tests
    pub profile : setup.profile.items ≡ calls

-- in such a tree the tests are made, which leaves these entries, and each gets a reply that it must get
pub record AreMade (order : LearnOrder) (policy : List ℕ) (calls : List Call) (Must : Test → Reply → Type 0)
    (tests : List Test) (entries : List Entry) : Type 0 where
  pub setup : Setup
  pub replies : Vec Reply Global
  pub tree : IsTree order policy calls (length tests) setup
  pub makes : Makes setup (map (λ test. test.call) tests) (Answered replies) entries
  pub each : AllZip Must tests replies.items

-- ---- Lessons

-- the tests of a section that don't expect a denial
abbrev pub lessons_of : Tests → Tests
lessons_of file =
    record {
      name = file.name;
      section = file.section;
      own = None;
      tests = filter (λ test. not (wants_denial test.wanted)) file.tests;
    }

-- the reply is as expected, and the call is in the history
abbrev pub IsLearnedFrom : Test → Reply → Type 0
IsLearnedFrom test got = Satisfies test.wanted got × (is_allowed got ≡ true)

-- a file's lessons are made with nobody under a layer
abbrev pub AreTaught : LearnOrder → (policy : List ℕ) → (lessons : Tests) → List Entry → Type 0
AreTaught order policy lessons entries = AreMade order policy [] IsLearnedFrom lessons.tests entries

-- ---- The profile

-- the client that makes the lessons: number 2 if there is a loader
abbrev pub learner : Setup → ℕ
learner blank = if is_some blank.loader then 2 else 1

-- what is to be learned, if the policy gives this setup: rules with any right of its level that isn't withheld
pub record IsAim (order : LearnOrder) (blank : Setup) (aim : Aim) : Type 0 where
  pub client : aim.client ≡ learner blank
  pub handled : aim.handled.0 ≡ known_set blank.rules.abi
  pub never : IsWithheld order.never (Some aim.never)
  pub beneath : aim.beneath.now ≡ map path_of_text order.beneath

-- what is learned from: the lessons of all files, each file's in a tree of its own
pub record Course (order : LearnOrder) (policy : List ℕ) (lessons : List Tests) : Type 0 where
  pub blank : Setup
  pub is : IsBlank order policy blank
  pub histories : List (List Entry)
  pub taught : AllZip (AreTaught order policy) lessons histories
  pub aim : Aim
  pub aims : IsAim order blank aim

abbrev pub IsTaughtBy : LearnOrder → (policy : List ℕ) → (lessons : List Tests) → LearnedProfile → Type 0
IsTaughtBy order policy lessons profile =
    (c : Course order policy lessons) × IsLearned (opened (header_of c.blank)) c.histories c.aim profile

-- all tests of a file pass if its first client has the profile's layer
abbrev pub PassesUnder : LearnOrder → (policy : List ℕ) → LearnedProfile → Tests → Type 0
PassesUnder order policy profile file = (entries : List Entry)
    × AreMade order policy (calls_of profile) (λ test got. Satisfies test.wanted got) file.tests entries

-- ---- What is written

-- the line on the lesson whose call the entry has: its place, and its command
abbrev pub lesson_note : (lessons : List Tests) → Origin → List ℕ
lesson_note lessons origin = option_map_or
    (λ (file : Tests). option_map_or (heading file.name) (slice_get file.tests (origin.entry - 1)) (codes "\n"))
    (slice_get lessons origin.history) (codes "\n")

-- a profile that is learned from the lessons of all files, and under which all their tests pass
pub record IsProfile (order : LearnOrder) (policy : List ℕ) (files : List Tests) (written : List ℕ) : Type 0 where
  pub tested : list_all has_test files ≡ true
  pub profile : LearnedProfile
  pub taught : IsTaughtBy order policy (map lessons_of files) profile
  pub few : length profile.rules.items ≤ most_rules order
  pub passes : AllByRecursion (PassesUnder order policy profile) files
  pub name : List ℕ
  pub named : profile_name order ≡ Some name
  pub text : written ≡ profile_text (lesson_note (map lessons_of files)) name profile

-- ---- Why there is no profile

abbrev pub is_no_memory : Reply → Bool
is_no_memory (reply.Refused errno.NoMemory) = true
is_no_memory other = false

-- memory ran out for a call
abbrev pub ran_out : CallReplies → Bool
ran_out (Answered replies) = list_any is_no_memory replies.items
ran_out (Refused refusal) = is_no_memory refusal.reply

-- In a tree with these calls of the first client, the tests get these replies, or the tree isn't opened. Memory doesn't
-- run out
pub record AreRun (order : LearnOrder) (policy : List ℕ) (calls : List Call) (tests : List Test) (made : CallReplies)
    : Type 0 where
  pub setup : Setup
  pub entries : List Entry
  pub tree : IsTree order policy calls (length tests) setup
  pub makes : Makes setup (map (λ test. test.call) tests) made entries
  pub enough : ran_out made ≡ false

-- the first lesson that doesn't get a reply that it must get; its line is `lesson.line`
pub record HasUnmet (lessons : List Test) (replies : List Reply) : Type 0 where
  pub index : ℕ
  pub before : AllZip IsLearnedFrom (take index lessons) (take index replies)
  pub lesson : Test
  pub is : slice_get lessons index ≡ Some lesson
  pub reply : Reply
  pub gets : slice_get replies index ≡ Some reply
  pub unmet : IsLearnedFrom lesson reply → ⊥

-- there is one, or the tree isn't opened
abbrev pub AreUnmet : List Test → CallReplies → Type 0
AreUnmet lessons (Answered replies) = HasUnmet lessons replies.items
AreUnmet lessons (Refused refusal) = ⊤

-- with nobody under a layer, a file's lessons aren't answered as they say
pub record IsUnmet (order : LearnOrder) (policy : List ℕ) (lessons : Tests) : Type 0 where
  pub made : CallReplies
  pub run : AreRun order policy [] lessons.tests made
  pub unmet : AreUnmet lessons.tests made

-- the fault is neither a path of the words nor missing memory
abbrev pub is_of_lessons : Unlearned → Bool
is_of_lessons (NoNode path) = false
is_of_lessons fault.NoMemory = false
is_of_lessons other = true

-- that is so of the file with some index
abbrev pub HasUnmetFile : LearnOrder → (policy : List ℕ) → (lessons : List Tests) → Type 0
HasUnmetFile order policy lessons =
    (index : ℕ) × (file : Tests) × (slice_get lessons index ≡ Some file) × IsUnmet order policy file

-- A file's lessons aren't answered as they say. Or all are, and nothing is learned from them by such a fault, which
-- says why
abbrev pub TeachNothing : LearnOrder → (policy : List ℕ) → (lessons : List Tests) → Type 0
TeachNothing order policy lessons =
    HasUnmetFile order policy lessons
    ⊎ ((c : Course order policy lessons) × (why : Unlearned) × (is_of_lessons why ≡ true)
    × IsUnlearned (opened (header_of c.blank)) c.histories c.aim why)

-- A file's tests, made with the profile's layer, get these verdicts; or the tree isn't opened
abbrev pub IsTried : LearnOrder → (policy : List ℕ) → LearnedProfile → Tests → Result (List Judged) Refusal → Type 0
IsTried order policy profile file (Ok verdicts) = (replies : Vec Reply Global)
    × AreRun order policy (calls_of profile) file.tests (Answered replies)
    × AreJudged file.tests replies.items verdicts
IsTried order policy profile file (Err refusal) =
    AreRun order policy (calls_of profile) file.tests (Refused refusal)

abbrev pub is_passed : Result (List Judged) Refusal → Bool
is_passed (Ok verdicts) = list_all (λ it. it.passes) verdicts
is_passed (Err refusal) = false

-- The files are tried like this, each in a tree of its own. The tests whose verdicts don't pass are those that are
-- missed. passes: whether none is
pub record AreTried (order : LearnOrder) (policy : List ℕ) (profile : LearnedProfile) (files : List Tests)
    (passes : Bool) : Type 0 where
  pub trials : List (Result (List Judged) Refusal)
  pub tried : AllZip (IsTried order policy profile) files trials
  pub all : passes ≡ list_all is_passed trials

-- Why the files give no profile. One has no test; or the lessons teach nothing; or they teach a profile with few enough
-- rules, under which some test is missed
abbrev pub IsHindered : LearnOrder → (policy : List ℕ) → (files : List Tests) → Type 0
IsHindered order policy files =
    (list_all has_test files ≡ false) ⊎ TeachNothing order policy (map lessons_of files)
    ⊎ ((profile : LearnedProfile) × IsTaughtBy order policy (map lessons_of files) profile
    × (length profile.rules.items ≤ most_rules order) × AreTried order policy profile files false)

-- ---- How it ends

-- a path of the words leads to no node, or there are more rules than the words allow
abbrev pub IsOutside : LearnOrder → (policy : List ℕ) → (lessons : List Tests) → Type 0
IsOutside order policy lessons =
    ((c : Course order policy lessons) × (path : ℕ)
    × IsUnlearned (opened (header_of c.blank)) c.histories c.aim (NoNode path))
    ⊎ ((profile : LearnedProfile) × IsTaughtBy order policy lessons profile
    × (most_rules order < length profile.rules.items))

-- Why the trees of files aren't opened. The policy's text gives no setup (it is there, so it can be read); or a call of
-- its loader is refused
abbrev pub FailsToMake : LearnOrder → (policy : List ℕ) → Failure → Type 0
FailsToMake order policy failure =
    ((is_some order.policy ≡ true) × Lacks (lesson_tree order HISTORY_ENTRIES) policy failure × (failure ≡ File → ⊥))
    ⊎ ((refusal : Refusal) × (failure ≡ Opening refusal) × (calls : List Call) × (tests : ℕ) × (setup : Setup)
    × IsTree order policy calls tests setup × MayEnd setup (run.Opening refusal))
    ⊎ (failure ≡ NoMemory)

-- why nothing is learned from lessons
abbrev pub FailsToLearn : LearnOrder → (policy : List ℕ) → (lessons : List Tests) → Failure → Type 0
FailsToLearn order policy lessons failure =
    ((failure ≡ CommandLine) × IsOutside order policy lessons) ⊎ FailsToMake order policy failure

-- these are the sections of the files, none of which names a policy
abbrev pub AreLessonsIn : List Source → List Tests → Type 0
AreLessonsIn sources files = AreTestsIn sources files × (list_any has_own files ≡ false)

-- a line says nothing, or names a policy, which `learn` takes from the words alone
abbrev pub HasWrongLine : List Source → Type 0
HasWrongLine sources =
    HasBadLine sources ⊎ ((files : List Tests) × AreTestsIn sources files × (list_any has_own files ≡ true))

-- why nothing is learned from these files: that, or a word is wrong
abbrev pub IsReason : LearnOrder → (policy : List ℕ) → List Source → Failure → Type 0
IsReason order policy sources failure =
    ((failure ≡ CommandLine) × HasWrongWord order)
    ⊎ ((files : List Tests) × AreLessonsIn sources files
    × FailsToLearn order policy (map lessons_of files) failure)
    ⊎ (failure ≡ NoMemory)

-- A profile is written. Otherwise nothing is, and this says why; or a prefix of it if the output fails
abbrev pub EndsLessons : LearnOrder → (policy : List ℕ) → List Source → (out out' : Option (List ℕ))
    → Result Checked Failure → Type 0
EndsLessons order policy sources out out' (Ok Passed) = (files : List Tests) × AreLessonsIn sources files
    × Writes out out' (IsProfile order policy files)
EndsLessons order policy sources out out' (Ok Failed) =
    (files : List Tests) × AreLessonsIn sources files × IsHindered order policy files × (out' ≡ out)
EndsLessons order policy sources out out' (Ok BadLine) = HasWrongLine sources × (out' ≡ out)
EndsLessons order policy sources out out' (Err failure) =
    (IsReason order policy sources failure × (out' ≡ out))
    ⊎ ((failure ≡ Output) × (files : List Tests) × AreLessonsIn sources files
    × (text : List ℕ) × IsProfile order policy files text × AppendsFront out out' text)

-- ---- Parts, which no public contract cites

-- a file's lessons, as they are picked
abbrev pub picked : FileLessons → Tests
picked file =
    record {
      name = file.name.now;
      section = file.section.now;
      own = None;
      tests = map (λ t. t.now) file.tests.items;
    }

-- a file is tried, and this says whether all its tests pass
abbrev pub HasTrial : LearnOrder → (policy : List ℕ) → LearnedProfile → Tests → (passes : Bool) → Type 0
HasTrial order policy profile file passes =
    (trial : Result (List Judged) Refusal) × IsTried order policy profile file trial × (passes ≡ is_passed trial)

-- each lesson gets a reply that it must get
abbrev pub AreMet : List Test → CallReplies → Type 0
AreMet tests (Answered replies) = AllZip IsLearnedFrom tests replies.items
AreMet tests (Refused refusal) = ⊥
