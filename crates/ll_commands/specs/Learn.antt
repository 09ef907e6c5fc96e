-- What `learn` learns from a saved history. own
use Rattle.std.specs.Prelude.{⊤, ◌≡◌, ◌⊎◌, ℕ, Bool, List, Option, Some, None, Result, Ok, Err, IfSome, false, map, true}
use Rattle.ll_path.specs.Path.{path_of_text}
use Rattle.ll_wire.specs.Pieces.{pieces}
use Rattle.ll_wire.specs.Transcript.{Writes}
use Rattle.ll_wire.specs.WriterGains.{AppendsFront}
use Rattle.ll_audit.specs.Saved.{IsFirstBad}
use Rattle.ll_audit.specs.declared.verdict.Verdict.TheVariants.{Legal, Illegal, BadLine}
use Rattle.ll_learn.specs.SavedLesson.{IsLearnedBy, IsProfileText, TeachesMuch, TeachesNothing}
use Rattle.ll_learn.specs.declared.fault.Unlearned.{Unlearned}
use Rattle.ll_learn.specs.declared.fault.Unlearned.TheVariants.{NoNode}
use Rattle.ll_learn.specs.declared.saved_lesson.Learned.{Learned}
use Rattle.ll_learn.specs.declared.saved_lesson.SavedLesson.{SavedLesson}
use Rattle.ll_program.specs.Learn.{HasWrongWord, IsWithheld, most_rules, profile_name}
use Rattle.ll_program.specs.Options.{LearnOrder}
use Rattle.ll_program.specs.Learn.{fits_learn}
use Rattle.ll_program.specs.Sources.{named}
use Rattle.ll_program.specs.declared.conclusion.Conclusion.{Conclusion}
use Rattle.ll_program.specs.declared.conclusion.Conclusion.TheVariants.{Checked, Differs, Done, Judged, Stopped}
use Rattle.ll_program.specs.declared.checked.Checked.TheVariants as checked
use Rattle.ll_program.specs.declared.failure.Failure.{Failure}
use Rattle.ll_program.specs.declared.failure.Failure.TheVariants.{CommandLine, Policy, Opening, File, Output, Socket}
use Rattle.ll_program.specs.declared.failure.Failure.TheVariants.{NoMemory}

-- ---- What the words ask of a history

-- the words ask for this; the profile's name is valid
pub record IsLessonOf (order : LearnOrder) (lesson : SavedLesson) : Type 0 where
  pub client : lesson.client ≡ order.client
  pub never : IsWithheld order.never (Some lesson.never)
  pub beneath : lesson.beneath.now ≡ map path_of_text order.beneath
  pub most : lesson.most ≡ most_rules order
  pub name : profile_name order ≡ Some lesson.name.now

-- ---- What is learned

-- this holds of what the words ask for
abbrev pub HasLesson : LearnOrder → (SavedLesson → Type 0) → Type 0
HasLesson order Is = (lesson : SavedLesson) × IsLessonOf order lesson × Is lesson

-- the text is of a profile that is learned from the history with this text
abbrev pub IsLearnedText : LearnOrder → (text written : List ℕ) → Type 0
IsLearnedText order text written = HasLesson order (λ lesson. IsProfileText lesson text written)

-- nothing is learned from it, for this reason
abbrev pub LearnsNothing : LearnOrder → List ℕ → Unlearned → Type 0
LearnsNothing order text fault = HasLesson order (λ lesson. TeachesNothing lesson text fault)

-- the profile that is learned from it has this many rules, which is too many
abbrev pub LearnsMuch : LearnOrder → List ℕ → ℕ → Type 0
LearnsMuch order text rules = HasLesson order (λ lesson. TeachesMuch lesson text rules)

abbrev pub IsLearnedOf : LearnOrder → List ℕ → Learned → Type 0
IsLearnedOf order text learned = HasLesson order (λ lesson. IsLearnedBy lesson text learned)

-- why nothing is known of a history: a word, the file, or NoMemory
abbrev pub LacksLesson : LearnOrder → Failure → Type 0
LacksLesson order CommandLine = HasWrongWord order
LacksLesson order (Policy fault) = ⊥
LacksLesson order (Opening refusal) = ⊥
LacksLesson order File = ⊤
LacksLesson order Output = ⊥
LacksLesson order Socket = ⊥
LacksLesson order NoMemory = ⊤

-- the fault is in the history, and not a path of the words
abbrev pub is_of_history : Unlearned → Bool
is_of_history (NoNode index) = false
is_of_history other = true

-- how it ends if nothing is learned, by whether the fault is in the history
abbrev pub end_without : Bool → Result Conclusion Failure
end_without true = Ok (Checked checked.Failed)
end_without false = Err CommandLine

-- the words don't fit the history: a path of theirs leads to no node, or they allow fewer rules
abbrev pub IsUnfit : LearnOrder → List ℕ → Type 0
IsUnfit order text =
    ((fault : Unlearned) × (is_of_history fault ≡ false) × LearnsNothing order text fault)
    ⊎ ((rules : ℕ) × LearnsMuch order text rules)

-- ---- How it ends

-- A profile of the history with this text is written whole, or a prefix of it if the output fails. Otherwise nothing is
-- written there: the history has a bad line, nothing is learned from it, or the profile has too many rules
abbrev pub IsLearning : LearnOrder → List ℕ → (out out' : Option (List ℕ)) → Result Conclusion Failure → Type 0
IsLearning order text out out' (Ok Done) = Writes out out' (IsLearnedText order text)
IsLearning order text out out' (Ok (Stopped stopped)) = ⊥
IsLearning order text out out' (Ok (Judged (Legal entries))) = ⊥
IsLearning order text out out' (Ok (Judged (Illegal entry))) = ⊥
IsLearning order text out out' (Ok (Judged (BadLine line))) = IsFirstBad (pieces text) line × (out' ≡ out)
IsLearning order text out out' (Ok (Checked checked.Passed)) = ⊥
IsLearning order text out out' (Ok (Checked checked.Failed)) =
    (fault : Unlearned) × (is_of_history fault ≡ true) × LearnsNothing order text fault × (out' ≡ out)
IsLearning order text out out' (Ok (Checked checked.BadLine)) = ⊥
IsLearning order text out out' (Ok Differs) = ⊥
IsLearning order text out out' (Err CommandLine) =
    (HasWrongWord order ⊎ IsUnfit order text) × (out' ≡ out)
IsLearning order text out out' (Err (Policy fault)) = ⊥
IsLearning order text out out' (Err (Opening refusal)) = ⊥
IsLearning order text out out' (Err File) = out' ≡ out
IsLearning order text out out' (Err Output) =
    (written : List ℕ) × IsLearnedText order text written × AppendsFront out out' written
IsLearning order text out out' (Err Socket) = ⊥
IsLearning order text out out' (Err NoMemory) = out' ≡ out

-- Words that don't go together are refused. Otherwise it ends as above, if the named history has this text
abbrev pub EndsLearn : (texts : Option (List ℕ) → Option (List ℕ)) → LearnOrder → Result Conclusion Failure → Type 0
EndsLearn texts order result =
    ((fits_learn order ≡ false) × (result ≡ Err CommandLine))
    ⊎ ((name text : List ℕ) × (out out' : Option (List ℕ)) × (order.history ≡ Some name)
    × IfSome (texts (named name)) (λ told. text ≡ told) × IsLearning order text out out' result)
