-- How lessons end, and what a history teaches.
use Rattle.std.proofs.Common.{◌≡◌, ◌⊎◌, ◌∙◌, ◌&&◌, ℕ, Bool, true, false, List, [], ◌∷◌, map, Option, Result, Ok, Err}
use Rattle.std.proofs.Common.{refl, ap, subst, inl, inr}
use Rattle.std.specs.Prelude.{IfSome}
use Rattle.std.specs.Borrow.{Bor}
use Rattle.std.specs.List.{AllZip, list_all}
use Rattle.ll_program.specs.Options.{LearnOrder}
use Rattle.ll_program.specs.Sources.{named}
use Rattle.ll_program.specs.declared.checked.Checked.{Checked}
use Rattle.ll_program.specs.declared.conclusion.Conclusion.{Conclusion}
use Rattle.ll_program.specs.declared.failure.Failure.{Failure}
use Rattle.ll_program.specs.declared.failure.Failure.TheVariants.{CommandLine, Policy, Opening, File, Output, Socket}
use Rattle.ll_program.specs.declared.failure.Failure.TheVariants.{NoMemory}
use Rattle.ll_check.specs.declared.checks.NamedText.{NamedText}
use Rattle.ll_check.specs.Ends.{IsPolicyText, IsSource}
use Rattle.ll_check.specs.Files.{source_of}
use Rattle.ll_check.specs.Lessons.{EndsLessons}
use Rattle.ll_commands.specs.Learn.{IsLearning, LacksLesson}
use Rattle.landtree.specs.Learned.{EndsByChecks, EndsByHistory, concluded, is_of_line}

pub lines_told : (names : List (Bor (List ℕ))) → list_all (λ name. list_all is_of_line name) (map (λ n. n.now) names)
    ≡ list_all (λ (name : Bor (List ℕ)). list_all is_of_line name.now) names
lines_told [] = refl
lines_told (name ∷ names) = ap (λ rest. list_all is_of_line name.now && rest) (lines_told names)

-- nothing is known of the history
pub lacking : (order : LearnOrder) (text : List ℕ) (failure : Failure) → LacksLesson order failure
    → (out : Option (List ℕ)) → IsLearning order text out out (Err failure)
lacking order text CommandLine lacks out = (inl lacks, refl)
lacking order text (Policy fault) lacks out = absurd lacks
lacking order text (Opening refusal) lacks out = absurd lacks
lacking order text File lacks out = refl
lacking order text Output lacks out = absurd lacks
lacking order text Socket lacks out = absurd lacks
lacking order text NoMemory lacks out = refl

module _ (texts : Option (List ℕ) → Option (List ℕ)) (order : LearnOrder) where
  -- a file can't be read
  pub unread_file : (out : Option (List ℕ)) (f : Failure) → (f ≡ File) ⊎ (f ≡ NoMemory)
      → list_all (λ name. list_all is_of_line name) order.files ≡ true → EndsByChecks texts order out out (Err f)
  unread_file out f (inl e) lines = inl (refl, inr (inl (ap Err e, lines)))
  unread_file out f (inr e) lines = inl (refl, inr (inr (ap Err e)))

  pub by_checks : (names : List (Bor (List ℕ))) (policy told : List ℕ) (files all : List NamedText)
      (end : Result Checked Failure) → map (λ n. n.now) names ≡ order.files
      → told ≡ policy → all ≡ files → IsPolicyText texts order.policy policy
      → AllZip (IsSource texts) (map (λ n. n.now) names) (map source_of files)
      → (out out' : Option (List ℕ)) → EndsLessons order told (map source_of all) out out' end
      → list_all (λ name. list_all is_of_line name) order.files ≡ true
      → EndsByChecks texts order out out' (concluded end)
  by_checks names policy told files all end named so same known are out out' ends lines = inr (
    policy,
    map source_of files,
    end,
    known,
    subst (λ xs. AllZip (IsSource texts) xs (map source_of files)) named are,
    subst (λ (x : List NamedText). EndsLessons order policy (map source_of x) out out' end) same
        (subst (λ (p : List ℕ). EndsLessons order p (map source_of all) out out' end) so ends),
    refl,
    lines,
  )

  pub by_history : (history : List ℕ) (left out out' : Option (List ℕ)) (r : Result Conclusion Failure)
      → left ≡ texts (named history)
      → (text : List ℕ) × IfSome left (λ told. text ≡ told) × IsLearning order text out out' r
      → EndsByHistory texts order history out out' r
  by_history history left out out' r read is =
      (is.0, subst (λ o. IfSome o (λ told. is.0 ≡ told)) read is.1, is.2)
