-- Why nothing is known of a history, and how what is learned of it is told.
use Rattle.std.proofs.Common.{◌≡◌, ◌⊎◌, ◌∙◌, ℕ, Bool, List, Option, None, Result, Err, ap, false, inl, inr, option_map}
use Rattle.std.proofs.Common.{refl, subst, sym, true}
use Rattle.std.specs.Prelude.{string_bytes}
use Rattle.std.specs.Borrow.{Bor}
use Rattle.std.specs.declared.alloc.Global.{Global}
use Rattle.std.specs.declared.string.String.{String}
use Rattle.ll_wire.specs.WriterGains.{AppendsFront}
use Rattle.ll_learn.specs.declared.saved_lesson.Learned.{Learned}
use Rattle.ll_learn.specs.declared.fault.Unlearned.{Unlearned}
use Rattle.ll_learn.specs.declared.saved_lesson.Learned.TheVariants.{Many, Nothing, Profile}
use Rattle.ll_program.specs.Options.{LearnOrder}
use Rattle.ll_program.specs.declared.conclusion.Conclusion.{Conclusion}
use Rattle.ll_program.specs.declared.failure.Failure.{Failure}
use Rattle.ll_program.specs.declared.failure.Failure.TheVariants.{CommandLine, File, NoMemory, Output}
use Rattle.ll_commands.specs.Learn.{IsLearnedOf, IsLearnedText, IsLearning, LacksLesson, end_without, is_of_history}

-- the name that is told is none
pub nameless : (told : Option (Bor (List ℕ))) (name : Option (List ℕ))
    → option_map (λ (t : Bor (List ℕ)). t.now) told ≡ name → told ≡ None → name ≡ None
nameless told name is none = sym is ∙ ap (option_map (λ (t : Bor (List ℕ)). t.now)) none

-- the file can't be read
pub by_file : (order : LearnOrder) (f : Failure) → (f ≡ File) ⊎ (f ≡ NoMemory) → LacksLesson order f
by_file order f (inl e) = subst (LacksLesson order) (sym e) tt
by_file order f (inr e) = subst (LacksLesson order) (sym e) tt

module _ (order : LearnOrder) (text : List ℕ) (told : Learned) where
  -- the profile isn't written whole
  pub told_in_part : (profile : String Global) (bytes : List ℕ) (out out' : Option (List ℕ)) (f : Failure)
      → told ≡ Profile profile → bytes ≡ string_bytes profile → (f ≡ Output) × AppendsFront out out' bytes
      → IsLearnedOf order text told → IsLearning order text out out' (Err f)
  told_in_part profile bytes out out' f is same front learned =
      let whole = subst (IsLearnedOf order text) is learned in
      subst (λ f. IsLearning order text out out' (Err f)) (sym front.0)
      (bytes, subst (IsLearnedText order text) (sym same) whole, front.1)

  -- nothing is learned
  pub told_nothing : (fault : Unlearned) (out : Option (List ℕ)) (end r : Result Conclusion Failure)
      → told ≡ Nothing fault → end ≡ end_without (is_of_history fault) → (r ≡ end) ⊎ (r ≡ Err NoMemory)
      → IsLearnedOf order text told → IsLearning order text out out r
  told_nothing fault out end r is so (inr e) learned = subst (IsLearning order text out out) (sym e) refl
  told_nothing fault out end r is so (inl e) learned =
      subst (IsLearning order text out out) (sym (e ∙ so)) (go (is_of_history fault) refl)
    where
      go : (b : Bool) → is_of_history fault ≡ b → IsLearning order text out out (end_without b)
      go true history = (fault, history, subst (IsLearnedOf order text) is learned, refl)
      go false words = (inr (inl (fault, words, subst (IsLearnedOf order text) is learned)), refl)

  -- it would have too many rules
  pub told_many : (rules : ℕ) (out : Option (List ℕ)) (r : Result Conclusion Failure) → told ≡ Many rules
      → (r ≡ Err CommandLine) ⊎ (r ≡ Err NoMemory) → IsLearnedOf order text told → IsLearning order text out out r
  told_many rules out r is (inl e) learned =
      subst (IsLearning order text out out) (sym e)
      (inr (inr (rules, subst (IsLearnedOf order text) is learned)), refl)
  told_many rules out r is (inr e) learned = subst (IsLearning order text out out) (sym e) refl
