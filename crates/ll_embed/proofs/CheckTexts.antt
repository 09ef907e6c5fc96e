-- Checks of texts.
use Rattle.std.proofs.Common.{◌≡◌, ◌≢◌, ◌∙◌, ℕ, List, [], ◌∷◌, ◌++◌, Some, refl, ap, subst, inl, inr}
use Rattle.ll_program.specs.Failure.{status_by}
use Rattle.ll_program.specs.Options.{CheckOrder}
use Rattle.ll_program.specs.declared.checked.Checked.{Checked}
use Rattle.ll_program.specs.declared.checked.Checked.TheVariants.{BadLine}
use Rattle.ll_program.specs.declared.conclusion.Conclusion.TheVariants as conclusion
use Rattle.ll_program.specs.declared.failure.Failure.{Failure}
use Rattle.ll_check.specs.Files.{IsCheck, MayFail, Source}
use Rattle.ll_wire.specs.Transcript.{Writes}
use Rattle.ll_embed.specs.CheckAnswers.{CheckAsked, CheckFits, IsCheckTold, MayFailCheck, check_fault, order_of}
use Rattle.ll_embed.specs.CheckAnswers.{source_in}

-- the program's check fails
pub fails : (a : CheckAsked) (order : CheckOrder) (policies sources : List Source) (failure : Failure) → CheckFits a
    → order ≡ order_of a → policies ≡ [] → sources ≡ source_in a ∷ []
    → MayFail order a.policy policies sources failure → MayFailCheck a (check_fault failure)
fails a order policies sources failure fits same none one may = inr (inl (
  fits,
  failure,
  subst (λ (s : List Source). MayFail (order_of a) a.policy [] s failure) one
      (subst (λ (p : List Source). MayFail (order_of a) a.policy p sources failure) none
      (subst (λ (o : CheckOrder). MayFail o a.policy policies sources failure) same may)),
  refl,
))

-- it has written a report, or a line is wrong
pub is_told : (a : CheckAsked) (order : CheckOrder) (policies sources : List Source) (end : Checked)
    (old report text : List ℕ) (status : ℕ) → CheckFits a → order ≡ order_of a → policies ≡ []
    → sources ≡ source_in a ∷ [] → old ≡ []
    → Writes (Some old) (Some report) (IsCheck order a.policy policies sources end)
    → status ≡ status_by (conclusion.Checked end) → (end ≢ BadLine → text ≡ report)
    → IsCheckTold a status text
is_told a order policies sources end old report text status fits same bare one none w is told = (
  fits,
  end,
  w.0,
  subst (λ (s : List Source). IsCheck (order_of a) a.policy [] s end w.0) one
      (subst (λ (p : List Source). IsCheck (order_of a) a.policy p sources end w.0) bare
      (subst (λ (o : CheckOrder). IsCheck o a.policy policies sources end w.0) same w.1)),
  is,
  λ other. told other ∙ (w.2 ∙ ap (λ (x : List ℕ). x ++ w.0) none),
)
