-- Why nothing is written.
use Rattle.std.specs.Prelude.{◌≡◌, ◌⊎◌, ℕ, List, [], Option, Some, None, IfSome, false, refl}
use Rattle.std.proofs.Common.{sym, subst, inl, inr, ◌∙◌}
use Rattle.ll_program.specs.Options.{ExportOrder, TreeOrder, fits_export}
use Rattle.ll_policy.specs.declared.fault.PolicyFault.{PolicyFault}
use Rattle.ll_program.specs.declared.failure.Failure.{Failure}
use Rattle.ll_program.specs.declared.failure.Failure.TheVariants.{CommandLine, File, NoMemory, Policy}
use Rattle.ll_program.specs.Policy.{Lacks}
use Rattle.ll_commands.specs.declared.confinement.Confinement.{Confinement}
use Rattle.ll_commands.specs.Export.{IsOfPolicy, MayFail, may_export}

-- what a reader has left, if it tells it
pub left : (o : Option (List ℕ)) → (text : List ℕ) × IfSome o (λ told. text ≡ told)
left None = ([], tt)
left (Some told) = (told, refl)

pub same_text : (o : Option (List ℕ)) (x y : List ℕ) → x ≡ y → IfSome o (λ told. y ≡ told)
    → IfSome o (λ told. x ≡ told)
same_text None x y e h = tt
same_text (Some told) x y e h = e ∙ h

pub no_form : (order : ExportOrder) → order.form ≡ None → fits_export order ≡ false
no_form order e = rw e refl

module _ (order : ExportOrder) (text : List ℕ) where
  pub by_reading : (f : Failure) → (f ≡ File) ⊎ (f ≡ NoMemory) → MayFail order text f
  by_reading f (inl e) = subst (MayFail order text) (sym e) tt
  by_reading f (inr e) = subst (MayFail order text) (sym e) tt

  pub by_policy : (f : Failure) → ((tree : TreeOrder) → Lacks tree text f)
      → (f ≡ NoMemory) ⊎ ((fault : PolicyFault) × (f ≡ Policy fault)) → MayFail order text f
  by_policy f lacks (inl e) = subst (MayFail order text) (sym e) tt
  by_policy f lacks (inr (fault, e)) =
      subst (MayFail order text) (sym e) (λ run. subst (Lacks run text) e (lacks run))

  pub by_flaw : (f : Failure) (c : Confinement) → IsOfPolicy order.profile text c
      → (f ≡ NoMemory) ⊎ ((f ≡ CommandLine) × (may_export order c ≡ false)) → MayFail order text f
  by_flaw f c is (inl e) = subst (MayFail order text) (sym e) tt
  by_flaw f c is (inr (e, flawed)) = subst (MayFail order text) (sym e) (inr (inr (c, is, flawed)))
