-- What an export has written.
use Rattle.std.proofs.Common.{◌≡◌, ◌≢◌, ◌⊎◌, ℕ, List, Option, Some, Result, Ok, Err, ap, refl, sym, subst, inl}
use Rattle.std.proofs.Common.{inr}
use Rattle.std.specs.Prelude.{IfErr, IfOk, IfSome, OnOk}
use Rattle.std.specs.Io.KnownBytes.{Keeps}
use Rattle.ll_wire.specs.Transcript.{Writes}
use Rattle.ll_wire.specs.WriterGains.{AppendsFront}
use Rattle.ll_program.specs.Options.{ExportOrder}
use Rattle.ll_program.specs.declared.checked.Checked.{Checked}
use Rattle.ll_program.specs.declared.checked.Checked.TheVariants as checked
use Rattle.ll_program.specs.declared.conclusion.Conclusion.{Conclusion}
use Rattle.ll_program.specs.declared.failure.Failure.{Failure}
use Rattle.ll_program.specs.declared.failure.Failure.TheVariants.{CommandLine, Policy, Opening, File, Output, Socket}
use Rattle.ll_program.specs.declared.failure.Failure.TheVariants.{NoMemory}
use Rattle.ll_check.specs.Ends.{IsPolicyText}
use Rattle.ll_commands.specs.Export.{IsExport, ended_by}
use Rattle.landtree.specs.Checked.{WritesExport}
use Rattle.landtree.proofs.TextsTold.{ended}

module _ (texts : Option (List ℕ) → Option (List ℕ)) (order : ExportOrder) (left out out' : Option (List ℕ))
    (known : (text : List ℕ) → IfSome left (λ told. text ≡ told) → IsPolicyText texts (Some order.policy) text) where
  -- a prefix of the text is written
  abbrev Begins : Type 0
  Begins =
      (text : List ℕ) × IfSome left (λ told. text ≡ told) × (written : List ℕ) × IsExport order text written
      × AppendsFront out out' written

  begun : (failure : Failure) → (failure ≢ Output → Keeps out out') → (failure ≡ Output → Begins)
      → WritesExport texts order out out' (Err failure)
  begun CommandLine quiet broken = inl (quiet (λ e. absurd cc))
  begun (Policy fault) quiet broken = inl (quiet (λ e. absurd cc))
  begun (Opening refusal) quiet broken = inl (quiet (λ e. absurd cc))
  begun File quiet broken = inl (quiet (λ e. absurd cc))
  begun Output quiet broken =
      let told = broken refl in inr (refl, told.0, told.2, known told.0 told.1, told.3, told.4)
  begun Socket quiet broken = inl (quiet (λ e. absurd cc))
  begun NoMemory quiet broken = inl (quiet (λ e. absurd cc))

  pub export_written : {A : Type 0} (r : Result A Failure)
      → OnOk r ((text : List ℕ) × IfSome left (λ told. text ≡ told) × Writes out out' (IsExport order text))
      → IfErr r (λ failure. failure ≢ Output → Keeps out out') → (r ≡ Err Output → Begins)
      → WritesExport texts order out out' (ended r)
  export_written (Ok it) done quiet broken = (done.0, known done.0 done.1, done.2)
  export_written (Err failure) done quiet broken = begun failure quiet (λ is. broken (ap Err is))

  pub checked_export_written : (end : Checked) (r : Result Conclusion Failure) → IfOk r (λ it. it ≡ ended_by end)
      → OnOk r (end ≡ checked.Passed
      → (text : List ℕ) × IfSome left (λ told. text ≡ told) × Writes out out' (IsExport order text))
      → (end ≢ checked.Passed → Keeps out out') → IfErr r (λ failure. failure ≢ Output → Keeps out out')
      → (r ≡ Err Output → Begins) → WritesExport texts order out out' r
  checked_export_written checked.Passed (Ok it) is done nothing quiet broken =
      let told = done refl in
      subst (λ (x : Conclusion). WritesExport texts order out out' (Ok x)) (sym is)
      (told.0, known told.0 told.1, told.2)
  checked_export_written checked.Failed (Ok it) is done nothing quiet broken =
      subst (λ (x : Conclusion). WritesExport texts order out out' (Ok x)) (sym is) (nothing (λ same. absurd cc))
  checked_export_written checked.BadLine (Ok it) is done nothing quiet broken =
      subst (λ (x : Conclusion). WritesExport texts order out out' (Ok x)) (sym is) (nothing (λ same. absurd cc))
  checked_export_written end (Err failure) is done nothing quiet broken =
      begun failure quiet (λ is. broken (ap Err is))
