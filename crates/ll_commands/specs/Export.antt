-- A profile of a policy, as a text for other programs. own
use Rattle.std.specs.Prelude.{◌≡◌, ◌⊎◌, ⊤, ℕ, Bool, true, false, not, ◌&&◌, List, [], Some, None}
use Rattle.std.specs.Str.{IsUtf8}
use Rattle.toml.specs.Parse.{parse_document}
use Rattle.ll_program.specs.declared.export.Form.{Form}
use Rattle.ll_program.specs.declared.export.Form.TheVariants.{C, Json}
use Rattle.ll_program.specs.Options.{ExportOrder, TreeOrder, fits_export}
use Rattle.ll_policy.specs.Faults.{document_faults}
use Rattle.ll_policy.specs.KeptCalls.{calls_of_layers}
use Rattle.ll_policy.specs.Plan.{Plan, IsPlanOf}
use Rattle.ll_program.specs.declared.failure.Failure.{Failure}
use Rattle.ll_program.specs.declared.failure.Failure.TheVariants.{CommandLine, Policy, Opening, File, Output, Socket}
use Rattle.ll_program.specs.declared.failure.Failure.TheVariants.{NoMemory}
use Rattle.ll_program.specs.declared.checked.Checked.{Checked}
use Rattle.ll_program.specs.declared.checked.Checked.TheVariants as checked
use Rattle.ll_program.specs.declared.conclusion.Conclusion.{Conclusion}
use Rattle.ll_program.specs.declared.conclusion.Conclusion.TheVariants.{Done}
use Rattle.ll_program.specs.declared.conclusion.Conclusion.TheVariants as conclusion
use Rattle.ll_program.specs.Policy.{Lacks, profile_of}
use Rattle.ll_commands.specs.declared.confinement.Confinement.{Confinement}
use Rattle.ll_commands.specs.Confinement.{is_enforceable}
use Rattle.ll_commands.specs.Escape.{are_escaped}
use Rattle.ll_commands.specs.Json.{json_text}
use Rattle.ll_commands.specs.CProgram.{c_text}

-- the layers in this form
abbrev pub export_text : ExportOrder → Form → Confinement → List ℕ
export_text order C c = c_text order c
export_text order Json c = json_text order c

-- the policy's level, the calls that create its nodes, and the layers of the profile, if the policy's file has this
-- text without a fault
pub record IsOfPolicy (name text : List ℕ) (c : Confinement) : Type 0 where
  pub plan : Plan
  pub utf8 : IsUtf8 text
  pub right : document_faults (parse_document text) ≡ []
  pub is : IsPlanOf (parse_document text) plan
  pub abi : c.abi ≡ plan.abi
  pub opening : c.opening.now ≡ plan.opening
  pub calls : Some (calls_of_layers 0 c.layers.now) ≡ profile_of (Some name) plan

-- the layers can be enforced, and each program that enforces them takes a rule's path for the same file
abbrev pub may_export : ExportOrder → Confinement → Bool
may_export order c = is_enforceable c && not (are_escaped order.form c.layers.now)

-- the text asked for, if the policy's file has this text: of layers that may be exported
abbrev pub IsExport : ExportOrder → (text written : List ℕ) → Type 0
IsExport order text written =
    (form : Form) × (c : Confinement) × (order.form ≡ Some form) × (fits_export order ≡ true)
    × IsOfPolicy order.profile text c × (may_export order c ≡ true) × (written ≡ export_text order form c)

-- Why nothing is written: words that don't go together; a profile that the policy doesn't have, or whose layers may not
-- be exported; the first fault of the policy's text, which each run by it has too; a file that can't be read or
-- written; NoMemory
abbrev pub MayFail : ExportOrder → List ℕ → Failure → Type 0
MayFail order text CommandLine =
    (fits_export order ≡ false)
    ⊎ ((plan : Plan) × IsPlanOf (parse_document text) plan × (profile_of (Some order.profile) plan ≡ None))
    ⊎ ((c : Confinement) × IsOfPolicy order.profile text c × (may_export order c ≡ false))
MayFail order text (Policy fault) = (tree : TreeOrder) → Lacks tree text (Policy fault)
MayFail order text (Opening refusal) = ⊥
MayFail order text File = ⊤
MayFail order text Output = ⊤
MayFail order text Socket = ⊥
MayFail order text NoMemory = ⊤

-- how an export ends after its checks ended like this, if nothing fails
abbrev pub ended_by : Checked → Conclusion
ended_by checked.Passed = Done
ended_by end = conclusion.Checked end
