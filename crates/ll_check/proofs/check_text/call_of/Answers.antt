use Rattle.std.proofs.Common.{◌≡◌, ◌∙◌, inl, inr, sym}
use Rattle.ll_rights.specs.declared.errno.Errno.TheVariants.{BadLine, NoMemory}
use Rattle.ll_check.proofs.Tests.{spells_no_call}
use Rattle.ll_check.proofs.check_text.call_of.Goals as goal

pub returns-in-Err-BadLine : goal.returns-in-Err-BadLine
returns-in-Err-BadLine c =
    spells_no_call c.args.text.now c.as_slice.result.now (c.as_slice.ensures.value ∙ c.in_ok-line.ensures)
    (elim c.in-Err-BadLine.ensures [
      | inl bad ↦ bad.1
      | inr starved ↦ (let both : BadLine ≡ NoMemory = sym c.in-Err-BadLine.field-0-is ∙ starved.0 in absurd cc)
    ])
