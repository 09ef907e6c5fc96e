use Rattle.std.proofs.Common.{◌≡◌, ◌++◌, ◌∷◌, [], ℕ, List, arith, refl, subst}
use Rattle.std.proofs.lemmas.Grind.{common_steps}
use Rattle.ll_wire.specs.Pieces.{pieces}
use Rattle.ll_check.specs.Files.{source_of}
use Rattle.ll_check.specs.Steps.{AreSteps, IsStepsOf, steps_of}
use Rattle.ll_check.specs.declared.steps.StepFile.{StepFile}
use Rattle.ll_check.proofs.StepLines.{bad_step, files_more}
use Rattle.ll_check.proofs.steps.read_all_steps.Goals as goal

pub loop-file-preserved : goal.loop-file-preserved
loop-file-preserved c =
    let text = c.index-texts-file.result in
    let own = c.in-Ok.tests in
    let read : StepFile = record { name = text.name; tests = own } in
    let is : IsStepsOf (source_of text) (steps_of read) =
    (refl, subst (λ (x : List ℕ). AreSteps 1 (pieces x) own.items) c.as_slice.ensures.value c.in-Ok.ensures.tests) in
    let all : c.push.new.self.items ≡ c.loop-file.files.items ++ read ∷ [] = grind (arith, common_steps) in
    files_more c.args.texts.now c.loop-file.file c.loop-file.files.items c.push.new.self.items read text
    c.loop-file-test.true c.index-texts-file.is c.loop-file.invariant is all

pub returns-in-Err-clause-bad : goal.returns-in-Err-clause-bad
returns-in-Err-clause-bad c = λ line e.
    bad_step c.args.texts.now c.loop-file.file line c.index-texts-file.result c.as_slice.result.now
    c.loop-file-test.true c.index-texts-file.is c.as_slice.ensures.value (c.in-Err.ensures.bad line e)
