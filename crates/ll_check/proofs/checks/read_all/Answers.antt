use Rattle.std.proofs.Common.{◌≡◌, ◌++◌, ℕ, List, arith, map, subst}
use Rattle.std.proofs.lemmas.Grind.{common_steps}
use Rattle.ll_wire.specs.Pieces.{pieces}
use Rattle.ll_check.specs.Checks.{AreSections, tests_of}
use Rattle.ll_check.specs.Files.{AreTestsOf, source_of}
use Rattle.ll_check.proofs.Files.{bad_line, read_more}
use Rattle.ll_check.proofs.checks.read_all.Goals as goal

pub loop-file-preserved : goal.loop-file-preserved
loop-file-preserved c =
    let texts = c.args.texts.now in
    let text = c.index-texts-file.result in
    let own = c.in-Ok.sections.items in
    let is : AreTestsOf (source_of text) (map tests_of own) =
    subst (λ (x : List ℕ). AreSections text.name.now (pieces x) (map tests_of own)) c.as_slice.ensures.value
    c.in-Ok.ensures.sections in
    let all : c.append.new.self.items ≡ c.loop-file.files.items ++ own = grind (arith, common_steps) in
    read_more texts c.loop-file.file c.loop-file.files.items own c.append.new.self.items text c.loop-file-test.true
    c.index-texts-file.is c.loop-file.invariant is all

pub returns-in-Err-clause-bad : goal.returns-in-Err-clause-bad
returns-in-Err-clause-bad c = λ line e.
    bad_line c.args.texts.now c.loop-file.file line c.index-texts-file.result c.as_slice.result.now
    c.loop-file-test.true c.index-texts-file.is c.as_slice.ensures.value (c.in-Err.ensures.bad line e)
