use Rattle.std.proofs.Common.{List, map, take, subst, sym}
use Rattle.ll_program.specs.Options.{checked_in}
use Rattle.ll_check.specs.Checks.{Tests, tests_of}
use Rattle.ll_check.specs.Files.{AreChecked, source_of}
use Rattle.ll_check.proofs.Files.{checked_more, one_more, stopped_at}
use Rattle.ll_check.proofs.checks.check_all.Goals as goal

pub loop-section-preserved : goal.loop-section-preserved
loop-section-preserved g c =
    let order = checked_in c.args.input.now.options.now in
    let policy = c.args.input.now.policy.now in
    let policies = map source_of c.args.input.now.policies.now in
    let files = c.args.files.now in
    let i = c.loop-section.section in
    let file = c.index-files-section.result in
    let sum = c.in-Ok-plus.sum in
    let more = checked_more order policy policies (map tests_of (take i files)) (tests_of file)
    c.args.report.now.items c.loop-section.report.items c.check_one.new.report.items c.loop-section.sum c.in-Ok.tally
    sum c.loop-section.invariant c.in-Ok.ensures.checked c.in-Ok-plus.ensures.passed c.in-Ok-plus.ensures.failed in
    subst (λ (x : List Tests). AreChecked order policy policies x c.args.report.now.items
    c.check_one.new.report.items sum) (sym (one_more files i file c.loop-section-test.true c.index-files-section.is))
    more

pub returns-in-Err-clause-failure : goal.returns-in-Err-clause-failure
returns-in-Err-clause-failure g c =
    stopped_at (checked_in c.args.input.now.options.now) c.args.input.now.policy.now
    (map source_of c.args.input.now.policies.now) c.args.files.now c.loop-section.section c.index-files-section.result
    c.in-Err.failure c.loop-section-test.true c.index-files-section.is c.in-Err.ensures.failure
