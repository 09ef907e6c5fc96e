use Rattle.std.proofs.Common.{ap, length, map}
use Rattle.ll_program.specs.Options.{checked_in}
use Rattle.ll_check.specs.Checks.{tests_of}
use Rattle.ll_check.specs.Files.{source_of}
use Rattle.ll_check.proofs.Files.{file_checked, no_run}
use Rattle.ll_check.proofs.checks.check_tests.Goals as goal

pub returns-in-Err-clause-failure : goal.returns-in-Err-clause-failure
returns-in-Err-clause-failure g c =
    no_run (checked_in c.args.input.now.options.now) c.args.input.now.policy.now
    (map source_of c.args.input.now.policies.now) (tests_of c.args.file.now) (length c.as_slice-tests.result.now)
    c.in_ok-setup.setup c.in-Err.fault c.of_run.result c.in_memory.result (ap length c.as_slice-tests.ensures.value)
    c.in_ok-setup.ensures.setup c.in-Err.ensures.fault c.of_run.ensures c.in_memory.ensures.file
    c.in_memory.ensures.same

pub returns-clause-checked : goal.returns-clause-checked
returns-clause-checked g c =
    let checked = c.in-Ok.checked in
    let on = c.reporter-reporter in
    file_checked (checked_in c.args.input.now.options.now) c.args.input.now.policy.now
    (map source_of c.args.input.now.policies.now) c.args.file.now on.result.style c.in_ok-setup.setup
    on.result.file.now on.result.section.now c.as_slice-tests.result.now checked.made checked.history.entries
    c.args.report.now.items c.check_file.new.out.items checked.tally on.ensures.style on.ensures.file
    on.ensures.section c.as_slice-tests.ensures.value c.in_ok-setup.ensures.setup c.in-Ok.ensures.checked
