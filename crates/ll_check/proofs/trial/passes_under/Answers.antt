use Rattle.std.proofs.Common.{◌∙◌, length, sym}
use Rattle.ll_program.specs.Options.{learn_in}
use Rattle.ll_check.specs.declared.reporter.Style.TheVariants.{Usual}
use Rattle.ll_check.specs.Checks.{tests_of}
use Rattle.ll_check.proofs.Courses.{are_others, not_made}
use Rattle.ll_check.proofs.Trials.{file_tried}
use Rattle.ll_check.proofs.trial.passes_under.Goals as goal

pub tree-requires : goal.tree-requires
tree-requires g c = are_others c.args.candidate.now.profile.now c.in-Ok.calls.items c.in-Ok.ensures

pub returns-in-Err-clause-failure : goal.returns-in-Err-clause-failure
returns-in-Err-clause-failure g c =
    not_made (learn_in c.args.trees.now.options.now) c.args.trees.now.policy.now c.in-Ok.calls.items
    (length c.as_slice-tests.result.now) c.in_ok-setup.setup c.in-Err.fault c.failure_of.result
    c.in_ok-setup.ensures.setup c.in-Err.ensures.fault c.failure_of.ensures.cases

pub returns-clause-tried : goal.returns-clause-tried
returns-clause-tried g c =
    let checked = c.in-Ok-check_file.checked in
    file_tried (learn_in c.args.trees.now.options.now) c.args.trees.now.policy.now c.args.candidate.now.profile.now
    (tests_of c.args.file.now) c.as_slice-tests.result.now c.in-Ok.calls.items Usual c.in_ok-setup.setup
    c.as_bytes.result.now c.as_slice.result.now checked.made checked.history.entries _ _ checked.tally
    c.as_slice-tests.ensures.value
    c.in-Ok.ensures c.in_ok-setup.ensures.setup c.in-Ok-check_file.ensures.checked
    (sym c.ran_out.ensures ∙ c.if-ran_out.false)
