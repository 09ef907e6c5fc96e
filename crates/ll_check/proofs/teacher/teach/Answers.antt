use Rattle.std.proofs.Common.{◌∙◌, ap, length, map, sym}
use Rattle.std.specs.Borrow.{Bor}
use Rattle.ll_program.specs.Options.{learn_in}
use Rattle.ll_check.specs.declared.check_text.Test.{Test}
use Rattle.ll_check.specs.Lessons.{picked}
use Rattle.ll_check.proofs.Courses.{lessons_replied, not_made, not_met, taught}
use Rattle.ll_check.proofs.teacher.teach.Goals as goal

pub returns-in-Err-clause-failure : goal.returns-in-Err-clause-failure
returns-in-Err-clause-failure g c =
    not_made (learn_in c.args.trees.now.options.now) c.args.trees.now.policy.now c.new.result.items
    (length c.as_slice-lessons.result.now) c.in_ok-setup.setup c.in-Err.fault c.failure_of.result
    c.in_ok-setup.ensures.setup c.in-Err.ensures.fault c.failure_of.ensures.cases

pub returns-then-are_answered-clause-taught : goal.returns-then-are_answered-clause-taught
returns-then-are_answered-clause-taught g c =
    let done = c.in-Ok.done in
    taught (learn_in c.args.trees.now.options.now) c.args.trees.now.policy.now (picked c.args.file.now)
    c.as_slice-lessons.result.now c.new.result.items done.0 c.in_ok-setup.setup done.1.entries
    (ap (map (λ (t : Bor Test). t.now)) c.as_slice-lessons.ensures.value) c.new.ensures.items
    c.in_ok-setup.ensures.setup
    c.in-Ok.ensures.made (c.are_answered.ensures.met c.if-are_answered.true)

pub are_answered-requires : goal.are_answered-requires
are_answered-requires g c =
    let done = c.in-Ok.done in
    lessons_replied c.in_ok-setup.setup c.as_slice-lessons.result.now done.0 done.1.entries c.in-Ok.ensures.made

pub returns-clause-unmet : goal.returns-clause-unmet
returns-clause-unmet g c =
    let done = c.in-Ok.done in
    not_met (learn_in c.args.trees.now.options.now) c.args.trees.now.policy.now (picked c.args.file.now)
    c.as_slice-lessons.result.now c.new.result.items done.0 c.in_ok-setup.setup done.1.entries
    (ap (map (λ (t : Bor Test). t.now)) c.as_slice-lessons.ensures.value) c.new.ensures.items
    c.in_ok-setup.ensures.setup
    c.in-Ok.ensures.made (sym c.ran_out.ensures ∙ c.if-ran_out.false)
    (c.are_answered.ensures.unmet c.if-are_answered.false)
