use Rattle.std.specs.Prelude.{Result}
use Rattle.std.proofs.Common.{◌∙◌, ap, subst}
use Rattle.ll_program.specs.Options.{order_in}
use Rattle.ll_program.specs.Policy.{EndsRun}
use Rattle.ll_program.specs.declared.failure.Failure.{Failure}
use Rattle.ll_program.specs.declared.program.Ran.{Ran}
use Rattle.landtree.proofs.Runs.{ended_by, ends_run, policy_text}
use Rattle.landtree.proofs.commands.run_script.Goals as goal

pub returns-in-Ok : goal.returns-in-Ok
returns-in-Ok g c =
    let texts = g.S.Sources.texts c.args.sources.now in
    let order = order_in c.args.options.now in
    let out = g.W.Write.contents c.args.out.now in
    let out' = g.W.Write.contents c.run_over-ended.new.out in
    subst (λ (r : Result Ran Failure). EndsRun texts order out out' (ended_by r)) c.in-Ok.is
    (ends_run texts order c.run_over-ended.result _ _ out out'
    (c.source-script.ensures.left ∙ ap texts c.named.ensures)
    (λ text. policy_text texts c.args.options.now.tree.policy c.unwrap_or.result _ _ text c.unwrap_or.ensures
    c.source-policy.ensures.left) c.run_over-ended.ensures.done c.run_over-ended.ensures.failure)

pub returns : goal.returns
returns g c =
    let texts = g.S.Sources.texts c.args.sources.now in
    let order = order_in c.args.options.now in
    let out = g.W.Write.contents c.args.out.now in
    let out' = g.W.Write.contents c.run_over-ended.new.out in
    subst (λ (r : Result Ran Failure). EndsRun texts order out out' (ended_by r)) c.in-Err.is
    (ends_run texts order c.run_over-ended.result _ _ out out'
    (c.source-script.ensures.left ∙ ap texts c.named.ensures)
    (λ text. policy_text texts c.args.options.now.tree.policy c.unwrap_or.result _ _ text c.unwrap_or.ensures
    c.source-policy.ensures.left) c.run_over-ended.ensures.done c.run_over-ended.ensures.failure)
