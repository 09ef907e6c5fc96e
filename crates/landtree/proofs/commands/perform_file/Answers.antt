use Rattle.std.proofs.Common.{◌∙◌, ap, subst, List, Option, ℕ}
use Rattle.ll_program.specs.Options.{scheduled_in}
use Rattle.ll_commands.specs.Schedules.{EndsSchedule}
use Rattle.landtree.proofs.commands.perform_file.Goals as goal

pub returns : goal.returns
returns g c =
    let texts = g.S.Sources.texts c.args.sources.now in
    let out = g.W.Write.contents c.args.out.now in
    let out' = g.W.Write.contents c.perform_input-ended.new.out in
    subst (λ (t : Option (List ℕ)).
    EndsSchedule t (scheduled_in c.args.options.now) out out' c.perform_input-ended.result)
    (c.source-file.ensures.left ∙ ap texts c.named.ensures) c.perform_input-ended.ensures
