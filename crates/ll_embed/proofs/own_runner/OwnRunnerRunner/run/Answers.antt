use Rattle.ll_seq.specs.State.{start}
use Rattle.ll_embed.proofs.Makings.{made_legally}
use Rattle.ll_embed.proofs.own_runner.OwnRunnerRunner.run.Goals as goal

pub are_entries-requires : goal.are_entries-requires
are_entries-requires c = (
  start c.args.setup.rules c.args.setup.nodes,
  made_legally c.args.setup c.args.calls.items c.in-Ok.done.0 c.in-Ok.done.1.entries c.in-Ok.ensures.made,
)
