use Rattle.std.proofs.lemmas.Result.{IfErr-weaker, on_ok_weaker}
use Rattle.ll_commands.proofs.Replied.{makes_one, refused_there}
use Rattle.ll_commands.proofs.opened_tree.make_one.Goals as goal

pub returns-clause-ok : goal.returns-clause-ok
returns-clause-ok c = on_ok_weaker c.unless_refused.result (λ quiet.
    makes_one c.args.client c.free_number-fresh.result c.args.tree.now c.apply.new.self c.args.call.now c.apply.result
    c.apply.ensures.step quiet) c.unless_refused.ensures.ok

pub returns-clause-refused : goal.returns-clause-refused
returns-clause-refused c = IfErr-weaker c.unless_refused.result _ _ (λ told loud.
    refused_there c.args.client c.free_number-fresh.result c.args.tree.now c.apply.new.self c.args.call.now
    c.apply.result told c.apply.ensures.step loud) c.unless_refused.ensures.err
