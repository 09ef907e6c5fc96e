use Rattle.ll_node.proofs.RuledClients.{no_error, allowed, ruled_client}
use Rattle.ll_node.proofs.alteration.allow.Goals as goal

pub returns-clause-ok : goal.returns-clause-ok
returns-clause-ok c any scene given fits covers =
    let done = no_error c.allow.result c.if-is_err.ensures.value c.allow.ensures.ok in
    ruled_client given c.args.rule.now _
    (allowed c.args.client.now c.args.rule.now c.allow.new.self done.0 done.1 done.3)
