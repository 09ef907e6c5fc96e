use Rattle.std.proofs.Common.{ap}
use Rattle.ll_seq.specs.declared.call.Call.{Call}
use Rattle.ll_seq.specs.Call.{targets}
use Rattle.ll_seq.specs.History.{is_connect}
use Rattle.ll_laws.specs.World.{has_any, is_on_descriptor}
use Rattle.ll_journal.proofs.OwnCalls.{by_path}
use Rattle.ll_journal.proofs.alone.own_call.Goals as goal

pub returns-in-Rename : goal.returns-in-Rename
returns-in-Rename c =
    by_path c.args.caller.now c.args.call.now c.refused_early-in-Rename.result c.refused-in-Rename.result
    (ap (λ (k : Call). has_any (targets k)) c.in-Rename.is)
    (ap is_connect c.in-Rename.is) (ap (is_on_descriptor c.args.caller.now) c.in-Rename.is)
    c.refused_early-in-Rename.ensures c.refused-in-Rename.ensures

pub returns-in-RenameNoreplace : goal.returns-in-RenameNoreplace
returns-in-RenameNoreplace c =
    by_path c.args.caller.now c.args.call.now c.refused_early-in-RenameNoreplace.result
    c.refused-in-RenameNoreplace.result (ap (λ (k : Call). has_any (targets k)) c.in-RenameNoreplace.is)
    (ap is_connect c.in-RenameNoreplace.is) (ap (is_on_descriptor c.args.caller.now) c.in-RenameNoreplace.is)
    c.refused_early-in-RenameNoreplace.ensures c.refused-in-RenameNoreplace.ensures

pub returns-in-Exchange : goal.returns-in-Exchange
returns-in-Exchange c =
    by_path c.args.caller.now c.args.call.now c.refused_early-in-Exchange.result c.refused-in-Exchange.result
    (ap (λ (k : Call). has_any (targets k)) c.in-Exchange.is)
    (ap is_connect c.in-Exchange.is) (ap (is_on_descriptor c.args.caller.now) c.in-Exchange.is)
    c.refused_early-in-Exchange.ensures c.refused-in-Exchange.ensures

pub returns-in-Link : goal.returns-in-Link
returns-in-Link c =
    by_path c.args.caller.now c.args.call.now c.refused_early-in-Link.result c.refused-in-Link.result
    (ap (λ (k : Call). has_any (targets k)) c.in-Link.is)
    (ap is_connect c.in-Link.is) (ap (is_on_descriptor c.args.caller.now) c.in-Link.is) c.refused_early-in-Link.ensures
    c.refused-in-Link.ensures
