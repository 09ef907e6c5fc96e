use Rattle.std.proofs.Common.{Option, true≢false, ap, sym, ◌∙◌, is_some}
use Rattle.std.specs.Prelude.{unwrap_or}
use Rattle.ll_seq.specs.declared.client.ClientRecord.{ClientRecord}
use Rattle.ll_seq.specs.State.{new_client}
use Rattle.ll_commands.proofs.difference.view_of.Goals as goal

pub returns : goal.returns
returns c =
    ap (λ (o : Option ClientRecord). (c.args.opened.now.tree, (unwrap_or o new_client).domain)) c.in-Some.ensures

pub unreachable-requires : goal.unreachable-requires
unreachable-requires c =
    true≢false (sym c.args.opened.now.there ∙ sym (ap is_some c.in_default.ensures))
