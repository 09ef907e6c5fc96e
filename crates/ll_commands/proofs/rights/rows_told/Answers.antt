use Rattle.std.proofs.Common.{Option, true≢false, List, ap, sym, subst, ◌∙◌, is_some, string_bytes}
use Rattle.std.specs.Prelude.{unwrap_or}
use Rattle.std.proofs.lemmas.Result.{IfOk-weaker}
use Rattle.ll_rules.specs.Layer.{Layer}
use Rattle.ll_seq.specs.declared.call.Call.{Call}
use Rattle.ll_seq.specs.declared.client.ClientRecord.{ClientRecord}
use Rattle.ll_seq.specs.State.{new_client}
use Rattle.ll_why.specs.PathRows.{AreRows, paths_or_nodes}
use Rattle.ll_commands.specs.Rights.{loader_calls}
use Rattle.ll_commands.proofs.rights.rows_told.Goals as goal

pub returns : goal.returns
returns c =
    let s = c.args.opened.now.tree in
    let paths = c.args.paths.now in
    let who = ap (λ (o : Option ClientRecord). (unwrap_or o new_client).domain) c.in-Some.ensures in
    IfOk-weaker c.rows_text.result _ _ (λ text rows.
    subst (λ (d : List Layer). AreRows s d c.args.style (paths_or_nodes paths (loader_calls c.args.setup.now))
    (string_bytes text)) who
    (subst (λ (calls : List Call). AreRows s c.in-Some.client.now.domain c.args.style (paths_or_nodes paths calls)
    (string_bytes text)) c.loader_calls-calls.ensures rows)) c.rows_text.ensures

pub unreachable-requires : goal.unreachable-requires
unreachable-requires c =
    true≢false (sym c.args.opened.now.there ∙ sym (ap is_some c.in_default.ensures))
