use Rattle.std.proofs.Common.{List, refl, string_bytes, subst, sym, ◌∙◌}
use Rattle.std.specs.Str.Lines.{lines}
use Rattle.ll_path.specs.Path.{Path}
use Rattle.ll_seq.specs.Step.{client_of}
use Rattle.ll_commands.specs.Rights.{loader_calls, paths_told}
use Rattle.ll_why.specs.PathRows.{AreRows, paths_or_nodes}
use Rattle.ll_why.specs.declared.path_rows.RowStyle.{RowStyle}
use Rattle.ll_embed.specs.Questions.{LacksRights, profile_order_in}
use Rattle.ll_embed.specs.declared.ask_fault.AskFault.TheVariants.{Tree}
use Rattle.ll_embed.specs.declared.fault.Fault.{Fault}
use Rattle.ll_embed.proofs.Questioned.{handed_on, no_paths, no_table, not_opened}
use Rattle.ll_embed.proofs.granted.table_of.Goals as goal

pub returns-in_err-setup-clause-fault : goal.returns-in_err-setup-clause-fault
returns-in_err-setup-clause-fault c =
    let o = profile_order_in c.args.given.now in
    let fault = c.in_err-setup.field-0.0 in
    handed_on c.from_residual.result fault (LacksRights o c.args.form c.args.names.now) c.from_residual.ensures.1
    (no_table o c.args.form c.args.names.now fault c.in_err-setup.ensures.fault)

pub returns-in-Err-clause-fault : goal.returns-in-Err-clause-fault
returns-in-Err-clause-fault c =
    let o = profile_order_in c.args.given.now in
    subst (LacksRights o c.args.form c.args.names.now) (sym c.of_lines.ensures)
    (no_paths o c.args.form c.args.names.now c.in-Err.failure c.in-Err.ensures.failure c.in-Err.ensures.bad)

pub returns-in-Err-open_tree-clause-fault : goal.returns-in-Err-open_tree-clause-fault
returns-in-Err-open_tree-clause-fault c =
    let o = profile_order_in c.args.given.now in
    subst (λ (fault : Fault). LacksRights o c.args.form c.args.names.now (Tree fault)) (sym c.fault_at.ensures)
    (not_opened o c.in_ok-setup.setup c.in-Err-open_tree.failure c.in_ok-setup.ensures.setup
    c.in-Err-open_tree.ensures.failure)

pub returns-in-Ok-rows_told-clause-table : goal.returns-in-Ok-rows_told-clause-table
returns-in-Ok-rows_told-clause-table c =
    let setup = c.in_ok-setup.setup in
    let opened = c.in-Ok-open_tree.opened in
    let domain = (client_of opened.tree opened.client).domain in
    let text = string_bytes c.in-Ok-rows_told.text in (
      c.in_ok-setup.ensures.asked,
      c.in-Some.ensures.some,
      (
        setup,
        opened.client,
        opened.tree,
        c.in_ok-setup.ensures.setup,
        c.in-Ok-open_tree.ensures.ok,
        subst (λ (style : RowStyle). AreRows opened.tree domain style
            (paths_told (lines c.args.names.now) setup) text) c.in-Some.ensures.style
            (subst (λ (ps : List Path). AreRows opened.tree domain c.in-Some.style
            (paths_or_nodes ps (loader_calls setup)) text) (c.as_slice.ensures.value ∙ c.in-Ok.ensures.paths)
            c.in-Ok-rows_told.ensures),
      ),
      refl,
    )
