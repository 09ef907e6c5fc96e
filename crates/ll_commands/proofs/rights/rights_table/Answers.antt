use Rattle.std.proofs.Common.{subst, string_bytes}
use Rattle.std.proofs.lemmas.Result.{IfOk-weaker}
use Rattle.ll_program.specs.Rights.{rights_in}
use Rattle.ll_commands.specs.Rights.{IsTableIn}
use Rattle.ll_why.specs.declared.path_rows.RowStyle.{RowStyle}
use Rattle.ll_commands.proofs.rights.rights_table.Goals as goal

pub returns-clause-table : goal.returns-clause-table
returns-clause-table g c =
    IfOk-weaker c.table_in.result _ _ (λ table is. (
      is.0,
      is.1,
      subst (λ (style : RowStyle). IsTableIn style (rights_in c.args.options.now) c.args.profile.now is.0
          (string_bytes table)) c.style_of.ensures is.2,
    )) c.table_in.ensures.table
