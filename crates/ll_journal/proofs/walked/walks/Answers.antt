use Rattle.std.proofs.Common.{sym, ◌∙◌}
use Rattle.ll_journal.proofs.Begun.{turned, walks_is}
use Rattle.ll_journal.proofs.walked.walks.Goals as goal

pub returns-then-names_path : goal.returns-then-names_path
returns-then-names_path c = turned c.refused_early.result c.is_none.result (sym c.is_none.ensures)
    ∙ walks_is c.args.caller.now c.args.call.now c.refused_early.result (sym c.names_path.ensures
    ∙ c.if-names_path.true) (λ path. c.refused_early.ensures)
