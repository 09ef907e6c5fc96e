use Rattle.std.proofs.Common.{refl}
use Rattle.std.proofs.lemmas.Result.{on_ok_weaker}
use Rattle.ll_program.proofs.Known.{is_saved, not_saved}
use Rattle.ll_program.proofs.program.save_where_named.Goals as goal

pub returns-then-is_none-clause-saved : goal.returns-then-is_none-clause-saved
returns-then-is_none-clause-saved g c setup is =
    not_saved c.args.options.now setup c.args.run.history.entries _ _ _ c.if-is_none.ensures refl

pub returns-clause-saved : goal.returns-clause-saved
returns-clause-saved g c setup is = on_ok_weaker c.save_history.result (λ saved.
    is_saved c.args.options.now setup c.args.run.history.entries _ _ _ c.args.header c.if-is_none.ensures is saved)
    c.save_history.ensures.saved
