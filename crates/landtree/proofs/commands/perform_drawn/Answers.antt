use Rattle.std.proofs.Common.{◌≡◌, Result, Err, rules, subst}
use Rattle.std.specs.Prelude.{IfErr}
use Rattle.ll_program.specs.Failure.{IsOfSaving}
use Rattle.ll_program.specs.Options.{scheduled_in}
use Rattle.ll_program.specs.declared.failure.Failure.{Failure}
use Rattle.ll_commands.proofs.Performed.{ends_schedule, undrawn}
use Rattle.landtree.proofs.commands.perform_drawn.Goals as goal

by_saving : {A : Type 0} (r : Result A Failure) (failure : Failure) → r ≡ Err failure → IfErr r IsOfSaving
    → IsOfSaving failure
by_saving {A} r failure is why = subst (λ (x : Result A Failure). IfErr x IsOfSaving) is why

pub returns-in-Ok : goal.returns-in-Ok
returns-in-Ok g c =
    ends_schedule (scheduled_in c.args.options.now) (g.R.Read.remaining c.args.input.now)
    (g.W.Write.contents c.args.out.now) (g.W.Write.contents c.schedule_drawn.new.out) c.in-Ok.drawn.halt
    c.conclude_schedule.result c.in-Ok.ensures.told c.conclude_schedule.ensures.end c.conclude_schedule.ensures.failure

pub returns-in_err-saved-in-Ok : goal.returns-in_err-saved-in-Ok
returns-in_err-saved-in-Ok g c =
    let same : c.from_residual.result ≡ Err c.in_err-saved-in-Ok.field-0.0 = search rules in
    rw same (undrawn (scheduled_in c.args.options.now) (g.R.Read.remaining c.args.input.now)
    (g.W.Write.contents c.args.out.now) (g.W.Write.contents c.schedule_drawn.new.out) c.in-Ok.drawn.halt
    c.in_err-saved-in-Ok.field-0.0 c.in-Ok.ensures.told
    (by_saving c.in-Ok.drawn.saved c.in_err-saved-in-Ok.field-0.0 (search rules) c.in-Ok.ensures.saving))
