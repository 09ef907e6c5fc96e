use Rattle.std.proofs.Common.{◌<◌, sym, subst, ◌∙◌}
use Rattle.std.specs.List.{AllByRecursion}
use Rattle.ll_laws.specs.declared.step.Step.TheVariants.{Restart}
use Rattle.ll_steps.proofs.LentContents.{lent_in}
use Rattle.ll_steps.proofs.WalkMakes.{near_start, told_keeps, traded}
use Rattle.ll_steps.proofs.walk.restart_with.Goals as goal

pub restart-outcome-requires : goal.restart-outcome-requires
restart-outcome-requires c = c.trade.ensures.lent
    ∙ lent_in c.args.journal.now c.args.slots.now c.args.numbers.now c.requires.kept.accounts c.requires.there

pub trade-requires-2-clause-there : goal.trade-requires-2-clause-there
trade-requires-2-clause-there c =
    subst (λ n. AllByRecursion (λ number. number < n) c.args.numbers.now) (sym c.trade.auto.slots) c.requires.there

pub returns-clause-kept : goal.returns-clause-kept
returns-clause-kept c =
    told_keeps c.args.journal.now c.restart-outcome.new.self c.args.slots.now c.trade-2.new.slots
    (Restart c.args.client) c.restart-outcome.result c.requires.kept
    (λ e. near_start c.args.journal.now c.args.client c.args.numbers.now c.requires.marked
    (c.restart-outcome.ensures.astray e))
    c.restart-outcome.ensures.does
    (traded c.args.journal.now c.restart-outcome.new.self c.args.slots.now c.trade.new.slots c.trade-2.new.slots
    c.args.numbers.now c.restart-outcome.new.lent c.requires.kept.accounts c.restart-outcome.ensures.spares
    c.trade.auto.slots c.trade-2.auto.slots c.trade.ensures.others c.restart-outcome.ensures.lent c.trade-2.ensures.put
    c.trade-2.ensures.others)
