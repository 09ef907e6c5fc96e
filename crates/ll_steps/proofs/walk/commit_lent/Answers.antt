use Rattle.std.proofs.Common.{◌<◌, List, length, ap, sym, subst, ◌∙◌}
use Rattle.std.specs.List.{AllByRecursion}
use Rattle.ll_seq.specs.declared.reply.Entry.{Entry}
use Rattle.ll_laws.specs.declared.step.Step.TheVariants.{Commit}
use Rattle.ll_steps.specs.Contents.{ended_as}
use Rattle.ll_steps.specs.Makes.{Makes}
use Rattle.ll_steps.specs.declared.report.Report.{Report}
use Rattle.ll_steps.proofs.LentContents.{lent_in}
use Rattle.ll_steps.proofs.WalkMakes.{near_end, ending_makes, ending_keeps, traded}
use Rattle.ll_steps.proofs.walk.commit_lent.Goals as goal

pub commit-ending-requires-clause-lent : goal.commit-ending-requires-clause-lent
commit-ending-requires-clause-lent c =
    c.trade.ensures.lent ∙ lent_in c.args.journal.now c.args.slots.now c.args.numbers.now c.requires.kept.accounts
    c.requires.there

pub trade-requires-2-clause-there : goal.trade-requires-2-clause-there
trade-requires-2-clause-there c =
    subst (λ n. AllByRecursion (λ number. number < n) c.args.numbers.now) (sym c.trade.auto.slots) c.requires.there

pub returns-clause-makes : goal.returns-clause-makes
returns-clause-makes c =
    subst (λ (o : Report). Makes c.args.journal.now.world (Commit c.args.client) o c.commit-ending.new.self.world)
    (sym (c.ended.ensures ∙ ap (λ (es : List Entry). ended_as (length es) c.commit-ending.result) c.entries.ensures))
    (ending_makes c.args.journal.now c.commit-ending.new.self c.args.client c.commit-ending.result
    (λ e. near_end c.args.journal.now c.args.client c.args.numbers.now c.requires.enough
    (c.commit-ending.ensures.astray e))
    c.commit-ending.ensures.does)

pub returns-clause-kept : goal.returns-clause-kept
returns-clause-kept c =
    ending_keeps c.args.journal.now c.commit-ending.new.self c.args.slots.now c.trade-2.new.slots c.args.client
    c.commit-ending.result c.requires.kept
    (λ e. near_end c.args.journal.now c.args.client c.args.numbers.now c.requires.enough
    (c.commit-ending.ensures.astray e))
    c.commit-ending.ensures.does
    (traded c.args.journal.now c.commit-ending.new.self c.args.slots.now c.trade.new.slots c.trade-2.new.slots
    c.args.numbers.now c.commit-ending.new.lent c.requires.kept.accounts c.commit-ending.ensures.spares
    c.trade.auto.slots c.trade-2.auto.slots c.trade.ensures.others c.commit-ending.ensures.lent c.trade-2.ensures.put
    c.trade-2.ensures.others)
