use Rattle.std.proofs.Common.{◌∙◌}
use Rattle.std.proofs.lemmas.List.{get_or_default}
use Rattle.ll_node.specs.Lent.{vacant}
use Rattle.ll_laws.specs.declared.step.Step.TheVariants.{Descend}
use Rattle.ll_steps.proofs.ContentsKept.{account_at}
use Rattle.ll_steps.proofs.LentContents.{put_one, within_accounts}
use Rattle.ll_steps.proofs.WalkMakes.{near_top, told_keeps}
use Rattle.ll_steps.proofs.walk.enter_at.Goals as goal

pub enter-requires : goal.enter-requires
enter-requires c =
    get_or_default c.args.slots.now c.args.slot c.index-slots-slot.result vacant c.requires.there
    ∙ account_at c.args.journal.now c.args.slots.now c.args.slot c.requires.kept.accounts
    (within_accounts c.args.journal.now c.args.slots.now c.args.slot c.requires.kept.accounts c.requires.there)

pub returns-clause-kept : goal.returns-clause-kept
returns-clause-kept c =
    told_keeps c.args.journal.now c.enter.new.self c.args.slots.now _ (Descend c.args.client) c.enter.result
    c.requires.kept
    (λ e. near_top c.args.journal.now c.args.client c.args.slot c.requires.top c.requires.root
    (c.enter.ensures.astray e))
    c.enter.ensures.does
    (put_one c.args.journal.now c.enter.new.self c.args.slots.now c.args.slot c.enter.new.root c.requires.kept.accounts
    (within_accounts c.args.journal.now c.args.slots.now c.args.slot c.requires.kept.accounts c.requires.there)
    c.enter.ensures.spares c.enter.ensures.lent)
