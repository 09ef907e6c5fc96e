use Rattle.std.proofs.Common.{arith, ◌∙◌}
use Rattle.ll_laws.specs.declared.step.Step.TheVariants.{Descend}
use Rattle.ll_journal.proofs.SoughtNext.{not_astray}
use Rattle.ll_steps.proofs.ContentsKept.{account_at}
use Rattle.ll_steps.proofs.LentContents.{hint_lent, in_front, in_back, put_two, within_accounts}
use Rattle.ll_steps.proofs.WalkMakes.{told_keeps}
use Rattle.ll_steps.proofs.walk.descend_forth.Goals as goal

pub descend-requires-clause-from : goal.descend-requires-clause-from
descend-requires-clause-from c =
    let before = c.requires.later in
    let size = c.split_at_mut-front.ensures.front_len in
    in_front c.args.slots.now c.split_at_mut-front.result.0.now c.split_at_mut-front.result.1.now
    c.split_at_mut-front.ensures.value c.args.from c.index-front-from.result (omega arith)
    ∙ account_at c.args.journal.now c.args.slots.now c.args.from c.requires.kept.accounts
    (within_accounts c.args.journal.now c.args.slots.now c.args.from c.requires.kept.accounts c.requires.here)

pub descend-requires-clause-to : goal.descend-requires-clause-to
descend-requires-clause-to c =
    let within = c.requires.there in
    let size = c.split_at_mut-front.ensures.back_len in
    in_back c.args.slots.now c.split_at_mut-front.result.0.now c.split_at_mut-front.result.1.now
    c.split_at_mut-front.ensures.value c.args.to c.index-back-0.result c.split_at_mut-front.ensures.front_len
    (omega arith)
    ∙ account_at c.args.journal.now c.args.slots.now c.args.to c.requires.kept.accounts
    (within_accounts c.args.journal.now c.args.slots.now c.args.to c.requires.kept.accounts c.requires.there)

pub descend-requires-clause-names : goal.descend-requires-clause-names
descend-requires-clause-names c =
    hint_lent c.args.journal.now c.args.client c.args.from _ c.args.hint
    (descend-requires-clause-from c) c.requires.names

pub told-requires : goal.told-requires
told-requires c e =
    not_astray c.args.journal.now c.args.client c.args.from c.args.to c.requires.next (c.descend.ensures.astray e)

pub returns-clause-kept : goal.returns-clause-kept
returns-clause-kept c =
    told_keeps c.args.journal.now c.descend.new.self c.args.slots.now _ (Descend c.args.client) c.descend.result
    c.requires.kept (λ e. not_astray c.args.journal.now c.args.client c.args.from c.args.to c.requires.next
    (c.descend.ensures.astray e)) c.descend.ensures.does
    (put_two c.args.slots.now c.split_at_mut-front.result.0.now c.split_at_mut-front.result.1.now
    c.split_at_mut-front.ensures.value c.args.journal.now c.descend.new.self c.args.from c.args.to
    c.descend.new.from c.descend.new.to c.requires.kept.accounts c.split_at_mut-front.ensures.front_len
    c.requires.later c.requires.there c.descend.ensures.spares
    c.descend.ensures.from c.descend.ensures.to)
