use Rattle.std.specs.Prelude.{refl}
use Rattle.std.proofs.Common.{◌∙◌}
use Rattle.std.specs.Option.{option_copied}
use Rattle.ll_journal.proofs.HeldReplies.{if_copied}
use Rattle.ll_journal.proofs.OwnAnswers.{comes_without, comes_confined, comes_not_confined, free_to_confine, none_found}
use Rattle.ll_journal.proofs.OwnAnswers.{copied_none, within}
use Rattle.ll_journal.proofs.alone.confine.Goals as goal

pub returns-then-is_none-clause-ok : goal.returns-then-is_none-clause-ok
returns-then-is_none-clause-ok c =
    if_copied _ c.new.result _ c.new.ensures.ok
    (λ abi. comes_without abi c.args.client.now _ c.args.number
    (none_found c.get.result _ option_copied c.is_none.result c.get.ensures copied_none c.is_none.ensures
    ∙ c.if-is_none.true) refl)

pub confine-requires : goal.confine-requires
confine-requires c = within c.args.client.now.rulesets c.args.number
    (none_found c.get.result _ option_copied c.is_none.result c.get.ensures copied_none c.is_none.ensures
    ∙ c.if-is_none.false)

pub returns-in-Ok-clause-ok : goal.returns-in-Ok-clause-ok
returns-in-Ok-clause-ok c =
    if_copied _ c.new-in-Ok.result _ c.new-in-Ok.ensures.ok
    (λ abi. comes_confined abi c.args.client.now c.confine.new.self c.args.number
    (none_found c.get.result _ option_copied c.is_none.result c.get.ensures copied_none c.is_none.ensures
    ∙ c.if-is_none.false) c.in-Ok.ensures.ok)

pub returns-in-Err-clause-ok : goal.returns-in-Err-clause-ok
returns-in-Err-clause-ok c =
    comes_not_confined c.args.client.now c.confine.new.self c.args.number c.in-Err.errno c.refusal.result
    (none_found c.get.result _ option_copied c.is_none.result c.get.ensures copied_none c.is_none.ensures
    ∙ c.if-is_none.false)
    c.in-Err.ensures.refused c.in-Err.ensures.err c.refusal.ensures.ok

pub returns-in-Err-clause-starved : goal.returns-in-Err-clause-starved
returns-in-Err-clause-starved c =
    free_to_confine c.args.client.now c.args.number c.in-Err.errno c.refusal.result
    (none_found c.get.result _ option_copied c.is_none.result c.get.ensures copied_none c.is_none.ensures
    ∙ c.if-is_none.false)
    c.in-Err.ensures.refused c.refusal.ensures.err
