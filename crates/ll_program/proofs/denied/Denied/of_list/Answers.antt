use Rattle.std.proofs.Common.{◌∙◌, arith, length, length-append, lit<, sym}
use Rattle.std.specs.Prelude.{◌==◌}
use Rattle.std.specs.List.{slice_split}
use Rattle.std.proofs.lemmas.Iterator.Consumers.{YieldsList-at, YieldsList-turn, YieldsList-end}
use Rattle.std.proofs.lemmas.Iterator.Splits.{YieldsList-from_str_split}
use Rattle.ll_program.proofs.DeniedWords.{none_to_come, to_come}
use Rattle.ll_program.proofs.denied.Denied.of_list.Goals as goal

pub returns-in_err-denied : goal.returns-in_err-denied
returns-in_err-denied c =
    let parts = YieldsList-at c.into_iter-word-iterator.ensures.into_iter_gives
    (YieldsList-from_str_split 44 c.args.list.now (lit< tt) c.split-word-items.ensures.text
    c.split-word-items.ensures.has_more c.split-word-items.ensures.pattern) in
    let turn = YieldsList-turn parts c.loop-word.yielded _ c.loop-word.yielded_by _ _ c.in-Some.word c.in-Some.is
    c.next.ensures.steps in
    c.from_residual.ensures ∙ sym (c.loop-word.invariant.read
    ∙ to_come c.loop-word.denied _ _ _ turn.0 turn.1 _ (sym c.in_err-denied.was ∙ c.with.ensures))

pub loop-word-preserved : goal.loop-word-preserved
loop-word-preserved c =
    let parts = YieldsList-at c.into_iter-word-iterator.ensures.into_iter_gives
    (YieldsList-from_str_split 44 c.args.list.now (lit< tt) c.split-word-items.ensures.text
    c.split-word-items.ensures.has_more c.split-word-items.ensures.pattern) in
    let turn = YieldsList-turn parts c.loop-word.yielded _ c.loop-word.yielded_by _ _ c.in-Some.word c.in-Some.is
    c.next.ensures.steps in
    let on = c.loop-word.invariant.read
    ∙ to_come c.loop-word.denied _ _ _ turn.0 turn.1 _ (sym c.in_ok-denied.was ∙ c.with.ensures) in
    record { can_next = tt; is_finite = tt; read = rw length-append on }

pub returns : goal.returns
returns c =
    let parts = YieldsList-at c.into_iter-word-iterator.ensures.into_iter_gives
    (YieldsList-from_str_split 44 c.args.list.now (lit< tt) c.split-word-items.ensures.text
    c.split-word-items.ensures.has_more c.split-word-items.ensures.pattern) in
    let all = YieldsList-end parts c.loop-word.yielded _ c.loop-word.yielded_by _ _ c.in-None.is c.next.ensures.steps in
    let words = slice_split (λ b. b == 44) c.args.list.now in
    sym (c.loop-word.invariant.read
    ∙ none_to_come c.loop-word.denied words (length c.loop-word.yielded) (omega (arith, all.1)))
