use Rattle.std.proofs.Common.{◌∙◌, ◌==◌, length-append, lit<, arith, ap, length, subst, sym, refl}
use Rattle.std.specs.Prelude.{IfNone, IfSome, bit_or}
use Rattle.std.specs.List.{Contains, slice_split}
use Rattle.std.proofs.lemmas.List.{drop_all}
use Rattle.std.proofs.lemmas.List.Elements.{Contains-get_or}
use Rattle.std.proofs.lemmas.Iterator.Consumers.{YieldsList-at, YieldsList-turn, YieldsList-end}
use Rattle.std.proofs.lemmas.Iterator.Splits.{YieldsList-from_str_split}
use Rattle.ll_policy.specs.MeantRights.{IsMeant, IsStrange, Mean}
use Rattle.ll_policy.proofs.Meanings.{means_more}
use Rattle.ll_policy.proofs.meant_rights.rights_meant.Goals as goal

pub returns-in_default-clause-none : goal.returns-in_default-clause-none
returns-in_default-clause-none c =
    let words = slice_split (λ b. b == 44) c.args.text.now in
    let parts = YieldsList-at c.into_iter-word-iterator.ensures.into_iter_gives
    (YieldsList-from_str_split 44 c.args.text.now (lit< tt) c.split-word-items.ensures.text
    c.split-word-items.ensures.has_more c.split-word-items.ensures.pattern) in
    let turn = YieldsList-turn parts c.loop-word.yielded _ c.loop-word.yielded_by _ _ c.in-Some.word c.in-Some.is
    c.next.ensures.steps in
    let word = c.in-Some.word.now in (
      word,
      subst (Contains words) (sym turn.1) (Contains-get_or words (length c.loop-word.yielded) word turn.0),
      subst (λ found. IfNone found (IsStrange word)) c.in_default.is c.in_ok-right.ensures.none,
    )

pub loop-word-preserved : goal.loop-word-preserved
loop-word-preserved c =
    let words = slice_split (λ b. b == 44) c.args.text.now in
    let parts = YieldsList-at c.into_iter-word-iterator.ensures.into_iter_gives
    (YieldsList-from_str_split 44 c.args.text.now (lit< tt) c.split-word-items.ensures.text
    c.split-word-items.ensures.has_more c.split-word-items.ensures.pattern) in
    let turn = YieldsList-turn parts c.loop-word.yielded _ c.loop-word.yielded_by _ _ c.in-Some.word c.in-Some.is
    c.next.ensures.steps in
    let word = c.in-Some.word.now in
    let meant = subst (λ found. IfSome found (IsMeant word)) c.in-Some-2.is c.in_ok-right.ensures.meant in
    let is = c.with-set.ensures ∙ ap (bit_or c.loop-word.set.0) c.access.ensures in
    let more = means_more words (length c.loop-word.yielded) c.loop-word.set.0 word c.in-Some-2.right
    c.with-set.result.0 c.loop-word.invariant.so_far turn.0 turn.1 meant is in
    record { can_next = tt; is_finite = tt; so_far = rw length-append more }

pub returns-clause-meant : goal.returns-clause-meant
returns-clause-meant c =
    let words = slice_split (λ b. b == 44) c.args.text.now in
    let parts = YieldsList-at c.into_iter-word-iterator.ensures.into_iter_gives
    (YieldsList-from_str_split 44 c.args.text.now (lit< tt) c.split-word-items.ensures.text
    c.split-word-items.ensures.has_more c.split-word-items.ensures.pattern) in
    let all = YieldsList-end parts c.loop-word.yielded _ c.loop-word.yielded_by _ _ c.in-None.is c.next.ensures.steps in
    let k = length c.loop-word.yielded in
    let set = c.loop-word.set.0 in
    let none = drop_all k words (omega (arith, all.1)) in
    c.loop-word.invariant.so_far set (subst (λ ws. Mean set ws set) (sym none) refl)
