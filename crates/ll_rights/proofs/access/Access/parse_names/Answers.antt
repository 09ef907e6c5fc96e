use Rattle.std.proofs.Common.{length-append, lit<, arith}
use Rattle.std.proofs.lemmas.Iterator.Consumers.{YieldsList-at, YieldsList-turn, YieldsList-end}
use Rattle.std.proofs.lemmas.Iterator.Splits.{YieldsList-from_str_split}
use Rattle.ll_rights.proofs.RightNames.{read_none, read_more, read_no_name, read_too_low, read_all}
use Rattle.ll_rights.proofs.access.Access.parse_names.Goals as goal

pub loop-name-init : goal.loop-name-init
loop-name-init c = record { can_next = tt; is_finite = tt; read = read_none _ }

pub returns-in_err-parse-clause-none : goal.returns-in_err-parse-clause-none
returns-in_err-parse-clause-none c =
    let parts = YieldsList-at c.into_iter-name-iterator.ensures.into_iter_gives
    (YieldsList-from_str_split 44 c.args.text.now (lit< tt) c.split-name-items.ensures.text
    c.split-name-items.ensures.has_more c.split-name-items.ensures.pattern) in
    let turn = YieldsList-turn parts c.loop-name.yielded _ c.loop-name.yielded_by _ _ c.in-Some.name c.in-Some.is
    c.next.ensures.steps in
    rw c.from_residual.ensures (read_no_name _ _ _ _ c.loop-name.invariant.read turn.0 turn.1
    c.in_err-parse.ensures.none)

pub returns-then-only-set-clause-none : goal.returns-then-only-set-clause-none
returns-then-only-set-clause-none c =
    let parts = YieldsList-at c.into_iter-name-iterator.ensures.into_iter_gives
    (YieldsList-from_str_split 44 c.args.text.now (lit< tt) c.split-name-items.ensures.text
    c.split-name-items.ensures.has_more c.split-name-items.ensures.pattern) in
    let turn = YieldsList-turn parts c.loop-name.yielded _ c.loop-name.yielded_by _ _ c.in-Some.name c.in-Some.is
    c.next.ensures.steps in
    read_too_low _ _ _ _ c.in_ok-parse.field-0 _ c.loop-name.invariant.read turn.0 turn.1 c.in_ok-parse.ensures.found
    c.in_ok-parse.ensures.known c.access-only.ensures c.if-only-set.true

pub loop-name-preserved : goal.loop-name-preserved
loop-name-preserved c =
    let parts = YieldsList-at c.into_iter-name-iterator.ensures.into_iter_gives
    (YieldsList-from_str_split 44 c.args.text.now (lit< tt) c.split-name-items.ensures.text
    c.split-name-items.ensures.has_more c.split-name-items.ensures.pattern) in
    let turn = YieldsList-turn parts c.loop-name.yielded _ c.loop-name.yielded_by _ _ c.in-Some.name c.in-Some.is
    c.next.ensures.steps in
    let more = read_more _ _ _ _ c.in_ok-parse.field-0 _ c.loop-name.invariant.read turn.0 turn.1
    c.in_ok-parse.ensures.found c.in_ok-parse.ensures.known c.access-only.ensures c.if-only-set.false in
    record { can_next = tt; is_finite = tt; read = rw (length-append, c.with-set.ensures) more }

pub returns-clause-found : goal.returns-clause-found
returns-clause-found c =
    let parts = YieldsList-at c.into_iter-name-iterator.ensures.into_iter_gives
    (YieldsList-from_str_split 44 c.args.text.now (lit< tt) c.split-name-items.ensures.text
    c.split-name-items.ensures.has_more c.split-name-items.ensures.pattern) in
    let all = YieldsList-end parts c.loop-name.yielded _ c.loop-name.yielded_by _ _ c.in-None.is c.next.ensures.steps in
    read_all _ _ _ c.loop-name.invariant.read (omega (arith, all.1))
