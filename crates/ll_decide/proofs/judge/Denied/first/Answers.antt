use Rattle.std.proofs.Common.{◌∙◌, sym}
use Rattle.ll_decide.specs.Search.{is_in, of_right}
use Rattle.ll_decide.proofs.FirstDenial.{found_here, found_later}
use Rattle.ll_decide.proofs.Sets.{none_in_layer}
use Rattle.ll_decide.proofs.judge.Denied.first.Goals as goal

pub returns-then-is_empty : goal.returns-then-is_empty
returns-then-is_empty c = sym
    (none_in_layer c.args.cause c.args.layer (is_in c.args.self) c.args.rights.now
    (c.is_empty.ensures c.if-is_empty.true))

pub returns-in-Some : goal.returns-in-Some
returns-in-Some c =
    sym (found_here (of_right c.args.cause c.args.layer (is_in c.args.self)) c.args.rights.now c.loop-right.right-index
    c.right-item.result c.in-Some.denial _
    c.loop-right-test.true c.right-item.is (sym c.in_right.ensures ∙ c.in-Some.is) c.loop-right.invariant)

pub loop-right-preserved : goal.loop-right-preserved
loop-right-preserved c =
    found_later (of_right c.args.cause c.args.layer (is_in c.args.self)) c.args.rights.now c.loop-right.right-index
    c.right-item.result _
    c.loop-right-test.true c.right-item.is (sym c.in_right.ensures ∙ c.in_default.is) c.loop-right.invariant
