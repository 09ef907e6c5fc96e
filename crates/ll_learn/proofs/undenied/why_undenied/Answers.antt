use Rattle.std.proofs.Common.{List, map, subst, take}
use Rattle.std.specs.Borrow.{Bor}
use Rattle.ll_audit.specs.Saved.{opened}
use Rattle.ll_seq.specs.declared.reply.Entry.{Entry}
use Rattle.ll_seq.specs.State.{State}
use Rattle.ll_why.specs.Reasons.{AreAsked}
use Rattle.ll_learn.proofs.ManyParts.{is_lent}
use Rattle.ll_learn.proofs.Undeniable.{undeniable}
use Rattle.ll_learn.proofs.undenied.why_undenied.Goals as goal

pub returns : goal.returns
returns c = λ yes.
    let s = opened c.args.basis.now.header.now in
    let client = c.args.basis.now.client in
    let lent = c.args.basis.now.histories.now in
    let hs : List (List Entry) = map (λ (h : Bor (List Entry)). h.now) lent in
    let early = take c.in_ok-cut.cut c.in_ok-first.first.now.now in
    let trial = c.args.trial.now in
    let x = c.in_ok-entries.entries.now in
    let item = c.in_ok-entries.ensures.lookup in
    let asks = c.in_ok-asks.asks in
    undeniable s early client hs c.in-Ok.needs c.in_ok-tree.ensures.legal c.in-Ok.ensures.gathered trial x.now
    (is_lent s early client lent trial.history x item.3.0 item.1) c.in_ok-asks.ensures.judged asks
    (subst (λ (t : State). AreAsked t trial.call.now asks) c.in_ok-tree.ensures.tree c.in_ok-asks.ensures.asked)
    (c.imply.ensures yes)
