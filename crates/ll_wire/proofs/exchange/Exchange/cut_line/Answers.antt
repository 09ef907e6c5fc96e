use Rattle.std.proofs.Common.{◌<◌, ◌∙◌, inr, arith}
use Rattle.ll_wire.specs.LineCuts.{IsLeft, most_left}
use Rattle.ll_wire.proofs.Cuts.{byte_more, byte_last, no_byte}
use Rattle.ll_wire.proofs.LeftToRead.{counts_more}
use Rattle.ll_wire.proofs.ToldParts.{byte_owes, byte_silent, calls_more}
use Rattle.ll_wire.proofs.exchange.Exchange.cut_line.Goals as goal

pub returns-then-byte-eq10-clause-line : goal.returns-then-byte-eq10-clause-line
returns-then-byte-eq10-clause-line g c left is =
    byte_last _ (IsLeft c.next_byte.new.self (g.E.Ends.devices c.next_byte.new.ends).remaining) _
    c.in_ok-byte.ensures.byte
    c.loop-byte.line _ left c.in-Some.byte c.in-Some.is c.if-byte-eq10.true c.push.ensures
    (c.loop-byte.invariant.line left is)

pub loop-byte-preserved : goal.loop-byte-preserved
loop-byte-preserved g c =
    let d = g.E.Ends.devices in
    let i = c.loop-byte.invariant in
    let taken : most_left c.next_byte.new.self < most_left c.loop-byte.self =
    rw c.in-Some.is at c.in_ok-byte.ensures.fewer in
    let sooner : most_left c.next_byte.new.self < most_left c.args.self.now = omega (arith, taken, i.fewer) in record {
      ready = byte_owes c.next_byte.new.self (d c.next_byte.new.ends) c.in-Some.byte c.if-byte-eq10.false
          (rw c.in-Some.is at c.in_ok-byte.ensures.ready);
      silent = byte_silent c.next_byte.new.self c.in-Some.byte c.if-byte-eq10.false
          (rw c.in-Some.is at c.in_ok-byte.ensures.silent);
      line = λ left is. byte_more _ (IsLeft c.next_byte.new.self (d c.next_byte.new.ends).remaining) _
          c.in_ok-byte.ensures.byte c.loop-byte.line _ left c.in-Some.byte c.in-Some.is c.if-byte-eq10.false
          c.push.ensures (i.line left is);
      some = inr sooner;
      fewer = omega (arith, sooner);
      contents = c.in_ok-byte.ensures.contents ∙ i.contents;
      waiting = c.in_ok-byte.ensures.waiting ∙ i.waiting;
      counted = counts_more c.args.self.now c.loop-byte.self c.next_byte.new.self _ _ _ i.counted
          c.in_ok-byte.ensures.counted;
      calls = calls_more c.args.self.now c.loop-byte.self c.next_byte.new.self (d c.args.ends.now)
          (d c.loop-byte.ends) (d c.next_byte.new.ends) i.calls c.in_ok-byte.ensures.calls;
      same = c.in_ok-byte.ensures.same ∙ i.same;
    }

pub returns-clause-line : goal.returns-clause-line
returns-clause-line g c left is =
    no_byte _ (IsLeft c.next_byte.new.self (g.E.Ends.devices c.next_byte.new.ends).remaining) _
    c.in_ok-byte.ensures.byte
    c.loop-byte.line c.loop-byte.line left c.is_empty.result c.in_default.is c.is_empty.ensures
    (c.loop-byte.invariant.line left is)
