use Rattle.std.proofs.Common.{◌≡◌, ◌+◌, ◌*◌, ◌^◌, ◌≤◌, false}
use Rattle.ll_wire.specs.LineCuts.{Calls, CanGoOn, Counts, most_left, unread}
use Rattle.ll_wire.specs.Reached.{AnswersSome}
use Rattle.ll_wire.proofs.answers.answer_lines.Given as goal

-- each line takes a byte or a read, and two numbers
abbrev pub invariant-loop-line : goal.invariant-loop-line
invariant-loop-line g l = record {
  ready : CanGoOn 0 l.exchange (g.E.Ends.devices l.ends);
  going : g.A.Answers.over l.answers ≡ false;
  numbers : g.A.Answers.used l.answers + 2 * most_left l.exchange ≤ 2 ^ 62 + 2 * most_left unread;
  some : AnswersSome g.A.Answers.tells l.fn.answers l.answers l.exchange (g.E.Ends.devices l.fn.ends)
      (g.E.Ends.devices l.ends);
  counted : Counts unread l.exchange (g.E.Ends.devices l.fn.ends).remaining (g.E.Ends.devices l.ends).remaining;
  calls : Calls unread l.exchange (g.E.Ends.devices l.fn.ends) (g.E.Ends.devices l.ends);
  goes : g.A.Answers.goes l.fn.answers l.answers;
  same : g.E.Ends.names l.ends ≡ g.E.Ends.names l.fn.ends;
}

abbrev pub decreases-loop-line : goal.decreases-loop-line
decreases-loop-line g l = most_left l.exchange
