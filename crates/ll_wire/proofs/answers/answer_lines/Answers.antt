use Rattle.std.proofs.Common.{◌∙◌, List, ℕ, Ok, ap, arith, length, refl, subst, sym}
use Rattle.std.proofs.lemmas.Result.{on_ok_weaker, on_err_weaker}
use Rattle.ll_wire.specs.LineCuts.{most_left, unread}
use Rattle.ll_wire.proofs.Advance.{all_read, all_told, end_stops, none_yet, on_err, one_more, one_stops, one_untold}
use Rattle.ll_wire.proofs.Advance.{reading_stops, still_some}
use Rattle.ll_wire.proofs.LeftToRead.{counts_more, counts_still, left_still}
use Rattle.ll_wire.proofs.ToldParts.{calls_more, ready_at_first}
use Rattle.ll_wire.proofs.answers.answer_lines.Goals as goal

pub loop-line-init : goal.loop-line-init
loop-line-init g c =
    let d = g.E.Ends.devices c.args.ends.now in
    let exchange = c.in-Ok-Ok.exchange in
    let is = c.in-Ok-Ok.ensures in
    let most = ap most_left is in
    let reads = ap (λ r. r.reads) is in record {
      ready = ready_at_first exchange d is c.requires.whole c.requires.answered c.requires.reads;
      going = c.requires.going;
      numbers = omega (arith, c.requires.room, most);
      some = none_yet g.A.Answers.tells c.args.answers.now exchange d is;
      counted = λ rest e. (rest, e, omega (arith, reads));
      calls = omega (arith, reads);
      goes = g.met.A.Answers.goes_nowhere c.args.answers.now;
      same = refl;
    }

pub loop-line-preserved : goal.loop-line-preserved
loop-line-preserved g c =
    let d = g.E.Ends.devices in
    let tells = g.A.Answers.tells in
    let i = c.loop-line.invariant in
    let read = c.in_ok-read_line.ensures in
    let told = c.in_ok-reply-in-Ok.ensures in
    let fewer = read.fewer (ap Ok c.if-branch.true) in
    let held = ap length told.kept.0 in
    let a = c.loop-line.answers in
    let b = c.read_line.new.answers in
    let answered = c.answer.new.self in
    let e = c.reply.new.answers in record {
      ready = told.ready;
      going = sym c.is_over.ensures ∙ c.if-is_over.false;
      numbers = omega (arith, i.numbers, fewer, held, told.reads, c.in-Ok.ensures.used, read.settled.2, told.settled.2);
      some = one_more tells c.args.answers.now b c.loop-line.exchange (d c.args.ends.now)
          (d c.loop-line.ends) (still_some tells c.args.answers.now a b c.loop-line.exchange (d c.args.ends.now)
          (d c.loop-line.ends) i.some read.settled.0 read.quiet)
          c.read_line.new.self (d c.read_line.new.ends) c.read_line.new.line _ read.line
          read.tells c.if-branch.true e c.as_str.result.now c.reply.new.self (d c.reply.new.ends)
          (λ piece held. told.settled.0 b piece c.as_str.result.now
          (subst (λ (x : List ℕ). tells b piece x answered)
          (sym c.as_str.ensures.value) (c.in-Ok.ensures.ok piece held)))
          (λ left. left_still c.read_line.new.self c.reply.new.self (d c.read_line.new.ends).remaining
          (d c.reply.new.ends).remaining left told.kept.0 told.kept.1 told.remaining) told.tells;
      counted = counts_still unread c.read_line.new.self c.reply.new.self (d c.args.ends.now).remaining
          (d c.read_line.new.ends).remaining (d c.reply.new.ends).remaining
          (counts_more unread c.loop-line.exchange c.read_line.new.self (d c.args.ends.now).remaining
          (d c.loop-line.ends).remaining (d c.read_line.new.ends).remaining i.counted read.counted)
          told.remaining told.reads;
      calls = calls_more unread c.read_line.new.self c.reply.new.self (d c.args.ends.now) (d c.read_line.new.ends)
          (d c.reply.new.ends) (calls_more unread c.loop-line.exchange c.read_line.new.self (d c.args.ends.now)
          (d c.loop-line.ends) (d c.read_line.new.ends) i.calls read.calls) told.calls;
      goes = g.met.A.Answers.goes_on c.args.answers.now answered e
          (g.met.A.Answers.goes_on c.args.answers.now b answered
          (g.met.A.Answers.goes_on c.args.answers.now a b i.goes read.settled.1) c.answer.ensures.goes)
          told.settled.1;
      same = told.same ∙ read.same ∙ i.same;
    }

pub returns-in_err-read_line-clause-err : goal.returns-in_err-read_line-clause-err
returns-in_err-read_line-clause-err g c =
    let d = g.E.Ends.devices in
    let tells = g.A.Answers.tells in
    let read = c.read_line.ensures in
    let a = c.loop-line.answers in
    let b = c.read_line.new.answers in
    on_err c.from_residual.result
    (reading_stops tells c.args.answers.now b c.loop-line.exchange (d c.args.ends.now) (d c.loop-line.ends)
    (still_some tells c.args.answers.now a b c.loop-line.exchange (d c.args.ends.now) (d c.loop-line.ends)
    c.loop-line.invariant.some read.settled.0 read.quiet) (d c.read_line.new.ends) c.in_err-read_line.ensures.front)

pub returns-in_err-reply-in-Ok-clause-err : goal.returns-in_err-reply-in-Ok-clause-err
returns-in_err-reply-in-Ok-clause-err g c =
    let d = g.E.Ends.devices in
    let tells = g.A.Answers.tells in
    let read = c.in_ok-read_line.ensures in
    let a = c.loop-line.answers in
    let b = c.read_line.new.answers in on_err c.from_residual-in_err-reply-in-Ok.result
    (one_stops tells c.args.answers.now b c.loop-line.exchange (d c.args.ends.now)
    (d c.loop-line.ends) (still_some tells c.args.answers.now a b c.loop-line.exchange (d c.args.ends.now)
    (d c.loop-line.ends) c.loop-line.invariant.some read.settled.0 read.quiet)
    c.read_line.new.self (d c.read_line.new.ends) c.read_line.new.line _
    read.line read.tells c.if-branch.true c.reply.new.answers
    c.as_str.result.now (d c.reply.new.ends)
    (λ piece held. c.reply.ensures.settled.0 b piece c.as_str.result.now
    (subst (λ (x : List ℕ). tells b piece x c.answer.new.self)
    (sym c.as_str.ensures.value) (c.in-Ok.ensures.ok piece held)))
    c.in_err-reply-in-Ok.ensures.front)

pub returns-in-Err-clause-err : goal.returns-in-Err-clause-err
returns-in-Err-clause-err g c =
    let d = g.E.Ends.devices in
    let tells = g.A.Answers.tells in
    let read = c.in_ok-read_line.ensures in
    let a = c.loop-line.answers in
    let b = c.read_line.new.answers in
    one_untold tells c.args.answers.now b c.loop-line.exchange (d c.args.ends.now)
    (d c.loop-line.ends) (still_some tells c.args.answers.now a b c.loop-line.exchange (d c.args.ends.now)
    (d c.loop-line.ends) c.loop-line.invariant.some read.settled.0 read.quiet)
    c.read_line.new.self (d c.read_line.new.ends) c.read_line.new.line _
    read.line read.tells c.if-branch.true c.starve.new.answers
    (d c.starve.new.ends)
    (λ piece held. let some = c.in-Err.ensures.err piece held in
    (some.0, c.starve.ensures.settled.0 b piece some.0 some.1)) c.starve.ensures.front

pub returns-in-Err-clause-goes : goal.returns-in-Err-clause-goes
returns-in-Err-clause-goes g c =
    let a = c.loop-line.answers in
    let b = c.read_line.new.answers in
    g.met.A.Answers.goes_on c.args.answers.now c.answer.new.self c.starve.new.answers
    (g.met.A.Answers.goes_on c.args.answers.now b c.answer.new.self
    (g.met.A.Answers.goes_on c.args.answers.now a b c.loop-line.invariant.goes c.read_line.ensures.settled.1)
    c.answer.ensures.goes) c.starve.ensures.settled.1

pub returns-then-is_over-clause-over : goal.returns-then-is_over-clause-over
returns-then-is_over-clause-over g c =
    let d = g.E.Ends.devices in
    let tells = g.A.Answers.tells in
    let read = c.in_ok-read_line.ensures in
    let told = c.in_ok-reply-in-Ok.ensures in
    let a = c.loop-line.answers in
    let b = c.read_line.new.answers in
    let e = c.reply.new.answers in
    let after = one_more tells c.args.answers.now b c.loop-line.exchange (d c.args.ends.now)
    (d c.loop-line.ends) (still_some tells c.args.answers.now a b c.loop-line.exchange (d c.args.ends.now)
    (d c.loop-line.ends) c.loop-line.invariant.some read.settled.0 read.quiet)
    c.read_line.new.self (d c.read_line.new.ends) c.read_line.new.line _ read.line read.tells c.if-branch.true e
    c.as_str.result.now c.reply.new.self (d c.reply.new.ends)
    (λ piece held. told.settled.0 b piece c.as_str.result.now
    (subst (λ (x : List ℕ). tells b piece x c.answer.new.self)
    (sym c.as_str.ensures.value) (c.in-Ok.ensures.ok piece held)))
    (λ left. left_still c.read_line.new.self c.reply.new.self (d c.read_line.new.ends).remaining
    (d c.reply.new.ends).remaining left told.kept.0 told.kept.1 told.remaining) told.tells in
    let end = c.end.ensures in
    let all = still_some tells c.args.answers.now e c.end.new.answers c.reply.new.self (d c.args.ends.now)
    (d c.reply.new.ends) after end.settled.0 end.quiet in
    on_ok_weaker c.end.result (λ written over.
    all_told tells c.args.answers.now c.end.new.answers c.reply.new.self (d c.args.ends.now) (d c.reply.new.ends) all
    (d c.end.new.ends) (λ text. written (d c.args.ends.now).contents text)) end.tells

pub returns-then-is_over-clause-err : goal.returns-then-is_over-clause-err
returns-then-is_over-clause-err g c =
    let d = g.E.Ends.devices in
    let tells = g.A.Answers.tells in
    let read = c.in_ok-read_line.ensures in
    let told = c.in_ok-reply-in-Ok.ensures in
    let a = c.loop-line.answers in
    let b = c.read_line.new.answers in
    let e = c.reply.new.answers in
    let after = one_more tells c.args.answers.now b c.loop-line.exchange (d c.args.ends.now)
    (d c.loop-line.ends) (still_some tells c.args.answers.now a b c.loop-line.exchange (d c.args.ends.now)
    (d c.loop-line.ends) c.loop-line.invariant.some read.settled.0 read.quiet)
    c.read_line.new.self (d c.read_line.new.ends) c.read_line.new.line _ read.line read.tells c.if-branch.true e
    c.as_str.result.now c.reply.new.self (d c.reply.new.ends)
    (λ piece held. told.settled.0 b piece c.as_str.result.now
    (subst (λ (x : List ℕ). tells b piece x c.answer.new.self)
    (sym c.as_str.ensures.value) (c.in-Ok.ensures.ok piece held)))
    (λ left. left_still c.read_line.new.self c.reply.new.self (d c.read_line.new.ends).remaining
    (d c.reply.new.ends).remaining left told.kept.0 told.kept.1 told.remaining) told.tells in
    let end = c.end.ensures in
    let all = still_some tells c.args.answers.now e c.end.new.answers c.reply.new.self (d c.args.ends.now)
    (d c.reply.new.ends) after end.settled.0 end.quiet in
    on_err_weaker c.end.result (λ front.
    reading_stops tells c.args.answers.now c.end.new.answers c.reply.new.self (d c.args.ends.now) (d c.reply.new.ends)
    all (d c.end.new.ends) front) end.front

pub returns-then-is_over-clause-goes : goal.returns-then-is_over-clause-goes
returns-then-is_over-clause-goes g c =
    let a = c.loop-line.answers in
    let b = c.read_line.new.answers in
    let e = c.reply.new.answers in
    g.met.A.Answers.goes_on c.args.answers.now e c.end.new.answers
    (g.met.A.Answers.goes_on c.args.answers.now c.answer.new.self e
    (g.met.A.Answers.goes_on c.args.answers.now b c.answer.new.self
    (g.met.A.Answers.goes_on c.args.answers.now a b c.loop-line.invariant.goes c.read_line.ensures.settled.1)
    c.answer.ensures.goes) c.reply.ensures.settled.1) c.end.ensures.settled.1

pub returns-clause-ok : goal.returns-clause-ok
returns-clause-ok g c =
    let d = g.E.Ends.devices in
    let tells = g.A.Answers.tells in
    let read = c.in_ok-read_line.ensures in
    let a = c.loop-line.answers in
    let b = c.read_line.new.answers in
    let end = c.end-2.ensures in
    on_ok_weaker c.end-2.result (λ written going.
    all_read tells c.args.answers.now b c.loop-line.exchange (d c.args.ends.now) (d c.loop-line.ends)
    (still_some tells c.args.answers.now a b c.loop-line.exchange (d c.args.ends.now)
    (d c.loop-line.ends) c.loop-line.invariant.some read.settled.0 read.quiet)
    c.read_line.new.self (d c.read_line.new.ends) c.read_line.new.line _ read.line read.tells
    c.end-2.new.answers end.settled.0 end.quiet (d c.end-2.new.ends) c.if-branch.false
    end.remaining (λ text. written (d c.args.ends.now).contents text)) end.tells

pub returns-clause-err : goal.returns-clause-err
returns-clause-err g c =
    let d = g.E.Ends.devices in
    let tells = g.A.Answers.tells in
    let read = c.in_ok-read_line.ensures in
    let a = c.loop-line.answers in
    let b = c.read_line.new.answers in
    let end = c.end-2.ensures in
    on_err_weaker c.end-2.result (λ front.
    end_stops tells c.args.answers.now b c.loop-line.exchange (d c.args.ends.now) (d c.loop-line.ends)
    (still_some tells c.args.answers.now a b c.loop-line.exchange (d c.args.ends.now)
    (d c.loop-line.ends) c.loop-line.invariant.some read.settled.0 read.quiet)
    c.read_line.new.self (d c.read_line.new.ends) c.read_line.new.line _ read.line read.tells
    c.end-2.new.answers end.settled.0 end.quiet (d c.end-2.new.ends) front) end.front

pub returns-clause-goes : goal.returns-clause-goes
returns-clause-goes g c =
    let a = c.loop-line.answers in
    let b = c.read_line.new.answers in
    g.met.A.Answers.goes_on c.args.answers.now b c.end-2.new.answers
    (g.met.A.Answers.goes_on c.args.answers.now a b c.loop-line.invariant.goes c.read_line.ensures.settled.1)
    c.end-2.ensures.settled.1
