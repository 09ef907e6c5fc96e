use Rattle.std.proofs.Common.{arith, refl}
use Rattle.ll_check.proofs.Judges.{all_judged, counted, none_judged, one_judged}
use Rattle.ll_check.proofs.reporter.Reporter.judge.Goals as goal

pub loop-i-init : goal.loop-i-init
loop-i-init c = record {
  judges = none_judged c.args.self.now.style c.args.self.now.file.now c.args.self.now.section.now
      c.args.out.now.items _ refl refl;
  all = refl;
}

pub loop-i-preserved : goal.loop-i-preserved
loop-i-preserved c = record {
  judges = one_judged c.args.self.now.style c.args.self.now.file.now c.args.self.now.section.now
      c.args.tests.now c.args.replies.now c.loop-i.i
      c.index-tests-i.result c.index-replies-i.result c.is_met-passes.result c.args.out.now.items
      c.loop-i.out.items c.push_shown.new.out.items c.loop-i.tally c.count.new.self (omega arith)
      (omega (arith, c.requires)) c.index-tests-i.is c.index-replies-i.is c.loop-i.invariant.judges
      c.is_met-passes.ensures c.in_ok-push_shown.ensures c.count.ensures.passed c.count.ensures.failed;
  all = counted c.loop-i.tally.passed c.loop-i.tally.failed c.count.new.self.passed c.count.new.self.failed c.loop-i.i
      c.is_met-passes.result c.count.ensures.passed c.count.ensures.failed c.loop-i.invariant.all;
}

pub returns : goal.returns
returns c = all_judged c.args.self.now.style c.args.self.now.file.now c.args.self.now.section.now
    c.args.tests.now c.args.replies.now c.loop-i.i
    c.args.out.now.items c.loop-i.out.items c.loop-i.tally (omega arith) (omega (arith, c.requires))
    c.loop-i.invariant.judges
