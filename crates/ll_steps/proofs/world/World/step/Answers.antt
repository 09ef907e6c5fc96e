use Rattle.ll_laws.specs.declared.step.Step.TheVariants.{Begin, FdCommit, ClientStep}
use Rattle.ll_steps.proofs.AddedEntries.{told_step, back_makes}
use Rattle.ll_steps.proofs.world.World.step.Goals as goal
use Rattle.ll_steps.proofs.world.World.step.Goals.{in-Join, in-Begin, in-Descend, in-Fork, in-Commit, in-Restart}
use Rattle.ll_steps.proofs.world.World.step.Goals.{in-FdCommit, in-ClientStep}

pub returns-clause-makes : goal.returns-clause-makes
returns-clause-makes c = elim c.match-step.branch [
  | in-Join w ↦ told_step _ _ _ _ _ _ _ w.in-Join.is w.outcome-is w.self-is w.join-outcome.ensures
  | in-Descend w ↦ told_step _ _ _ _ _ _ _ w.in-Descend.is w.outcome-is w.self-is w.descend-outcome.ensures
  | in-Fork w ↦ told_step _ _ _ _ _ _ _ w.in-Fork.is w.outcome-is w.self-is w.fork-outcome.ensures
  | in-Commit w ↦ told_step _ _ _ _ _ _ _ w.in-Commit.is w.outcome-is w.self-is w.commit-outcome.ensures
  | in-Restart w ↦ told_step _ _ _ _ _ _ _ w.in-Restart.is w.outcome-is w.self-is w.restart-outcome.ensures
  | in-Begin w ↦
      told_step c.args.self.now c.match-step.self w.begin.new.self c.args.step (Begin w.in-Begin.client w.in-Begin.call)
      c.match-step.outcome w.or_not_now-outcome.result w.in-Begin.is w.outcome-is w.self-is
      (back_makes c.args.self.now w.begin.new.self (Begin w.in-Begin.client w.in-Begin.call) w.begin.result
      w.or_not_now-outcome.result w.or_not_now-outcome.ensures.made w.or_not_now-outcome.ensures.back
      w.begin.ensures.makes w.begin.ensures.not_now w.begin.ensures.same)
  | in-FdCommit w ↦
      told_step c.args.self.now c.match-step.self w.fd_commit.new.self c.args.step
      (FdCommit w.in-FdCommit.client w.in-FdCommit.call) c.match-step.outcome
      w.or_not_now-outcome-in-FdCommit.result w.in-FdCommit.is w.outcome-is w.self-is
      (back_makes c.args.self.now w.fd_commit.new.self (FdCommit w.in-FdCommit.client w.in-FdCommit.call)
      w.fd_commit.result w.or_not_now-outcome-in-FdCommit.result w.or_not_now-outcome-in-FdCommit.ensures.made
      w.or_not_now-outcome-in-FdCommit.ensures.back w.fd_commit.ensures.makes w.fd_commit.ensures.not_now
      w.fd_commit.ensures.same)
  | in-ClientStep w ↦
      told_step c.args.self.now c.match-step.self w.client_step.new.self c.args.step
      (ClientStep w.in-ClientStep.client w.in-ClientStep.call) c.match-step.outcome
      w.or_not_now-outcome-in-ClientStep.result w.in-ClientStep.is w.outcome-is w.self-is
      (back_makes c.args.self.now w.client_step.new.self (ClientStep w.in-ClientStep.client w.in-ClientStep.call)
      w.client_step.result w.or_not_now-outcome-in-ClientStep.result w.or_not_now-outcome-in-ClientStep.ensures.made
      w.or_not_now-outcome-in-ClientStep.ensures.back w.client_step.ensures.makes w.client_step.ensures.not_now
      w.client_step.ensures.same)
]
