use Rattle.ll_laws.proofs.SoundSteps.{sound_ended, sound_kept, sound_start}
use Rattle.ll_laws.proofs.shared.steps_keep_worlds_sound.Goals as goal

pub returns-clause-new : goal.returns-clause-new
returns-clause-new c = sound_start

pub returns-clause-steps : goal.returns-clause-steps
returns-clause-steps c = sound_kept

pub returns-clause-ends : goal.returns-clause-ends
returns-clause-ends c = sound_ended
