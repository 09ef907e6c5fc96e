use Rattle.ll_laws.proofs.SoundSteps.{sound_legal}
use Rattle.ll_laws.proofs.shared.sound_worlds_are_legal.Goals as goal

pub returns : goal.returns
returns c = sound_legal
