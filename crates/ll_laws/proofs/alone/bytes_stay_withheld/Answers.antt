use Rattle.ll_laws.proofs.WithheldBytes.{bytes_are_withheld}
use Rattle.ll_laws.proofs.alone.bytes_stay_withheld.Goals as goal

pub returns : goal.returns
returns c = bytes_are_withheld
