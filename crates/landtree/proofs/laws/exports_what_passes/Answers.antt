use Rattle.landtree.proofs.ExportsWhatPasses.{exports_what_passes}
use Rattle.landtree.proofs.laws.exports_what_passes.Goals as goal

pub returns : goal.returns
returns c = exports_what_passes
