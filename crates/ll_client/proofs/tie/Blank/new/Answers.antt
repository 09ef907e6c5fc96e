use Rattle.ll_client.proofs.TieSteps.{begins}
use Rattle.ll_client.proofs.tie.Blank.new.Goals as goal

pub of_words-requires : goal.of_words-requires
of_words-requires g c = begins
