use Rattle.ll_client.specs.TieRule.{GivesEntry}
use Rattle.ll_client.proofs.tie.Tie.show.Given as goal

-- the step gives the keeper this entry
abbrev pub ghosts-load : goal.ghosts-load
ghosts-load g a = record { then = λ step before found after. GivesEntry g.entry.0 g.entry.1 before after }
