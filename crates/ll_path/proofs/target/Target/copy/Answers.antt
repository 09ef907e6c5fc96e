use Rattle.std.proofs.Common.{ℕ, List, subst}
use Rattle.ll_path.specs.Target.{IsTarget}
use Rattle.ll_path.proofs.TargetLemmas.{target_unique}
use Rattle.ll_path.proofs.target.Target.copy.Goals as goal

pub returns : goal.returns
returns c =
    target_unique c.as_str.result.now c.read.result c.args.self.now
    (subst (λ (text : List ℕ). IsTarget text c.read.result) c.in_ok-word.ensures c.read.ensures)
    c.as_str.ensures.target
