use Rattle.std.proofs.Common.{◌≡◌, ◌++◌, ◌∷◌, [], arith}
use Rattle.std.proofs.lemmas.Grind.{common_steps}
use Rattle.landtree.proofs.CheckedFiles.{policy_more}
use Rattle.landtree.proofs.checks.policies_of.Goals as goal

pub loop-path-preserved : goal.loop-path-preserved
loop-path-preserved g c =
    let policy = c.in_ok-policy.policy in
    let more : c.push.new.self.items ≡ c.loop-path.policies.items ++ policy ∷ [] = grind (arith, common_steps) in
    policy_more (g.S.Sources.texts c.args.sources.now) c.loop-path.policies.items c.push.new.self.items policy
    c.loop-path.invariant c.in_ok-policy.ensures.source more
