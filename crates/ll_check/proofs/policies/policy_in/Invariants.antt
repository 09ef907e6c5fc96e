use Rattle.std.proofs.Common.{◌≡◌, drop, map}
use Rattle.ll_check.specs.Files.{policy_in, source_of}
use Rattle.ll_check.proofs.policies.policy_in.Given as goal

-- no policy so far has the path
abbrev pub invariant-loop-policy : goal.invariant-loop-policy
invariant-loop-policy l =
    policy_in (map source_of (drop l.policy-index l.policies)) l.path ≡ policy_in (map source_of l.policies) l.path
