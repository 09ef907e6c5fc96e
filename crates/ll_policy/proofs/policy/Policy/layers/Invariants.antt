use Rattle.std.proofs.Common.{◌≡◌, drop, map}
use Rattle.std.specs.Map.{lookup}
use Rattle.std.specs.Str.{bytes_eq}
use Rattle.ll_policy.specs.KeptCalls.{named_calls}
use Rattle.ll_policy.proofs.policy.Policy.layers.Given as goal

abbrev pub invariant-loop-profile : goal.invariant-loop-profile
invariant-loop-profile l = lookup (bytes_eq l.name) (map named_calls (drop l.profile-index l.profile-items))
    ≡ lookup (bytes_eq l.name) l.self.profiles
