use Rattle.std.proofs.Common.{◌≡◌, map, string_bytes, take}
use Rattle.ll_policy.proofs.policy.Policy.names.Given as goal

abbrev pub invariant-loop-profile : goal.invariant-loop-profile
invariant-loop-profile l = map (λ name. name.now) l.names.items
    ≡ map (λ profile. string_bytes profile.name) (take l.profile-index l.profile-items)
