-- The names of profiles.
use Rattle.std.proofs.Common.{◌≡◌, List, [], ◌∷◌, ap, map, refl, string_bytes}
use Rattle.ll_policy.specs.declared.profile.Profile.{Profile}
use Rattle.ll_policy.specs.KeptCalls.{named_calls}

pub names_kept : (profiles : List Profile) → map (λ profile. string_bytes profile.name) profiles
    ≡ map (λ named. named.0) (map named_calls profiles)
names_kept [] = refl
names_kept (profile ∷ profiles) = ap (λ names. string_bytes profile.name ∷ names) (names_kept profiles)
