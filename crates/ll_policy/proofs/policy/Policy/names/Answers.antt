use Rattle.std.proofs.Common.{◌≡◌, ◌∙◌, ap, map, string_bytes, take}
use Rattle.std.proofs.lemmas.List.{take_all}
use Rattle.ll_policy.proofs.Names.{names_kept}
use Rattle.ll_policy.proofs.policy.Policy.names.Goals as goal

pub returns : goal.returns
returns c =
    let l = c.loop-profile in
    let all : take l.profile-index c.deref-profile-items.result.now ≡ c.self.inside.profiles.items =
    take_all l.profile-index c.deref-profile-items.result.now c.loop-profile-test.false
    ∙ c.deref-profile-items.ensures.value in
    l.invariant ∙ ap (map (λ profile. string_bytes profile.name)) all ∙ names_kept c.self.inside.profiles.items
    ∙ ap (λ plan. map (λ profile. profile.0) plan.profiles) c.self.view_is
