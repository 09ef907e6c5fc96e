use Rattle.std.proofs.Common.{◌≡◌, ◌∷◌, take}
use Rattle.std.specs.Prelude.{map}
use Rattle.ll_seq.specs.declared.call.Call.TheVariants.{Ruleset}
use Rattle.ll_learn.specs.Profile.{call_of}
use Rattle.ll_learn.proofs.profile.LearnedProfile.calls.Given as goal

-- the ruleset, and the rules so far
abbrev pub invariant-loop-rule : goal.invariant-loop-rule
invariant-loop-rule l =
    l.calls.items ≡ Ruleset l.self.handled ∷ map call_of (take l.rule-index l.self.rules.items)
