use Rattle.std.proofs.Common.{◌≡◌, ◌++◌, ◌∷◌, take, map}
use Rattle.ll_seq.specs.declared.call.Call.TheVariants.{Ruleset}
use Rattle.ll_policy.specs.KeptCalls.{call_of_rule}
use Rattle.ll_policy.proofs.profile.Layer.push_calls.Given as goal

abbrev pub invariant-loop-rule : goal.invariant-loop-rule
invariant-loop-rule l = l.calls.items ≡ l.fn.calls.items ++ Ruleset l.self.handled
    ∷ map (call_of_rule l.number) (take l.rule-index l.rule-items)
