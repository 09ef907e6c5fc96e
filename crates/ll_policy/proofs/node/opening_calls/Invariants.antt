use Rattle.std.proofs.Common.{◌≡◌, take}
use Rattle.ll_policy.specs.KeptCalls.{opening_of}
use Rattle.ll_policy.proofs.node.opening_calls.Given as goal

abbrev pub invariant-loop-node : goal.invariant-loop-node
invariant-loop-node l = l.calls.items ≡ opening_of (take l.node-index l.nodes)
