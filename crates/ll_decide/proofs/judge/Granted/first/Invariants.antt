use Rattle.std.proofs.Common.{◌≡◌, ◌+◌, ◌-◌, length}
use Rattle.std.specs.Prelude.{slice_get}
use Rattle.std.specs.List.{flat_map, enumerate_from, range_with_len}
use Rattle.ll_decide.specs.Search.{fails, of_layer, of_all}
use Rattle.ll_decide.proofs.judge.Granted.first.Given as goal

-- the first is among the layers that are left
abbrev pub invariant-loop-layer : goal.invariant-loop-layer
invariant-loop-layer l =
    slice_get (of_all l.self l.demands l.reason l.cause l.rights) 0
    ≡ slice_get (flat_map (λ n. of_layer l.cause n.0 (fails l.self l.demands l.reason n.1) l.rights)
    (enumerate_from (l.layer + 1) (range_with_len l.layer (length l.self.itself.now - l.layer)))) 0
