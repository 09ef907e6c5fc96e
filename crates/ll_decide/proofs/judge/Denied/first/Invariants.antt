use Rattle.std.proofs.Common.{◌≡◌, drop}
use Rattle.std.specs.Prelude.{slice_get}
use Rattle.std.specs.List.{flat_map}
use Rattle.ll_decide.specs.Search.{is_in, of_right, of_layer}
use Rattle.ll_decide.proofs.judge.Denied.first.Given as goal

-- the first is among the rights that are left
abbrev pub invariant-loop-right : goal.invariant-loop-right
invariant-loop-right l =
    slice_get (of_layer l.cause l.layer (is_in l.self) l.rights) 0
    ≡ slice_get (flat_map (of_right l.cause l.layer (is_in l.self)) (drop l.right-index l.rights)) 0
