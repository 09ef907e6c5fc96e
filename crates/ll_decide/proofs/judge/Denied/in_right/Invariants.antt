use Rattle.std.proofs.Common.{◌≡◌, drop}
use Rattle.std.specs.Prelude.{slice_get}
use Rattle.std.specs.List.{flat_map}
use Rattle.ll_decide.specs.Search.{is_in, of_place, of_right}
use Rattle.ll_decide.proofs.judge.Denied.in_right.Given as goal

-- the first is among the places that are left
abbrev pub invariant-loop-place : goal.invariant-loop-place
invariant-loop-place l =
    slice_get (of_right l.cause l.layer (is_in l.self) l.right) 0
    ≡ slice_get (flat_map (of_place l.cause l.layer (is_in l.self) l.right) (drop l.place-index l.place-items)) 0
