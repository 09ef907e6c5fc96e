use Rattle.std.proofs.Common.{◌≡◌, ◌++◌}
use Rattle.ll_path.specs.Path.{Path}
use Rattle.ll_plain.specs.WalkPlace.{IsWalk}
use Rattle.ll_plain.proofs.Plain.walk.Given as goal

-- the names so far are those in front of what is left
abbrev pub invariant-loop-name : goal.invariant-loop-name
invariant-loop-name l = record {
  can : (goal.iterator-loop-name).can_next l.name-iterator;
  finite : (goal.iterator-loop-name).is_finite l.name-iterator;
  front : (front : Path) × (l.fn.names ≡ front ++ l.name-iterator) × IsWalk l.self l.domain front l.walk;
}
