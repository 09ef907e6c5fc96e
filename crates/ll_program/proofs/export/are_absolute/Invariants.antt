use Rattle.std.proofs.Common.{◌≡◌, drop, map}
use Rattle.std.specs.List.{list_all}
use Rattle.ll_program.specs.Options.{is_absolute}
use Rattle.ll_program.proofs.export.are_absolute.Given as goal

-- the others decide
abbrev pub invariant-loop-path : goal.invariant-loop-path
invariant-loop-path l = list_all is_absolute (map (λ t. t.now) l.paths)
    ≡ list_all is_absolute (map (λ t. t.now) (drop l.path-index l.paths))
