use Rattle.std.proofs.Common.{map, take}
use Rattle.std.specs.List.{AllZip}
use Rattle.ll_check.specs.Ends.{IsSource}
use Rattle.ll_check.specs.Files.{source_of}
use Rattle.landtree.proofs.checks.texts_of.Given as goal

-- the files of the names so far
abbrev pub invariant-loop-name : goal.invariant-loop-name
invariant-loop-name g l =
    AllZip (IsSource (g.S.Sources.texts l.sources)) (map (λ name. name.now) (take l.name-index l.names))
    (map source_of l.files.items)
