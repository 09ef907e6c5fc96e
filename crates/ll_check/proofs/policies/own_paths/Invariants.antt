use Rattle.std.proofs.Common.{◌≡◌, [], map, take}
use Rattle.std.specs.Prelude.{string_bytes}
use Rattle.ll_check.specs.Checks.{tests_of}
use Rattle.ll_check.specs.Files.{own_paths}
use Rattle.ll_check.proofs.policies.own_paths.Given as goal

-- the paths of the sections so far
abbrev pub invariant-loop-file : goal.invariant-loop-file
invariant-loop-file l = map string_bytes l.paths.items ≡ own_paths [] (map tests_of (take l.file-index l.files))
