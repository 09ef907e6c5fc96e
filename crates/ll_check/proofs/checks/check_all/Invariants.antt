use Rattle.std.proofs.Common.{map, take}
use Rattle.ll_program.specs.Options.{checked_in}
use Rattle.ll_check.specs.Checks.{tests_of}
use Rattle.ll_check.specs.Files.{AreChecked, source_of}
use Rattle.ll_check.proofs.checks.check_all.Given as goal

-- what the sections so far have given
abbrev pub invariant-loop-section : goal.invariant-loop-section
invariant-loop-section g l =
    AreChecked (checked_in l.input.options.now) l.input.policy.now (map source_of l.input.policies.now)
    (map tests_of (take l.section l.files)) l.fn.report.items l.report.items l.sum
