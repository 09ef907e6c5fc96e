use Rattle.std.proofs.Common.{map, take, string_bytes}
use Rattle.ll_program.specs.Rights.{rights_in}
use Rattle.ll_commands.specs.Profiles.{AreTables}
use Rattle.ll_commands.proofs.profiles.tables_of.Given as goal

-- so far
abbrev pub invariant-loop-profile : goal.invariant-loop-profile
invariant-loop-profile g l = record {
  so_far : AreTables (rights_in l.options) l.read.text.now (map (λ p. p.now) (take l.profile-index l.profiles))
      (string_bytes l.text);
}
