use Rattle.std.proofs.Common.{arith}
use Rattle.ll_path.proofs.Places.{len_within, place_next}
use Rattle.ll_path.proofs.path.Path.place_after.Goals as goal

pub overflow_add-place : goal.overflow_add-place
overflow_add-place c = omega (
  arith,
  len_within _ _ _ _ c.requires.place c.joined-joined.ensures.text c.requires.name,
  c.joined-joined.type_inv.0,
)

pub prove-unreachable-requires : goal.prove-unreachable-requires
prove-unreachable-requires c =
    omega (arith, len_within _ _ _ _ c.requires.place c.joined-joined.ensures.text c.requires.name, c.if-prove.true)

pub returns-clause-place : goal.returns-clause-place
returns-clause-place c = place_next _ _ _ c.requires.place c.requires.name
