use Rattle.std.specs.Cmp.{nat_cmp_total}
use Rattle.std.specs.FinMap.{nat_cmp-IsAntisymmetric}
use Rattle.ll_seq.proofs.OrderedTables.{without, as_before}
use Rattle.ll_seq.proofs.number_map.NumberMap.remove.Goals as goal

pub invariant_of-self : goal.invariant_of-self
invariant_of-self g c =
    (without nat_cmp_total nat_cmp-IsAntisymmetric c.self.inside.rows.items c.deref.result.now _ c.args.self.now
    c.args.number c.in-Some.i c.self.view_is c.self.invariant c.deref.ensures.value c.in-Some.ensures.row
    c.remove.ensures.items).0

pub returns-in-Some : goal.returns-in-Some
returns-in-Some g c =
    (without nat_cmp_total nat_cmp-IsAntisymmetric c.self.inside.rows.items c.deref.result.now _ c.args.self.now
    c.args.number c.in-Some.i c.self.view_is c.self.invariant c.deref.ensures.value c.in-Some.ensures.row
    c.remove.ensures.items).1

pub returns-in_default : goal.returns-in_default
returns-in_default g c =
    as_before nat_cmp_total nat_cmp-IsAntisymmetric c.self.inside.rows.items c.deref.result.now c.args.self.now
    c.args.number c.self.view_is c.self.invariant c.deref.ensures.value c.in_default.ensures.none
