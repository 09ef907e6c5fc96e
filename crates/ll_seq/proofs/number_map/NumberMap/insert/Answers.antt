use Rattle.std.proofs.Common.{ap, sym, ◌∙◌}
use Rattle.std.specs.Ordering.{nat_cmp}
use Rattle.std.specs.Cmp.{nat_cmp_total}
use Rattle.ll_rights.proofs.Places.{place, added}
use Rattle.ll_seq.proofs.OrderedTables.{got}
use Rattle.ll_seq.proofs.number_map.NumberMap.insert.Goals as goal

pub invariant_of-self-2 : goal.invariant_of-self-2
invariant_of-self-2 g c =
    (added nat_cmp_total c.self.inside.rows.items _ c.args.self.now c.args.number c.args.value c.in-Err.place
    c.self.view_is c.self.invariant c.requires
    (c.in-Err.ensures.place ∙ ap (place nat_cmp c.args.number) c.deref.ensures.value) c.in_ok-insert.ensures.items).0

pub returns-clause-ok : goal.returns-clause-ok
returns-clause-ok g c =
    (added nat_cmp_total c.self.inside.rows.items _ c.args.self.now c.args.number c.args.value c.in-Err.place
    c.self.view_is c.self.invariant c.requires
    (c.in-Err.ensures.place ∙ ap (place nat_cmp c.args.number) c.deref.ensures.value) c.in_ok-insert.ensures.items).1

pub unreachable-requires : goal.unreachable-requires
unreachable-requires g c =
    absurd (cc (sym c.requires ∙ got c.self.inside.rows.items c.deref.result.now c.args.self.now c.args.number
    c.self.view_is c.self.invariant c.deref.ensures.value ∙ c.in_default.ensures.row.1))
