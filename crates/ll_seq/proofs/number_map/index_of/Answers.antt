use Rattle.std.proofs.Common.{T, sym, subst}
use Rattle.std.specs.Cmp.{nat_cmp_total}
use Rattle.std.specs.FinMap.{nat_cmp-IsAntisymmetric}
use Rattle.ll_seq.proofs.DentryRows.{found_of_row}
use Rattle.ll_seq.proofs.number_map.index_of.Goals as goal

pub returns-in-Some-clause-row : goal.returns-in-Some-clause-row
returns-in-Some-clause-row g c =
    let row = c.in-Some.ensures.row in (
      row.0,
      found_of_row nat_cmp_total nat_cmp-IsAntisymmetric c.args.rows.now c.in-Some.place (c.args.number, row.0)
          (subst T (sym c.requires) tt) row.1,
      row.1,
    )
