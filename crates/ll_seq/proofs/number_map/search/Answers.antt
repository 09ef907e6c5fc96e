use Rattle.std.proofs.Common.{rules}
use Rattle.std.specs.Cmp.{nat_cmp_total}
use Rattle.std.specs.FinMap.{nat_cmp-IsAntisymmetric}
use Rattle.std.proofs.lemmas.List.Sorted.{answers_always}
use Rattle.ll_seq.proofs.Searches.{searched}
use Rattle.ll_seq.proofs.number_map.search.Goals as goal

pub returns : goal.returns
returns g c =
    let facts = c.binary_search_by_key.ensures in
    let by_key = facts.position (λ row. row.0) (answers_always _ _ _ (λ f a r h called. search rules)) in
    let is = searched nat_cmp_total nat_cmp-IsAntisymmetric c.args.number c.args.rows.now c.binary_search_by_key.result
    c.requires facts.bound by_key in
    record { within = is.within; row = is.row; none = is.none; place = is.place; most = is.most }
