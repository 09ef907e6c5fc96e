use Rattle.std.proofs.Common.{slice_get, ap, sym, ◌∙◌}
use Rattle.ll_path.specs.Path.{Path}
use Rattle.ll_path.proofs.Splits.{cut_at_slashes}
use Rattle.ll_path.proofs.Places.{none_at, names_from, first_from}
use Rattle.ll_path.proofs.path.Path.name_at.Goals as goal

pub returns-then-place-joined : goal.returns-then-place-joined
returns-then-place-joined c =
    none_at _ _ _ c.requires c.joined-joined.ensures.text c.joined-joined.ensures.each c.if-place-joined.true

pub returns : goal.returns
returns c =
    sym (ap (λ (ns : Path). slice_get ns 0) c.cut_first.ensures)
    ∙ ap (λ (ns : Path). slice_get ns 0)
    (ap cut_at_slashes c.range_from.ensures.value
    ∙ names_from _ _ _ c.requires c.joined-joined.ensures.text c.joined-joined.ensures.each c.if-place-joined.false)
    ∙ first_from c.args.self.now c.args.place.depth
