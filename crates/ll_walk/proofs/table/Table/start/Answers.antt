use Rattle.std.proofs.Common.{◌≡◌, ◌<◌, subst, sym}
use Rattle.std.specs.List.{AllByRecursion}
use Rattle.ll_walk.specs.Sections.{AreThere}
use Rattle.ll_walk.proofs.table.Table.start.Goals as goal

pub commit-left-requires : goal.commit-left-requires
commit-left-requires g c =
    let slots = g.N.Shape.slots in
    let there : AreThere slots c.loop.next = c.loop.invariant.1.0 in
    let told : c.as_slice.result.now ≡ c.in-Commit.slots = cc in
    subst (AllByRecursion (λ slot. slot < slots)) (sym told) (subst (AreThere slots) c.in-Commit.is there)
