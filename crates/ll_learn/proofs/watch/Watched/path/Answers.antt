use Rattle.std.specs.Prelude.{ℕ, List, Some, option_map}
use Rattle.std.proofs.Common.{ap, subst, sym, ◌∙◌}
use Rattle.ll_learn.specs.declared.watch.Opened.{Opened}
use Rattle.ll_learn.specs.Watched.{IsAt, is_descriptor}
use Rattle.ll_learn.proofs.Positions.{found_there}
use Rattle.ll_learn.proofs.watch.Watched.path.Goals as goal

pub returns-in-Some : goal.returns-in-Some
returns-in-Some c =
    let items = c.args.self.now.opened.items in
    let at = subst (λ (l : List Opened). IsAt (is_descriptor c.args.descriptor) l c.in-Some.i)
    c.deref.ensures.value c.in-Some.ensures.first in
    ap (λ (l : List ℕ). Some l) c.as_slice.ensures.value
    ∙ sym (ap (option_map (λ (o : Opened). o.inodes.items)) (found_there
    (is_descriptor c.args.descriptor) items c.in-Some.i c.index.result.now at
    ∙ ap (λ (o : Opened). Some o) (sym c.index.ensures)))
