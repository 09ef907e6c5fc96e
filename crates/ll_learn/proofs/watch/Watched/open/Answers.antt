use Rattle.std.specs.Prelude.{List, find}
use Rattle.std.proofs.Common.{ap, subst, sym, ◌∙◌}
use Rattle.std.proofs.lemmas.Result.{on_ok_weaker}
use Rattle.ll_learn.specs.declared.watch.Opened.{Opened}
use Rattle.ll_learn.specs.Watched.{IsAt, is_descriptor, path_opened}
use Rattle.ll_learn.proofs.Openings.{opened_anew, opened_behind_others}
use Rattle.ll_learn.proofs.watch.Watched.open.Goals as goal

pub returns-in-Some-clause-paths : goal.returns-in-Some-clause-paths
returns-in-Some-clause-paths c fd =
    let items = c.args.self.now.opened.items in
    let at = subst (λ (l : List Opened). IsAt (is_descriptor c.args.descriptor) l c.in-Some.i)
    c.deref.ensures.value c.in-Some.ensures.first in
    opened_anew items (record { descriptor = c.args.descriptor; inodes = c.args.inodes }) c.in-Some.i at fd

pub returns-in-None-clause-paths : goal.returns-in-None-clause-paths
returns-in-None-clause-paths c =
    let items = c.args.self.now.opened.items in
    let one : Opened = record { descriptor = c.args.descriptor; inodes = c.args.inodes } in
    let none = ap (find (is_descriptor c.args.descriptor)) (sym c.deref.ensures.value) ∙ c.in-None.ensures.none in
    on_ok_weaker c.push_opened.result (λ is fd. ap (λ (l : List Opened). path_opened l fd) is
    ∙ opened_behind_others items one none fd) c.push_opened.ensures
