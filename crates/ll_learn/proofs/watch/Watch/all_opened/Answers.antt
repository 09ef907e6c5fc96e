use Rattle.std.specs.Prelude.{List, Some, option_and_then}
use Rattle.std.proofs.Common.{ap, subst, sym, ◌∙◌}
use Rattle.std.proofs.lemmas.Result.{IfOk-weaker}
use Rattle.ll_learn.specs.declared.watch.Opened.{Opened}
use Rattle.ll_learn.specs.declared.watch.Watched.{Watched}
use Rattle.ll_learn.specs.Watched.{IsAt, is_client_of, path_opened}
use Rattle.ll_learn.proofs.Positions.{found_there}
use Rattle.ll_learn.proofs.watch.Watch.all_opened.Goals as goal

pub returns-in-Some : goal.returns-in-Some
returns-in-Some c =
    let at = subst (λ (l : List Watched). IsAt (is_client_of c.args.client) l c.in-Some.i) c.deref.ensures.value
    c.in-Some.ensures.first in
    IfOk-weaker c.copies.result _ _ (λ opened same fd. same fd
    ∙ ap (λ (l : List Opened). path_opened l fd) c.deref-in-Some.ensures.value
    ∙ sym (ap (option_and_then (λ (w : Watched). path_opened w.opened.items fd))
    (found_there (is_client_of c.args.client) c.args.self.now.clients.items c.in-Some.i c.index.result.now at
    ∙ ap (λ (w : Watched). Some w) (sym c.index.ensures)))) c.copies.ensures
