use Rattle.std.specs.Prelude.{List}
use Rattle.std.proofs.Common.{ap, ◌∙◌}
use Rattle.std.proofs.lemmas.Result.{on_ok_weaker}
use Rattle.ll_learn.specs.declared.watch.Watched.{Watched}
use Rattle.ll_learn.specs.Watched.{paths_opened, is_watched}
use Rattle.ll_learn.proofs.Openings.{has_the_same, one_joins}
use Rattle.ll_learn.proofs.watch.Watch.join.Goals as goal

pub returns : goal.returns
returns c =
    let items = c.args.self.now.clients.items in
    let one : Watched = record { client = c.args.child; opened = c.in_ok-opened.opened } in
    on_ok_weaker c.push_client.result (λ is. record {
      on = λ other. ap (λ (l : List Watched). is_watched l other) is ∙ one_joins items one other;
      paths = λ other fd. ap (λ (l : List Watched). paths_opened l other fd) is
          ∙ has_the_same items one c.args.parent c.requires c.in_ok-opened.ensures other fd;
    }) c.push_client.ensures
