use Rattle.std.proofs.Common.{◌≡◌, sym, subst, ◌∙◌}
use Rattle.ll_rights.specs.Map.{len}
use Rattle.ll_laws.specs.World.{shown}
use Rattle.ll_journal.specs.Book.{Book}
use Rattle.ll_journal.specs.Kept.{world_of}
use Rattle.ll_journal.proofs.NewClients.{clients_len}
use Rattle.ll_journal.proofs.journal.Journal.clients.Goals as goal

pub returns : goal.returns
returns c =
    subst (λ (b : Book). c.len.result ≡ len (shown b.world).clients) c.self.view_is
    (c.len.ensures ∙ c.self.inside.seats.ok.0
    ∙ sym (clients_len (shown (world_of c.self.inside)) c.self.inside.seats.items c.self.invariant.seated))
