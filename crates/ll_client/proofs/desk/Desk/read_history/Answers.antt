use Rattle.std.proofs.Common.{List, sym, ap, subst, ◌∙◌}
use Rattle.ll_journal.specs.Book.{Book}
use Rattle.ll_seq.specs.History.{IsLegal}
use Rattle.ll_seq.specs.State.{start}
use Rattle.ll_seq.specs.declared.reply.Entry.{Entry}
use Rattle.ll_client.proofs.desk.Desk.read_history.Goals as goal

pub read-requires : goal.read-requires
read-requires g c =
    let w = c.learn.new.self.world in
    let read = c.entries.ensures ∙ ap (λ (b : Book). b.world.history) c.self.view_is in
    record {
      legal = (
        start w.rules w.room,
        subst (λ (es : List Entry). IsLegal (start w.rules w.room) es) (sym read) c.by_law.ensures.legal,
      );
    }
