use Rattle.std.proofs.Common.{string_bytes, subst, sym, ℕ}
use Rattle.ll_session.specs.KeptHistory.{AreLines}
use Rattle.ll_session.proofs.Pages.{line_more}
use Rattle.ll_session.proofs.page.Page.add.Goals as goal

pub returns-in-Ok-clause-fills : goal.returns-in-Ok-clause-fills
returns-in-Ok-clause-fills c old history fills at = (
  fills.0,
  fills.1,
  λ fine. subst (λ (n : ℕ). AreLines history c.args.self.now.first n (string_bytes c.push_entry.new.text))
      (sym c.requires.next)
      (line_more history c.args.self.now.first c.args.self.now.next (string_bytes c.args.self.now.text)
      (string_bytes c.push_entry.new.text) c.args.entry.now (fills.2 c.requires.fine) at c.in-Ok.ensures),
)

pub returns-in-Err-clause-fills : goal.returns-in-Err-clause-fills
returns-in-Err-clause-fills c old history fills at = (fills.0, fills.1, λ fine. absurd cc)
