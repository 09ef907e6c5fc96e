use Rattle.std.proofs.Common.{List, ℕ, refl, subst, sym}
use Rattle.ll_session.specs.KeptHistory.{AreLines}
use Rattle.ll_session.proofs.Pages.{no_lines}
use Rattle.ll_session.proofs.page.Page.begin.Goals as goal

pub returns-clause-fills : goal.returns-clause-fills
returns-clause-fills c history long = (
  refl,
  sym long,
  λ fine. subst (λ (text : List ℕ). AreLines history c.args.self.now.first c.args.self.now.first text)
      (sym c.clear.ensures.bytes) (no_lines history c.args.self.now.first),
)
