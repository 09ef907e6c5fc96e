use Rattle.std.proofs.Common.{List, refl, subst, sym, ◌∙◌}
use Rattle.ll_client.specs.Entries.{Knows}
use Rattle.ll_session.specs.Beside.{AnswersBeside}
use Rattle.ll_session.specs.Strict.{Scores}
use Rattle.ll_session.specs.Talk.{Goes, nowhere}
use Rattle.ll_session.proofs.scored.ScoredSessionAnswers.settle.Goals as goal

pub returns-clause-tells : goal.returns-clause-tells
returns-clause-tells g c a piece line told = (
  subst (λ (ks : List Knows). Scores (AnswersBeside g.N.Shape.limit a.session.before) (a.session.party, a.score) piece
      line (ks, c.args.self.now.score)) (sym c.keep.ensures.party) told.0,
  c.keep.ensures.before ∙ told.1,
)

pub returns-clause-goes : goal.returns-clause-goes
returns-clause-goes g c = (
  (
    subst (Goes g.N.Shape.limit c.args.self.now.session.party) (sym c.keep.ensures.party) nowhere,
    c.keep.ensures.before,
  ),
  (refl, λ lax. refl),
)
