use Rattle.std.proofs.Common.{List, ap, subst, sym, ◌∙◌}
use Rattle.std.proofs.lemmas.Result.{on_err_weaker}
use Rattle.ll_client.specs.Entries.{Knows}
use Rattle.ll_wire.specs.Reached.{StartsAll}
use Rattle.ll_session.specs.Beside.{AnswersBeside}
use Rattle.ll_session.specs.Counts.{first_score}
use Rattle.ll_session.specs.Strict.{Scores, ScoresTo}
use Rattle.ll_session.specs.declared.score.Score.{Score}
use Rattle.ll_session.specs.declared.scored.ScoredSession.{ScoredSession}
use Rattle.ll_session.proofs.Scores.{on_both, scores_to, starts_all}
use Rattle.ll_session.proofs.scored.session.Goals as goal

pub returns-clause-ok : goal.returns-clause-ok
returns-clause-ok g c =
    let old = g.E.Ends.devices c.args.ends.now in
    let new = g.E.Ends.devices c.answer_lines-ended.new.ends in
    let b = c.answer_lines-ended.new.answers in
    let beside = AnswersBeside g.N.Shape.limit c.args.session.before in
    on_both c.answer_lines-ended.result (λ all some.
    subst (λ (ks : List Knows).
    ScoresTo beside (c.args.session.party, first_score c.args.is_strict) (ks, b.score) old new)
    (sym c.close-party.ensures)
    (subst (λ (first : Score). ScoresTo beside (c.args.session.party, first) (b.session.party, b.score) old new)
    c.new.ensures
    (scores_to {S = ScoredSession g.row.N.Denot g.row.R.Denot g.row.G.Denot g.row.K.Denot g.N.Shape g.N.Naming}
    (λ a. a.session.party) (λ a. a.score) (λ a. a.session.before) g.N.Shape.limit _ b old new all some)))
    c.answer_lines-ended.ensures.ok c.answer_lines-ended.ensures.over

pub returns-clause-err : goal.returns-clause-err
returns-clause-err g c =
    let old = g.E.Ends.devices c.args.ends.now in
    let new = g.E.Ends.devices c.answer_lines-ended.new.ends in
    let b = c.answer_lines-ended.new.answers in
    let tells = Scores (AnswersBeside g.N.Shape.limit c.args.session.before) in
    on_err_weaker c.answer_lines-ended.result (λ some.
    subst (λ (ks : List Knows).
    StartsAll tells (c.args.session.party, first_score c.args.is_strict) (ks, b.score) old new)
    (sym c.close-party.ensures)
    (subst (λ (first : Score). StartsAll tells (c.args.session.party, first) (b.session.party, b.score) old new)
    c.new.ensures
    (starts_all {S = ScoredSession g.row.N.Denot g.row.R.Denot g.row.G.Denot g.row.K.Denot g.N.Shape g.N.Naming}
    (λ a. a.session.party) (λ a. a.score) (λ a. a.session.before) g.N.Shape.limit _ b old new some)))
    c.answer_lines-ended.ensures.err

pub returns-clause-lax : goal.returns-clause-lax
returns-clause-lax g c lax =
    c.answer_lines-ended.ensures.goes.1.1 (ap (λ (s : Score). s.is_strict) c.new.ensures ∙ lax)
    ∙ ap (λ (s : Score). s.end) c.new.ensures
