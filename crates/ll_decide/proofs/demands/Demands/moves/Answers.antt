use Rattle.std.proofs.Common.{sym, subst}
use Rattle.std.specs.Prelude.{[], ◌∷◌, ◌++◌}
use Rattle.ll_decide.specs.declared.demands.Way.{Way}
use Rattle.ll_decide.specs.Demands.{AreMoves, move_on}
use Rattle.ll_decide.proofs.OneByOne.{move_there, move_back}
use Rattle.ll_decide.proofs.demands.Demands.moves.Goals as goal

pub returns-in-There-clause-moves : goal.returns-in-There-clause-moves
returns-in-There-clause-moves c moves are =
    let whole = move_there c.args.self c.with.result c.args.relevant.0 moves are c.with.ensures in
    subst (λ (way : Way). AreMoves (record c.args.self { there = c.with.result })
    (moves ++ move_on way c.args.relevant.0 ∷ [])) (sym c.in-There.is) whole

pub returns-in-Back-clause-moves : goal.returns-in-Back-clause-moves
returns-in-Back-clause-moves c moves are =
    let whole = move_back c.args.self c.with-in-Back.result c.args.relevant.0 moves are c.with-in-Back.ensures in
    subst (λ (way : Way). AreMoves (record c.args.self { back = c.with-in-Back.result })
    (moves ++ move_on way c.args.relevant.0 ∷ [])) (sym c.in-Back.is) whole
