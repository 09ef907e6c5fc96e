use Rattle.std.specs.Prelude.{ℕ, [], ◌∷◌, ◌++◌}
use Rattle.std.proofs.Common.{subst}
use Rattle.ll_decide.specs.declared.demands.On.TheVariants.{Entered}
use Rattle.ll_decide.specs.Demands.{AreAsks, ask_on}
use Rattle.ll_seq.specs.Demanded.{refer_on}
use Rattle.ll_seq.proofs.call_demands.linking.Goals as goal

pub returns-clause-asks : goal.returns-clause-asks
returns-clause-asks c =
    let one = ask_on Entered c.make_right.result ∷ [] in
    subst (λ (r : ℕ). AreAsks c.goes.result ((ask_on Entered r ∷ []) ++ refer_on c.args.differ)) c.make_right.ensures
    (c.goes.ensures.asks (one ++ refer_on c.args.differ)
    (c.refers.ensures.asks one (c.ask-one.ensures.asks [] c.none.ensures.asks)))

pub returns-clause-moves : goal.returns-clause-moves
returns-clause-moves c = c.goes.ensures.moves []
    (c.refers.ensures.moves [] (c.ask-one.ensures.moves [] c.none.ensures.moves))
