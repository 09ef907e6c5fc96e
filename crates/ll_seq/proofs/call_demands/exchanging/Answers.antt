use Rattle.std.specs.Prelude.{[], ◌∷◌, ◌++◌}
use Rattle.std.proofs.Common.{subst}
use Rattle.ll_decide.specs.declared.demands.On.TheVariants.{Left, Entered}
use Rattle.ll_decide.specs.declared.demands.Way.TheVariants.{There}
use Rattle.ll_decide.specs.Demands.{AreAsks, ask_on}
use Rattle.ll_seq.specs.Demanded.{refer_on, goes_on}
use Rattle.ll_seq.proofs.call_demands.exchanging.Goals as goal

pub returns-clause-asks : goal.returns-clause-asks
returns-clause-asks c =
    let one = ask_on Left c.remove_right.result in
    let two = ask_on Left c.make_right.result in
    let three = ask_on Entered c.make_right-2.result in
    let four = ask_on Entered c.remove_right-2.result in
    let all = one ∷ two ∷ three ∷ four ∷ [] in
    let asked = c.ask-both.ensures.asks (one ∷ two ∷ three ∷ [])
    (c.ask-3.ensures.asks (one ∷ two ∷ [])
    (c.ask-2.ensures.asks (one ∷ []) (c.ask.ensures.asks [] c.none.ensures.asks))) in
    subst (AreAsks c.goes.result)
    (λ i. (ask_on Left (c.remove_right.ensures i) ∷ ask_on Left (c.make_right.ensures i)
    ∷ ask_on Entered (c.make_right-2.ensures i) ∷ ask_on Entered (c.remove_right-2.ensures i) ∷ [])
    ++ refer_on c.args.differ)
    (c.goes.ensures.asks (all ++ refer_on c.args.differ)
    (c.goes-there.ensures.asks (all ++ refer_on c.args.differ) (c.refers.ensures.asks all asked)))

pub returns-clause-moves : goal.returns-clause-moves
returns-clause-moves c =
    let still = c.ask-both.ensures.moves []
    (c.ask-3.ensures.moves [] (c.ask-2.ensures.moves [] (c.ask.ensures.moves [] c.none.ensures.moves))) in
    c.goes.ensures.moves (goes_on c.args.differ There c.args.kind)
    (c.goes-there.ensures.moves [] (c.refers.ensures.moves [] still))
