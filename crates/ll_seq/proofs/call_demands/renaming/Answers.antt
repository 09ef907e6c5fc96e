use Rattle.std.specs.Prelude.{[], ◌∷◌, ◌++◌}
use Rattle.std.proofs.Common.{subst}
use Rattle.ll_decide.specs.declared.demands.On.TheVariants.{Left, Entered}
use Rattle.ll_decide.specs.Demands.{AreAsks, ask_on}
use Rattle.ll_seq.specs.Demanded.{refer_on, replacing_on}
use Rattle.ll_seq.proofs.call_demands.renaming.Goals as goal

pub returns-clause-asks : goal.returns-clause-asks
returns-clause-asks c =
    let both = ask_on Left c.remove_right.result ∷ ask_on Entered c.make_right.result ∷ [] in
    let all = both ++ replacing_on c.args.replaced ++ refer_on c.args.differ in
    let one = c.ask.ensures.asks [] c.none.ensures.asks in
    let two = c.ask-both.ensures.asks (ask_on Left c.remove_right.result ∷ []) one in
    subst (AreAsks c.goes.result)
    (λ i. (ask_on Left (c.remove_right.ensures i) ∷ ask_on Entered (c.make_right.ensures i) ∷ [])
    ++ replacing_on c.args.replaced ++ refer_on c.args.differ)
    (c.goes.ensures.asks all (c.refers.ensures.asks (both ++ replacing_on c.args.replaced)
    (c.replacing-all.ensures.asks both two)))

pub returns-clause-moves : goal.returns-clause-moves
returns-clause-moves c =
    c.goes.ensures.moves [] (c.refers.ensures.moves []
    (c.replacing-all.ensures.moves [] (c.ask-both.ensures.moves [] (c.ask.ensures.moves [] c.none.ensures.moves))))
