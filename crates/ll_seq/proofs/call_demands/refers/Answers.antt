use Rattle.std.specs.Prelude.{[], ◌∷◌, ◌++◌}
use Rattle.std.proofs.Common.{subst, sym, append_assoc}
use Rattle.ll_rights.specs.Right as right
use Rattle.ll_decide.specs.declared.demands.On.TheVariants.{Left, Entered}
use Rattle.ll_decide.specs.Demands.{AreAsks, ask_on}
use Rattle.ll_seq.specs.Demanded.{refer_on}
use Rattle.ll_seq.proofs.call_demands.refers.Goals as goal

pub returns-then-differ-clause-asks : goal.returns-then-differ-clause-asks
returns-then-differ-clause-asks c asks are =
    let d = c.ask-then-differ.result in
    let both = c.ask-then-differ.ensures.asks (asks ++ ask_on Left right.refer ∷ []) (c.ask.ensures.asks asks are) in
    subst (λ b. AreAsks d (asks ++ refer_on b)) (sym c.if-differ.true)
    (subst (AreAsks d) (append_assoc asks (ask_on Left right.refer ∷ []) (ask_on Entered right.refer ∷ [])) both)
