use Rattle.std.specs.Prelude.{◌≡◌, [], ◌∷◌, ◌++◌, not, ◌&&◌}
use Rattle.std.proofs.Common.{subst, rules}
use Rattle.ll_rights.specs.Right as right
use Rattle.ll_decide.specs.declared.demands.On.TheVariants.{Itself, Parent}
use Rattle.ll_decide.specs.Demands.{AreAsks, ask_on}
use Rattle.ll_decide.specs.Verdict.{when}
use Rattle.ll_seq.proofs.call_demands.opening.Goals as goal

pub returns-clause-asks : goal.returns-clause-asks
returns-clause-asks c =
    let make = when (not c.args.exists) (ask_on Parent right.make_reg ∷ []) in
    let read = when c.reads.result (ask_on Itself right.read_file ∷ []) in
    let write = when c.writes.result (ask_on Itself right.write_file ∷ []) in
    let cut : c.if-mode.ask_if ≡ (c.args.mode.truncate && c.args.exists) = search rules in
    subst (AreAsks c.ask_if-4.result)
    (λ i. make ++ when (c.reads.ensures i) (ask_on Itself right.read_file ∷ [])
    ++ when (c.writes.ensures i) (ask_on Itself right.write_file ∷ [])
    ++ when (cut i) (ask_on Itself right.truncate ∷ []))
    (c.ask_if-4.ensures.asks (make ++ read ++ write)
    (c.ask_if-3.ensures.asks (make ++ read)
    (c.ask_if-2.ensures.asks make (c.ask_if.ensures.asks [] c.none.ensures.asks))))

pub returns-clause-moves : goal.returns-clause-moves
returns-clause-moves c = c.ask_if-4.ensures.moves []
    (c.ask_if-3.ensures.moves [] (c.ask_if-2.ensures.moves [] (c.ask_if.ensures.moves [] c.none.ensures.moves)))
