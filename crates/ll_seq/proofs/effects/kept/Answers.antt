use Rattle.std.specs.Prelude.{[], ◌∷◌, option_map}
use Rattle.std.proofs.Common.{ap, sym, ◌∙◌}
use Rattle.ll_rights.specs.Right as right
use Rattle.ll_decide.specs.declared.demands.On.TheVariants.{Itself}
use Rattle.ll_decide.specs.declared.denial.Denial.{Denial}
use Rattle.ll_decide.specs.Demands.{ask_on}
use Rattle.ll_seq.specs.Tree.{ancestors}
use Rattle.ll_seq.proofs.AskedLists.{verdict_same}
use Rattle.ll_seq.proofs.effects.kept.Goals as goal
use Rattle.ll_seq.specs.Demanded.{path_on}

pub returns-in-None : goal.returns-in-None
returns-in-None c s who first second granted =
    let asks = ask_on Itself right.truncate ∷ [] in
    ap (option_map (λ (x : Denial). x.layer))
    (sym c.in-None.is
    ∙ c.least_denial.ensures.along_chains who.domain (λ on. ancestors s (path_on first second on)) asks []
    (c.ask-demands.ensures.asks [] c.none.ensures.asks) (c.ask-demands.ensures.moves [] c.none.ensures.moves) granted
    ∙ sym (verdict_same s first second who.domain asks []))

pub returns-in-Some : goal.returns-in-Some
returns-in-Some c s who first second granted =
    let asks = ask_on Itself right.truncate ∷ [] in
    ap (option_map (λ (x : Denial). x.layer))
    (sym c.in-Some.is
    ∙ c.least_denial.ensures.along_chains who.domain (λ on. ancestors s (path_on first second on)) asks []
    (c.ask-demands.ensures.asks [] c.none.ensures.asks) (c.ask-demands.ensures.moves [] c.none.ensures.moves) granted
    ∙ sym (verdict_same s first second who.domain asks []))
