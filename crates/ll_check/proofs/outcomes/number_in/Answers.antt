use Rattle.std.proofs.Common.{◌≡◌, List, ℕ, rules, subst}
use Rattle.ll_wire.specs.Parts.{SpellsNumber}
use Rattle.ll_wire.specs.Reads.{Finds}
use Rattle.ll_check.proofs.OutcomeTexts.{number_is_utf8}
use Rattle.ll_check.proofs.outcomes.number_in.Goals as goal

pub returns-in-Ok : goal.returns-in-Ok
returns-in-Ok c =
    let same : c.in-Ok.text.now ≡ c.args.text.now = search rules in
    subst (λ (t : List ℕ). Finds (SpellsNumber t) c.number_of.result) same c.number_of.ensures

pub returns-in-Err : goal.returns-in-Err
returns-in-Err c = λ n h. c.in-Err.ensures.cases.0 (number_is_utf8 c.args.text.now n h)
