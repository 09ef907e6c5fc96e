use Rattle.std.specs.Prelude.{◌<◌, ◌^◌, ℕ}
use Rattle.std.proofs.Common.{ap, subst, sym, ◌∙◌}
use Rattle.ll_rights.specs.Access.{holds}
use Rattle.ll_why.specs.Changes.{rule_on}
use Rattle.ll_why.specs.Places.{AreLeastSets}
use Rattle.ll_why.proofs.Leasts.{is_change}
use Rattle.ll_why.proofs.change.LayerChange.of_layer.Goals as goal

pub returns-in-Some : goal.returns-in-Some
returns-in-Some c =
    let least : AreLeastSets c.args.level c.args.tree.now c.args.asks.now c.args.layer.now
    (λ on. (rule_on c.of_sets.result on).rights.0) = record {
      known = λ on. subst (λ (n : ℕ). n < 2 ^ 15) (sym (c.of_sets.ensures.sets on)) (c.in-Some.ensures.known on);
      found = c.in-Some.ensures.found;
      chosen = λ on right known. ap (λ n. holds n right) (c.of_sets.ensures.sets on)
          ∙ c.in-Some.ensures.chosen on right known;
    } in
    record {
      is = is_change c.args.level c.args.tree.now c.args.asks.now c.args.layer.now c.of_sets.result
          c.of_sets.ensures.ends least c.of_sets.ensures.few c.of_sets.ensures.handled;
      least = least;
    }
