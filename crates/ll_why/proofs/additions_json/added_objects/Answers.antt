use Rattle.std.proofs.Common.{◌≡◌, ◌+◌, ◌++◌, ◌∷◌, List, add-one, drop, drop-cons, get_or, map, sym, ap, ◌∙◌}
use Rattle.std.proofs.Common.{string_bytes}
use Rattle.std.specs.List.{flat_map}
use Rattle.std.proofs.lemmas.List.{append-nil, drop_all}
use Rattle.ll_decide.specs.declared.demands.On.{On}
use Rattle.ll_decide.specs.declared.demands.On.TheVariants.{Itself}
use Rattle.ll_why.specs.Changes.{rule_on}
use Rattle.ll_why.specs.WhyJson.{added_json}
use Rattle.ll_why.specs.declared.grants.Ruled.{Ruled}
use Rattle.ll_why.proofs.TextGrowth.{came}
use Rattle.ll_why.proofs.additions_json.added_objects.Goals as goal

pub loop-on-preserved : goal.loop-on-preserved
loop-on-preserved c =
    let object = (λ (on : On). added_json c.args.call.now c.args.asks.now on (rule_on c.args.change.now on).rights.0) in
    let each = c.args.each.now in
    let i = c.loop-on.on-index in
    let on : On = get_or each i Itself in
    let objects = map string_bytes c.loop-on.objects.items in
    let split : drop i each ≡ on ∷ drop (i + 1) each =
    drop-cons each i Itself c.loop-on-test.true ∙ ap (λ k. on ∷ drop k each) (sym (add-one i)) in
    came (flat_map object each) objects (map string_bytes c.push_added.new.objects.items) (object on)
    (flat_map object (drop (i + 1) each))
    (c.loop-on.invariant ∙ ap (λ (l : List On). objects ++ flat_map object l) split)
    (c.in_ok-push_added.ensures
    ∙ ap (λ (rule : Ruled). objects ++ added_json c.args.call.now c.args.asks.now on rule.rights.0)
    c.rule_on-rule.ensures)

pub returns : goal.returns
returns c =
    let object = (λ (on : On). added_json c.args.call.now c.args.asks.now on (rule_on c.args.change.now on).rights.0) in
    let objects = map string_bytes c.loop-on.objects.items in
    sym (c.loop-on.invariant
    ∙ ap (λ (l : List On). objects ++ flat_map object l)
    (drop_all c.loop-on.on-index c.args.each.now c.loop-on-test.false) ∙ append-nil objects)
