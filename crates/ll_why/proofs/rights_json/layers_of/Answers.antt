use Rattle.std.proofs.Common.{◌+◌, ◌++◌, List, drop, map, sym, ap, ◌∙◌, string_bytes}
use Rattle.std.proofs.lemmas.List.{append-nil, drop_all}
use Rattle.ll_why.specs.declared.grants.Grants.{Grants}
use Rattle.ll_why.specs.RightsJson.{grants_json}
use Rattle.ll_why.proofs.TextGrowth.{added, from_element}
use Rattle.ll_why.proofs.rights_json.layers_of.Goals as goal

pub loop-grants-preserved : goal.loop-grants-preserved
loop-grants-preserved c =
    let told = grants_json c.args.path.now in
    let layers = c.args.layers.now in
    let i = c.loop-grants.grants-index in
    let layer = c.grants-item.result in
    let texts = c.loop-grants.texts.items in
    let split = from_element layers i layer c.loop-grants-test.true c.grants-item.is in
    added told string_bytes (map told layers) texts _ c.in_ok-grants_json.field-0 layer (drop (i + 1) layers)
    (c.loop-grants.invariant ∙ ap (λ (l : List Grants). map string_bytes texts ++ map told l) split)
    c.in_ok-push.ensures.items c.in_ok-grants_json.ensures

pub returns : goal.returns
returns c =
    let told = grants_json c.args.path.now in
    let texts = c.loop-grants.texts.items in
    sym (c.loop-grants.invariant
    ∙ ap (λ (l : List Grants). map string_bytes texts ++ map told l)
    (drop_all c.loop-grants.grants-index c.args.layers.now c.loop-grants-test.false)
    ∙ append-nil (map string_bytes texts))
