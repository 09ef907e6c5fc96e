use Rattle.std.proofs.Common.{◌≡◌, ◌+◌, ◌++◌, ◌∷◌, List, add-one, drop, drop-cons, get_or, map, sym, ap, ◌∙◌}
use Rattle.std.proofs.Common.{string_bytes}
use Rattle.std.proofs.lemmas.List.{append-nil, drop_all}
use Rattle.ll_why.specs.declared.change.LayerChange.{LayerChange}
use Rattle.ll_why.specs.declared.grants.Ruled.{Ruled}
use Rattle.ll_why.specs.WhyJson.{change_json}
use Rattle.ll_why.proofs.TextGrowth.{added}
use Rattle.ll_why.proofs.additions_json.change_objects.Goals as goal

no_rule : Ruled
no_rule = record { inode = 0; rights = record { 0 = 0 } }

none : LayerChange
none = record {
  handled = record { 0 = 0 };
  itself = no_rule;
  other = no_rule;
  entered = no_rule;
  parent = no_rule;
}

pub loop-change-preserved : goal.loop-change-preserved
unfolding none no_rule
loop-change-preserved c =
    let object = change_json c.args.call.now c.args.asks.now in
    let all = c.args.changes.now in
    let i = c.loop-change.change-index in
    let objects = c.loop-change.objects.items in
    let one : LayerChange = get_or all i none in
    let split : drop i all ≡ one ∷ drop (i + 1) all =
    drop-cons all i none c.loop-change-test.true ∙ ap (λ k. one ∷ drop k all) (sym (add-one i)) in
    added object string_bytes (map object all) objects _ c.in_ok-change_json.field-0 one (drop (i + 1) all)
    (c.loop-change.invariant ∙ ap (λ (l : List LayerChange). map string_bytes objects ++ map object l) split)
    c.in_ok-push.ensures.items c.in_ok-change_json.ensures

pub returns : goal.returns
returns c =
    let object = change_json c.args.call.now c.args.asks.now in
    let objects = map string_bytes c.loop-change.objects.items in
    sym (c.loop-change.invariant
    ∙ ap (λ (l : List LayerChange). objects ++ map object l)
    (drop_all c.loop-change.change-index c.args.changes.now c.loop-change-test.false) ∙ append-nil objects)
