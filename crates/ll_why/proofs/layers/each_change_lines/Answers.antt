use Rattle.std.proofs.Common.{◌≡◌, ◌+◌, ◌++◌, ◌∷◌, List, add-one, drop, drop-cons, get_or, ap, sym, ◌∙◌, string_bytes}
use Rattle.std.specs.List.{enumerate_from, flat_map}
use Rattle.std.proofs.lemmas.List.{append-nil, drop_all}
use Rattle.ll_why.specs.declared.change.LayerChange.{LayerChange}
use Rattle.ll_why.specs.declared.grants.Ruled.{Ruled}
use Rattle.ll_why.specs.Told.{change_lines}
use Rattle.ll_why.proofs.TextGrowth.{came}
use Rattle.ll_why.proofs.layers.each_change_lines.Goals as goal

no_rule : Ruled
no_rule = record { inode = 0; rights = record { 0 = 0 } }

none : LayerChange
none = record {
  handled = record { 0 = 0 };
  itself = no_rule;
  other = no_rule;
  entered = no_rule;
  parent = no_rule;
}

pub loop-index-preserved : goal.loop-index-preserved
unfolding none no_rule
loop-index-preserved c =
    let all = c.args.changes.now in
    let i = c.loop-index.index in
    let lines = change_lines c.args.call.now c.args.asks.now in
    let text = string_bytes c.loop-index.text in
    let one : LayerChange = get_or all i none in
    let split : drop i all ≡ one ∷ drop (i + 1) all =
    drop-cons all i none c.loop-index-test.true ∙ ap (λ k. one ∷ drop k all) (sym (add-one i)) in
    came (flat_map lines (enumerate_from 1 all)) text _ (lines (i + 1, one))
    (flat_map lines (enumerate_from (i + 1 + 1) (drop (i + 1) all)))
    (c.loop-index.invariant ∙ ap (λ (l : List LayerChange). text ++ flat_map lines (enumerate_from (i + 1) l)) split)
    (c.in_ok-push_str.ensures.bytes ∙ ap (λ l. text ++ l) (c.as_str.ensures.value ∙ c.in_ok-lines.ensures))

pub returns : goal.returns
returns c =
    let all = c.args.changes.now in
    let i = c.loop-index.index in
    let lines = change_lines c.args.call.now c.args.asks.now in
    let text = string_bytes c.loop-index.text in
    sym (c.loop-index.invariant
    ∙ ap (λ (l : List LayerChange). text ++ flat_map lines (enumerate_from (i + 1) l))
    (drop_all i all c.loop-index-test.false) ∙ append-nil text)
