use Rattle.std.proofs.Common.{◌≡◌, ◌+◌, ◌++◌, ◌∷◌, drop, ap, sym, ◌∙◌, string_bytes}
use Rattle.std.specs.List.{flat_map}
use Rattle.std.proofs.lemmas.List.{append-nil, drop_all}
use Rattle.ll_decide.proofs.FirstDenial.{at_element}
use Rattle.ll_why.specs.Table.{behind, column_tokens}
use Rattle.ll_why.proofs.TokenTexts.{come}
use Rattle.ll_why.proofs.table.push_columns.Goals as goal

pub loop-grants-preserved : goal.loop-grants-preserved
loop-grants-preserved c =
    let layers = c.args.layers.now in
    let i = c.loop-grants.grants-index in
    let grants = c.grants-item.result in
    let tokens = column_tokens c.args.path.now in
    let text = string_bytes c.loop-grants.text in
    let split : drop i layers ≡ grants ∷ drop (i + 1) layers =
    at_element layers i grants c.loop-grants-test.true c.grants-item.is in
    come _ text _ (tokens grants) (flat_map tokens (drop (i + 1) layers))
    (c.loop-grants.invariant ∙ ap (λ l. text ++ behind (flat_map tokens l)) split)
    c.in_ok-push_column.ensures

pub returns : goal.returns
returns c =
    let layers = c.args.layers.now in
    let i = c.loop-grants.grants-index in
    let tokens = column_tokens c.args.path.now in
    let text = string_bytes c.loop-grants.text in
    sym (c.loop-grants.invariant
    ∙ ap (λ l. text ++ behind (flat_map tokens l)) (drop_all i layers c.loop-grants-test.false) ∙ append-nil text)
