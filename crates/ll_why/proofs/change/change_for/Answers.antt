use Rattle.std.proofs.Common.{◌≡◌, ◌+◌, List, [], ◌∷◌, ◌++◌, take, drop, drop-cons, get_or, add-one, ap, subst, sym}
use Rattle.std.proofs.Common.{◌∙◌}
use Rattle.std.specs.List.{AllZip}
use Rattle.std.proofs.lemmas.List.{take-append-drop, take_all, take_more}
use Rattle.ll_rules.specs.Layer.{Layer}
use Rattle.ll_why.specs.Places.{IsLeastOf}
use Rattle.ll_why.proofs.Leasts.{HasBarred, are_least, has_barred, none_allows}
use Rattle.ll_why.proofs.Sets.{zip_push}
use Rattle.ll_why.proofs.change.change_for.Goals as goal

pub loop-layer-preserved : goal.loop-layer-preserved
loop-layer-preserved c =
    let i = c.loop-layer.layer-index in
    let layers = c.args.layers.now in
    let layer = c.layer-item.result in
    let last : take (i + 1) layers ≡ take i layers ++ layer ∷ [] =
    take_more layers i layer c.loop-layer-test.true ∙ ap (λ l. take i layers ++ l ∷ []) (sym c.layer-item.is) in
    record {
      so_far = rw (c.in_ok-push_change-in-Some.ensures, last)
          (zip_push (λ one l. IsLeastOf c.args.level c.args.tree.now c.args.asks.now l one) c.loop-layer.changes.items
          (take i layers) c.in-Some.change layer c.loop-layer.invariant.so_far c.in-Some.ensures);
    }

pub returns-in-None : goal.returns-in-None
returns-in-None c client call same ours asked =
    let i = c.loop-layer.layer-index in
    let layers = c.args.layers.now in
    let layer = c.layer-item.result in
    let whole : take i layers ++ layer ∷ drop (i + 1) layers ≡ layers =
    ap (λ l. take i layers ++ l) (ap (λ l. l ∷ drop (i + 1) layers) c.layer-item.is
    ∙ sym (drop-cons layers i layer c.loop-layer-test.true
    ∙ ap (λ k. get_or layers i layer ∷ drop k layers) (sym (add-one i)))) ∙ take-append-drop i layers in
    none_allows c.args.level c.args.tree.now client call c.args.asks.now ours asked
    (subst (HasBarred c.args.level c.args.tree.now c.args.asks.now) (whole ∙ sym same)
    (has_barred c.args.level c.args.tree.now c.args.asks.now (take i layers) layer (drop (i + 1) layers)
    c.in-None.ensures))

pub returns : goal.returns
returns c client call same ours asked =
    let asks = c.args.asks.now in
    let layers = c.args.layers.now in
    let i = c.loop-layer.layer-index in
    let all : take i layers ≡ layers = take_all i layers c.loop-layer-test.false in
    are_least c.args.level c.args.tree.now client call asks ours asked c.loop-layer.changes.items
    (subst (λ (l : List Layer). AllZip (λ change layer. IsLeastOf c.args.level c.args.tree.now asks layer change)
    c.loop-layer.changes.items l) (all ∙ sym same) c.loop-layer.invariant.so_far)
