use Rattle.std.proofs.Common.{◌≡◌, ◌≢◌, ℕ, ◌<◌, length, get_or, set, arith, sym, subst, ◌∙◌, below_more}
use Rattle.std.proofs.Common.{get_or-set_other, get_or-set_same}
use Rattle.std.proofs.lemmas.List.{get_or_read, get_or_default}
use Rattle.ll_rules.specs.Layer.{Layer}
use Rattle.ll_decide.proofs.Carried.{IsNext, next_masks}
use Rattle.ll_decide.proofs.masks.add_rules.Goals as goal

pub loop-i-preserved : goal.loop-i-preserved
loop-i-preserved c =
    let i = c.loop-i.i in
    let masks = c.loop-i.masks in
    let olds = c.args.masks.now in
    let new = c.with_rule.result in
    let Step : (k : ℕ) → ℕ → Layer → ℕ → Type 0 =
    λ k d e after. IsNext (get_or c.args.layers.now k e) c.args.inode (get_or olds k d) after in
    record {
      done = below_more (λ k. (d : ℕ) (e : Layer) → Step k d e (get_or (set masks i new) k d)) i
          (λ k below d e. let ne : k ≢ i = omega arith
          in subst (Step k d e) (sym (get_or-set_other masks i k new d ne)) (c.loop-i.invariant.done k below d e))
          (λ d e.
          let here : i < length olds = omega arith in
          let at : get_or (set masks i new) i d ≡ new = get_or-set_same masks i new d (omega arith) in
          let layer : c.index-layers-i.result ≡ get_or c.args.layers.now i e =
          get_or_read c.args.layers.now i c.index-layers-i.result (omega arith) c.index-layers-i.is e in
          let old : get_or masks i 0 ≡ get_or olds i d =
          c.loop-i.invariant.left i (omega arith) 0 ∙ get_or_default olds i 0 d here in
          subst (Step i d e) (sym at)
          (subst (λ l. IsNext l c.args.inode (get_or olds i d) new) layer
          (subst (λ (m : ℕ). IsNext c.index-layers-i.result c.args.inode m new) old
          c.with_rule.ensures)));
      left = λ k above d. let ne : k ≢ i = omega arith in
          get_or-set_other masks i k new d ne ∙ c.loop-i.invariant.left k (omega arith) d;
    }

pub returns-clause-masks : goal.returns-clause-masks
returns-clause-masks c = next_masks c.args.masks.now c.loop-i.masks c.args.layers.now c.args.inode (omega arith)
    (omega arith) (λ k d e h. c.loop-i.invariant.done k (omega arith) d e)
