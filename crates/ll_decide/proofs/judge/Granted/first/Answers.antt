use Rattle.std.proofs.Common.{◌+◌, ◌∙◌, sym, ap, length, arith}
use Rattle.std.specs.Prelude.{List, slice_get}
use Rattle.ll_decide.specs.declared.denial.Denial.{Denial}
use Rattle.ll_decide.specs.Search.{is_in, fails, layers_of, of_layer}
use Rattle.ll_decide.proofs.FirstDenial.{numbered_here, numbered_later}
use Rattle.ll_decide.proofs.Sets.{layer-same, none_denied}
use Rattle.ll_decide.proofs.judge.Granted.first.Goals as goal

pub returns-then-demands_nothing : goal.returns-then-demands_nothing
returns-then-demands_nothing c =
    sym (none_denied c.args.cause (layers_of c.args.self.now) c.args.rights.now
    (fails c.args.self.now c.args.demands.now c.args.reason)
    (c.demands_nothing.ensures c.if-demands_nothing.true c.args.self.now))

pub returns-in-Some : goal.returns-in-Some
returns-in-Some c =
    sym (numbered_here (λ n. of_layer c.args.cause n.0 (fails c.args.self.now c.args.demands.now c.args.reason n.1)
    c.args.rights.now) c.loop-layer.layer (length c.args.self.now.itself.now) c.in-Some.denial _ (omega arith)
    (ap (λ (ds : List Denial). slice_get ds 0)
    (sym (layer-same c.args.cause (c.loop-layer.layer + 1) (is_in c.denied-denied.result)
    (fails c.args.self.now c.args.demands.now c.args.reason c.loop-layer.layer) c.args.rights.now c.requires.known
    c.denied-denied.ensures))
    ∙ sym c.first.ensures ∙ c.in-Some.is) c.loop-layer.invariant)

pub loop-layer-preserved : goal.loop-layer-preserved
loop-layer-preserved c =
    numbered_later (λ n. of_layer c.args.cause n.0 (fails c.args.self.now c.args.demands.now c.args.reason n.1)
    c.args.rights.now) c.loop-layer.layer (length c.args.self.now.itself.now) _ (omega arith)
    (ap (λ (ds : List Denial). slice_get ds 0)
    (sym (layer-same c.args.cause (c.loop-layer.layer + 1) (is_in c.denied-denied.result)
    (fails c.args.self.now c.args.demands.now c.args.reason c.loop-layer.layer) c.args.rights.now c.requires.known
    c.denied-denied.ensures))
    ∙ sym c.first.ensures ∙ c.in_default.is) c.loop-layer.invariant
