use Rattle.std.specs.Prelude.{◌++◌, ◌∷◌, []}
use Rattle.std.proofs.Common.{ap, append_assoc, sym, ◌∙◌}
use Rattle.ll_why.proofs.chain.Chain.of_names.Goals as goal

pub loop-name-init : goal.loop-name-init
loop-name-init c = record {
  can = tt;
  finite = tt;
  front = (
    [],
    sym (c.into_iter-name-iterator.ensures.into_iter_gives),
    c.in_ok-chain.ensures c.args.tree.now,
  );
}

pub loop-name-preserved : goal.loop-name-preserved
loop-name-preserved c =
    let i = c.loop-name.invariant.front in
    record {
      can = tt;
      finite = tt;
      front = (
        i.0 ++ c.in-Some.name.now ∷ [],
        i.1 ∙ ap (λ l. i.0 ++ l) c.in-Some.ensures.steps
            ∙ sym (append_assoc i.0 (c.in-Some.name.now ∷ []) c.next.new.self),
        c.in_ok-chain-2.ensures i.0 i.2,
      );
    }
