use Rattle.std.specs.Prelude.{◌++◌, ◌∷◌, []}
use Rattle.std.proofs.Common.{ap, append_assoc, sym, ◌∙◌}
use Rattle.ll_seq.specs.State.{root}
use Rattle.ll_seq.proofs.LongerPaths.{beneath, end_push}
use Rattle.ll_learn.proofs.site.end_of.Goals as goal

pub loop-name-preserved : goal.loop-name-preserved
loop-name-preserved c =
    let i = c.loop-name.invariant.front in
    let s = c.args.tree.now in
    let name = c.in-Some.name.now in
    record {
      can = tt;
      finite = tt;
      front = (
        i.0 ++ name ∷ [],
        i.1 ∙ ap (λ l. i.0 ++ l) c.in-Some.ensures.steps ∙ sym (append_assoc i.0 (name ∷ []) c.next.new.self),
        c.below-end.ensures ∙ ap (beneath s name) i.2 ∙ sym (end_push s name i.0 root),
      );
    }
