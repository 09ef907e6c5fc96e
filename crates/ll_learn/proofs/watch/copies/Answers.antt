use Rattle.std.specs.Prelude.{List, [], ◌∷◌, ◌++◌, take, refl}
use Rattle.std.proofs.Common.{ap, sym, ◌∙◌}
use Rattle.std.proofs.lemmas.List.{take_more}
use Rattle.ll_learn.specs.declared.watch.Opened.{Opened}
use Rattle.ll_learn.specs.Watched.{path_opened}
use Rattle.ll_learn.proofs.Openings.{copied_too}
use Rattle.ll_learn.proofs.watch.copies.Goals as goal

pub loop-held-preserved : goal.loop-held-preserved
loop-held-preserved c =
    let i = c.loop-held.held-index in
    let all = c.args.opened.now in
    let o = c.held-item.result in
    λ fd. ap (λ (l : List Opened). path_opened l fd) c.in_ok-push_opened.ensures
    ∙ copied_too c.loop-held.copies.items (take i all) (record {
      descriptor = o.descriptor;
      inodes =
          c.in_ok-inodes.inodes;
    }) o refl
    (c.in_ok-inodes.ensures ∙ c.deref.ensures.value) c.loop-held.invariant fd
    ∙ ap (λ (l : List Opened). path_opened l fd)
    (sym (take_more all i o c.loop-held-test.true ∙ ap (λ (x : Opened). take i all ++ x ∷ []) (sym c.held-item.is)))
