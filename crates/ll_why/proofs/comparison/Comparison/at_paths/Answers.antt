use Rattle.std.proofs.Common.{◌≡◌, ◌+◌, ◌++◌, ◌∷◌, [], take, ap, sym, subst, ◌∙◌, string_bytes}
use Rattle.std.proofs.lemmas.List.{take_all, take_more}
use Rattle.ll_why.specs.Difference.{AreCompared}
use Rattle.ll_why.proofs.PathDifferences.{adds}
use Rattle.ll_why.proofs.comparison.Comparison.at_paths.Goals as goal

pub loop-path-preserved : goal.loop-path-preserved
loop-path-preserved c =
    let it = c.args.self.now in
    let paths = c.args.paths.now in
    let i = c.loop-path.path-index in
    let path = c.path-item.result in
    let told = c.loop-path.told in
    let new = c.push_path.new.told in
    let last : take (i + 1) paths ≡ take i paths ++ path ∷ [] =
    take_more paths i path c.loop-path-test.true ∙ ap (λ p. take i paths ++ p ∷ []) (sym c.path-item.is) in
    record {
      so_far = subst (λ ps. AreCompared it ps new.found (string_bytes new.text)) (sym last)
          (adds it (take i paths) (path ∷ []) told.found new.found (string_bytes told.text) (string_bytes new.text)
          c.loop-path.invariant.so_far c.in_ok-push_path.ensures);
    }

pub returns : goal.returns
returns c = subst (λ ps. AreCompared c.args.self.now ps c.loop-path.told.found (string_bytes c.loop-path.told.text))
    (take_all c.loop-path.path-index c.args.paths.now c.loop-path-test.false) c.loop-path.invariant.so_far
