use Rattle.std.proofs.Common.{◌≡◌, ◌+◌, ◌++◌, ◌∷◌, [], List, map, take, subst, sym, arith}
use Rattle.std.specs.List.{AllZip}
use Rattle.std.proofs.lemmas.Grind.{common_steps}
use Rattle.ll_check.specs.declared.checks.NamedText.{NamedText}
use Rattle.ll_check.specs.Ends.{IsSource}
use Rattle.ll_check.specs.Files.{source_of}
use Rattle.landtree.proofs.CheckedFiles.{source_more}
use Rattle.landtree.proofs.checks.texts_of.Goals as goal

pub loop-name-preserved : goal.loop-name-preserved
loop-name-preserved g c =
    let texts = g.S.Sources.texts c.args.sources.now in
    let names = c.args.names.now in
    let i = c.loop-name.name-index in
    let file = c.in_ok-file.file in
    let all : c.push.new.self.items ≡ c.loop-name.files.items ++ file ∷ [] = grind (arith, common_steps) in
    subst (λ (x : List NamedText). AllZip (IsSource texts) (map (λ n. n.now) (take (i + 1) names)) (map source_of x))
    (sym all)
    (source_more texts names i c.loop-name.files.items _ file c.loop-name-test.true c.loop-name.invariant
    c.in_ok-file.ensures.source)
