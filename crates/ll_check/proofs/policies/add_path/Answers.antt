use Rattle.std.proofs.Common.{◌≡◌, ◌∙◌, ◌++◌, ◌∷◌, [], arith}
use Rattle.std.proofs.lemmas.Grind.{common_steps}
use Rattle.ll_check.proofs.PolicyTexts.{path_new, path_there}
use Rattle.ll_check.proofs.policies.add_path.Goals as goal

pub returns-then-have_path : goal.returns-then-have_path
returns-then-have_path c =
    path_there c.args.paths.now.items c.as_slice.result.now c.as_str.result.now c.in-Some.own c.args.file.now.own
    c.have_path.result c.as_slice.ensures.value c.as_str.ensures.value c.have_path.ensures c.in-Some.is
    c.if-have_path.true

pub returns : goal.returns
returns c =
    let path = c.in_ok-path.path in
    let more : c.push.new.self.items ≡ c.args.paths.now.items ++ path ∷ [] = grind (arith, common_steps) in
    path_new c.args.paths.now.items c.as_slice.result.now c.as_str.result.now c.in-Some.own c.args.file.now.own
    c.have_path.result c.as_slice.ensures.value c.as_str.ensures.value c.have_path.ensures c.in-Some.is path
    c.push.new.self.items c.if-have_path.false (c.in_ok-path.ensures.ok ∙ c.as_str-2.ensures.value) more
