use Rattle.std.proofs.Common.{◌++◌, [], ◌∷◌, ap, ◌∙◌, string_bytes}
use Rattle.ll_why.specs.Difference.{only_paths}
use Rattle.ll_why.proofs.PathDifferences.{adds}
use Rattle.ll_why.proofs.comparison.Comparison.at_all_nodes.Goals as goal

pub returns : goal.returns
returns c =
    let told = c.in_ok-told.told in
    let nodes = c.in_ok-nodes.nodes in
    let next = c.push.new.self in
    let others = c.in_ok-others.others in
    let last = c.push-2.new.self in
    let new = only_paths [] c.args.new.now in
    let old = only_paths c.args.new.now c.args.old.now in
    adds c.args.self.now ([] ∷ new) old next.found last.found (string_bytes next.text) (string_bytes last.text)
    (adds c.args.self.now ([] ∷ []) new told.found next.found (string_bytes told.text) (string_bytes next.text)
    c.in_ok-told.ensures (
      nodes.found,
      string_bytes nodes.text,
      c.in_ok-nodes.ensures,
      c.in_ok-push.ensures.found,
      c.in_ok-push.ensures.text ∙ ap (λ l. string_bytes told.text ++ l) c.as_str.ensures.value,
    )) (
      others.found,
      string_bytes others.text,
      c.in_ok-others.ensures,
      c.in_ok-push-2.ensures.found,
      c.in_ok-push-2.ensures.text ∙ ap (λ l. string_bytes next.text ++ l) c.as_str-2.ensures.value,
    )
