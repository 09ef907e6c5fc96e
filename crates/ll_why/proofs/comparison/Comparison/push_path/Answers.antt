use Rattle.std.proofs.Common.{◌++◌, ◌||◌, [], ap, false, sym, refl, ◌∙◌, string_bytes}
use Rattle.std.proofs.lemmas.List.{append-nil}
use Rattle.ll_why.specs.Difference.{difference_in, differs}
use Rattle.ll_why.proofs.PathDifferences.{or_false}
use Rattle.ll_why.proofs.TokenTexts.{both_ok}
use Rattle.ll_why.proofs.comparison.Comparison.push_path.Goals as goal

pub returns : goal.returns
returns c =
    let told = c.args.told.now in
    let before = c.in_ok-before.before in
    let after = c.in_ok-after.after in
    let line = difference_in c.args.self.now.style c.args.path.now before after in
    let found = differs before after in
    both_ok c.push.result _ _ _ c.push.ensures.found c.push.ensures.text (λ is text. (
      found,
      line,
      (
        before,
        after,
        false,
        [],
        c.in_ok-before.ensures,
        c.in_ok-after.ensures,
        (refl, refl),
        or_false found,
        sym (append-nil line),
      ),
      is ∙ ap (λ b. told.found || b) c.differs.ensures,
      text ∙ ap (λ l. string_bytes told.text ++ l) (c.as_str.ensures.value ∙ c.in_ok-line.ensures),
    ))
