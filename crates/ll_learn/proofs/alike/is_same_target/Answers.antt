use Rattle.std.proofs.Common.{rules, ◌≡◌, ◌∙◌, ap, sym, subst}
use Rattle.std.specs.Prelude.{IsTrue}
use Rattle.ll_path.specs.Target.{IsTarget, target_text}
use Rattle.ll_path.proofs.TargetLemmas.{target_unique}
use Rattle.ll_learn.proofs.alike.is_same_target.Goals as goal

pub returns : goal.returns
returns c =
    let one = c.args.one.now in
    let other = c.args.other.now in
    let same : IsTrue c.eq.result → c.as_str.result.now ≡ c.as_str-2.result.now = search (rules, c.eq.ensures) in
    let back : c.as_str.result.now ≡ c.as_str-2.result.now → IsTrue c.eq.result = search (rules, c.eq.ensures) in (
      λ is. target_unique c.as_str.result.now one other c.as_str.ensures.target
          (subst (λ text. IsTarget text other) (sym (same is)) c.as_str-2.ensures.target),
      λ is. back (c.as_str.ensures.text ∙ ap target_text is ∙ sym c.as_str-2.ensures.text),
    )
