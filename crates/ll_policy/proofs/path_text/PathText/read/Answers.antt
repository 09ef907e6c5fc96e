use Rattle.std.proofs.Common.{◌≡◌, [], inr, sym, ap, ◌∙◌, subst, rules}
use Rattle.std.proofs.lemmas.Bool.{false≢true}
use Rattle.ll_path.specs.Word.{IsWord}
use Rattle.ll_path.specs.Path.{path_text, path_refusals}
use Rattle.ll_path.proofs.PathLemmas.{path_text-path_of_text}
use Rattle.ll_policy.specs.declared.fault.PolicyFault.TheVariants.{BadPath}
use Rattle.ll_policy.proofs.Firsts.{only_one, passed, failed}
use Rattle.ll_policy.proofs.PathTests.{is_path-spelled, is_path-no_word}
use Rattle.ll_policy.proofs.path_text.PathText.read.Goals as goal
use Rattle.ll_policy.proofs.path_text.PathText.read.Goals.{In-Ok}

pub returns-then-not-fits : goal.returns-then-not-fits
returns-then-not-fits c = inr
    (only_one _ BadPath (failed _ BadPath
    (is_path-no_word c.args.text.now (λ word. false≢true (c.if-not-fits.ensures.1 word)))))

-- the path's text is the text that was read
same_text : (c : In-Ok) → path_text c.in-Ok.path ≡ c.args.text.now
same_text c =
    let read = c.in-Ok.ensures.ok in
    ap path_text read.1 ∙ path_text-path_of_text _ read.0 ∙ c.in_ok-from_text.ensures

is_word : (c : In-Ok) → IsWord c.args.text.now
is_word c = c.if-not-fits.ensures.0 (search rules)

unrefused : (c : In-Ok) → path_refusals c.args.text.now ≡ []
unrefused c = ap path_refusals (sym c.in_ok-from_text.ensures) ∙ c.in-Ok.ensures.ok.0

pub invariant_of-result : goal.invariant_of-result
invariant_of-result c = (subst IsWord (sym (same_text c)) (is_word c), ap path_refusals (same_text c) ∙ unrefused c)

pub returns-in-Ok : goal.returns-in-Ok
returns-in-Ok c = (passed _ BadPath (is_path-spelled c.args.text.now (is_word c) (unrefused c)), same_text c)
