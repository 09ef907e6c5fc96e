use Rattle.std.proofs.Common.{◌≡◌, ◌∙◌, ◌∷◌, [], ℕ, List, ap, codes}
use Rattle.std.specs.List.{concat}
use Rattle.std.proofs.lemmas.Result.{IfOk-weaker}
use Rattle.ll_learn.specs.Profile.{toml_string}
use Rattle.ll_learn.proofs.profile.LearnedRule.text.Goals as goal

-- the parts of a rule's table
abbrev parts : (comment name path rights : List ℕ) → List ℕ
parts comment name path rights = concat (
    codes "\n" ∷ comment ∷ codes "[[profile." ∷ name ∷ codes ".layer.rule]]\npath = " ∷ path
    ∷ codes "\nrights = \"" ∷ rights ∷ codes "\"\n" ∷ [])

same : (name a x b y d z : List ℕ) → a ≡ x → b ≡ y → d ≡ z → parts a name b d ≡ parts x name y z
same name a x b y d z e f g =
    ap (λ l. parts l name b d) e ∙ ap (λ l. parts x name l d) f ∙ ap (λ l. parts x name y l) g

pub returns : goal.returns
returns g c = IfOk-weaker c.concat.result _ _
    (λ text e. e ∙ same c.args.name.now _ _ _ _ _ _ (c.as_str-2.ensures.value ∙ c.in_ok-comment.ensures)
    (c.as_str-3.ensures.value ∙ c.in_ok-path.ensures ∙ ap toml_string c.as_str.ensures.text)
    (c.as_str-4.ensures.value ∙ c.in_ok-rights.ensures)) c.concat.ensures
