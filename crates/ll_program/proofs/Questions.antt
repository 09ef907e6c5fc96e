-- Which command `why` explains: the last of its words.
use Rattle.std.proofs.Common.{◌≡◌, ◌∙◌, ◌++◌, ◌∷◌, [], Bor, List, map, Option, Some, ap, ap₂, refl, sym}
use Rattle.std.specs.Prelude.{option_map}
use Rattle.clap.specs.Words.{Text}
use Rattle.ll_program.specs.Options.{Asked, asked_by, asked_in, before_last, last_of, of_command, why_in}
use Rattle.ll_program.specs.declared.why.WhyOptions.{WhyOptions}

abbrev texts : List (Bor Text) → List Text
texts words = map (λ w. w.now) words

last_there : (first : Bor Text) (before : List (Bor Text)) (command : Bor Text)
    → last_of first.now (texts (before ++ command ∷ [])) ≡ command.now
last_there first [] command = refl
last_there first (next ∷ before) command = last_there next before command

before_there : (first : Bor Text) (before : List (Bor Text)) (command : Bor Text)
    → before_last first.now (texts (before ++ command ∷ [])) ≡ texts (first ∷ before)
before_there first [] command = refl
before_there first (next ∷ before) command =
    ap (λ (words : List Text). first.now ∷ words) (before_there next before command)

asked_last : (before : List (Bor Text)) (command : Bor Text) (policy profile : Text)
    → asked_in (texts (before ++ command ∷ [])) (Some policy) (Some profile)
    ≡ Some (of_command policy profile (texts before) command.now)
asked_last [] command policy profile = refl
asked_last (first ∷ before) command policy profile =
    ap₂ (λ (words : List Text) (word : Text). Some (of_command policy profile words word))
    (before_there first before command) (last_there first before command)

-- what is asked in these words, where a policy and a profile are given
pub asked_there : (o : WhyOptions) (words before : List (Bor Text)) (command policy profile : Bor Text)
    → words ≡ o.words.items → o.policy ≡ Some policy → o.profile ≡ Some profile → words ≡ before ++ command ∷ []
    → Some (of_command policy.now profile.now (texts before) command.now) ≡ asked_by (why_in o)
asked_there o words before command policy profile items p q e =
    sym (asked_last before command policy.now profile.now)
    ∙ ap (λ (ws : List (Bor Text)). asked_in (texts ws) (Some policy.now) (Some profile.now)) (sym e ∙ items)
    ∙ ap₂ (λ (x y : Option (Bor Text)). asked_in (texts o.words.items) (option_map (λ t. t.now) x)
    (option_map (λ t. t.now) y)) (sym p) (sym q)
