use Rattle.std.proofs.Common.{◌≡◌, ◌<◌, ◌≤◌, ◌^◌, ◌++◌, ◌∷◌, ◌∙◌, [], List, Option, Some, Result, Ok, Err}
use Rattle.std.proofs.Common.{ap, subst, sym}
use Rattle.std.specs.Prelude.{IfSome, OnOk}
use Rattle.std.proofs.lemmas.List.Elements.{All-push}
use Rattle.ll_seq.specs.State.{State}
use Rattle.ll_seq.specs.Tree.{named}
use Rattle.ll_learn.specs.declared.profile.LearnedRule.{LearnedRule}
use Rattle.ll_learn.specs.declared.site.Site.{Site}
use Rattle.ll_learn.specs.Lesson.{AreNamed}
use Rattle.ll_learn.specs.Sites.{IsSpelt}
use Rattle.ll_learn.proofs.rules.add_rule.Goals as goal

-- what holds of a rule that is there
of_it : (P : LearnedRule → Type 0) (o : Option LearnedRule) (rule : LearnedRule) → o ≡ Some rule → IfSome o P → P rule
of_it P o rule is there = let it : IfSome (Some rule) P = subst (λ (x : Option LearnedRule). IfSome x P) is there in it

-- one rule more, on a node that its path leads to
one_more : {A E : Type 0} (r : Result A E) (site : Site) (rule : LearnedRule) (old new : List LearnedRule)
    → rule.inode ≡ site.inode → rule.path ≡ site.path → 1 ≤ rule.rights.0 → rule.rights.0 < 2 ^ 15
    → OnOk r (new ≡ old ++ rule ∷ [])
    → OnOk r ((s : State) → IsSpelt site.path → named s site.path ≡ Some site.inode → AreNamed s old → AreNamed s new)
one_more (Ok done) site rule old new inode path some known pushed = λ s spelt leads are.
    let it : (1 ≤ rule.rights.0) × (rule.rights.0 < 2 ^ 15) × IsSpelt rule.path
    × (named s rule.path ≡ Some rule.inode) =
    (some, known, subst IsSpelt (sym path) spelt, ap (named s) path ∙ leads ∙ ap Some (sym inode)) in
    subst (λ (rules : List LearnedRule). AreNamed s rules) (sym pushed)
    (All-push (λ (r : LearnedRule). (1 ≤ r.rights.0) × (r.rights.0 < 2 ^ 15) × IsSpelt r.path
    × (named s r.path ≡ Some r.inode)) old rule are it)
one_more (Err e) site rule old new inode path some known pushed = tt

pub returns-in-Some-clause-named : goal.returns-in-Some-clause-named
returns-in-Some-clause-named c =
    let site = c.args.site.now in
    let rule = c.in-Some.rule in
    let there = c.in_ok-rule.ensures in
    one_more c.push_rule.result site rule c.args.rules.now.items c.push_rule.new.rules.items
    (of_it (λ (r : LearnedRule). r.inode ≡ site.inode) _ rule c.in-Some.is there.inode)
    (of_it (λ (r : LearnedRule). r.path ≡ site.path) _ rule c.in-Some.is there.path)
    (of_it (λ (r : LearnedRule). 1 ≤ r.rights.0) _ rule c.in-Some.is there.some)
    (of_it (λ (r : LearnedRule). r.rights.0 < 2 ^ 15) _ rule c.in-Some.is there.known) c.push_rule.ensures
