use Rattle.std.proofs.Common.{◌≡◌, ◌∙◌, ap, refl, sym}
use Rattle.ll_rights.specs.declared.access.Access.{Access}
use Rattle.ll_rules.specs.Layer.{Layer}
use Rattle.ll_learn.specs.declared.draft.Draft.{Draft}
use Rattle.ll_learn.specs.declared.profile.LearnedProfile.{LearnedProfile}
use Rattle.ll_learn.specs.Draft.{IsOf}
use Rattle.ll_learn.specs.Lesson.{AreRulesOf, IsOfProfile}
use Rattle.ll_learn.proofs.Places.{placed_may}
use Rattle.ll_learn.proofs.lesson.profile_of.Goals as goal

-- the layer that the profile is of is the draft's
drafted : (draft : Draft) (profile : LearnedProfile) (layer : Layer) → AreRulesOf draft profile.rules.items
    → profile.handled ≡ draft.handled → IsOfProfile profile layer → IsOf draft layer
drafted draft profile layer are handled is = record {
  handled = is.handled ∙ ap (λ (a : Access). a.0) handled;
  rules = λ inode right known. is.rules inode right known ∙ are inode right known;
}

pub rules_of-requires : goal.rules_of-requires
rules_of-requires c inode right known at =
    let scope = c.args.scope.now in
    (c.requires.sites inode right known
    (placed_may scope c.args.needs.now right inode (c.in-Ok.ensures.placed inode right known at))).1

pub returns-clause-meets : goal.returns-clause-meets
returns-clause-meets c = record {
  handled = c.in-Ok.ensures.handled;
  held = λ inode right known given. placed_may c.args.scope.now c.args.needs.now right inode
      (c.in-Ok.ensures.placed inode right known (sym (c.in-Ok-rules_of.ensures.rules inode right known) ∙ given));
  named = c.in-Ok-rules_of.ensures.named;
  once = c.in-Ok-rules_of.ensures.once;
  within = λ layer is. c.in-Ok.ensures.within layer (drafted _ _ layer c.in-Ok-rules_of.ensures.rules refl is);
  meets = λ layer is. c.in-Ok.ensures.meets layer (drafted _ _ layer c.in-Ok-rules_of.ensures.rules refl is);
  needed = λ layer is. c.in-Ok.ensures.needed layer (drafted _ _ layer c.in-Ok-rules_of.ensures.rules refl is);
  drafted = record {
    draft = c.in-Ok.draft;
    rules = c.in-Ok-rules_of.ensures.rules;
    derived = c.in-Ok.ensures.derived;
    called = c.is_least.ensures;
  };
}
