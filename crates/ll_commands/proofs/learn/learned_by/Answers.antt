use Rattle.std.proofs.Common.{◌∙◌, ℕ, List, ap, map, refl}
use Rattle.std.specs.Borrow.{Bor}
use Rattle.ll_path.specs.Path.{path_of_text}
use Rattle.ll_learn.specs.declared.saved_lesson.SavedLesson.{SavedLesson}
use Rattle.ll_commands.proofs.learn.learned_by.Goals as goal

pub returns-clause-learned : goal.returns-clause-learned
returns-clause-learned c =
    let lesson : SavedLesson = record {
      client = c.args.options.now.client;
      never = c.in-Some.never;
      beneath = c.as_slice-2.result;
      most = c.most_rules.result;
      name = c.args.name;
    } in (
      lesson,
      record {
        client = refl;
        never = c.in-Some.ensures;
        beneath = c.as_slice-2.ensures.value ∙ c.in_ok-beneath.ensures.paths
            ∙ ap (λ (words : List (Bor (List ℕ))). map path_of_text (map (λ w. w.now) words)) c.as_slice.ensures.value;
        most = c.most_rules.ensures.most;
        name = c.requires.name;
      },
      c.in-Ok.ensures,
    )
