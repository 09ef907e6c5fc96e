use Rattle.std.proofs.Common.{IfOk, List, ap, ap₂, codes, map, refl, subst, sym, ◌∙◌, ◌∷◌, ◌≡◌, fold}
use Rattle.clap.specs.Words.{Rule, app_of, new_app, rule_of, with_rule}
use Rattle.ll_program.proofs.Added.{AreLocal, several}
use Rattle.ll_program.proofs.command.why_command.Goals as goal

pub returns-clause-app : goal.returns-clause-app
returns-clause-app c =
    subst (λ (rules : List Rule). IfOk c.command_of.result
    (λ command. app_of command ≡ fold with_rule (new_app (codes "why")) rules))
    (ap (map rule_of) c.in_ok-arguments.ensures.items
    ∙ ap₂ ◌∷◌ (c.one_or_more.ensures.rule ∙ ap several c.demanded-words.ensures.rule)
    (ap₂ ◌∷◌ c.policy_option.ensures.rule
    (ap₂ ◌∷◌ c.profile_option.ensures.rule
    (ap₂ ◌∷◌ c.nodes_option.ensures.rule
    (ap₂ ◌∷◌ c.object_option.ensures.rule refl)))))
    c.command_of.ensures.app

pub command_of-requires : goal.command_of-requires
command_of-requires c =
    subst AreLocal (sym c.in_ok-arguments.ensures.items) (
      c.one_or_more.ensures.local ∙ c.demanded-words.ensures.local,
      (
        c.policy_option.ensures.local,
        (
          c.profile_option.ensures.local,
          (c.nodes_option.ensures.local, (c.object_option.ensures.local, tt)),
        ),
      ),
    )
