use Rattle.std.proofs.Common.{IfOk, List, ap, ap₂, codes, map, refl, subst, sym, ◌∙◌, ◌∷◌, ◌≡◌, fold}
use Rattle.clap.specs.Words.{Rule, app_of, new_app, rule_of, with_rule}
use Rattle.clap.specs.declared.builder.arg.Arg.{Arg}
use Rattle.ll_program.proofs.Added.{AreLocal, must}
use Rattle.ll_program.proofs.command.export_command.Goals as goal

pub returns-clause-app : goal.returns-clause-app
returns-clause-app c =
    subst (λ (rules : List Rule). IfOk c.command_of.result
    (λ command. app_of command ≡ fold with_rule (new_app (codes "export")) rules))
    (ap (map rule_of) c.in_ok-arguments.ensures.items
    ∙ ap₂ ◌∷◌ (ap rule_of c.required.ensures ∙ ap must c.policy_option.ensures.rule)
    (ap₂ ◌∷◌ (ap rule_of c.required-2.ensures ∙ ap must c.profile_option.ensures.rule)
    (ap₂ ◌∷◌ c.form_option.ensures.rule
    (ap₂ ◌∷◌ c.valued.ensures.rule
    (ap₂ ◌∷◌ c.repeated.ensures.rule
    (ap₂ ◌∷◌ c.flag.ensures.rule
    (ap₂ ◌∷◌ c.valued-2.ensures.rule
    (ap₂ ◌∷◌ c.flag-2.ensures.rule
    (ap₂ ◌∷◌ c.repeated-2.ensures.rule refl)))))))))
    c.command_of.ensures.app

pub command_of-requires : goal.command_of-requires
command_of-requires c =
    subst AreLocal (sym c.in_ok-arguments.ensures.items) (
      ap (λ (a : Arg). a.global) c.required.ensures ∙ c.policy_option.ensures.local,
      (
        ap (λ (a : Arg). a.global) c.required-2.ensures ∙ c.profile_option.ensures.local,
        (
          c.form_option.ensures.local,
          (
            c.valued.ensures.local,
            (
              c.repeated.ensures.local,
              (
                c.flag.ensures.local,
                (
                  c.valued-2.ensures.local,
                  (c.flag-2.ensures.local, (c.repeated-2.ensures.local, tt)),
                ),
              ),
            ),
          ),
        ),
      ),
    )
