use Rattle.std.proofs.Common.{List, ap, inl, map, refl, subst, sym, ℕ}
use Rattle.ll_rights.specs.declared.limits.TheConstants.{HISTORY_ENTRIES}
use Rattle.ll_program.specs.Options.{TreeOrder, checked_in, tree_in}
use Rattle.ll_program.specs.Policy.{IsSetup, Lacks}
use Rattle.ll_check.specs.Checks.{tests_of}
use Rattle.ll_check.specs.Files.{order_for, source_of}
use Rattle.ll_check.proofs.Files.{no_setup, with_room}
use Rattle.ll_check.proofs.checks.setup_for.Goals as goal

pub returns-in_default-clause-failure : goal.returns-in_default-clause-failure
returns-in_default-clause-failure c = inl (refl, sym c.in_default.ensures)

pub returns-in-Ok-clause-setup : goal.returns-in-Ok-clause-setup
returns-in-Ok-clause-setup c =
    let order = order_for (checked_in c.args.input.now.options.now) (tests_of c.args.file.now).own in
    let text = c.in-Some.text.now in
    let is = c.in-Ok.ensures.setup in
    let w = c.with_room.ensures in (
      text,
      sym c.in-Some.ensures,
      with_room order text HISTORY_ENTRIES c.args.tests c.in-Ok.setup c.with_room.result
          (subst (λ (t : TreeOrder). IsSetup t text c.in-Ok.setup) c.tree_for.ensures
          (subst (λ (x : List ℕ). IsSetup (tree_in c.tree_for.result) x c.in-Ok.setup) is.1 is.2))
          w.rules w.nodes w.history w.loader w.profile,
    )

pub returns-in-Err-clause-failure : goal.returns-in-Err-clause-failure
returns-in-Err-clause-failure c =
    let lacks = c.in-Err.ensures.failure in
    no_setup (checked_in c.args.input.now.options.now) c.args.input.now.policy.now
    (map source_of c.args.input.now.policies.now) (tests_of c.args.file.now) c.in-Some.text.now lacks.0
    c.tree_for.result.policy c.in-Err.failure c.in_memory.result c.in-Some.ensures
    (sym (ap (λ (t : TreeOrder). t.policy) c.tree_for.ensures)) c.in-Err.ensures.named lacks.1
    (subst (λ (t : TreeOrder). Lacks t lacks.0 c.in-Err.failure) c.tree_for.ensures lacks.2)
    c.in_memory.ensures.file c.in_memory.ensures.same
