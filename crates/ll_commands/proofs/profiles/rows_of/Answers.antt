use Rattle.std.proofs.Common.{List, refl, subst, string_bytes, ◌⊎◌, ◌≡◌, None, Err, rules}
use Rattle.std.proofs.lemmas.Result.{IfErr-weaker, IfOk-weaker}
use Rattle.ll_path.specs.Path.{Path}
use Rattle.ll_program.specs.Options.{TreeOrder}
use Rattle.ll_program.specs.Policy.{profile_of}
use Rattle.ll_program.specs.Rights.{rights_in}
use Rattle.ll_program.specs.declared.failure.Failure.TheVariants.{CommandLine, NoMemory}
use Rattle.ll_seq.specs.Step.{client_of}
use Rattle.ll_commands.specs.Rights.{loader_calls, table_tree}
use Rattle.ll_why.specs.PathRows.{AreRows, paths_or_nodes}
use Rattle.ll_commands.proofs.Rows.{by_opening, by_plan, set_by}
use Rattle.ll_commands.proofs.profiles.rows_of.Goals as goal

pub returns-in_err-setup-clause-failure : goal.returns-in_err-setup-clause-failure
returns-in_err-setup-clause-failure c =
    let same : c.from_residual.result ≡ Err c.in_err-setup.field-0.0 = search rules in
    rw same (let order = rights_in c.args.options.now in
    let read = c.args.read.now in
    by_plan order.paths (table_tree order c.args.profile.now) read.text.now read.policy c.in_err-setup.field-0.0
    c.requires.plan
    (subst (λ (o : TreeOrder). (c.in_err-setup.field-0.0 ≡ NoMemory)
    ⊎ ((c.in_err-setup.field-0.0 ≡ CommandLine) × (profile_of o.profile read.policy ≡ None)))
    c.of_profile-tree.ensures c.in_err-setup.ensures.failure))

pub returns-clause-table : goal.returns-clause-table
returns-clause-table c =
    let order = rights_in c.args.options.now in
    let read = c.args.read.now in
    let set = set_by c.of_profile-tree.result (table_tree order c.args.profile.now) order.policy read.text.now
    read.policy c.in_ok-setup.setup c.of_profile-tree.ensures refl c.requires.right c.requires.plan
    c.in_ok-setup.ensures.nodes c.in_ok-setup.ensures.history c.in_ok-setup.ensures.setup in
    IfOk-weaker c.table_of.result _ _ (λ rows is. (
      c.in_ok-setup.setup,
      is.0,
      is.1,
      set,
      is.2,
      subst (λ (ps : List Path). AreRows is.1 (client_of is.1 is.0).domain c.args.style
          (paths_or_nodes ps (loader_calls c.in_ok-setup.setup)) (string_bytes rows)) c.requires.paths is.3,
    )) c.table_of.ensures.table

pub returns-clause-failure : goal.returns-clause-failure
returns-clause-failure c =
    let order = rights_in c.args.options.now in
    let read = c.args.read.now in
    let set = set_by c.of_profile-tree.result (table_tree order c.args.profile.now) order.policy read.text.now
    read.policy c.in_ok-setup.setup c.of_profile-tree.ensures refl c.requires.right c.requires.plan
    c.in_ok-setup.ensures.nodes c.in_ok-setup.ensures.history c.in_ok-setup.ensures.setup in
    IfErr-weaker c.table_of.result _ _ (λ failure fails.
    by_opening order.paths (table_tree order c.args.profile.now) read.text.now c.in_ok-setup.setup failure set fails)
    c.table_of.ensures.failure
