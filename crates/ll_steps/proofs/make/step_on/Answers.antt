use Rattle.std.specs.Prelude.{◌≡◌, ◌<◌, List, length, refl}
use Rattle.std.proofs.Common.{rules, subst, sym, ◌∙◌}
use Rattle.std.proofs.lemmas.List.{get_or_default}
use Rattle.ll_node.specs.Lent.{vacant}
use Rattle.ll_node.specs.declared.held.Held.{Held}
use Rattle.ll_journal.specs.Book.{Book}
use Rattle.ll_journal.specs.Stations.{Names}
use Rattle.ll_laws.specs.declared.step.Step.{Step}
use Rattle.ll_laws.specs.declared.step.Step.TheVariants.{Descend, Fork, Restart}
use Rattle.ll_steps.specs.Contents.{IsKept}
use Rattle.ll_steps.specs.Makes.{Makes}
use Rattle.ll_steps.specs.declared.report.Report.{Report}
use Rattle.ll_steps.proofs.ContentsKept.{account_at}
use Rattle.ll_steps.proofs.LentContents.{bound_of, bounds_again}
use Rattle.ll_steps.proofs.NextSteps.{Told, commit_comes, descent_comes, entry_comes, fork_comes, nothing_comes}
use Rattle.ll_steps.proofs.NextSteps.{restart_comes}
use Rattle.ll_steps.proofs.make.step_on.Goals as goal
use Rattle.ll_steps.proofs.make.step_on.Goals.{in-Enter, in-Descend, in-Fork, in-Restart}

pub bounds-slots-from : goal.bounds-slots-from
bounds-slots-from c = bound_of c.args.journal.now c.args.slots.now c.slot_in_turn-from.result c.requires.accounts
    c.slot_in_turn-from.ensures.within

pub offset_bounds-slots-from : goal.offset_bounds-slots-from
offset_bounds-slots-from c =
    let within : c.slot_in_turn-from.result < length c.args.slots.now =
    bound_of c.args.journal.now c.args.slots.now c.slot_in_turn-from.result c.requires.accounts
    c.slot_in_turn-from.ensures.within in
    search rules

pub next_step-requires : goal.next_step-requires
next_step-requires c =
    get_or_default c.args.slots.now c.slot_in_turn-from.result c.index-slots-from.result vacant
    (bound_of c.args.journal.now c.args.slots.now c.slot_in_turn-from.result c.requires.accounts
    c.slot_in_turn-from.ensures.within)
    ∙ account_at c.args.journal.now c.args.slots.now c.slot_in_turn-from.result c.requires.accounts
    c.slot_in_turn-from.ensures.within

pub commit_with-outcome-requires-clause-there : goal.commit_with-outcome-requires-clause-there
commit_with-outcome-requires-clause-there c =
    bounds_again c.args.journal.now c.args.slots.now c.args.slots.now c.in-Commit.needed c.as_slice.result.now
    c.requires.accounts refl c.as_slice.ensures c.in-Commit.ensures.slots.within

pub restart_with-outcome-requires-clause-there : goal.restart_with-outcome-requires-clause-there
restart_with-outcome-requires-clause-there c =
    bounds_again c.args.journal.now c.args.slots.now c.args.slots.now c.in-Restart.needed
    c.as_slice-in-Restart.result.now c.requires.accounts refl c.as_slice-in-Restart.ensures
    c.in-Restart.ensures.slots.within

pub enter_at-outcome-requires-clause-there : goal.enter_at-outcome-requires-clause-there
enter_at-outcome-requires-clause-there c =
    bound_of c.args.journal.now c.args.slots.now c.in-Enter.slot c.requires.accounts c.in-Enter.ensures.slots

pub descend_between-outcome-requires-clause-here : goal.descend_between-outcome-requires-clause-here
descend_between-outcome-requires-clause-here c =
    bound_of c.args.journal.now c.args.slots.now c.slot_in_turn-from.result c.requires.accounts
    c.slot_in_turn-from.ensures.within

pub descend_between-outcome-requires-clause-there : goal.descend_between-outcome-requires-clause-there
descend_between-outcome-requires-clause-there c =
    bound_of c.args.journal.now c.args.slots.now c.in-Descend.on.slot c.requires.accounts c.in-Descend.ensures.slots

pub descend_between-outcome-requires-clause-names : goal.descend_between-outcome-requires-clause-names
descend_between-outcome-requires-clause-names c call calls =
    subst (λ (h : Held). Names call h c.in-Descend.on.name c.in-Descend.on.inode)
    (get_or_default c.args.slots.now c.slot_in_turn-from.result c.index-slots-from.result vacant
    (bound_of c.args.journal.now c.args.slots.now c.slot_in_turn-from.result c.requires.accounts
    c.slot_in_turn-from.ensures.within)
    ∙ account_at c.args.journal.now c.args.slots.now c.slot_in_turn-from.result c.requires.accounts
    c.slot_in_turn-from.ensures.within) (c.in-Descend.ensures.names call calls)

pub returns-in-Nothing-clause-steps : goal.returns-in-Nothing-clause-steps
returns-in-Nothing-clause-steps c = nothing_comes c.args.journal.now.world c.args.client c.in-Nothing.ensures.comes

pub returns-in-Commit-clause-steps : goal.returns-in-Commit-clause-steps
returns-in-Commit-clause-steps c =
    commit_comes c.args.journal.now c.args.client c.in-Commit.needed c.commit_with-outcome.new.journal.world
    c.commit_with-outcome.result
    c.in-Commit.ensures.comes.1 c.commit_with-outcome.ensures.makes

pub returns-clause-kept : goal.returns-clause-kept
returns-clause-kept c = elim c.match-next_step.branch [
  | in-Enter w ↦ subst (λ (p : Book × List Held). IsKept p.0 p.1) (λ i. (sym w.journal-is i, sym w.slots-is i))
      w.enter_at-outcome.ensures.kept
  | in-Descend w ↦ subst (λ (p : Book × List Held). IsKept p.0 p.1) (λ i. (sym w.journal-is i, sym w.slots-is i))
      w.descend_between-outcome.ensures.kept
  | in-Fork w ↦ subst (λ (p : Book × List Held). IsKept p.0 p.1) (λ i. (sym w.journal-is i, sym w.slots-is i))
      w.fork_in-outcome.ensures.kept
  | in-Restart w ↦ subst (λ (p : Book × List Held). IsKept p.0 p.1) (λ i. (sym w.journal-is i, sym w.slots-is i))
      w.restart_with-outcome.ensures.kept
]

-- as the outcome is told
module _ (c : goal.After-unless_made) where
  told : Told c.match-next_step.outcome c.unless_made.result
  told = record { made = c.unless_made.ensures.made; idle = c.unless_made.ensures.waits }

  makes : (step' : Step) (o : Report) (b : Book) → c.match-next_step.outcome ≡ o → c.match-next_step.journal ≡ b
      → Makes c.args.journal.now.world step' o b.world
      → Makes c.args.journal.now.world step' c.match-next_step.outcome c.match-next_step.journal.world
  makes step' o b e f m = subst (λ (p : Report × Book). Makes c.args.journal.now.world step' p.0 p.1.world)
      (λ i. (sym e i, sym f i)) m

pub returns-clause-steps : goal.returns-clause-steps
returns-clause-steps c =
    let world = c.args.journal.now.world in
    let after = c.match-next_step.journal.world in
    let client = c.args.client in
    let outcome = c.match-next_step.outcome in
    let result = c.unless_made.result in
    elim c.match-next_step.branch [
      | in-Enter w ↦ entry_comes world after client outcome result (told c) w.in-Enter.ensures.comes.0
          (makes c (Descend client) _ _ w.outcome-is w.journal-is w.enter_at-outcome.ensures.makes)
      | in-Descend w ↦
          descent_comes world after client outcome result (told c) c.args.journal.now c.slot_in_turn-from.result
          w.in-Descend.on.slot refl w.in-Descend.ensures.comes.0
          (makes c (Descend client) _ _ w.outcome-is w.journal-is w.descend_between-outcome.ensures.makes)
      | in-Fork w ↦ fork_comes world after client outcome result (told c) w.in-Fork.ensures.comes
          (makes c (Fork client) _ _ w.outcome-is w.journal-is w.fork_in-outcome.ensures.makes)
      | in-Restart w ↦
          restart_comes world after client outcome result (told c) w.in-Restart.ensures.comes.0
          (returns-clause-kept c).sound.few
          (makes c (Restart client) _ _ w.outcome-is w.journal-is w.restart_with-outcome.ensures.makes)
    ]
