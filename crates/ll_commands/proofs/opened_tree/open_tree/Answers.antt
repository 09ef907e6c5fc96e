use Rattle.std.proofs.Common.{List, ◌∷◌, subst, inl, inr}
use Rattle.ll_seq.specs.declared.call.Call.{Call}
use Rattle.ll_seq.specs.declared.call.Call.TheVariants.{Connect}
use Rattle.ll_seq.specs.State.{State}
use Rattle.ll_commands.specs.OpenedTree.{Comes, IsLoadStopped, IsStopped, Loads, Stops}
use Rattle.ll_commands.proofs.Rows.{fails_so}
use Rattle.ll_commands.proofs.opened_tree.open_tree.Goals as goal

pub returns-in-Ok-bring-clause-ok : goal.returns-in-Ok-bring-clause-ok
returns-in-Ok-bring-clause-ok c = (
  c.load.new.tree,
  subst (λ (s : State). Loads s c.args.setup.now.loader c.load.new.tree) c.in-Ok.ensures c.in-Ok-load.ensures.ok,
  subst (λ (l : List Call). Comes c.in-Ok-bring.client c.load.new.tree l c.bring.new.tree) c.as_slice.ensures.value
      c.in-Ok-bring.ensures.ok,
)

pub returns-in-Err-clause-failure : goal.returns-in-Err-clause-failure
returns-in-Err-clause-failure c =
    fails_so _ (IsStopped c.args.setup.now) c.in-Err.failure (λ refusal h. inl (
      h.0,
      subst (λ (s : State). IsLoadStopped s c.args.setup.now.loader refusal) c.in-Ok.ensures h.1,
    )) c.in-Err.ensures.failure

pub returns-in-Err-bring-clause-failure : goal.returns-in-Err-bring-clause-failure
returns-in-Err-bring-clause-failure c =
    fails_so _ (IsStopped c.args.setup.now) c.in-Err-bring.failure (λ refusal h. inr (
      h.0,
      c.load.new.tree,
      subst (λ (s : State). Loads s c.args.setup.now.loader c.load.new.tree) c.in-Ok.ensures c.in-Ok-load.ensures.ok,
      h.1,
      subst (λ (l : List Call). Stops h.1 c.load.new.tree (Connect ∷ l) refusal.calls refusal.reply)
          c.as_slice.ensures.value h.2,
    )) c.in-Err-bring.ensures.failure
