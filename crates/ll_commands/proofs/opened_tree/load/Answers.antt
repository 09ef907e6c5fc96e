use Rattle.std.proofs.Common.{◌≡◌, List, ◌∷◌, Option, sym, subst}
use Rattle.std.specs.declared.vec.Vec.{Vec}
use Rattle.std.specs.declared.alloc.Global.{Global}
use Rattle.ll_seq.specs.declared.call.Call.{Call}
use Rattle.ll_seq.specs.declared.call.Call.TheVariants.{Connect}
use Rattle.ll_session.specs.declared.refusal.Opener.TheVariants.{Loader}
use Rattle.ll_commands.specs.OpenedTree.{Comes, IsLoadStopped, Loads, Stops}
use Rattle.ll_commands.proofs.Rows.{fails_so}
use Rattle.ll_commands.proofs.opened_tree.load.Goals as goal

pub returns-in-Ok-clause-ok : goal.returns-in-Ok-clause-ok
returns-in-Ok-clause-ok c =
    subst (λ (o : Option (Vec Call Global)). Loads c.args.tree.now o c.bring.new.tree) (sym c.in-Some.is) (
      c.in-Ok.field-0,
      subst (λ (l : List Call). Comes c.in-Ok.field-0 c.args.tree.now l c.bring.new.tree) c.as_slice.ensures.value
          c.in-Ok.ensures.ok,
    )

pub returns-in-Err-clause-failure : goal.returns-in-Err-clause-failure
returns-in-Err-clause-failure c =
    fails_so _ (λ refusal. (refusal.opener ≡ Loader) × IsLoadStopped c.args.tree.now c.args.loader.now refusal)
    c.in-Err.failure
    (λ refusal h. (
      h.0,
      subst (λ (o : Option (Vec Call Global)). IsLoadStopped c.args.tree.now o refusal) (sym c.in-Some.is) (
        h.1,
        subst (λ (l : List Call). Stops h.1 c.args.tree.now (Connect ∷ l) refusal.calls refusal.reply)
            c.as_slice.ensures.value h.2,
      ),
    )) c.in-Err.ensures.failure
