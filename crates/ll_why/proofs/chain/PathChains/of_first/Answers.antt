use Rattle.std.proofs.Common.{ap, subst, []}
use Rattle.ll_path.specs.Path.{Path}
use Rattle.ll_seq.specs.Call.{first_of, first_path}
use Rattle.ll_seq.specs.State.{State}
use Rattle.ll_why.specs.declared.chain.PathChains.{PathChains}
use Rattle.ll_why.specs.Chains.{AreChains}
use Rattle.ll_why.proofs.Sets.{both_ok}
use Rattle.ll_why.proofs.chain.PathChains.of_first.Goals as goal

pub returns-in-No : goal.returns-in-No
returns-in-No c =
    let s = c.args.tree.now in
    let Any : PathChains → Type 0 = λ chains. (z : State) → AreChains z [] chains in
    both_ok c.of_root.result Any Any (AreChains s (first_path c.args.call.now)) c.of_root.ensures c.of_root.ensures
    (λ chains any also. subst (λ (p : Path). AreChains s p chains) (ap first_of c.in-No.ensures) (any s))
