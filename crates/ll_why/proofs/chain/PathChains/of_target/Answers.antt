use Rattle.std.proofs.Common.{ap, sym, subst, []}
use Rattle.ll_path.specs.Path.{Path}
use Rattle.ll_seq.specs.Call.{path_of}
use Rattle.ll_seq.specs.State.{State}
use Rattle.ll_why.specs.declared.chain.PathChains.{PathChains}
use Rattle.ll_why.specs.Chains.{AreChains}
use Rattle.ll_why.proofs.Sets.{both_ok}
use Rattle.ll_why.proofs.chain.PathChains.of_target.Goals as goal

pub returns-in-Bad : goal.returns-in-Bad
returns-in-Bad c =
    let s = c.args.tree.now in
    let Any : PathChains → Type 0 = λ chains. (z : State) → AreChains z [] chains in
    both_ok c.of_root.result Any Any (AreChains s (path_of c.args.target.now)) c.of_root.ensures c.of_root.ensures
    (λ chains any also. subst (λ (p : Path). AreChains s p chains) (sym (ap path_of c.in-Bad.is)) (any s))
