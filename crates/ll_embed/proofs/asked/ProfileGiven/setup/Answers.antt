use Rattle.std.proofs.Common.{List, subst, sym, ℕ}
use Rattle.ll_program.specs.Options.{TreeOrder, tree_in}
use Rattle.ll_program.specs.Policy.{IsSetup, Lacks}
use Rattle.ll_embed.specs.Questions.{LacksTree, profile_order_in}
use Rattle.ll_embed.specs.declared.ask_fault.AskFault.TheVariants.{Tree}
use Rattle.ll_embed.specs.declared.fault.Fault.{Fault}
use Rattle.ll_embed.proofs.Questioned.{no_setup}
use Rattle.ll_embed.proofs.asked.ProfileGiven.setup.Goals as goal

pub returns-in-Ok-setup_of-clause-setup : goal.returns-in-Ok-setup_of-clause-setup
returns-in-Ok-setup_of-clause-setup c =
    let is = c.in-Ok-setup_of.ensures.setup in
    subst (λ (t : TreeOrder). IsSetup t c.args.self.now.policy.now c.in-Ok-setup_of.setup) c.in-Ok.ensures.tree
    (subst (λ (x : List ℕ). IsSetup (tree_in c.in-Ok.options) x c.in-Ok-setup_of.setup) is.1 is.2)

pub returns-in-Err-setup_of-clause-fault : goal.returns-in-Err-setup_of-clause-fault
returns-in-Err-setup_of-clause-fault c =
    let o = profile_order_in c.args.self.now in
    let lacks = c.in-Err-setup_of.ensures.failure in
    subst (λ (fault : Fault). LacksTree o (Tree fault)) (sym c.fault_at.ensures)
    (no_setup o c.in-Err-setup_of.failure
    (subst (λ (t : TreeOrder). Lacks t c.args.self.now.policy.now c.in-Err-setup_of.failure) c.in-Ok.ensures.tree
    (subst (λ (x : List ℕ). Lacks (tree_in c.in-Ok.options) x c.in-Err-setup_of.failure) lacks.1 lacks.2)))
