use Rattle.std.proofs.Common.{◌≡◌, Some, refl, ap, sym, subst, ◌∙◌}
use Rattle.ll_rights.specs.Map.{get, remove}
use Rattle.ll_seq.specs.declared.dentries.Dentry.{Dentry}
use Rattle.ll_seq.specs.State.{State}
use Rattle.ll_seq.specs.Effects.{without_name}
use Rattle.ll_seq.specs.Effect.{dentry_at}
use Rattle.ll_plain.specs.Tables.{IsTied}
use Rattle.ll_plain.specs.contracts.Plain.{the_view}
use Rattle.ll_plain.proofs.Tied.{nodes_taken, nodes_let_go, left_so}
use Rattle.ll_plain.proofs.Plain.take_name.Goals as goal
use Rattle.ll_plain.proofs.Plain.take_name.Goals.{After-forget}

module _ (c : After-forget) where
  abbrev before : State
  before = the_view c.self.inside

  abbrev place : Dentry
  place = dentry_at c.args.at.now

  abbrev gone : State
  gone = record before { entries = remove before.entries place }

  there : get before.entries place ≡ Some c.args.inode
  there = ap (λ (z : State). get z.entries place) c.self.view_is ∙ c.requires

  tied : IsTied (without_name before place c.args.inode) c.unname-goes.new.self
  tied = record {
    kept = c.unname-goes.ensures.kept before place c.self.invariant.kept refl there;
    nodes = nodes_let_go gone c.args.inode (nodes_taken before place c.args.inode c.self.invariant.nodes there);
  }

  same : record before { entries = c.remove.new.self; nodes = c.forget.new.nodes }
      ≡ without_name before place c.args.inode
  same =
      ap (λ m. record before { entries = m; nodes = c.forget.new.nodes }) c.remove.ensures
      ∙ left_so gone c.args.inode c.unname-goes.result
      (λ node. c.unname-goes.ensures.goes before place c.self.invariant.kept refl there node) c.forget.new.nodes
      c.forget.ensures

pub invariant_of-self : goal.invariant_of-self
invariant_of-self c = subst (λ z. IsTied z c.unname-goes.new.self) (sym (same c)) (tied c)

pub returns : goal.returns
returns c = same c ∙ ap (λ z. without_name z (place c) c.args.inode) c.self.view_is
