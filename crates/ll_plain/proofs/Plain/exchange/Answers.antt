use Rattle.std.proofs.Common.{◌≡◌, Some, refl, ap, sym, subst, ◌∙◌}
use Rattle.ll_rights.specs.Map.{get}
use Rattle.ll_seq.specs.declared.dentries.Dentry.{Dentry}
use Rattle.ll_seq.specs.State.{State}
use Rattle.ll_seq.specs.Effects.{with_name}
use Rattle.ll_seq.proofs.FactsKept.{kept_exchange}
use Rattle.ll_seq.specs.Effect.{dentry_at}
use Rattle.ll_plain.specs.Tables.{IsTied}
use Rattle.ll_plain.specs.contracts.Plain.{the_view}
use Rattle.ll_plain.proofs.Moved.{exchanged_names}
use Rattle.ll_plain.proofs.Tied.{nodes_exchanged}
use Rattle.ll_plain.proofs.Plain.exchange.Goals as goal
use Rattle.ll_plain.proofs.Plain.exchange.Goals.{After-replace-2}

module _ (c : After-replace-2) where
  abbrev before : State
  before = the_view c.self.inside

  abbrev first : Dentry
  first = dentry_at c.args.old.now

  abbrev second : Dentry
  second = dentry_at c.args.new.now

  there : get before.entries first ≡ Some c.args.inode
  there = ap (λ (z : State). get z.entries first) c.self.view_is ∙ c.requires.old.child

  beside : get before.entries second ≡ Some c.args.other
  beside = ap (λ (z : State). get z.entries second) c.self.view_is ∙ c.requires.new.child

  tied : IsTied (with_name (with_name before second c.args.inode) first c.args.other) c.self.inside.facts
  tied = record {
    kept = kept_exchange before c.self.inside.facts first second c.args.inode c.args.other c.self.invariant.kept there
        beside;
    nodes = nodes_exchanged before first second c.args.inode c.self.invariant.nodes there c.args.other beside;
  }

  same : record before { entries = c.replace-2.new.self }
      ≡ with_name (with_name before second c.args.inode) first c.args.other
  same = exchanged_names before before first second c.args.inode c.args.other c.replace.new.self c.replace-2.new.self
      refl there beside c.replace.ensures c.replace-2.ensures

pub invariant_of-self : goal.invariant_of-self
invariant_of-self c = subst (λ z. IsTied z c.self.inside.facts) (sym (same c)) (tied c)

pub returns : goal.returns
returns c = same c ∙ ap (λ z. with_name (with_name z (second c) c.args.inode) (first c) c.args.other) c.self.view_is
