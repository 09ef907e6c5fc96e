use Rattle.std.proofs.Common.{◌≡◌, ◌==◌, true, false, not, ◌&&◌, Some, refl, ap, sym, subst, ◌∙◌}
use Rattle.std.specs.Prelude.{if◌then◌else◌}
use Rattle.ll_rights.specs.Map.{get, has}
use Rattle.ll_seq.specs.declared.dentries.Dentry.{Dentry}
use Rattle.ll_seq.specs.State.{State}
use Rattle.ll_seq.specs.Facts.{AreKept}
use Rattle.ll_seq.specs.Effects.{let_go, lives, with_moved}
use Rattle.ll_seq.proofs.FactsKept.{unlike}
use Rattle.ll_seq.specs.Effect.{IsDirectory, dentry_at}
use Rattle.ll_plain.specs.Tables.{IsTied}
use Rattle.ll_plain.specs.contracts.Plain.{the_view}
use Rattle.ll_plain.proofs.Moved.{moved_over}
use Rattle.ll_plain.proofs.Tied.{directory_there, nodes_over, nodes_let_go, left_so}
use Rattle.ll_plain.proofs.Plain.move_over.Goals as goal
use Rattle.ll_plain.proofs.Plain.move_over.Goals.{After-forget}

module _ (c : After-forget) where
  abbrev before : State
  before = the_view c.self.inside

  abbrev from : Dentry
  from = dentry_at c.args.old.now

  abbrev into : Dentry
  into = dentry_at c.args.new.now

  abbrev moved : State
  moved = with_moved before from into c.args.inode

  there : get before.entries from ≡ Some c.args.inode
  there = ap (λ (z : State). get z.entries from) c.self.view_is ∙ c.requires.old.child

  beside : get before.entries into ≡ Some c.args.replaced
  beside = ap (λ (z : State). get z.entries into) c.self.view_is ∙ c.requires.new.child

  directory : has before.nodes into.directory ≡ true
  directory = directory_there before c.self.invariant.nodes into.directory
      (subst (λ z. IsDirectory z into.directory) (sym c.self.view_is) c.requires.new.directory)

  unequal : (c.args.inode == c.args.replaced) ≡ false
  unequal = unlike c.args.inode c.args.replaced (λ e. c.requires.differ (sym e))

  tied : IsTied (let_go moved c.args.replaced) c.rename-goes.new.self
  tied = record {
    kept = subst (λ b. AreKept (if b then before else let_go moved c.args.replaced) c.rename-goes.new.self) unequal
        (c.rename-goes.ensures.kept before from into c.self.invariant.kept refl refl directory there beside refl);
    nodes = nodes_let_go moved c.args.replaced
        (nodes_over before from into c.args.inode c.self.invariant.nodes there c.args.replaced beside
        c.requires.differ);
  }

  same : record before { entries = c.remove.new.self; nodes = c.forget.new.nodes } ≡ let_go moved c.args.replaced
  same =
      ap (λ (z : State). record z { nodes = c.forget.new.nodes })
      (moved_over before before from into c.args.inode c.args.replaced c.replace.new.self c.remove.new.self refl there
      beside c.requires.differ c.replace.ensures c.remove.ensures)
      ∙ left_so moved c.args.replaced c.rename-goes.result
      (λ node. c.rename-goes.ensures.goes before from into c.self.invariant.kept refl refl there beside c.args.replaced
      refl node ∙ ap (λ b. not b && not (lives moved c.args.replaced)) unequal)
      c.forget.new.nodes c.forget.ensures

pub invariant_of-self : goal.invariant_of-self
invariant_of-self c = subst (λ z. IsTied z c.rename-goes.new.self) (sym (same c)) (tied c)

pub returns : goal.returns
returns c = same c ∙ ap (λ z. let_go (with_moved z (from c) (into c) c.args.inode) c.args.replaced) c.self.view_is
