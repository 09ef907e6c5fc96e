use Rattle.std.proofs.Common.{◌≡◌, ◌==◌, ℕ, List, true, not, ◌&&◌, Some, None, refl, ap, sym, subst, ◌∙◌}
use Rattle.ll_rights.specs.Map.{get, has, insert}
use Rattle.ll_seq.specs.declared.dentries.Dentry.{Dentry}
use Rattle.ll_seq.specs.State.{State, dentry}
use Rattle.ll_seq.specs.Stages.{is_crowded}
use Rattle.ll_seq.specs.Effects.{with_moved}
use Rattle.ll_seq.specs.Effect.{IsDirectory, dentry_at}
use Rattle.ll_plain.specs.Tables.{IsTied}
use Rattle.ll_plain.specs.contracts.Plain.{the_view}
use Rattle.ll_plain.proofs.Moved.{moved_name}
use Rattle.ll_plain.proofs.Tied.{directory_there, nodes_moved}
use Rattle.ll_plain.proofs.Plain.move_name.Goals as goal
use Rattle.ll_plain.proofs.Plain.move_name.Goals.{After-rename}

module _ (c : After-rename) where
  abbrev before : State
  before = the_view c.self.inside

  abbrev from : Dentry
  from = dentry_at c.args.old.now

  abbrev into : Dentry
  into = dentry_at c.args.new.now

  there : get before.entries from ≡ Some c.args.inode
  there = ap (λ (z : State). get z.entries from) c.self.view_is ∙ c.requires.old.child

  free : get before.entries into ≡ None
  free = ap (λ (z : State). get z.entries into) c.self.view_is ∙ c.requires.new.child

  directory : has before.nodes into.directory ≡ true
  directory = directory_there before c.self.invariant.nodes into.directory
      (subst (λ z. IsDirectory z into.directory) (sym c.self.view_is) c.requires.new.directory)

  tied : IsTied (with_moved before from into c.args.inode) c.rename.new.self
  tied = record {
    kept = c.rename.ensures.kept before from into c.self.invariant.kept refl refl directory there free
        (ap (λ z. not (from.directory == into.directory) && is_crowded z into.directory) c.self.view_is
        ∙ c.requires.room);
    nodes = nodes_moved before from into c.args.inode c.self.invariant.nodes there free;
  }

  same : record before { entries = c.remove.new.self } ≡ with_moved before from into c.args.inode
  same =
      moved_name (record before { entries = c.insert.new.self }) before from into c.args.inode c.remove.new.self
      (ap (λ m. record before { entries = m }) (c.in_ok-insert.ensures.ok
      ∙ ap (λ (n : List ℕ). insert before.entries (dentry into.directory n) c.args.inode) c.in_ok-name.ensures))
      there free c.remove.ensures

pub invariant_of-self-2 : goal.invariant_of-self-2
invariant_of-self-2 c = subst (λ z. IsTied z c.rename.new.self) (sym (same c)) (tied c)

pub returns-clause-ok : goal.returns-clause-ok
returns-clause-ok c = same c ∙ ap (λ z. with_moved z (from c) (into c) c.args.inode) c.self.view_is
