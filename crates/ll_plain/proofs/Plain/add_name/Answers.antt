use Rattle.std.proofs.Common.{◌≡◌, ℕ, List, true, None, refl, ap, sym, subst, ◌∙◌}
use Rattle.ll_rights.specs.Map.{get, has, insert}
use Rattle.ll_seq.specs.declared.dentries.Dentry.{Dentry}
use Rattle.ll_seq.specs.State.{State, dentry}
use Rattle.ll_seq.specs.Reach.{HasName}
use Rattle.ll_seq.specs.Stages.{has_many_names, is_crowded}
use Rattle.ll_seq.specs.Effects.{with_name}
use Rattle.ll_seq.specs.Effect.{IsDirectory, dentry_at}
use Rattle.ll_plain.specs.Tables.{IsTied}
use Rattle.ll_plain.specs.contracts.Plain.{the_view}
use Rattle.ll_plain.proofs.Tied.{directory_there, named_there, nodes_name}
use Rattle.ll_plain.proofs.Plain.add_name.Goals as goal
use Rattle.ll_plain.proofs.Plain.add_name.Goals.{After-name}

module _ (c : After-name) where
  abbrev before : State
  before = the_view c.self.inside

  abbrev place : Dentry
  place = dentry_at c.args.at.now

  free : get before.entries place ≡ None
  free = ap (λ (z : State). get z.entries place) c.self.view_is ∙ c.requires.lacks.child

  node : has before.nodes c.args.inode ≡ true
  node = named_there before c.self.invariant.nodes c.args.inode
      (subst (λ z. HasName z c.args.inode) (sym c.self.view_is) c.requires.named)

  directory : has before.nodes place.directory ≡ true
  directory = directory_there before c.self.invariant.nodes place.directory
      (subst (λ z. IsDirectory z place.directory) (sym c.self.view_is) c.requires.lacks.directory)

  tied : IsTied (with_name before place c.args.inode) c.name.new.self
  tied = record {
    kept = c.name.ensures before place c.self.invariant.kept refl directory node free
        (ap (λ z. is_crowded z place.directory) c.self.view_is ∙ c.requires.room)
        (ap (λ z. has_many_names z c.args.inode) c.self.view_is ∙ c.requires.few_names);
    nodes = nodes_name before place c.args.inode c.self.invariant.nodes node free;
  }

  same : record before { entries = c.insert.new.self } ≡ with_name before place c.args.inode
  same =
      ap (λ m. record before { entries = m }) (c.in_ok-insert.ensures.ok
      ∙ ap (λ (n : List ℕ). insert before.entries (dentry place.directory n) c.args.inode) c.in_ok-name.ensures)

pub invariant_of-self-2 : goal.invariant_of-self-2
invariant_of-self-2 c = subst (λ z. IsTied z c.name.new.self) (sym (same c)) (tied c)
