use Rattle.std.proofs.Common.{◌≡◌, ℕ, ◌+◌, Bool, true, false, ◌||◌, List, [], None, refl, ap, sym, subst, ◌∙◌, arith}
use Rattle.ll_rights.specs.declared.errno.Errno.{Errno}
use Rattle.ll_rights.specs.Errno.{refuse}
use Rattle.ll_rights.specs.Map.{get, has, insert, remove}
use Rattle.ll_seq.specs.declared.dentries.Dentry.{Dentry}
use Rattle.ll_seq.specs.State.{State, dentry}
use Rattle.ll_seq.specs.Stages.{is_crowded}
use Rattle.ll_seq.proofs.OrderedTables.{remove-insert}
use Rattle.ll_seq.specs.Effect.{IsDirectory, dentry_at}
use Rattle.ll_plain.specs.Tables.{IsTied}
use Rattle.ll_plain.specs.contracts.Plain.{the_view}
use Rattle.ll_plain.proofs.Tied.{directory_there, name_back, nodes_node}
use Rattle.ll_plain.proofs.Plain.add.Goals as goal
use Rattle.ll_plain.proofs.Plain.add.Goals.{After-remove, After-remove-in-Err-make-2}

not_first : (a b : Bool) (e : Errno) → refuse (a || b) e ≡ [] → a ≡ false
not_first true b e none = absurd (cc none)
not_first false b e none = refl

-- ---- no memory for the name

module _ (c : After-remove) where
  abbrev first : State
  first = the_view c.self.inside

  as_before : c.remove.new.self ≡ first.nodes
  as_before = c.remove.ensures ∙ ap (λ m. remove m first.next) c.in_ok-insert.ensures.ok
      ∙ remove-insert first.nodes first.next _ (c.self.invariant.kept.unused first.next (omega arith)).node

pub returns-in-Err-clause-err : goal.returns-in-Err-clause-err
returns-in-Err-clause-err c =
    (λ i. record (first c) { entries = c.in-Err.ensures.err i; nodes = as_before c i }) ∙ c.self.view_is

pub invariant_of-self-in-Err : goal.invariant_of-self-in-Err
invariant_of-self-in-Err c = subst (λ z. IsTied z c.self.inside.facts)
    (λ i. record (first c) { entries = sym c.in-Err.ensures.err i; nodes = sym (as_before c) i }) c.self.invariant

-- ---- the name, and what is counted

pub invariant_of-self-2 : goal.invariant_of-self-2
invariant_of-self-2 c =
    let before : State = the_view c.self.inside in
    let place : Dentry = dentry_at c.args.at.now in
    let free : get before.entries place ≡ None =
    ap (λ (z : State). get z.entries place) c.self.view_is ∙ c.requires.room.lacks.child in
    let named : c.insert-2.new.self ≡ insert before.entries place before.next =
    c.in_default.ensures.ok ∙ ap (λ (n : List ℕ). insert before.entries (dentry place.directory n) before.next)
    c.in_ok-name.ensures in
    let node = c.in_ok-insert.ensures.ok
    ∙ ap (λ (b : List ℕ). insert before.nodes before.next (record { kind = c.args.kind; bytes = b }))
    c.empty.ensures in
    let directory : has before.nodes place.directory ≡ true =
    directory_there before c.self.invariant.nodes place.directory
    (subst (λ z. IsDirectory z place.directory) (sym c.self.view_is) c.requires.room.lacks.directory) in
    subst (λ z. IsTied z c.make.new.self)
    (λ i. record before { entries = sym named i; nodes = sym node i; next = before.next + 1 }) (record {
      kept = c.in_default-make.ensures.ok before place c.self.invariant.kept refl refl directory free
          (ap (λ z. is_crowded z place.directory) c.self.view_is ∙ not_first _ _ _ c.requires.room.space);
      nodes = nodes_node before c.args.kind place c.self.invariant.nodes
          (c.self.invariant.kept.unused before.next (omega arith)).node free;
    })

-- ---- no memory for what is counted

module _ (c : After-remove-in-Err-make-2) where
  abbrev start : State
  start = the_view c.self.inside

  abbrev spot : Dentry
  spot = dentry_at c.args.at.now

  nodes_back : c.remove-in-Err-make-2.new.self ≡ start.nodes
  nodes_back = c.remove-in-Err-make-2.ensures ∙ ap (λ m. remove m start.next) c.in_ok-insert.ensures.ok
      ∙ remove-insert start.nodes start.next _ (c.self.invariant.kept.unused start.next (omega arith)).node

  names_back : c.remove-in-Err-make.new.self ≡ start.entries
  names_back =
      c.remove-in-Err-make.ensures
      ∙ ap (λ m. remove m spot) (c.in_default.ensures.ok
      ∙ ap (λ (n : List ℕ). insert start.entries (dentry spot.directory n) start.next) c.in_ok-name.ensures)
      ∙ name_back start.entries spot start.next (ap (λ (z : State). get z.entries spot) c.self.view_is
      ∙ c.requires.room.lacks.child)

pub returns-in-Err-make-clause-err : goal.returns-in-Err-make-clause-err
returns-in-Err-make-clause-err c =
    (λ i. record (start c) { entries = names_back c i; nodes = nodes_back c i }) ∙ c.self.view_is

pub invariant_of-self-in-Err-make : goal.invariant_of-self-in-Err-make
invariant_of-self-in-Err-make c =
    subst (λ f. IsTied (record (start c)
    { entries = c.remove-in-Err-make.new.self; nodes = c.remove-in-Err-make-2.new.self }) f)
    (sym c.in-Err-make.ensures.err)
    (subst (λ z. IsTied z c.self.inside.facts)
    (λ i. record (start c) { entries = sym (names_back c) i; nodes = sym (nodes_back c) i }) c.self.invariant)
