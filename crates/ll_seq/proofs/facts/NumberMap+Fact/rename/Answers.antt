use Rattle.std.proofs.Common.{◌≡◌, ◌==◌, false, not, ◌&&◌, Some, ap, sym, subst, ◌∙◌}
use Rattle.std.specs.Prelude.{if◌then◌else◌, is_none}
use Rattle.ll_rights.specs.Map.{has, get}
use Rattle.ll_seq.specs.declared.dentries.Dentry.{Dentry}
use Rattle.ll_seq.specs.State.{State}
use Rattle.ll_seq.specs.Stages.{is_crowded}
use Rattle.ll_seq.specs.Effects.{with_moved, renamed, lives, let_go}
use Rattle.ll_seq.specs.Facts.{AreKept}
use Rattle.ll_seq.proofs.Results.{same_some}
use Rattle.ll_seq.proofs.FactsKept.{Steps, both_steps, less_names, less_links, moved_names, name_over, names_moved}
use Rattle.ll_seq.proofs.FactsKept.{kept_let_go, goes, unlike}
use Rattle.ll_seq.proofs.facts.NumberMap+Fact.rename.Goals as goal

module _ (c : goal.After-let_go) (s : State) (old new : Dentry) (kept : AreKept s c.args.self.now)
    (from : old.directory ≡ c.args.from) (there : get s.entries old ≡ Some c.args.inode)
    (taken : get s.entries new ≡ c.args.replaced) where
  moved : AreKept (with_moved s old new c.args.inode) c.take_link.new.self
  moved =
      name_over s c.args.self.now c.take_link.new.self old new c.args.inode kept there c.in-Some-2.node (taken
      ∙ c.in-Some-2.is) (λ e. c.if-node-inode.false (same_some c.in-Some.is c.in-Some-2.is ∙ sym e))
      (subst (λ d. Steps c.args.self.now c.take_link.new.self (λ q x. less_links c.in-Some-2.node q (less_names d q x)))
      (sym from)
      (both_steps c.args.self.now c.take_name.new.self c.take_link.new.self (less_names c.args.from)
      (less_links c.in-Some-2.node) c.take_name.ensures c.take_link.ensures))

  differs : (c.args.inode == c.in-Some-2.node) ≡ false
  differs = unlike c.args.inode c.in-Some-2.node
      (λ e. c.if-node-inode.false (same_some c.in-Some.is c.in-Some-2.is ∙ e))

pub returns-in-Some-2-clause-kept : goal.returns-in-Some-2-clause-kept
returns-in-Some-2-clause-kept c s old new kept from into node there taken room =
    let gone = kept_let_go (with_moved s old new c.args.inode) c.take_link.new.self c.let_go.new.self c.in-Some-2.node
    c.let_go.result (moved c s old new kept from there taken) c.let_go.ensures.dead c.let_go.ensures.left in
    subst (λ o. AreKept (renamed s old new c.args.inode o) c.let_go.new.self) (sym c.in-Some-2.is)
    (subst (λ b. AreKept (if b then s else let_go (with_moved s old new c.args.inode) c.in-Some-2.node)
    c.let_go.new.self) (sym (differs c s old new kept from there taken)) gone)

pub returns-in-Some-2-clause-goes : goal.returns-in-Some-2-clause-goes
returns-in-Some-2-clause-goes c s old new kept from into there taken node is alive =
    let same : c.in-Some-2.node ≡ node = same_some c.in-Some-2.is is in
    goes (with_moved s old new c.args.inode) c.take_link.new.self c.let_go.new.self c.in-Some-2.node c.let_go.result
    (moved c s old new kept from there taken) c.let_go.ensures.dead (ap (has s.nodes) same ∙ alive)
    ∙ sym (ap (λ b. not b && not (lives (with_moved s old new c.args.inode) c.in-Some-2.node))
    (differs c s old new kept from there taken))
    ∙ ap (λ n. not (c.args.inode == n) && not (lives (with_moved s old new c.args.inode) n)) same

pub returns-in-None-clause-kept : goal.returns-in-None-clause-kept
returns-in-None-clause-kept c s old new kept from into node there taken room =
    subst (λ o. AreKept (renamed s old new c.args.inode o) c.move_name.new.self) (sym c.in-None.is)
    (names_moved s c.args.self.now c.move_name.new.self old new c.args.inode kept there (ap (has s.nodes) into ∙ node)
    (taken ∙ c.in-None.is)
    (subst (λ d. Steps c.args.self.now c.move_name.new.self (moved_names d new.directory)) (sym from)
    (subst (λ d. Steps c.args.self.now c.move_name.new.self (moved_names c.args.from d)) (sym into)
    c.move_name.ensures))
    (ap (λ d. not (d == new.directory) && is_crowded s new.directory) from
    ∙ ap (λ d. not (c.args.from == d) && is_crowded s d) into
    ∙ sym (ap (λ o. (is_none o && not (c.args.from == c.args.into)) && is_crowded s c.args.into) c.in-None.is) ∙ room))
