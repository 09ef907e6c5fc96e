use Rattle.std.proofs.Common.{ℕ, ◌-◌, List, take, ap, sym, subst, ◌∙◌, string_bytes}
use Rattle.std.proofs.lemmas.Result.{IfOk-weaker}
use Rattle.ll_seq.specs.History.{MayStand, state_after}
use Rattle.ll_seq.specs.State.{State}
use Rattle.ll_seq.specs.declared.rules.Rules.{Rules}
use Rattle.ll_audit.specs.Saved.{opened}
use Rattle.ll_why.specs.Entries.{IsStanding, entry_text}
use Rattle.ll_why.specs.Explained.{IsExplained}
use Rattle.ll_why.proofs.Numbered.{here, stands, stands_not}
use Rattle.ll_why.proofs.history.text_of.Goals as goal

pub standing_at-requires-clause-yes : goal.standing_at-requires-clause-yes
standing_at-requires-clause-yes c = λ is.
    let e = c.index-entries-number.result in
    subst (λ (z : State). MayStand z e) (sym c.in_ok-tree.ensures.tree)
    (stands (opened c.args.header.now) c.args.entries.now c.args.number e c.requires.first c.requires.last
    c.index-entries-number.is (c.requires.yes is))

pub standing_at-requires-clause-no : goal.standing_at-requires-clause-no
standing_at-requires-clause-no c = λ is may.
    let e = c.index-entries-number.result in
    stands_not (opened c.args.header.now) c.args.entries.now c.args.number e c.requires.first c.requires.last
    c.index-entries-number.is c.requires.legal (c.requires.no is)
    (subst (λ (z : State). MayStand z e) c.in_ok-tree.ensures.tree may)

pub returns : goal.returns
returns c =
    let e = c.index-entries-number.result in
    let standing = c.in_ok-standing.standing in
    let told = c.in_ok-told.told in
    IfOk-weaker c.entry_text.result _ _ (λ whole is. record {
      entry = e;
      standing = standing;
      told = told;
      opening = string_bytes c.in_ok-opening.opening;
      at = here (opened c.args.header.now) c.args.entries.now c.args.number e c.requires.first c.requires.last
          c.index-entries-number.is;
      stands = subst (λ (z : State). IsStanding z e standing) c.in_ok-tree.ensures.tree c.in_ok-standing.ensures;
      explained = subst (λ (n : ℕ). IsExplained n (state_after (opened c.args.header.now)
          (take (c.args.number - 1) c.args.entries.now)) e.client e.call told)
          (ap (λ (r : Rules). r.abi) c.rules-level.ensures)
          (subst (λ (z : State). IsExplained c.rules-level.result.abi z e.client e.call told) c.in_ok-tree.ensures.tree
          c.in_ok-told.ensures);
      opened = c.in_ok-opening.ensures;
      is = is ∙ ap (λ (l : List ℕ). entry_text c.args.style c.args.number e standing told l) c.as_str.ensures.value;
    }) c.entry_text.ensures
