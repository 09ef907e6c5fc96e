use Rattle.std.proofs.Common.{◌≡◌, ◌∙◌, ◌<◌, ◌==◌, List, get_or, length, subst, sym}
use Rattle.std.specs.List.{list_all, list_any}
use Rattle.std.proofs.lemmas.Bool.{and_parts}
use Rattle.ll_rights.specs.Access.{holds}
use Rattle.ll_rules.specs.Layer.{grants_on}
use Rattle.ll_learn.specs.declared.needs.Asked.{Asked}
use Rattle.ll_learn.specs.Needs.{IsGranted}
use Rattle.ll_learn.proofs.Undeniable.{granted_on_more}
use Rattle.ll_learn.proofs.needs.Needs.require.Goals as goal

pub returns-then-implies : goal.returns-then-implies
returns-then-implies c = λ _ known layer meets.
    let asks = c.args.self.now.asks.items in
    let i = c.loop-asked.asked-index in
    let asked = c.asked-item.result in
    let path = c.args.path.now in
    let value = c.deref-asked-items.ensures.value in
    let lt : i < length asks = subst (λ (l : List Asked). i < length l) value c.loop-asked-test.true in
    let is : asked ≡ get_or asks i asked = subst (λ (l : List Asked). asked ≡ get_or l i asked) value c.asked-item.is in
    let granted : IsGranted (grants_on layer) asked =
    subst (IsGranted (grants_on layer)) (sym is) (meets.asks i asked lt) in
    let both = and_parts (holds asked.rights.0 c.args.right)
    (list_all (λ inode. list_any (λ i. i == inode) path) asked.inodes.items)
    (sym c.implies.ensures ∙ c.if-implies.true) in
    granted_on_more layer c.args.right path asked.inodes.items both.1 (granted c.args.right known both.0)
