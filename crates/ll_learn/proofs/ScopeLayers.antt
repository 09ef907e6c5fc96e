-- Scopes made from all sites of a tree: what they may hold can be held, and which layers are within them.
use Rattle.std.specs.Prelude.{◌≡◌, ◌==◌, ◌<◌, ◌&&◌, ℕ, Bool, true, false, Option, Some, None, bit_and, refl}
use Rattle.std.proofs.Common.{ap, cond, sym, ◌∙◌}
use Rattle.std.proofs.lemmas.Bool.{agree_below_at, and_from, and_parts, eqb-true}
use Rattle.ll_rights.specs.Access.{holds}
use Rattle.ll_rights.specs.declared.kind.Kind.{Kind}
use Rattle.ll_rules.specs.Layer.{Layer}
use Rattle.ll_decide.proofs.Bits.{holds-and, holds_all}
use Rattle.ll_seq.specs.CallParts.{is_relevant}
use Rattle.ll_seq.specs.State.{State, kind_of, root}
use Rattle.ll_laws.proofs.Trees.{IsTree}
use Rattle.ll_why.specs.Rights.{meant}
use Rattle.ll_learn.specs.declared.draft.Scope.{Scope}
use Rattle.ll_learn.specs.declared.site.Sites.{Sites}
use Rattle.ll_learn.specs.Charges.{IsScopeAt}
use Rattle.ll_learn.specs.Draft.{IsInScope}
use Rattle.ll_learn.specs.Lesson.{AreOfSites, CanHold}
use Rattle.ll_learn.specs.Sites.{AreAll, AreSites, HasSpeltName, IsLayerOf, IsReached, may_grant}
use Rattle.ll_learn.proofs.AllSites.{reached_tree, site_is}

-- a right that is meant means something
meant_is : (kind : Option Kind) (right : ℕ) → right < 15 → holds (meant kind) right ≡ is_relevant kind right
meant_is None right lt = agree_below_at (holds 0) (λ _. false) 15 right refl lt
meant_is (Some kind) right lt = refl

-- what may be granted of these rights on the inode is each that means something
grant_is : (s : State) → IsTree s → (all inode right : ℕ) → right < 15
    → holds (may_grant s all inode) right ≡ (holds all right && is_relevant (kind_of s inode) right)
grant_is s tree all inode right lt = by (inode == root) refl
  where
    and_true : (a b : Bool) → b ≡ true → a ≡ (a && b)
    and_true true b e = sym e
    and_true false b e = refl

    by : (b : Bool) → (inode == root) ≡ b → holds (cond b all (bit_and all (meant (kind_of s inode)))) right
        ≡ (holds all right && is_relevant (kind_of s inode) right)
    by true is =
        let top : kind_of s inode ≡ kind_of s root = ap (kind_of s) (eqb-true inode root is) in
        and_true (holds all right) (is_relevant (kind_of s inode) right)
        (ap (λ o. is_relevant o right) (top ∙ tree.root_node) ∙ holds_all right lt)
    by false is = holds-and all (meant (kind_of s inode)) right
        ∙ ap (λ b. holds all right && b) (meant_is (kind_of s inode) right lt)

module _ (s : State) (reached : IsReached s) (held : ℕ) (sites : Sites) (are : AreSites s held sites) (scope : Scope)
    (of : AreOfSites sites held scope.may.items) where
  -- what a rule may grant there
  grants : (inode right : ℕ) → right < 15 → CanHold sites inode right → HasSpeltName s inode
      × (holds held right ≡ true) × (is_relevant (kind_of s inode) right ≡ true)
  grants inode right lt can =
      let is = site_is s held sites are can.0 can.1 in
      let names = is.named ∙ ap Some can.2 in
      let may : holds (may_grant s held inode) right ≡ true =
      ap (λ i. holds (may_grant s held i) right) (sym can.2) ∙ sym (ap (λ n. holds n right) is.may) ∙ can.3 in
      let parts = and_parts (holds held right) (is_relevant (kind_of s inode) right)
      (sym (grant_is s (reached_tree s reached) held inode right lt) ∙ may) in
      ((can.0.path, is.spelt, names), parts.0, parts.1)

  -- rules of the scope may only hold what they can
  pub scope_at : IsScopeAt s scope
  scope_at inode right lt may =
      let can = grants inode right lt ((of inode right lt).0 may).1 in
      ((can.0.0, can.0.2), can.2)

  -- its layers are those that a policy can spell
  pub layer_spelt : (layer : Layer) → IsInScope scope layer → IsLayerOf s scope.handled.0 held layer
  layer_spelt layer is = record {
    handles = is.handled;
    rules = λ inode right lt has. grants inode right lt ((of inode right lt).0 (is.rules inode right lt has)).1;
  }

  pub layer_in : AreAll s sites → (layer : Layer) → IsLayerOf s scope.handled.0 held layer → IsInScope scope layer
  layer_in all layer is = record {
    handled = is.handles;
    rules = λ inode right lt has.
        let rule = is.rules inode right lt has in
        let there = all inode rule.0 in
        let site = site_is s held sites are there.0 there.1 in
        let may : holds (may_grant s held inode) right ≡ true =
        grant_is s (reached_tree s reached) held inode right lt
        ∙ and_from (holds held right) (is_relevant (kind_of s inode) right) rule.1 rule.2 in
        let can : holds there.0.may.0 right ≡ true =
        ap (λ n. holds n right) site.may ∙ ap (λ i. holds (may_grant s held i) right) there.2 ∙ may in
        (of inode right lt).1 (rule.1, (there.0, there.1, there.2, can));
  }
