-- Where directories are still, each layer that passes reaches what is asked and what is mended.
use Rattle.std.specs.Prelude.{◌≡◌, ◌<◌, ℕ, Bool, true, false, ◌&&◌, ◌||◌, ◌==◌, List, [], ◌∷◌, ◌++◌, None, Some}
use Rattle.std.specs.Prelude.{Contains, find, if◌then◌else◌, refl}
use Rattle.std.specs.List.{list_any}
use Rattle.std.specs.Option.{option_or}
use Rattle.std.specs.Ordering.{nat_cmp}
use Rattle.std.proofs.Common.{append_assoc, sym, subst, ap, ◌∙◌}
use Rattle.std.proofs.lemmas.Bool.{and_parts, or_left}
use Rattle.std.proofs.lemmas.List.Elements.{All-contains}
use Rattle.std.proofs.lemmas.List.Folds.{list_any-append}
use Rattle.ll_rights.specs.Access.{holds}
use Rattle.ll_rights.specs.Map.{Map}
use Rattle.ll_rights.specs.Right.{refer}
use Rattle.ll_rights.specs.declared.kind.Kind.TheVariants.{Dir}
use Rattle.ll_path.specs.Path.{Path}
use Rattle.ll_rules.specs.Layer.{Layer, grants_on, has_rule, restricts}
use Rattle.ll_seq.specs.Reach.{InReach}
use Rattle.ll_seq.specs.State.{State, dentry_cmp, kind_of}
use Rattle.ll_seq.specs.Tree.{ancestors, named}
use Rattle.ll_seq.specs.declared.node.Node.{Node}
use Rattle.ll_laws.proofs.Chains.{NotFile, same_Some}
use Rattle.ll_laws.proofs.Trees.{IsTree, granted_on, only_path}
use Rattle.ll_learn.specs.declared.draft.Scope.{Scope}
use Rattle.ll_learn.specs.declared.needs.Asked.{Asked}
use Rattle.ll_learn.specs.declared.needs.Moved.{Moved}
use Rattle.ll_learn.specs.declared.needs.Needs.{Needs}
use Rattle.ll_learn.specs.Bound.{BeginAt, Part, PassesEach}
use Rattle.ll_learn.specs.Charges.{AreNeedsOf, IsScopeAt, WereInOne}
use Rattle.ll_learn.specs.Draft.{IsDerived, IsInScope, is_asked_at, is_some_at, is_upper, last_of, may_have, mended}
use Rattle.ll_learn.specs.Draft.{place_of, stands}
use Rattle.ll_learn.specs.Mended.{AreMovesOf, ArePathsTo, IsPathTo, IsStill, MendedIsLeast}
use Rattle.ll_learn.specs.Needs.{GainsNothing, IsGranted, Meets}
use Rattle.ll_learn.proofs.DraftReach.{cut_last, one_that}
use Rattle.ll_learn.proofs.LeastReach.{none_of_these, part_tree, passes_allow, rules_reached, there_reached}
use Rattle.ll_learn.proofs.Places.{place_may}
use Rattle.ll_learn.proofs.Spreads.{cut_among, derived_may}

-- ---- where nothing is widened

none_upper : (scope : Scope) (right : ℕ) → scope.beneath.items ≡ [] → (xs : List ℕ)
    → find (is_upper scope right) xs ≡ None
none_upper scope right flat [] = refl
none_upper scope right flat (x ∷ xs) =
    ap (λ b. if b then Some x else find (is_upper scope right) xs) no ∙ none_upper scope right flat xs
  where
    and_false : (b : Bool) → (b && false) ≡ false
    and_false true = refl
    and_false false = refl

    no : is_upper scope right x ≡ false
    no = ap (λ zs. may_have scope right x && list_any (λ i. i == x) zs) flat ∙ and_false (may_have scope right x)

-- the place is the last inode whose rule may hold the right
place_last : (scope : Scope) (right : ℕ) → scope.beneath.items ≡ [] → (xs : List ℕ)
    → place_of scope right xs ≡ last_of (may_have scope right) xs
place_last scope right flat xs =
    ap (λ o. option_or o (last_of (may_have scope right) xs)) (none_upper scope right flat xs)

-- ---- a directory has one path

only_alike : (s t : State) → s.entries ≡ t.entries → s.nodes ≡ t.nodes → IsTree t → (p q : Path) (x : ℕ)
    → kind_of s x ≡ Some Dir → named s p ≡ Some x → named s q ≡ Some x → p ≡ q
only_alike s t same kinds tree p q x is a b = only_path t tree p q x file (at p a) (at q b)
  where
    file : NotFile t x
    file k e = same_Some k Dir (sym e
        ∙ ap (λ (ns : Map nat_cmp Node). kind_of (record t { nodes = ns }) x) (sym kinds) ∙ is)

    at : (way : Path) → named s way ≡ Some x → named t way ≡ Some x
    at way e = ap (λ (es : Map dentry_cmp ℕ). named (record t { entries = es }) way) (sym same) ∙ e

-- ---- what is reached

module _ (s : State) (parts : List Part) (begin : BeginAt s parts) (needs : Needs) (of : AreNeedsOf parts needs)
    (own : AreMovesOf parts needs) (scope : Scope) (at_cut : IsScopeAt s scope) (flat : scope.beneath.items ≡ [])
    (still : IsStill s needs scope) (layer : Layer) (inside : IsInScope scope layer) (passes : PassesEach parts layer)
    (right : ℕ) (known : right < 15) (held : restricts layer right ≡ true) where
  meets : Meets (grants_on layer) needs
  meets = of.met layer (passes_allow s parts begin layer passes)

  -- what is granted on a path that was there, of its place
  place_reached : (inodes : List ℕ) (inode : ℕ) → WereInOne parts inodes → grants_on layer inodes right ≡ true
      → is_some_at (place_of scope right inodes) inode ≡ true → InReach s layer inode right
  place_reached inodes inode was granted at =
      let place = cut_last (may_have scope right) inode inodes
      (ap (λ o. is_some_at o inode) (sym (place_last scope right flat inodes)) ∙ at) in
      there_reached s parts begin layer passes place.front place.behind inode right
      (subst (WereInOne parts) place.parts was)
      (ap (λ zs. grants_on layer zs right) (sym place.parts) ∙ granted) held
      (none_of_these (has_rule layer right) (may_have scope right) (λ x h. inside.rules x right known h) place.behind
      place.last)
      (at_cut inode right known (place_may scope right inodes inode at))

  asked_reached : (inode : ℕ) → is_asked_at scope right needs.asks.items inode ≡ true → InReach s layer inode right
  asked_reached inode asked =
      let a = one_that (λ (a : Asked). holds a.rights.0 right
      && is_some_at (place_of scope right a.inodes.items) inode) needs.asks.items asked in
      let tests = and_parts (holds a.0.rights.0 right) (is_some_at (place_of scope right a.0.inodes.items) inode) a.2 in
      place_reached a.0.inodes.items inode
      (All-contains (λ (z : Asked). WereInOne parts z.inodes.items) needs.asks.items a.0 of.paths a.1)
      (All-contains (IsGranted (grants_on layer)) needs.asks.items a.0 meets.asks a.1 right known tests.0) tests.1

  -- what is reached of a directory is granted where nodes move into it
  granted_into : (part : Part) → Contains parts part → (inodes : List ℕ) → ArePathsTo s scope inodes → (above : ℕ)
      → Contains inodes above → may_have scope right above ≡ true → InReach s layer above right
      → grants_on layer inodes right ≡ true
  granted_into part among inodes paths above on may r =
      let c = cut_among inodes above on in
      let way : IsPathTo s above (c.0 ++ above ∷ []) = paths c.0 c.1 above right c.2 known may in
      let same : r.path ≡ way.path =
      only_alike s part.cut (sym (begin.entries part among)) (sym (begin.nodes part among))
      (part_tree part (begin.are part among)) r.path way.path above way.directory r.names way.names in
      let start : ancestors s r.path ≡ c.0 ++ above ∷ [] = ap (ancestors s) same ∙ way.chain in
      let whole : inodes ≡ (c.0 ++ above ∷ []) ++ c.1 = c.2 ∙ sym (append_assoc c.0 (above ∷ []) c.1) in
      granted_on layer (ancestors s r.path) inodes right
      (λ restricted rule.
      ap (list_any (has_rule layer right)) whole
      ∙ list_any-append (has_rule layer right) (c.0 ++ above ∷ []) c.1
      ∙ or_left (list_any (has_rule layer right) (c.0 ++ above ∷ [])) (list_any (has_rule layer right) c.1)
      (ap (list_any (has_rule layer right)) (sym start) ∙ rule)) r.granted

  mended_reached : (m : Moved) (above inode : ℕ) → Contains needs.moves.items m → holds m.rights.0 right ≡ true
      → Contains m.into.items above → may_have scope right above ≡ true → InReach s layer above right
      → is_some_at (place_of scope right m.from.items) inode ≡ true → InReach s layer inode right
  mended_reached m above inode among means on may r at =
      let was = All-contains (λ (z : Moved). WereInOne parts z.from.items) needs.moves.items m own among in
      let paths = All-contains (λ (z : Moved). ArePathsTo s scope z.into.items) needs.moves.items m still among in
      place_reached m.from.items inode was
      (All-contains (GainsNothing (grants_on layer)) needs.moves.items m meets.moves among right known means
      (granted_into was.0 was.1 m.into.items paths above on may r)) at

  derived_reached : (inode : ℕ) → IsDerived scope needs right inode → InReach s layer inode right
  derived_reached inode (stands _ asked) = asked_reached inode asked
  derived_reached inode (mended m above _ among means on before at) =
      mended_reached m above inode among means on (derived_may scope needs right above before)
      (derived_reached above before) at

pub mended_is_least : MendedIsLeast
mended_is_least s parts begin needs of own scope at_cut flat still draft derived least is within layer inside passes =
    rules_reached s least layer
    (λ right below held. ap (λ n. holds n right || (right == refer)) (within.handled ∙ sym inside.handled) ∙ held)
    (λ inode right known rule held.
    derived_reached s parts begin needs of own scope at_cut flat still layer inside passes right known held inode
    (derived inode right known (sym (is.rules inode right known) ∙ rule)))
