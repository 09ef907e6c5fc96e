-- If nothing differs on all paths, each call gets the same reply.
use Rattle.std.specs.Prelude.{◌≡◌, ℕ, zero, suc, ◌<◌, Bool, true, false, not, ◌&&◌, ◌||◌, List, [], ◌∷◌, length}
use Rattle.std.specs.Prelude.{Some, option_and_then, refl, slice_get}
use Rattle.std.specs.List.{AllZip, list_all, zip}
use Rattle.std.specs.Ordering.{nat_cmp}
use Rattle.std.proofs.Common.{ap, sym, subst, ◌∙◌, arith}
use Rattle.std.proofs.lemmas.Bool.{eqb-true}
use Rattle.ll_rights.specs.declared.kind.Kind.{Kind}
use Rattle.ll_rights.specs.Access.{holds}
use Rattle.ll_rights.specs.Kind.{relevant}
use Rattle.ll_rights.specs.Map.{Map}
use Rattle.ll_path.specs.Path.{Path}
use Rattle.ll_rules.specs.Layer.{Layer, grants_on}
use Rattle.ll_seq.specs.declared.call.Call.{Call}
use Rattle.ll_seq.specs.declared.client.ClientRecord.{ClientRecord}
use Rattle.ll_seq.specs.declared.reply.Reply.{Reply}
use Rattle.ll_seq.specs.Call.{first_path, second_path}
use Rattle.ll_seq.specs.CallParts.{done}
use Rattle.ll_seq.specs.State.{State, kind_of}
use Rattle.ll_seq.specs.Step.{client_of, first_or, refusals}
use Rattle.ll_seq.specs.Tree.{ancestors}
use Rattle.ll_why.specs.Difference.{AreDifferences, Seen, differs, same_kind}
use Rattle.ll_why.specs.Grants.{AreGrants}
use Rattle.ll_why.specs.LayerDifference.{same_grants, same_layers}
use Rattle.ll_why.specs.Rights.{AreRightsAt, kind_named}
use Rattle.ll_why.specs.SameVerdicts.{AreAllPaths, AreTwinTrees, SameVerdicts, adds_rule}
use Rattle.ll_why.specs.declared.difference.DifferenceStyle.{DifferenceStyle}
use Rattle.ll_why.specs.declared.grants.Grants.{Grants}
use Rattle.ll_why.specs.declared.rights.RightsAt.{RightsAt}
use Rattle.ll_why.specs.declared.rights.RightsAt.TheVariants.{Node, New, Nowhere}
use Rattle.ll_why.proofs.AlikePaths.{alike_layers}
use Rattle.ll_why.proofs.AlikeReplies.{replies_same, with_clients, with_layers}
use Rattle.ll_why.proofs.GrantedAlike.{AreAlike}

and_first : (a b : Bool) → (a && b) ≡ true → a ≡ true
and_first true b e = refl
and_first false b e = absurd cc

and_second : (a b : Bool) → (a && b) ≡ true → b ≡ true
and_second true b e = e
and_second false b e = absurd cc

or_first : (a b : Bool) → false ≡ (a || b) → a ≡ false
or_first true b e = absurd cc
or_first false b e = refl

or_second : (a b : Bool) → false ≡ (a || b) → b ≡ false
or_second true b e = absurd cc
or_second false b e = sym e

not_false : (a : Bool) → not a ≡ false → a ≡ true
not_false true e = refl
not_false false e = absurd cc

-- ---- the layers at one path

-- two layers that lack the same of some rights grant the same of them
same_granted : (h a b : Bool) → h ≡ true → (h && not a) ≡ (h && not b) → b ≡ a
same_granted true true true held e = refl
same_granted true true false held e = absurd cc
same_granted true false true held e = absurd cc
same_granted true false false held e = refl
same_granted false a b held e = absurd cc

abbrev GrantSame : ℕ → List ℕ → Layer → Layer → Type 0
GrantSame rights inodes a b = (right : ℕ) → right < 15 → holds rights right ≡ true
    → grants_on b inodes right ≡ grants_on a inodes right

grant_same : (rights : ℕ) (inodes : List ℕ) (a b : Layer) (g h : Grants) → AreGrants a inodes rights g
    → AreGrants b inodes rights h → same_grants (g, h) ≡ true → GrantSame rights inodes a b
grant_same rights inodes a b g h of_a of_b same right known held =
    same_granted (holds rights right) (grants_on a inodes right) (grants_on b inodes right) held
    (sym (of_a.missing right known) ∙ ap (λ n. holds n right) (eqb-true g.missing.0 h.missing.0 same)
    ∙ of_b.missing right known)

layers_grant_same : (rights : ℕ) (inodes : List ℕ) (xs ys : List Layer) (gs hs : List Grants)
    → AllZip (λ g layer. AreGrants layer inodes rights g) gs xs
    → AllZip (λ g layer. AreGrants layer inodes rights g) hs ys
    → length gs ≡ length hs → list_all same_grants (zip gs hs) ≡ true → AllZip (GrantSame rights inodes) xs ys
layers_grant_same rights inodes [] [] [] [] v w many same = tt
layers_grant_same rights inodes (x ∷ xs) (y ∷ ys) (g ∷ gs) (h ∷ hs) v w many same = (
  grant_same rights inodes x y g h v.0 w.0 (and_first _ _ same),
  layers_grant_same rights inodes xs ys gs hs v.1 w.1 (omega arith) (and_second _ _ same),
)
layers_grant_same rights inodes xs ys [] (h ∷ hs) v w many same = absurd (omega arith)
layers_grant_same rights inodes xs ys (g ∷ gs) [] v w many same = absurd (omega arith)
layers_grant_same rights inodes [] ys (g ∷ gs) hs v w many same = absurd v
layers_grant_same rights inodes xs [] gs (h ∷ hs) v w many same = absurd w
layers_grant_same rights inodes (x ∷ xs) ys [] hs v w many same = absurd v
layers_grant_same rights inodes xs (y ∷ ys) gs [] v w many same = absurd w

-- ---- the layers at a path that has a node

there_same : (s : State) (m : Map nat_cmp ClientRecord) (xs ys : List Layer) (path : Path) (kind : Kind)
    → kind_named s path ≡ Some kind → (was is : RightsAt) → AreRightsAt s xs path was
    → AreRightsAt (with_clients s m) ys path is → differs was is ≡ false
    → AllZip (GrantSame (relevant kind) (ancestors s path)) xs ys
there_same s m xs ys path kind there (Node x) (Node y) v w same =
    let first : v.0 ≡ kind = some_same (sym v.1 ∙ there) in
    let second : w.0 ≡ kind = some_same (sym w.1 ∙ there) in
    let by_layers = not_false (same_layers x.layers.items y.layers.items)
    (second_false (not (same_kind x.kind y.kind)) _ same) in
    layers_grant_same (relevant kind) (ancestors s path) xs ys x.layers.items y.layers.items
    (subst (λ (k : Kind). AllZip (λ g layer. AreGrants layer (ancestors s path) (relevant k) g) x.layers.items xs) first
    v.2.layers)
    (subst (λ (k : Kind). AllZip (λ g layer. AreGrants layer (ancestors s path) (relevant k) g) y.layers.items ys)
    second w.2.layers)
    (eqb-true _ _ (and_first _ _ by_layers)) (and_second _ _ by_layers)
  where
    some_same : {a b : Kind} → Some a ≡ Some b → a ≡ b
    some_same e = cc

    second_false : (a b : Bool) → (a || b) ≡ false → b ≡ false
    second_false true b e = absurd cc
    second_false false b e = e
there_same s m xs ys path kind there (New f d) is v w same = absurd (cc (sym v.0 ∙ there))
there_same s m xs ys path kind there (Nowhere k) is v w same = absurd (cc (sym v.0 ∙ there))
there_same s m xs ys path kind there (Node x) (New f d) v w same = absurd (cc (sym w.0 ∙ there))
there_same s m xs ys path kind there (Node x) (Nowhere k) v w same = absurd (cc (sym w.0 ∙ there))

-- what is compared at one of the paths, where nothing differs
pub record Compared (old new : Seen) (path : Path) : Type 0 where
  was : RightsAt
  is : RightsAt
  of_old : AreRightsAt old.0 old.1 path was
  of_new : AreRightsAt new.0 new.1 path is
  same : differs was is ≡ false

compared_at : (old new : Seen) (style : DifferenceStyle) (paths : List Path) (text : List ℕ)
    → AreDifferences old new style paths false text → (path : Path) (place : ℕ) → slice_get paths place ≡ Some path
    → Compared old new path
compared_at old new style [] text h path place e = absurd cc
compared_at old new style (p ∷ ps) text h path zero e =
    let same : p ≡ path = cc in
    record {
      was = h.0;
      is = h.1;
      of_old = subst (λ (z : Path). AreRightsAt old.0 old.1 z h.0) same h.4;
      of_new = subst (λ (z : Path). AreRightsAt new.0 new.1 z h.1) same h.5;
      same = or_first (differs h.0 h.1) h.2 h.7;
    }
compared_at old new style (p ∷ ps) text h path (suc place) e =
    compared_at old new style ps h.3 (subst (λ (b : Bool). AreDifferences old new style ps b h.3)
    (or_second (differs h.0 h.1) h.2 h.7) h.6) path place e

-- ---- the law

module _ (s t : State) (c d : ClientRecord) (w : AreTwinTrees s t c d) (style : DifferenceStyle) (paths : List Path)
    (text : List ℕ) (all : AreAllPaths s paths)
    (none : AreDifferences (s, c.domain) (t, d.domain) style paths false text) where
  alike : AreAlike s c.domain d.domain
  alike = alike_layers s w.tree c.domain d.domain w.old_fit w.new_fit (λ at.
      let here = all at.path at.inode at.names in
      let pair = compared_at (s, c.domain) (t, d.domain) style paths text none at.path here.0 here.1 in
      there_same s t.clients c.domain d.domain at.path at.kind
      (ap (λ o. option_and_then (kind_of s) o) at.names ∙ at.is) pair.was pair.is pair.of_old
      (subst (λ (z : State). AreRightsAt z d.domain at.path pair.is) w.same pair.of_new) pair.same)

  other : d ≡ with_layers c d.domain d.rulesets
  other = λ i. record d { descriptors = w.descriptors i }

  abbrev answered : State → ClientRecord → (number : ℕ) → Call → (fresh : ℕ) → Reply
  answered u r number call fresh =
      (first_or u (refusals u r call) (done u number r call (first_path call) (second_path call) fresh)).0

  same_answer : (old new : ℕ) (call : Call) (fresh : ℕ) → (adds_rule call ≡ true → d.rulesets ≡ c.rulesets)
      → answered t d new call fresh ≡ answered s c old call fresh
  same_answer old new call fresh fits =
      subst (λ (u : State). answered u d new call fresh ≡ answered s c old call fresh) (sym w.same)
      (subst (λ (r : ClientRecord). answered (with_clients s t.clients) r new call fresh
      ≡ answered s c old call fresh) (sym other)
      (replies_same s t.clients w.count c d.domain d.rulesets w.rulesets alike old new call fresh fits))

pub same_verdicts : SameVerdicts
same_verdicts s t old new w style paths text all none call fresh fits =
    same_answer s t (client_of s old) (client_of t new) w style paths text all none old new call fresh fits
