-- Layers that grant the same, of the rights that apply to each node, grant the same on each path, if their rules have
-- no other rights.
use Rattle.std.specs.Prelude.{◌≡◌, ℕ, ◌<◌, Bool, true, false, not, ◌||◌, List, [], ◌∷◌, ◌++◌, Option, Some, None, refl}
use Rattle.std.specs.Prelude.{option_and_then}
use Rattle.std.specs.List.{AllByRecursion, AllZip, list_any}
use Rattle.std.specs.Option.{option_map_or}
use Rattle.std.proofs.Common.{ap, sym, subst, ◌∙◌, append_assoc}
use Rattle.std.proofs.lemmas.List.Folds.{list_any-append}
use Rattle.ll_rights.specs.declared.kind.Kind.{Kind}
use Rattle.ll_rights.specs.declared.kind.Kind.TheVariants.{Dir}
use Rattle.ll_rights.specs.Access.{holds}
use Rattle.ll_rights.specs.Kind.{relevant}
use Rattle.ll_path.specs.Path.{Path}
use Rattle.ll_rules.specs.Layer.{Layer, grants_on, has_rule, restricts}
use Rattle.ll_decide.proofs.Bits.{holds_all}
use Rattle.ll_seq.specs.Asked.{grants}
use Rattle.ll_seq.specs.State.{Name, State, child, kind_of, root}
use Rattle.ll_seq.specs.Tree.{ancestors, chain_from, end_from, named}
use Rattle.ll_why.specs.SameVerdicts.{IsFit, IsTree}
use Rattle.ll_why.proofs.GrantedAlike.{AreAlike, IsAlike}

-- a path with a node
pub record NodePath (s : State) : Type 0 where
  pub path : Path
  pub inode : ℕ
  pub kind : Kind
  pub names : named s path ≡ Some inode
  pub is : kind_of s inode ≡ Some kind

-- the second layer grants there, of the rights that apply, what the first does
abbrev pub GrantsThere : (s : State) → NodePath s → Layer → Layer → Type 0
GrantsThere s at a b = (right : ℕ) → right < 15 → holds (relevant at.kind) right ≡ true
    → grants s b at.path right ≡ grants s a at.path right

-- what holds of two lists for each of some things holds place by place for all of them
pub zip_each : {I A B : Type 0} (some : I) (R : I → A → B → Type 0) (xs : List A) (ys : List B)
    → ((i : I) → AllZip (R i) xs ys) → AllZip (λ a b. (i : I) → R i a b) xs ys
zip_each some R [] [] each = tt
zip_each some R [] (y ∷ ys) each = each some
zip_each some R (x ∷ xs) [] each = each some
zip_each some R (x ∷ xs) (y ∷ ys) each = (λ i. (each i).0, zip_each some R xs ys (λ i. (each i).1))

same_or : (a b x : Bool) → (a || (x || false)) ≡ (b || (x || false)) → x ≡ false → a ≡ b
same_or a b true e f = absurd cc
same_or true true false e f = refl
same_or true false false e f = absurd cc
same_or false true false e f = absurd cc
same_or false false false e f = refl

module _ (s : State) (tree : IsTree s) (a b : Layer) (fit_a : IsFit s a) (fit_b : IsFit s b)
    (there : (at : NodePath s) → GrantsThere s at a b) where
  -- a rule on a node has none of the other rights
  unruled : (layer : Layer) → IsFit s layer → (inode right : ℕ) (kind : Kind) → right < 15
      → kind_of s inode ≡ Some kind → holds (relevant kind) right ≡ false → has_rule layer right inode ≡ false
  unruled layer fit inode right kind known is not_held = by (has_rule layer right inode) refl
    where
      by : (z : Bool) → has_rule layer right inode ≡ z → has_rule layer right inode ≡ false
      by true e = absurd (cc (sym (fit inode right kind known is e) ∙ not_held))
      by false e = e

  -- then one node more on the path grants nothing more
  one_more : (layer : Layer) (inodes : List ℕ) (inode right : ℕ) → has_rule layer right inode ≡ false
      → grants_on layer (inodes ++ inode ∷ []) right ≡ grants_on layer inodes right
  one_more layer inodes inode right none =
      ap (λ z. not (restricts layer right) || z) (list_any-append (has_rule layer right) inodes (inode ∷ [])
      ∙ ap (λ z. list_any (has_rule layer right) inodes || (z || false)) none
      ∙ or_false (list_any (has_rule layer right) inodes))
    where
      or_false : (z : Bool) → (z || false) ≡ z
      or_false true = refl
      or_false false = refl

  abbrev Alike : List ℕ → ℕ → Type 0
  Alike inodes right = grants_on b inodes right ≡ grants_on a inodes right

  -- The path so far, `up`, leads to this inode, and these inodes are before it
  record IsUp (up : Path) (before : List ℕ) (inode : ℕ) : Type 0 where
    leads : (rest : Path) → named s (up ++ rest) ≡ end_from s rest inode
    chain : (rest : Path) → ancestors s (up ++ rest) ≡ before ++ chain_from s rest inode

  down : (up : Path) (before : List ℕ) (inode next : ℕ) (name : Name) → IsUp up before inode
      → child s inode name ≡ Some next → IsUp (up ++ name ∷ []) (before ++ inode ∷ []) next
  down up before inode next name w is = record {
    leads = λ rest. ap (named s) (append_assoc up (name ∷ []) rest) ∙ w.leads (name ∷ rest)
        ∙ ap (λ o. option_and_then (end_from s rest) o) is;
    chain = λ rest. ap (ancestors s) (append_assoc up (name ∷ []) rest) ∙ w.chain (name ∷ rest)
        ∙ ap (λ o. before ++ (inode ∷ option_map_or (chain_from s rest) o [])) is
        ∙ sym (append_assoc before (inode ∷ []) (chain_from s rest next));
  }

  -- at a node that the path leads to
  at_node : (up : Path) (before : List ℕ) (inode : ℕ) → IsUp up before inode
      → ((right : ℕ) → right < 15 → Alike before right)
      → (right : ℕ) → right < 15 → Alike (before ++ inode ∷ []) right
  at_node up before inode w above right known = by (holds (relevant node.0) right) refl
    where
      node : (kind : Kind) × (kind_of s inode ≡ Some kind)
      node = tree.nodes (up ++ []) inode (w.leads [])

      by : (z : Bool) → holds (relevant node.0) right ≡ z → Alike (before ++ inode ∷ []) right
      by true e =
          let at : NodePath s =
          record { path = up ++ []; inode = inode; kind = node.0; names = w.leads []; is = node.1 } in
          subst (λ (l : List ℕ). Alike l right) (w.chain []) (there at right known e)
      by false e =
          one_more b before inode right (unruled b fit_b inode right node.0 known node.1 e) ∙ above right known
          ∙ sym (one_more a before inode right (unruled a fit_a inode right node.0 known node.1 e))

  -- down the path from there
  abbrev On : Path → Type 0
  On path = (up : Path) (before : List ℕ) (inode : ℕ) → IsUp up before inode
      → ((right : ℕ) → right < 15 → Alike (before ++ inode ∷ []) right)
      → (right : ℕ) → right < 15 → Alike (before ++ chain_from s path inode) right

  on_from : (path : Path) → On path
  on_from [] up before inode w here right known = here right known
  on_from (name ∷ path) up before inode w here right known = by (on_from path) (child s inode name) refl
    where
      by : On path → (o : Option ℕ) → child s inode name ≡ o
          → Alike (before ++ (inode ∷ option_map_or (chain_from s path) (child s inode name) [])) right
      by on None e = subst (λ (o : Option ℕ). Alike (before ++ (inode ∷ option_map_or (chain_from s path) o [])) right)
          (sym e) (here right known)
      by on (Some next) e =
          let lower = down up before inode next name w e in
          subst (λ (o : Option ℕ). Alike (before ++ (inode ∷ option_map_or (chain_from s path) o [])) right) (sym e)
          (subst (λ (l : List ℕ). Alike l right) (append_assoc before (inode ∷ []) (chain_from s path next))
          (on (up ++ name ∷ []) (before ++ inode ∷ []) next lower
          (at_node (up ++ name ∷ []) (before ++ inode ∷ []) next lower here) right known))

  pub on_each : IsAlike s a b
  on_each = record {
    same = λ path right known. on_from path [] [] root (record { leads = λ rest. refl; chain = λ rest. refl })
        (λ r k. there (record { path = []; inode = root; kind = Dir; names = refl; is = tree.root }) r k
        (holds_all r k)) right known;
  }

-- the same of all layers
pub alike_layers : (s : State) → IsTree s → (xs ys : List Layer) → AllByRecursion (IsFit s) xs
    → AllByRecursion (IsFit s) ys → ((at : NodePath s) → AllZip (GrantsThere s at) xs ys) → AreAlike s xs ys
alike_layers s tree xs ys old new each = by xs ys old new (zip_each some (GrantsThere s) xs ys each)
  where
    some : NodePath s
    some = record { path = []; inode = root; kind = Dir; names = refl; is = tree.root }

    by : (xs ys : List Layer) → AllByRecursion (IsFit s) xs → AllByRecursion (IsFit s) ys
        → AllZip (λ a b. (at : NodePath s) → GrantsThere s at a b) xs ys → AreAlike s xs ys
    by [] [] old new w = tt
    by [] (y ∷ ys) old new w = absurd w
    by (x ∷ xs) [] old new w = absurd w
    by (x ∷ xs) (y ∷ ys) old new w =
        (on_each s tree x y old.0 new.0 w.0, by xs ys old.1 new.1 w.1)
