-- Paths with one name more.
use Rattle.std.specs.Prelude.{◌≡◌, ℕ, false, List, [], ◌∷◌, ◌++◌, Option, Some, None, option_and_then, refl}
use Rattle.std.specs.Option.{option_map_or}
use Rattle.std.proofs.Common.{ap, ◌∙◌, sym, append_assoc}
use Rattle.std.proofs.lemmas.List.{append-nil}
use Rattle.ll_rights.specs.declared.errno.Errno.{Errno}
use Rattle.ll_path.specs.Path.{Path, is_root, last_name, parent}
use Rattle.ll_path.proofs.PathLemmas.{parent-last_name}
use Rattle.ll_seq.specs.State.{State, Name, child, root}
use Rattle.ll_seq.specs.Tree.{ancestors, chain_from, end_from, named}
use Rattle.ll_seq.specs.Stages.{in_the_way, no_directory, kind_of_child}

module _ (s : State) (name : Name) where
  -- what the directory has under the name, if the path leads to one
  abbrev pub beneath : Option ℕ → Option ℕ
  beneath end = option_and_then (λ d. child s d name) end

  abbrev pub alone : Option ℕ → List ℕ
  alone end = option_map_or (λ j. j ∷ []) end []

  abbrev pub block : Option ℕ → List Errno
  block end = option_map_or (λ d. no_directory (kind_of_child s (child s d name))) end []

  itself : (o : Option ℕ) → option_and_then (λ z. Some z) o ≡ o
  itself None = refl
  itself (Some x) = refl

  end_onward : (o : Option ℕ) (f g : ℕ → Option ℕ) → ((j : ℕ) → f j ≡ beneath (g j))
      → option_and_then f o ≡ beneath (option_and_then g o)
  end_onward None f g same = refl
  end_onward (Some j) f g same = same j

  pub end_push : (path : Path) (i : ℕ) → end_from s (path ++ name ∷ []) i ≡ beneath (end_from s path i)
  end_push [] i = itself (child s i name)
  end_push (n ∷ path) i = end_onward (child s i n) (end_from s (path ++ name ∷ [])) (end_from s path) (end_push path)

  chain_onward : (o : Option ℕ) (i : ℕ) (f g : ℕ → List ℕ) (e : ℕ → Option ℕ)
      → ((j : ℕ) → f j ≡ g j ++ alone (beneath (e j)))
      → i ∷ option_map_or f o [] ≡ (i ∷ option_map_or g o []) ++ alone (beneath (option_and_then e o))
  chain_onward None i f g e same = refl
  chain_onward (Some j) i f g e same = ap (λ (l : List ℕ). i ∷ l) (same j)

  pub chain_push : (path : Path) (i : ℕ)
      → chain_from s (path ++ name ∷ []) i ≡ chain_from s path i ++ alone (beneath (end_from s path i))
  chain_push [] i = refl
  chain_push (n ∷ path) i = chain_onward (child s i n) i (chain_from s (path ++ name ∷ [])) (chain_from s path)
      (end_from s path) (chain_push path)

  way_onward : (o : Option ℕ) (k : List Errno) (f g : ℕ → List Errno) (e : ℕ → Option ℕ)
      → ((j : ℕ) → f j ≡ g j ++ block (e j))
      → k ++ option_map_or f o [] ≡ (k ++ option_map_or g o []) ++ block (option_and_then e o)
  way_onward None k f g e same = sym (append-nil (k ++ []))
  way_onward (Some j) k f g e same = ap (λ (l : List Errno). k ++ l) (same j) ∙ sym (append_assoc k (g j) (block (e j)))

  last_way : (k : List Errno) (o : Option ℕ) → k ++ option_map_or (λ (j : ℕ). []) o [] ≡ k
  last_way k None = append-nil k
  last_way k (Some j) = append-nil k

  pub way_push : (path : Path) (i : ℕ)
      → in_the_way s (path ++ name ∷ []) i ≡ in_the_way s path i ++ block (end_from s path i)
  way_push [] i = last_way (no_directory (kind_of_child s (child s i name))) (child s i name)
  way_push (n ∷ path) i = way_onward (child s i n) (no_directory (kind_of_child s (child s i n)))
      (in_the_way s (path ++ name ∷ [])) (in_the_way s path) (end_from s path) (way_push path)

-- a path's chain is that of its directory, and what it names
pub chain_last : (s : State) (path : Path) → is_root path ≡ false
    → ancestors s path ≡ ancestors s (parent path) ++ option_map_or (λ (j : ℕ). j ∷ []) (named s path) []
chain_last s path below =
    let whole = parent-last_name path below in
    ap (ancestors s) whole ∙ chain_push s (last_name path) (parent path) root
    ∙ ap (λ o. ancestors s (parent path) ++ option_map_or (λ (j : ℕ). j ∷ []) o [])
    (sym (ap (named s) whole ∙ end_push s (last_name path) (parent path) root))
