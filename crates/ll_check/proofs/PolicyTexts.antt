-- The policies of sections, and their paths.
use Rattle.std.proofs.Common.{◌≡◌, ◌∙◌, ◌<◌, ◌+◌, ℕ, List, [], ◌∷◌, ◌++◌, length, map, take, drop, get_or, Bool, true}
use Rattle.std.proofs.Common.{false, Option, Some, option_map, refl, sym, ap, ap₂, cond}
use Rattle.std.specs.Prelude.{◌||◌, bytes_eq, string_bytes}
use Rattle.std.specs.List.{list_any}
use Rattle.std.specs.declared.alloc.Global.{Global}
use Rattle.std.specs.declared.string.String.{String}
use Rattle.std.proofs.lemmas.List.{drop_more, map-append}
use Rattle.ll_check.specs.declared.checks.NamedText.{NamedText}
use Rattle.ll_check.specs.declared.own_policy.OwnPolicy.{OwnPolicy}
use Rattle.ll_check.specs.declared.check_text.ReadFile.{ReadFile}
use Rattle.ll_check.specs.Checks.{Own, Tests, own_of, tests_of}
use Rattle.ll_check.specs.Files.{own_paths, policy_in, source_of, with_path}
use Rattle.ll_check.proofs.Files.{one_more}

-- ---- the text of a policy

module _ (policies : List NamedText) (i : ℕ) (policy : NamedText) (path : List ℕ) (below : i < length policies)
    (is : policy ≡ get_or policies i policy) where
  -- the next policy, and those after it
  next : policy_in (map source_of (drop i policies)) path
      ≡ policy_in (source_of policy ∷ map source_of (drop (i + 1) policies)) path
  next =
      ap (λ (x : List NamedText). policy_in (map source_of x) path) (drop_more policies i policy below)
      ∙ ap (λ (x : NamedText). policy_in (source_of x ∷ map source_of (drop (i + 1) policies)) path) (sym is)

  chosen : (b : Bool) → Option (List ℕ)
  chosen b = cond b (Some policy.text.items) (policy_in (map source_of (drop (i + 1) policies)) path)

  -- it has another path
  pub policy_past : bytes_eq policy.name.now path ≡ false
      → policy_in (map source_of (drop i policies)) path ≡ policy_in (map source_of (drop (i + 1) policies)) path
  unfolding chosen
  policy_past other = next ∙ ap chosen other

  -- it has this path
  pub policy_found : bytes_eq policy.name.now path ≡ true
      → policy_in (map source_of (drop i policies)) path ≡ Some policy.text.items
  unfolding chosen
  policy_found same = next ∙ ap chosen same

-- ---- paths, each once

path_known : (paths : List (String Global)) (path : List ℕ)
    → list_any (λ (it : String Global). bytes_eq (string_bytes it) path) paths
    ≡ list_any (λ it. bytes_eq it path) (map string_bytes paths)
path_known [] path = refl
path_known (it ∷ paths) path = ap (λ b. bytes_eq (string_bytes it) path || b) (path_known paths path)

module _ (paths : List (List ℕ)) (own : Own) where
  added : (b : Bool) → List (List ℕ)
  added b = cond b paths (paths ++ own.file ∷ [])

  path_kept : list_any (λ path. bytes_eq path own.file) paths ≡ true → paths ≡ with_path paths (Some own)
  unfolding added
  path_kept known = sym (ap added known)

  path_added : list_any (λ path. bytes_eq path own.file) paths ≡ false
      → paths ++ own.file ∷ [] ≡ with_path paths (Some own)
  unfolding added
  path_added new = sym (ap added new)

module _ (paths all : List (String Global)) (text : List ℕ) (own : OwnPolicy) (of : Option OwnPolicy) (known : Bool)
    (same : all ≡ paths) (told : text ≡ string_bytes own.file)
    (is : known ≡ list_any (λ (it : String Global). bytes_eq (string_bytes it) text) all) (there : of ≡ Some own) where
  among : list_any (λ it. bytes_eq it (string_bytes own.file)) (map string_bytes paths) ≡ known
  among =
      sym (path_known paths (string_bytes own.file))
      ∙ ap₂ (λ (xs : List (String Global)) (t : List ℕ). list_any (λ (it : String Global). bytes_eq (string_bytes it) t)
      xs) (sym same) (sym told)
      ∙ sym is

  with_own : Option OwnPolicy → List (List ℕ)
  with_own o = with_path (map string_bytes paths) (option_map own_of o)

  -- the path is among them
  pub path_there : known ≡ true → map string_bytes paths ≡ with_path (map string_bytes paths) (option_map own_of of)
  unfolding with_own
  path_there e = path_kept (map string_bytes paths) (own_of own) (among ∙ e) ∙ ap with_own (sym there)

  -- it is added to them
  pub path_new : (path : String Global) (after : List (String Global)) → known ≡ false
      → string_bytes path ≡ string_bytes own.file → after ≡ paths ++ path ∷ []
      → map string_bytes after ≡ with_path (map string_bytes paths) (option_map own_of of)
  unfolding with_own
  path_new path after e spelled more =
      ap (map string_bytes) more ∙ map-append string_bytes paths (path ∷ [])
      ∙ ap (λ (x : List ℕ). map string_bytes paths ++ x ∷ []) spelled
      ∙ path_added (map string_bytes paths) (own_of own) (among ∙ e) ∙ ap with_own (sym there)

-- one section more
paths_more : (paths : List (List ℕ)) (front : List Tests) (file : Tests)
    → own_paths paths (front ++ file ∷ []) ≡ with_path (own_paths paths front) file.own
paths_more paths [] file = refl
paths_more paths (first ∷ front) file = paths_more (with_path paths first.own) front file

pub paths_on : (files : List ReadFile) (i : ℕ) (file : ReadFile) (old new : List (List ℕ)) → i < length files
    → file ≡ get_or files i file → old ≡ own_paths [] (map tests_of (take i files))
    → new ≡ with_path old (tests_of file).own → new ≡ own_paths [] (map tests_of (take (i + 1) files))
paths_on files i file old new below is so more =
    more ∙ ap (λ (x : List (List ℕ)). with_path x (tests_of file).own) so
    ∙ sym (paths_more [] (map tests_of (take i files)) (tests_of file))
    ∙ ap (own_paths []) (sym (one_more files i file below is))
