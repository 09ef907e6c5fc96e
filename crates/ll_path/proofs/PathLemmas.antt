-- Paths and their texts: what a text without refusals is, and how a path lies to its parent.
use Rattle.std.proofs.Common.{◌≡◌, ◌≢◌, ◌==◌, ℕ, suc, ◌≤◌, Bool, true, false, not, ◌&&◌, cond, nat_lt, nat_eq, List, []}
use Rattle.std.proofs.Common.{◌∷◌, ◌++◌, length, drop, codes, refl, ap, sym, ◌∙◌, arith, subst}
use Rattle.std.specs.List.{All, AllByRecursion, list_any, join_with_byte, starts_with}
use Rattle.std.proofs.lemmas.Bool.{ltb-false, not-false, eqb-true, ne_eqb}
use Rattle.std.proofs.lemmas.Bool.Decides.{nat_tests}
use Rattle.std.proofs.lemmas.List.Splits.{join_with_byte-slice_split}
use Rattle.std.proofs.lemmas.List.Elements.{All-from_recursion, recursion_from_All}
use Rattle.ll_rights.specs.declared.errno.Errno.{Errno}
use Rattle.ll_rights.specs.declared.errno.Errno.TheVariants.{EINVAL, ENAMETOOLONG}
use Rattle.ll_rights.specs.Errno.{refuse}
use Rattle.ll_path.specs.Word.{IsVisible}
use Rattle.ll_path.specs.Name.{IsName}
use Rattle.ll_path.specs.Path.{Path, path_of_text, is_no_name, is_long_name, path_refusals, path_text, is_root, parent}
use Rattle.ll_path.specs.Path.{last_name}
use Rattle.ll_path.proofs.Splits.{cut_at_slashes}
use Rattle.ll_path.proofs.NameLemmas.{all_names, parts_bytes}

-- ---- texts that spell a path

pub path_of_text-more : (b : ℕ) (rest : List ℕ) → path_of_text (47 ∷ b ∷ rest) ≡ cut_at_slashes (b ∷ rest)
path_of_text-more b rest =
    let long : nat_lt (suc (suc (length rest))) 2 ≡ false = grind (arith, nat_tests) in
    ap (λ (test : Bool). cond test [] (cut_at_slashes (b ∷ rest))) long

pub path_of_text-cut : (rest : List ℕ) → (length rest == 0) ≡ false → path_of_text (47 ∷ rest) ≡ cut_at_slashes rest
path_of_text-cut [] e = absurd cc
path_of_text-cut (b ∷ rest) e = path_of_text-more b rest

pub join-path_of_text : (rest : List ℕ) → join_with_byte 47 (path_of_text (47 ∷ rest)) ≡ rest
join-path_of_text [] = refl
join-path_of_text (b ∷ rest) =
    ap (join_with_byte 47) (path_of_text-more b rest) ∙ join_with_byte-slice_split 47 (b ∷ rest)

-- what a text is that has no refusals
pub record SpellsPath (text : List ℕ) : Type 0 where
  pub fits : length text ≤ 4095
  pub slash : text ≡ 47 ∷ drop 1 text
  pub named : list_any is_no_name (path_of_text text) ≡ false
  pub short : list_any is_long_name (path_of_text text) ≡ false
  pub few : length (path_of_text text) ≤ 64

nothing : (xs ys : List Errno) → xs ++ ys ≡ [] → (xs ≡ []) × (ys ≡ [])
nothing [] ys e = (refl, e)
nothing (x ∷ xs) ys e = absurd cc

unrefused : (test : Bool) (errno : Errno) → refuse test errno ≡ [] → test ≡ false
unrefused true errno e = absurd cc
unrefused false errno e = refl

both : (a b : Bool) → (a && b) ≡ true → (a ≡ true) × (b ≡ true)
both true b e = (refl, e)
both false b e = absurd cc

begins : (text : List ℕ) → starts_with nat_eq text (codes "/") ≡ true → text ≡ 47 ∷ drop 1 text
begins [] e = absurd cc
begins (b ∷ text) e = ap (λ (x : ℕ). x ∷ text) (sym (eqb-true 47 b (both (nat_eq 47 b) true e).0))

-- a text that doesn't begin with a slash
pub starts_elsewhere : (text : List ℕ) → ((rest : List ℕ) → text ≢ 47 ∷ rest)
    → starts_with nat_eq text (codes "/") ≡ false
starts_elsewhere [] h = refl
starts_elsewhere (b ∷ text) h =
    ap (λ (test : Bool). test && true) (ne_eqb 47 b (λ e. h text (ap (λ (x : ℕ). x ∷ text) (sym e))))

pub spells_path : (text : List ℕ) → path_refusals text ≡ [] → SpellsPath text
spells_path text e =
    let long = refuse (nat_lt 4095 (length text)) ENAMETOOLONG in
    let rootless = refuse (not (starts_with nat_eq text (codes "/"))) EINVAL in
    let unnamed = refuse (list_any is_no_name (path_of_text text)) EINVAL in
    let long_names = refuse (list_any is_long_name (path_of_text text)) ENAMETOOLONG in
    let many = refuse (nat_lt 64 (length (path_of_text text))) ENAMETOOLONG in
    let four = nothing (((long ++ rootless) ++ unnamed) ++ long_names) many e in
    let three = nothing ((long ++ rootless) ++ unnamed) long_names four.0 in
    let two = nothing (long ++ rootless) unnamed three.0 in
    let one = nothing long rootless two.0 in
    record {
      fits = ltb-false 4095 (length text) (unrefused _ ENAMETOOLONG one.0);
      slash = begins text (not-false _ (unrefused _ EINVAL one.1));
      named = unrefused _ EINVAL two.1;
      short = unrefused _ ENAMETOOLONG three.1;
      few = ltb-false 64 (length (path_of_text text)) (unrefused _ ENAMETOOLONG four.1);
    }

-- a path's text spells it
pub path_text-path_of_text : (text : List ℕ) → path_refusals text ≡ [] → path_text (path_of_text text) ≡ text
path_text-path_of_text text e =
    let slash = (spells_path text e).slash in
    ap (λ (t : List ℕ). path_text (path_of_text t)) slash
    ∙ ap (λ (rest : List ℕ). 47 ∷ rest) (join-path_of_text (drop 1 text)) ∙ sym slash

pub join-path_of_whole_text : (text : List ℕ) → path_refusals text ≡ []
    → join_with_byte 47 (path_of_text text) ≡ drop 1 text
join-path_of_whole_text text e =
    ap (λ (t : List ℕ). join_with_byte 47 (path_of_text t)) (spells_path text e).slash ∙ join-path_of_text (drop 1 text)

name_bytes : (rest : List ℕ) → AllByRecursion IsVisible rest
    → AllByRecursion (AllByRecursion (λ b. IsVisible b × (b ≢ 47))) (path_of_text (47 ∷ rest))
name_bytes [] h = tt
name_bytes (b ∷ rest) h = rw (path_of_text-more b rest) (parts_bytes (b ∷ rest) h)

rest_visible : (text rest : List ℕ) → AllByRecursion IsVisible text → text ≡ 47 ∷ rest → AllByRecursion IsVisible rest
rest_visible [] rest h e = absurd cc
rest_visible (b ∷ text) rest h e = let same : text ≡ rest = cc in subst (AllByRecursion IsVisible) same h.1

-- a path's names are names
pub path_of_text-names : (text : List ℕ) → AllByRecursion IsVisible text → path_refusals text ≡ []
    → All IsName (path_of_text text)
path_of_text-names text visible e =
    let spells = spells_path text e in
    let bytes = name_bytes (drop 1 text) (rest_visible text (drop 1 text) visible spells.slash) in
    All-from_recursion IsName (path_of_text text)
    (all_names (path_of_text text)
    (subst (λ (t : List ℕ). AllByRecursion (AllByRecursion (λ b. IsVisible b × (b ≢ 47))) (path_of_text t))
    (sym spells.slash) bytes) spells.named spells.short)

-- ---- a path and its parent

pub parent-push : (front : Path) (last : List ℕ) → parent (front ++ last ∷ []) ≡ front
parent-push [] last = refl
parent-push (name ∷ []) last = refl
parent-push (name ∷ next ∷ front) last = ap (λ (p : Path). name ∷ p) (parent-push (next ∷ front) last)

pub last_name-push : (front : Path) (last : List ℕ) → last_name (front ++ last ∷ []) ≡ last
last_name-push [] last = refl
last_name-push (name ∷ []) last = refl
last_name-push (name ∷ next ∷ front) last = last_name-push (next ∷ front) last

-- any path but the root is its parent and its last name
pub parent-last_name : (path : Path) → is_root path ≡ false → path ≡ parent path ++ last_name path ∷ []
parent-last_name [] e = absurd cc
parent-last_name (name ∷ []) e = refl
parent-last_name (name ∷ next ∷ path) e = ap (λ (p : Path). name ∷ p) (parent-last_name (next ∷ path) refl)

-- what a path is, cut before its last name
pub front_is_parent : (path front : Path) (last : List ℕ) → path ≡ front ++ last ∷ [] → front ≡ parent path
front_is_parent path front last e = sym (ap parent e ∙ parent-push front last)

pub end_is_last_name : (path front : Path) (last : List ℕ) → path ≡ front ++ last ∷ [] → last ≡ last_name path
end_is_last_name path front last e = sym (ap last_name e ∙ last_name-push front last)

at_end : (P : List ℕ → Type 0) (front : Path) (last : List ℕ) → AllByRecursion P (front ++ last ∷ []) → P last
at_end P [] last h = h.0
at_end P (name ∷ front) last h = at_end P front last h.1

pub end_is_name : (path front : Path) (last : List ℕ) → path ≡ front ++ last ∷ [] → All IsName path → IsName last
end_is_name path front last e h =
    at_end IsName front last (subst (AllByRecursion IsName) e (recursion_from_All IsName path h))
