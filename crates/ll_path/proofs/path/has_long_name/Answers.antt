use Rattle.std.proofs.Common.{◌≡◌, ◌∷◌, [], ◌≤◌, ℕ, Bool, false, ◌||◌, nat_lt, List, length, ap, sym, refl, arith, ◌∙◌}
use Rattle.std.proofs.lemmas.Bool.Decides.{nat_tests}
use Rattle.std.specs.List.{AllByRecursion, list_any}
use Rattle.ll_path.specs.Path.{is_long_name, path_of_text}
use Rattle.ll_path.proofs.Splits.{parts_within}
use Rattle.ll_path.proofs.PathLemmas.{path_of_text-more}
use Rattle.ll_path.proofs.path.has_long_name.Goals as goal

short : (n : ℕ) → n ≤ 255 → nat_lt 255 n ≡ false
short n le = grind (arith, nat_tests)

either : (a b : Bool) → a ≡ false → b ≡ false → (a || b) ≡ false
either a b e f = ap (λ (x : Bool). x || b) e ∙ f

none_long : (most : ℕ) (parts : List (List ℕ)) → AllByRecursion (λ (part : List ℕ). length part ≤ most) parts
    → most ≤ 255 → list_any is_long_name parts ≡ false
none_long most [] h le = refl
none_long most (part ∷ parts) h le =
    let first = h.0 in
    either (is_long_name part) (list_any is_long_name parts) (short (length part) (omega arith))
    (none_long most parts h.1 le)

none_in : (rest : List ℕ) → length rest ≤ 255 → list_any is_long_name (path_of_text (47 ∷ rest)) ≡ false
none_in [] le = refl
none_in (b ∷ rest) le = ap (list_any is_long_name) (path_of_text-more b rest)
    ∙ none_long (length (b ∷ rest)) _ (parts_within (b ∷ rest)) le

pub returns-else-rest-gt255 : goal.returns-else-rest-gt255
returns-else-rest-gt255 c =
    let le = c.if-rest-gt255.false in
    short (length c.args.rest.now) (omega arith) ∙ sym (none_in c.args.rest.now (omega arith))
