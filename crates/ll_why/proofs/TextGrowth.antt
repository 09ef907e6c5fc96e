-- Texts that grow by a part at a time.
use Rattle.std.proofs.Common.{◌≡◌, ℕ, ◌+◌, ◌<◌, suc, List, [], ◌∷◌, ◌++◌, map, length, drop, get_or, refl, sym}
use Rattle.std.proofs.Common.{ap, ◌∙◌, add-one, append_assoc, arith}
use Rattle.std.specs.List.{concat, flat_map, join_by}
use Rattle.std.proofs.lemmas.List.{map-append}
use Rattle.std.proofs.Math.Seq.{drop-cons}

-- a list from an element on
pub from_element : {A : Type 0} (xs : List A) (i : ℕ) (x : A) → i < length xs → x ≡ get_or xs i x
    → drop i xs ≡ x ∷ drop (i + 1) xs
from_element xs i x lt is = drop-cons xs i x lt ∙ ap (λ y. y ∷ drop (suc i) xs) (sym is)
    ∙ ap (λ k. x ∷ drop k xs) (sym (add-one i))

-- a part has come, of those that were still to come
pub came : {A : Type 0} (whole text next part rest : List A) → whole ≡ text ++ (part ++ rest) → next ≡ text ++ part
    → whole ≡ next ++ rest
came whole text next part rest all e =
    all ∙ sym (append_assoc text part rest) ∙ ap (λ l. l ++ rest) (sym e)

-- the same of a list of texts
pub added : {A B C : Type 0} (f : A → C) (g : B → C) (whole : List C) (ys next : List B) (y : B) (x : A) (rest : List A)
    → whole ≡ map g ys ++ map f (x ∷ rest) → next ≡ ys ++ y ∷ [] → g y ≡ f x
    → whole ≡ map g next ++ map f rest
added f g whole ys next y x rest all e same =
    came whole (map g ys) (map g next) (f x ∷ []) (map f rest) all
    (ap (map g) e ∙ map-append g ys (y ∷ []) ∙ ap (λ z. map g ys ++ z ∷ []) same)

pub all_parts : {A : Type 0} (f : A → List ℕ) (xs : List A) → flat_map f xs ≡ concat (map f xs)
all_parts f [] = refl
all_parts f (x ∷ xs) = ap (λ l. f x ++ l) (all_parts f xs)

flat_map_map : {A B : Type 0} (f : A → B) (h : B → List ℕ) (xs : List A)
    → flat_map h (map f xs) ≡ flat_map (λ x. h (f x)) xs
flat_map_map f h [] = refl
flat_map_map f h (x ∷ xs) = ap (λ l. h (f x) ++ l) (flat_map_map f h xs)

-- parts that are texts already
pub joined_texts : {A : Type 0} (f : A → List ℕ) (separator : List ℕ) (xs : List A)
    → join_by (λ x. x) separator (map f xs) ≡ join_by f separator xs
joined_texts f separator [] = refl
joined_texts f separator (x ∷ xs) = ap (λ l. f x ++ l) (flat_map_map f (λ y. separator ++ y) xs)

-- texts that are joined are those of the parts
pub joined_parts : {A B : Type 0} (f : A → List ℕ) (g : B → List ℕ) (separator : List ℕ) (xs : List A) (ys : List B)
    → map g ys ≡ map f xs → join_by g separator ys ≡ join_by f separator xs
joined_parts f g separator xs ys same =
    sym (joined_texts g separator ys) ∙ ap (join_by (λ x. x) separator) same ∙ joined_texts f separator xs

pub empty_is : {A : Type 0} (xs : List A) → length xs ≡ 0 → xs ≡ []
empty_is [] e = refl
empty_is (x ∷ xs) e = absurd (omega arith)

-- texts of the same parts
pub three : {a b c x y z : List ℕ} → a ≡ x → b ≡ y → c ≡ z
    → concat (a ∷ b ∷ c ∷ []) ≡ concat (x ∷ y ∷ z ∷ [])
three {a} {b} {c} {x} {y} {z} e f g =
    ap (λ l. concat (l ∷ b ∷ c ∷ [])) e ∙ ap (λ l. concat (x ∷ l ∷ c ∷ [])) f
    ∙ ap (λ l. concat (x ∷ y ∷ l ∷ [])) g

pub five : {a b c d e u v w x y : List ℕ} → a ≡ u → b ≡ v → c ≡ w → d ≡ x → e ≡ y
    → concat (a ∷ b ∷ c ∷ d ∷ e ∷ []) ≡ concat (u ∷ v ∷ w ∷ x ∷ y ∷ [])
five {a} {b} {c} {d} {e} {u} {v} {w} {x} {y} f g h i j =
    ap (λ l. concat (l ∷ b ∷ c ∷ d ∷ e ∷ [])) f ∙ ap (λ l. concat (u ∷ l ∷ c ∷ d ∷ e ∷ [])) g
    ∙ ap (λ l. concat (u ∷ v ∷ l ∷ d ∷ e ∷ [])) h ∙ ap (λ l. concat (u ∷ v ∷ w ∷ l ∷ e ∷ [])) i
    ∙ ap (λ l. concat (u ∷ v ∷ w ∷ x ∷ l ∷ [])) j
