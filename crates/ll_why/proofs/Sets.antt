-- Sets of rights made of others, and lists with one item more.
use Rattle.std.specs.Prelude.{◌≡◌, ℕ, zero, suc, ◌<◌, Bool, true, false, not, ◌&&◌, ◌||◌, List, [], ◌∷◌}
use Rattle.std.specs.Prelude.{◌++◌, length, take, Some, slice_get, bit_and, bit_or, refl, Result, Ok, Err}
use Rattle.std.specs.Prelude.{IfOk}
use Rattle.std.specs.List.{AllZip, list_any}
use Rattle.std.proofs.Common.{ap, subst, ◌∙◌}
use Rattle.ll_rights.specs.Access.{holds}
use Rattle.ll_rules.specs.Layer.{Layer, grants_on, has_rule, restricts}
use Rattle.ll_why.specs.Grants.{is_first}
use Rattle.ll_decide.proofs.Bits.{holds-and, holds-or, holds_refer}

-- those of the rights that the layer restricts
pub holds_restricted : (layer : Layer) (rights right : ℕ) → right < 15
    → holds (bit_and rights (bit_or layer.handled 0x2000)) right ≡ (holds rights right && restricts layer right)
holds_restricted layer rights right known =
    holds-and rights (bit_or layer.handled 0x2000) right
    ∙ ap (λ b. holds rights right && b) (holds-or layer.handled 0x2000 right
    ∙ ap (λ b. holds layer.handled right || b) (holds_refer right known))

pub none_free : (r t : Bool) → (r && not (r && t)) ≡ (r && not t)
none_free true t = refl
none_free false t = refl

pub not_granted : (r t : Bool) → (r && t) ≡ (r && not (not t || false))
not_granted true true = refl
not_granted true false = refl
not_granted false t = refl

-- missing with one rule more
pub still_missing : (r g h : Bool) → ((r && not g) && not ((r && not g) && h)) ≡ (r && not (g || h))
still_missing true true h = refl
still_missing true false true = refl
still_missing true false false = refl
still_missing false g h = refl

-- granted by the rule that comes
pub by_this : (r t a h : Bool) → ((r && not (not t || a)) && h) ≡ ((r && t) && (not a && h))
by_this true true true h = refl
by_this true true false h = refl
by_this true false a h = refl
by_this false t a h = refl

pub by_rule : (layer : Layer) (inodes : List ℕ) (rights inode right : ℕ)
    → ((holds rights right && not (grants_on layer inodes right)) && has_rule layer right inode)
    ≡ ((holds rights right && restricts layer right) && is_first layer inodes inode right)
by_rule layer inodes rights inode right =
    by_this (holds rights right) (restricts layer right) (list_any (has_rule layer right) inodes)
    (has_rule layer right inode)

-- granted by one layer more
pub all_more : (a l g : Bool) → ((a && l) && not (a && not g)) ≡ (a && (l && (g && true)))
all_more true true true = refl
all_more true true false = refl
all_more true false true = refl
all_more true false false = refl
all_more false l g = refl

-- what holds of each item holds of each with one item more
pub at_push : {A : Type 0} (xs : List A) (x : A) (P : ℕ → A → Type 0)
    → ((k : ℕ) (y : A) → slice_get xs k ≡ Some y → P k y) → P (length xs) x
    → (k : ℕ) (y : A) → slice_get (xs ++ x ∷ []) k ≡ Some y → P k y
at_push [] x P old new zero y e = let same : x ≡ y = cc in subst (P 0) same new
at_push [] x P old new (suc k) y e = absurd (cc e)
at_push (z ∷ xs) x P old new zero y e = old 0 y e
at_push (z ∷ xs) x P old new (suc k) y e = at_push xs x (λ n w. P (suc n) w) (λ n w f. old (suc n) w f) new k y e

pub front_get : (xs ys : List ℕ) (k y : ℕ) → slice_get xs k ≡ Some y → slice_get (xs ++ ys) k ≡ Some y
front_get [] ys zero y e = absurd (cc e)
front_get [] ys (suc k) y e = absurd (cc e)
front_get (x ∷ xs) ys zero y e = e
front_get (x ∷ xs) ys (suc k) y e = front_get xs ys k y e

pub front_take : (xs ys : List ℕ) (k y : ℕ) → slice_get xs k ≡ Some y → take k (xs ++ ys) ≡ take k xs
front_take [] ys zero y e = absurd (cc e)
front_take [] ys (suc k) y e = absurd (cc e)
front_take (x ∷ xs) ys zero y e = refl
front_take (x ∷ xs) ys (suc k) y e = ap (λ zs. x ∷ zs) (front_take xs ys k y e)

pub last_get : (xs : List ℕ) (x : ℕ) → slice_get (xs ++ x ∷ []) (length xs) ≡ Some x
last_get [] x = refl
last_get (y ∷ xs) x = last_get xs x

pub last_take : (xs : List ℕ) (x : ℕ) → take (length xs) (xs ++ x ∷ []) ≡ xs
last_take [] x = refl
last_take (y ∷ xs) x = ap (λ zs. y ∷ zs) (last_take xs x)

pub zip_push : {A B : Type 0} (R : A → B → Type 0) (xs : List A) (ys : List B) (x : A) (y : B) → AllZip R xs ys → R x y
    → AllZip R (xs ++ x ∷ []) (ys ++ y ∷ [])
zip_push R [] [] x y all one = (one, tt)
zip_push R [] (b ∷ ys) x y all one = absurd all
zip_push R (a ∷ xs) [] x y all one = absurd all
zip_push R (a ∷ xs) (b ∷ ys) x y all one = (all.0, zip_push R xs ys x y all.1 one)

pub both_ok : {A E : Type 0} (r : Result A E) (P Q R : A → Type 0) → IfOk r P → IfOk r Q → ((a : A) → P a → Q a → R a)
    → IfOk r R
both_ok (Ok a) P Q R p q f = f a p q
both_ok (Err e) P Q R p q f = tt

-- what isn't lacked
pub not_lacked : (r g : Bool) → (r && not (r && not g)) ≡ (r && g)
not_lacked true true = refl
not_lacked true false = refl
not_lacked false g = refl

pub holds_with : (x a b right : ℕ) → x ≡ bit_or a b → holds x right ≡ (holds a right || holds b right)
holds_with x a b right e = ap (λ n. holds n right) e ∙ holds-or a b right

pub or_so : (b : Bool) → (b || true) ≡ true
or_so true = refl
or_so false = refl
