-- Texts that grow token by token.
use Rattle.std.specs.Prelude.{◌≡◌, ℕ, List, ◌∷◌, ◌++◌, Result}
use Rattle.std.specs.Prelude.{Ok, Err, OnOk}
use Rattle.std.proofs.Common.{ap, sym, ◌∙◌, append_assoc}
use Rattle.std.proofs.lemmas.List.Concat.{flat_map-append}
use Rattle.ll_why.specs.Table.{behind}

pub behind_append : (xs ys : List (List ℕ)) → behind (xs ++ ys) ≡ behind xs ++ behind ys
behind_append xs ys = flat_map-append (λ token. 32 ∷ token) xs ys

-- what is still to come behind a text, where some of it has come
pub come : (whole text next : List ℕ) (some rest : List (List ℕ)) → whole ≡ text ++ behind (some ++ rest)
    → next ≡ text ++ behind some → whole ≡ next ++ behind rest
come whole text next some rest all e =
    all ∙ ap (λ l. text ++ l) (behind_append some rest) ∙ sym (append_assoc text (behind some) (behind rest))
    ∙ ap (λ l. l ++ behind rest) (sym e)

pub two : (text next last : List ℕ) (some more : List (List ℕ)) → next ≡ text ++ behind some
    → last ≡ next ++ behind more → last ≡ text ++ behind (some ++ more)
two text next last some more e f =
    f ∙ ap (λ l. l ++ behind more) e ∙ append_assoc text (behind some) (behind more)
    ∙ ap (λ l. text ++ l) (sym (behind_append some more))

pub on_ok : {A E : Type 0} (r : Result A E) (P Q : Type 0) → OnOk r P → (P → Q) → OnOk r Q
on_ok (Ok a) P Q p f = f p
on_ok (Err e) P Q p f = tt

pub both_ok : {A E : Type 0} (r : Result A E) (P Q R : Type 0) → OnOk r P → OnOk r Q → (P → Q → R) → OnOk r R
both_ok (Ok a) P Q R p q f = f p q
both_ok (Err e) P Q R p q f = tt
