-- Lists put into one, list by list.
use Rattle.std.specs.Prelude.{◌≡◌, List, [], ◌∷◌, ◌++◌, flat_map}
use Rattle.std.proofs.Common.{sym, ap, ◌∙◌}
use Rattle.std.proofs.lemmas.List.{append_assoc, append-nil}

pub one_more : {A B : Type 0} (f : A → List B) (all new whole : List B) (xs rest : List A) (x : A)
    → all ++ flat_map f xs ≡ whole → xs ≡ x ∷ rest → new ≡ all ++ f x → new ++ flat_map f rest ≡ whole
one_more f all new whole xs rest x is cut more =
    ap (λ ys. ys ++ flat_map f rest) more ∙ append_assoc all (f x) (flat_map f rest)
    ∙ ap (λ ys. all ++ flat_map f ys) (sym cut) ∙ is

pub no_more : {A B : Type 0} (f : A → List B) (all whole : List B) (xs : List A) → all ++ flat_map f xs ≡ whole
    → xs ≡ [] → all ≡ whole
no_more f all whole xs is none = sym (append-nil all) ∙ ap (λ ys. all ++ flat_map f ys) (sym none) ∙ is
