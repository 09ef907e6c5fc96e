-- A line, token by token.
use Rattle.std.proofs.Common.{◌≡◌, ◌≤◌, ℕ, List, [], ◌∷◌, ◌++◌, map, take, length, Result, Ok, Err, IfOk, String}
use Rattle.std.proofs.Common.{Global, ap, sym, ◌∙◌}
use Rattle.std.specs.List.{flat_map, join_with_byte}
use Rattle.std.specs.String.{string_bytes}
use Rattle.std.specs.declared.alloc.AllocError.{AllocError}
use Rattle.std.proofs.lemmas.List.{append-nil, take_all}
use Rattle.std.proofs.lemmas.List.Concat.{flat_map-cons}
use Rattle.ll_wire.specs.Grammar.{line_of}

pub joined : {A : Type 0} (f : A → List ℕ) (first : List ℕ) (others : List A)
    → join_with_byte 32 (first ∷ map f others) ≡ first ++ flat_map (λ t. 32 ∷ f t) others
joined f first [] = sym (append-nil first)
joined f first (t ∷ ts) = ap (λ (x : List ℕ). first ++ 32 ∷ x) (joined f (f t) ts)
    ∙ ap (λ (x : List ℕ). first ++ x) (sym (flat_map-cons (λ t. 32 ∷ f t) t ts))

pub spaced_is : {A : Type 0} (f : A → List ℕ) (first : List ℕ) (others : List A) (k : ℕ) (text : List ℕ)
    → length others ≤ k → text ≡ first ++ flat_map (λ t. 32 ∷ f t) (take k others)
    → text ≡ join_with_byte 32 (first ∷ map f others)
spaced_is f first others k text le e = e ∙ rw (take_all k others le) (sym (joined f first others))

-- a line feed behind the tokens makes a line
pub lined : (tokens : List (List ℕ)) (text : List ℕ) (r : Result (String Global) AllocError)
    → text ≡ join_with_byte 32 tokens
    → IfOk r (λ line. string_bytes line ≡ text ++ 10 ∷ []) → IfOk r (λ line. string_bytes line ≡ line_of tokens)
lined tokens text (Ok line) e h = h ∙ ap (λ (x : List ℕ). x ++ 10 ∷ []) e
lined tokens text (Err e) same h = tt
