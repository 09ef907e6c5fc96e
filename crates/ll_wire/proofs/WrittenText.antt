-- What a writer gains, part after part.
use Rattle.std.proofs.Common.{◌≡◌, ℕ, ◌-◌, ◌≤◌, List, [], ◌++◌, length, take, drop, Option, None, Some, refl, sym, ap}
use Rattle.std.proofs.Common.{◌∙◌, append_assoc, arith}
use Rattle.std.specs.Io.KnownBytes.{Appends}
use Rattle.std.proofs.lemmas.List.{append-nil, take_all, length-drop, take-append-drop}
use Rattle.ll_wire.specs.WriterGains.{AppendsFront}

pub appends-more : (old mid new : Option (List ℕ)) (a b : List ℕ) → Appends old mid a → Appends mid new b
    → Appends old new (a ++ b)
appends-more None mid new a b p q = tt
appends-more (Some x) None new a b p q = absurd p
appends-more (Some x) (Some y) None a b p q = absurd q
appends-more (Some x) (Some y) (Some z) a b p q = q ∙ ap (λ (w : List ℕ). w ++ b) p ∙ append_assoc x a b

pub appends-none : (old : Option (List ℕ)) → Appends old old []
appends-none None = tt
appends-none (Some x) = sym (append-nil x)

pub front-none : (old : Option (List ℕ)) (text : List ℕ) → AppendsFront old old text
front-none old text = ([], text, refl, appends-none old)

pub front-more : (old mid new : Option (List ℕ)) (a b : List ℕ) → Appends old mid a → AppendsFront mid new b
    → AppendsFront old new (a ++ b)
front-more old mid new a b p f = (
  a ++ f.0,
  f.1,
  ap (λ (x : List ℕ). a ++ x) f.2
      ∙ sym (append_assoc a f.0 f.1),
  appends-more old mid new a f.0 p f.3,
)

-- a write took n bytes of what was left to write
pub took : (old mid new : Option (List ℕ)) (text front rest : List ℕ) (n : ℕ) → n ≤ length rest → text ≡ front ++ rest
    → Appends old mid front → Appends mid new (take n rest)
    → (x : List ℕ) × (text ≡ x ++ take (length rest - n) (drop n rest)) × Appends old new x
took old mid new text front rest n le e p q =
    let whole : take (length rest - n) (drop n rest) ≡ drop n rest =
    take_all _ _ (omega (arith, length-drop n rest)) in (
      front ++ take n rest,
      e ∙ rw whole (ap (λ (x : List ℕ). front ++ x) (sym (take-append-drop n rest))
          ∙ sym (append_assoc front (take n rest) (drop n rest))),
      appends-more old mid new front (take n rest) p q,
    )
