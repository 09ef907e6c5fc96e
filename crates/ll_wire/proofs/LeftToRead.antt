-- What is left to read after a read.
use Rattle.std.proofs.Common.{◌≡◌, ℕ, suc, ◌+◌, ◌<◌, ◌≤◌, List, [], ◌∷◌, ◌++◌, drop, drop-cons, get_or, length}
use Rattle.std.proofs.Common.{length-drop, length-take-le, take, Option, None, Some, refl, subst, sym, ap, ◌∙◌, arith}
use Rattle.std.specs.Io.KnownBytes.{Consumes}
use Rattle.std.proofs.lemmas.List.{drop_all, length-append}
use Rattle.std.proofs.Math.Nat.{pos_of_ne-zero}
use Rattle.ll_wire.specs.LineCuts.{Counts, IsLeft, Reading, unread}

-- a read gave these bytes of what was left to read
gave : (old new : Option (List ℕ)) (left bytes : List ℕ) → old ≡ Some left → Consumes old new bytes
    → (rest : List ℕ) × (new ≡ Some rest) × (left ≡ bytes ++ rest)
gave None new left bytes e h = absurd cc
gave (Some xs) None left bytes e h = absurd h
gave (Some xs) (Some ys) left bytes e h = let same : xs ≡ left = cc in (ys, refl, sym same ∙ h)

-- ---- bytes that are held

-- between two places of a chunk there are some
pub held_some : (chunk : List ℕ) (start end : ℕ) → start < end → end ≤ length chunk → drop start (take end chunk) ≡ []
    → ⊥
held_some chunk start end less most none =
    let long = length-drop start (take end chunk) in
    let kept = length-take-le end chunk most in
    let zero_long = ap length none in
    omega (arith, long, kept, zero_long, less)

-- the next of them
pub held_next : (xs : List ℕ) (i b : ℕ) → i < length xs → b ≡ get_or xs i b → drop i xs ≡ b ∷ drop (i + 1) xs
held_next xs i b less is =
    drop-cons xs i b less ∙ ap (λ x. x ∷ drop (suc i) xs) (sym is)
    ∙ ap (λ n. b ∷ drop n xs) (let next : suc i ≡ i + 1 = omega arith in next)

-- the same of bytes that are shown
pub next_of : (shown chunk : List ℕ) (start end b : ℕ) → shown ≡ chunk → start < length (take end shown)
    → b ≡ get_or (take end shown) start b → drop start (take end chunk) ≡ b ∷ drop (start + 1) (take end chunk)
next_of shown chunk start end b same less is =
    subst (λ (xs : List ℕ). drop start (take end xs) ≡ b ∷ drop (start + 1) (take end xs)) same
    (held_next (take end shown) start b less is)

pub none_after : (shown chunk : List ℕ) (start end : ℕ) → shown ≡ chunk → length (take end shown) ≤ start
    → drop start (take end chunk) ≡ []
none_after shown chunk start end same over =
    subst (λ (xs : List ℕ). drop start (take end xs) ≡ []) same (drop_all start (take end shown) over)

-- a read of some bytes counts as one
pub counts_read : (old new : Option (List ℕ)) (bytes : List ℕ) (n reads : ℕ) → Consumes old new bytes → n ≡ length bytes
    → (n ≡ 0 → ⊥) → (rest : List ℕ) → old ≡ Some rest
    → (rest' : List ℕ) × (new ≡ Some rest') × (reads + 1 + length rest' ≤ reads + length rest)
counts_read old new bytes n reads read long more rest e =
    let a = gave old new rest bytes e read in
    let both : length rest ≡ length bytes + length a.0 = ap length a.2 ∙ length-append bytes a.0 in
    (a.0, a.1, omega (arith, both, long, pos_of_ne-zero more))

pub counts_more : (a b c : Reading) (r s t : Option (List ℕ)) → Counts a b r s → Counts b c s t → Counts a c r t
counts_more a b c r s t first then rest e =
    let one = first rest e in
    let two = then one.0 one.1 in
    (two.0, two.1, omega (arith, one.2, two.2))

pub counts_still : (a b c : Reading) (r s t : Option (List ℕ)) → Counts a b r s → t ≡ s → c.reads ≡ b.reads
    → Counts a c r t
counts_still a b c r s t counted same reads rest e =
    let one = counted rest e in (one.0, same ∙ one.1, omega (arith, one.2, reads))

-- ---- the first byte and the last

pub at_start : (r : Reading) (remaining : Option (List ℕ)) (input : List ℕ) → r ≡ unread → remaining ≡ Some input
    → IsLeft r remaining input
at_start r remaining input is e = record {
  rest = input;
  told = e;
  all = ap (λ (x : Reading). x.bytes ++ input) (sym is);
  ended = λ over. absurd (let no = sym over ∙ ap (λ (x : Reading). x.is_ended) is in cc);
}

pub none_of : (xs ys : List ℕ) → [] ≡ xs ++ ys → ys ≡ []
none_of [] ys e = sym e
none_of (x ∷ xs) ys e = absurd cc

-- nothing is left
pub at_last : (r : Reading) (remaining : Option (List ℕ)) → IsLeft r remaining [] → remaining ≡ Some []
at_last r remaining l = l.told ∙ ap Some (none_of r.bytes l.rest l.all)

-- what is held and what the reader has are as they were
pub left_still : (a b : Reading) (r s : Option (List ℕ)) (left : List ℕ) → b.bytes ≡ a.bytes → b.is_ended ≡ a.is_ended
    → s ≡ r → IsLeft a r left → IsLeft b s left
left_still a b r s left bytes ended same l = record {
  rest = l.rest;
  told = same ∙ l.told;
  all = l.all ∙ ap (λ (x : List ℕ). x ++ l.rest) (sym bytes);
  ended = λ e. l.ended (sym ended ∙ e);
}
