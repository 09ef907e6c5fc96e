-- A rule that a tree accepts, right by right.
use Rattle.std.specs.Prelude.{◌≡◌, ◌≢◌, ℕ, zero, suc, ◌<◌, ◌^◌, Bool, true, false, not, ◌&&◌, ◌==◌, [], ◌++◌}
use Rattle.std.specs.Prelude.{Option, Some, None, bit_and, nat_lt, refl}
use Rattle.std.specs.Int.{bit_at, trailing_zeros, w64}
use Rattle.std.proofs.Common.{ap, arith, eq-eqb, eqb-true, ltb-false, ltb-true, ne_eqb, sym, ◌∙◌}
use Rattle.std.proofs.lemmas.Nat.{and_le_r}
use Rattle.std.proofs.lemmas.Nat.Bits.{bit_at-lt, bit_at-trailing_zeros, bit_at_above, same_from_bits_below}
use Rattle.ll_rights.specs.declared.kind.Kind.{Kind}
use Rattle.ll_rights.specs.declared.kind.Kind.TheVariants.{Reg, Dir, Sym, Fifo, Sock, Char, Block}
use Rattle.ll_rights.specs.declared.errno.Errno.{Errno}
use Rattle.ll_rights.specs.Access.{file_set, holds, is_within, known_set}
use Rattle.ll_rights.specs.Errno.{refuse}
use Rattle.ll_rights.specs.Kind.{is_dir, relevant}
use Rattle.ll_rules.specs.Layer.{Layer}
use Rattle.ll_decide.proofs.Bits.{holds-and, holds_all}
use Rattle.ll_decide.proofs.OneByOne.{holds_none}
use Rattle.ll_why.specs.Changes.{Takes}
use Rattle.ll_why.specs.Rights.{meant}

too : (a b : Bool) → (b && a) ≡ a → a ≡ true → b ≡ true
too a true e f = refl
too a false e f = absurd (cc (e ∙ f))

-- each right of the one set is among the other
pub within_holds : (a b right : ℕ) → is_within a b ≡ true → holds a right ≡ true → holds b right ≡ true
within_holds a b right within held =
    too (holds a right) (holds b right)
    (sym (holds-and b a right) ∙ ap (λ n. holds n right) (eqb-true (bit_and b a) a within)) held

same_bit : (x y : ℕ) → x < 2 → y < 2 → (x == 1) ≡ (y == 1) → x ≡ y
same_bit zero zero f g e = refl
same_bit zero (suc zero) f g e = absurd (cc e)
same_bit (suc zero) zero f g e = absurd (cc e)
same_bit (suc zero) (suc zero) f g e = refl
same_bit (suc (suc x)) y f g e = absurd (omega arith)
same_bit zero (suc (suc y)) f g e = absurd (omega arith)
same_bit (suc zero) (suc (suc y)) f g e = absurd (omega arith)

-- two sets of the same rights are one
pub same_set : (a b : ℕ) → a < 2 ^ 15 → b < 2 ^ 15 → ((right : ℕ) → right < 15 → holds a right ≡ holds b right) → a ≡ b
same_set a b low low' same = same_from_bits_below 15 a b low low'
    (λ i known. same_bit (bit_at a i) (bit_at b i) (bit_at-lt a i) (bit_at-lt b i) (same i known))

kept : (a b : Bool) → (a ≡ true → b ≡ true) → (b && a) ≡ a
kept true b only = ap (λ c. c && true) (only refl)
kept false true only = refl
kept false false only = refl

pub holds_within : (a b : ℕ) → a < 2 ^ 15 → ((right : ℕ) → right < 15 → holds a right ≡ true → holds b right ≡ true)
    → is_within a b ≡ true
holds_within a b low only =
    let less : bit_and b a < 2 ^ 15 = let fewer = and_le_r b a in omega (arith, fewer) in
    eq-eqb (bit_and b a) a (same_set (bit_and b a) a less low
    (λ right known. holds-and b a right ∙ kept (holds a right) (holds b right) (only right known)))

none_of_three : (a b c : Bool) (x y z : Errno) → refuse a x ++ refuse b y ++ refuse c z ≡ []
    → (a ≡ false) × (b ≡ false) × (c ≡ false)
none_of_three true b c x y z e = absurd (cc e)
none_of_three false true c x y z e = absurd (cc e)
none_of_three false false true x y z e = absurd (cc e)
none_of_three false false false x y z e = (refl, refl, refl)

three_none : (a b c : Bool) (x y z : Errno) → a ≡ false → b ≡ false → c ≡ false
    → refuse a x ++ refuse b y ++ refuse c z ≡ []
three_none a b c x y z e f g = λ i. refuse (e i) x ++ refuse (f i) y ++ refuse (g i) z

so : (b : Bool) → not b ≡ false → b ≡ true
so true e = refl
so false e = absurd (cc e)

kind_holds : (kind : Kind) (rights right : ℕ) → right < 15
    → (not (is_dir kind) && not (is_within rights file_set)) ≡ false → holds rights right ≡ true
    → holds (relevant kind) right ≡ true
kind_holds Dir rights right known e held = holds_all right known
kind_holds Reg rights right known e held = within_holds rights file_set right (so (is_within rights file_set) e) held
kind_holds Sym rights right known e held = within_holds rights file_set right (so (is_within rights file_set) e) held
kind_holds Fifo rights right known e held = within_holds rights file_set right (so (is_within rights file_set) e) held
kind_holds Sock rights right known e held = within_holds rights file_set right (so (is_within rights file_set) e) held
kind_holds Char rights right known e held = within_holds rights file_set right (so (is_within rights file_set) e) held
kind_holds Block rights right known e held = within_holds rights file_set right (so (is_within rights file_set) e) held

holds_kind : (kind : Kind) (rights : ℕ) → rights < 2 ^ 15
    → ((right : ℕ) → right < 15 → holds rights right ≡ true → holds (relevant kind) right ≡ true)
    → (not (is_dir kind) && not (is_within rights file_set)) ≡ false
holds_kind Dir rights low only = refl
holds_kind Reg rights low only = ap not (holds_within rights file_set low only)
holds_kind Sym rights low only = ap not (holds_within rights file_set low only)
holds_kind Fifo rights low only = ap not (holds_within rights file_set low only)
holds_kind Sock rights low only = ap not (holds_within rights file_set low only)
holds_kind Char rights low only = ap not (holds_within rights file_set low only)
holds_kind Block rights low only = ap not (holds_within rights file_set low only)

-- what a rule that is taken holds may be held
pub taken_holds : (level : ℕ) (layer : Layer) (kind : Option Kind) (rights right : ℕ) → right < 15
    → Takes level layer kind rights → holds rights right ≡ true
    → holds (bit_and (known_set level) (meant kind)) right ≡ true
taken_holds level layer None rights right known none held =
    absurd (cc (sym held ∙ ap (λ n. holds n right) none ∙ holds_none right))
taken_holds level layer (Some kind) rights right known taken held =
    let some : rights ≢ 0 = λ none. absurd (cc (sym held ∙ ap (λ n. holds n right) none ∙ holds_none right)) in
    let parts = none_of_three (rights == 0) (not (is_within rights layer.handled))
    (not (is_dir kind) && not (is_within rights file_set)) _ _ _ (taken.taken some) in
    holds-and (known_set level) (relevant kind) right
    ∙ (λ i. within_holds rights (known_set level) right taken.known held i
    && kind_holds kind rights right known parts.2 held i)

absent : (b c : Bool) → (b ≡ true → c ≡ true) → c ≡ false → b ≡ false
absent true c only e = absurd (cc (sym (only refl) ∙ e))
absent false c only e = refl

both_are : (a b : Bool) → (a && b) ≡ true → (a ≡ true) × (b ≡ true)
both_are true b e = (refl, e)
both_are false b e = absurd (cc e)

off : (a b : Bool) → b ≡ false → (a && b) ≡ false
off true b e = e
off false b e = refl

-- and a rule that holds no more is taken, where the layer handles all of it
pub holds_taken : (level : ℕ) (layer : Layer) (kind : Option Kind) (rights : ℕ) → rights < 2 ^ 15
    → ((right : ℕ) → right < 15 → holds rights right ≡ true
    → holds (bit_and (known_set level) (meant kind)) right ≡ true)
    → ((right : ℕ) → right < 15 → holds rights right ≡ true → holds layer.handled right ≡ true)
    → Takes level layer kind rights
holds_taken level layer None rights low may handled =
    same_set rights 0 low (omega arith) (λ right known.
    absent (holds rights right) (holds (bit_and (known_set level) 0) right) (may right known)
    (holds-and (known_set level) 0 right ∙ off (holds (known_set level) right) (holds 0 right) (holds_none right))
    ∙ sym (holds_none right))
holds_taken level layer (Some kind) rights low may handled =
    let each : (right : ℕ) → right < 15 → holds rights right ≡ true
    → (holds (known_set level) right ≡ true) × (holds (relevant kind) right ≡ true) =
    λ right known held. both_are (holds (known_set level) right) (holds (relevant kind) right)
    (sym (holds-and (known_set level) (relevant kind) right) ∙ may right known held) in
    record {
      known = holds_within rights (known_set level) low (λ right known held. (each right known held).0);
      taken = λ some. three_none (rights == 0) (not (is_within rights layer.handled))
          (not (is_dir kind) && not (is_within rights file_set)) _ _ _ (ne_eqb rights 0 some)
          (ap not (holds_within rights layer.handled low handled))
          (holds_kind kind rights low (λ right known held. (each right known held).1));
    }

-- a set that isn't empty holds some right
pub some_right : (rights : ℕ) → rights ≢ 0 → rights < 2 ^ 15
    → (right : ℕ) × ((right < 15) × (holds rights right ≡ true))
some_right rights some low =
    let first = bit_at-trailing_zeros w64 rights (omega arith) (omega arith) in
    let on : holds rights (trailing_zeros w64 rights) ≡ true = ap (λ n. n == 1) first.1 in
    (trailing_zeros w64 rights, (below (trailing_zeros w64 rights) on, on))
  where
    below : (right : ℕ) → holds rights right ≡ true → right < 15
    below right on = of (nat_lt right 15) refl
      where
        of : (b : Bool) → nat_lt right 15 ≡ b → right < 15
        of true e = ltb-true _ _ e
        of false e = absurd (cc (sym on ∙ ap (λ n. n == 1) (bit_at_above rights 15 right low (ltb-false _ _ e))))
