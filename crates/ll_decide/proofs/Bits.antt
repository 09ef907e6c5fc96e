-- What sets hold that are made of others, bit by bit.
use Rattle.std.specs.Prelude.{◌≡◌, ℕ, zero, suc, ◌-◌, ◌^◌, ◌<◌, true, not, ◌&&◌, ◌||◌, ◌==◌, bit_and, bit_or, min, max}
use Rattle.std.specs.Prelude.{refl}
use Rattle.std.specs.Int.{w64, bit_at}
use Rattle.std.proofs.Common.{ap, ◌∙◌, arith}
use Rattle.std.proofs.lemmas.Bool.{agree_below_at}
use Rattle.std.proofs.lemmas.Nat.Bits.{bit_at-lt, bit_at_and, bit_at_or, bit_at_not}
use Rattle.ll_rights.specs.Right.{refer}
use Rattle.ll_rights.specs.Access.{holds}

both : (x y : ℕ) → x < 2 → y < 2 → (min x y == 1) ≡ ((x == 1) && (y == 1))
both zero zero f g = refl
both zero (suc zero) f g = refl
both (suc zero) zero f g = refl
both (suc zero) (suc zero) f g = refl
both (suc (suc x)) y f g = absurd (omega arith)
both zero (suc (suc y)) f g = absurd (omega arith)
both (suc zero) (suc (suc y)) f g = absurd (omega arith)

either : (x y : ℕ) → x < 2 → y < 2 → (max x y == 1) ≡ ((x == 1) || (y == 1))
either zero zero f g = refl
either zero (suc zero) f g = refl
either (suc zero) zero f g = refl
either (suc zero) (suc zero) f g = refl
either (suc (suc x)) y f g = absurd (omega arith)
either zero (suc (suc y)) f g = absurd (omega arith)
either (suc zero) (suc (suc y)) f g = absurd (omega arith)

other : (x : ℕ) → x < 2 → (1 - x == 1) ≡ not (x == 1)
other zero f = refl
other (suc zero) f = refl
other (suc (suc x)) f = absurd (omega arith)

pub holds-and : (a b right : ℕ) → holds (bit_and a b) right ≡ (holds a right && holds b right)
holds-and a b right = ap (λ n. n == 1) (bit_at_and a b right)
    ∙ both (bit_at a right) (bit_at b right) (bit_at-lt a right) (bit_at-lt b right)

pub holds-or : (a b right : ℕ) → holds (bit_or a b) right ≡ (holds a right || holds b right)
holds-or a b right = ap (λ n. n == 1) (bit_at_or a b right)
    ∙ either (bit_at a right) (bit_at b right) (bit_at-lt a right) (bit_at-lt b right)

pub holds-not : (a right : ℕ) → a < 2 ^ 64 → right < 64 → holds (2 ^ 64 - 1 - a) right ≡ not (holds a right)
holds-not a right fits known =
    ap (λ n. n == 1) (bit_at_not w64 a right fits known) ∙ other (bit_at a right) (bit_at-lt a right)

pub holds_all : (right : ℕ) → right < 15 → holds 0x7fff right ≡ true
holds_all right known = agree_below_at (λ r. holds 0x7fff r) (λ _. true) 15 right refl known

pub holds_refer : (right : ℕ) → right < 15 → holds 0x2000 right ≡ (right == refer)
holds_refer right known = agree_below_at (λ r. holds 0x2000 r) (λ r. r == refer) 15 right refl known
