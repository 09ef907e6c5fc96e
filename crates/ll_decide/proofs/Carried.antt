-- Masks carried down a chain.
use Rattle.std.specs.Prelude.{◌≡◌, ℕ, suc, ◌-◌, ◌^◌, ◌<◌, Bool, true, false, not, ◌&&◌, ◌||◌, List, [], ◌∷◌, ◌++◌}
use Rattle.std.specs.Prelude.{length, bit_and, bit_or, unwrap_or, refl}
use Rattle.std.proofs.Common.{ap, sym, ◌∙◌, get_or, arith}
use Rattle.std.proofs.lemmas.Nat.{and_le_l, and_le_r, or_lt}
use Rattle.ll_rights.specs.Map.{get}
use Rattle.ll_rights.specs.Access.{holds}
use Rattle.ll_rules.specs.Layer.{Layer, grants_on}
use Rattle.ll_rules.proofs.Grants.{grants_on-none, grants_on-push}
use Rattle.ll_decide.specs.Masks.{IsMask, AreMasks}
use Rattle.ll_decide.proofs.Bits.{holds-and, holds-or, holds-not, holds_all, holds_refer}

and-true : (b : Bool) → (b && true) ≡ b
and-true true = refl
and-true false = refl

-- what isn't restricted
pub first_mask : (layer : Layer) (restricted : ℕ) → restricted ≡ bit_or layer.handled 0x2000 → restricted < 2 ^ 64
    → IsMask (bit_and 0x7fff (2 ^ 64 - 1 - restricted)) layer []
first_mask layer restricted is fits = record {
  known = omega (arith, and_le_l 0x7fff (2 ^ 64 - 1 - restricted));
  same = λ right known.
      holds-and 0x7fff (2 ^ 64 - 1 - restricted) right
      ∙ ap (λ b. b && holds (2 ^ 64 - 1 - restricted) right) (holds_all right known)
      ∙ holds-not restricted right fits (omega arith)
      ∙ ap (λ n. not (holds n right)) is
      ∙ ap not (holds-or layer.handled 0x2000 right
      ∙ ap (λ b. holds layer.handled right || b) (holds_refer right known))
      ∙ sym (grants_on-none layer right);
}

-- one inode more
abbrev pub IsNext : Layer → ℕ → ℕ → ℕ → Type 0
IsNext layer inode mask next = (inodes : List ℕ) → IsMask mask layer inodes → IsMask next layer (inodes ++ inode ∷ [])

pub next_mask : (layer : Layer) (inode mask rule : ℕ) → rule ≡ unwrap_or (get layer.rules inode) 0
    → IsNext layer inode mask (bit_or mask (bit_and rule 0x7fff))
next_mask layer inode mask rule is inodes before = record {
  known = or_lt 15 mask (bit_and rule 0x7fff) before.known (omega (arith, and_le_r rule 0x7fff));
  same = λ right known.
      holds-or mask (bit_and rule 0x7fff) right
      ∙ ap (λ b. b || holds (bit_and rule 0x7fff) right) (before.same right known)
      ∙ ap (λ b. grants_on layer inodes right || b) (holds-and rule 0x7fff right
      ∙ ap (λ b. holds rule right && b) (holds_all right known) ∙ and-true (holds rule right)
      ∙ ap (λ n. holds n right) is)
      ∙ sym (grants_on-push layer inodes inode right);
}

-- each mask with the rule of its layer
pub next_masks : (olds news : List ℕ) (layers : List Layer) (inode : ℕ) → length news ≡ length olds
    → length olds ≡ length layers
    → ((k : ℕ) (d : ℕ) (e : Layer) → k < length olds
    → IsNext (get_or layers k e) inode (get_or olds k d) (get_or news k d))
    → (inodes : List ℕ) → AreMasks olds layers inodes
    → AreMasks news layers (inodes ++ inode ∷ [])
next_masks [] [] [] inode same long steps inodes before = tt
next_masks (old ∷ olds) (new ∷ news) (layer ∷ layers) inode same long steps inodes before = (
  steps 0 old layer (omega arith) inodes before.0,
  next_masks olds news layers inode (omega arith) (omega arith) (λ k d e h. steps (suc k) d e (omega arith))
      inodes before.1,
)
next_masks [] (new ∷ news) layers inode same long steps inodes before = absurd (omega arith)
next_masks (old ∷ olds) [] layers inode same long steps inodes before = absurd (omega arith)
next_masks [] [] (layer ∷ layers) inode same long steps inodes before = absurd (omega arith)
next_masks (old ∷ olds) (new ∷ news) [] inode same long steps inodes before = absurd (omega arith)

pub length-masks : (masks : List ℕ) (layers : List Layer) (inodes : List ℕ) → AreMasks masks layers inodes
    → length masks ≡ length layers
length-masks [] [] inodes are = refl
length-masks (mask ∷ masks) (layer ∷ layers) inodes are = let rest = length-masks masks layers inodes are.1 in
    omega (arith, rest)
length-masks [] (layer ∷ layers) inodes are = absurd are
length-masks (mask ∷ masks) [] inodes are = absurd are

-- one mask more for one layer more
pub masks-push : (masks : List ℕ) (layers : List Layer) (inodes : List ℕ) (mask : ℕ) (layer : Layer)
    → AreMasks masks layers inodes → IsMask mask layer inodes
    → AreMasks (masks ++ mask ∷ []) (layers ++ layer ∷ []) inodes
masks-push [] [] inodes mask layer are is = (is, tt)
masks-push (m ∷ masks) (l ∷ layers) inodes mask layer are is =
    (are.0, masks-push masks layers inodes mask layer are.1 is)
masks-push [] (l ∷ layers) inodes mask layer are is = absurd are
masks-push (m ∷ masks) [] inodes mask layer are is = absurd are
