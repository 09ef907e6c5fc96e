-- Bytes cut into pieces of 4,096.
use Rattle.std.proofs.Common.{◌≡◌, ℕ, ◌+◌, ◌-◌, ◌*◌, ◌/◌, ◌<◌, min, List, ◌++◌, length, take, drop, refl, ap, sym, ◌∙◌}
use Rattle.std.proofs.Common.{arith}
use Rattle.std.proofs.lemmas.List.{take_at, drop_at, take_min, drop_min, drop-drop, length-drop}

piece_is : (rest piece others : List ℕ) → rest ≡ piece ++ others → length piece ≡ min 4096 (length rest)
    → piece ≡ take 4096 rest
piece_is rest piece others e short =
    sym (take_at piece others (length piece) refl) ∙ ap (take (length piece)) (sym e) ∙ ap (λ n. take n rest) short
    ∙ take_min 4096 rest

others_are : (rest piece others : List ℕ) → rest ≡ piece ++ others → length piece ≡ min 4096 (length rest)
    → others ≡ drop 4096 rest
others_are rest piece others e short =
    sym (drop_at piece others (length piece) refl) ∙ ap (drop (length piece)) (sym e) ∙ ap (λ n. drop n rest) short
    ∙ drop_min 4096 rest

module _ (bytes rest piece others : List ℕ) (number : ℕ) (from : rest ≡ drop (number * 4096) bytes)
    (cut : rest ≡ piece ++ others) (short : length piece ≡ min 4096 (length rest)) where
  -- the piece of this number
  pub this_piece : piece ≡ take 4096 (drop (number * 4096) bytes)
  this_piece = piece_is rest piece others cut short ∙ ap (take 4096) from

  pub after_piece : others ≡ drop ((number + 1) * 4096) bytes
  after_piece =
      let next : number * 4096 + 4096 ≡ (number + 1) * 4096 = omega arith in
      others_are rest piece others cut short ∙ ap (drop 4096) from ∙ drop-drop 4096 (number * 4096) bytes
      ∙ ap (λ n. drop n bytes) next

  pub starts_at : length rest ≡ length bytes - number * 4096
  starts_at = ap length from ∙ length-drop (number * 4096) bytes

pub pieces_end : (bytes rest : List ℕ) (number : ℕ) → rest ≡ drop (number * 4096) bytes → length rest ≡ 0
    → number * 4096 < length bytes + 4096
    → number ≡ (length bytes + 4095) / 4096
pieces_end bytes rest number from none few =
    let left : length bytes - number * 4096 ≡ 0 =
    sym (length-drop (number * 4096) bytes) ∙ sym (ap length from) ∙ none in
    omega arith
