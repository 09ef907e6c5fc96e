-- Line feeds of bytes that come in parts.
use Rattle.std.proofs.Common.{◌≡◌, ℕ, ◌+◌, ◌-◌, ◌<◌, ◌≤◌, ◌==◌, false, List, [], ◌∷◌, ◌++◌, length, take, drop, cond}
use Rattle.std.proofs.Common.{refl, sym, ap, ◌∙◌, append_assoc, arith}
use Rattle.std.proofs.lemmas.List.{length-drop, take-append-drop, take_all}
use Rattle.std.proofs.lemmas.List.Sums.{sum_by-append}
use Rattle.ll_wire.specs.Devices.{Devices, Took, counted, line_feeds}

pub feeds-append : (xs ys : List ℕ) → line_feeds (xs ++ ys) ≡ line_feeds xs + line_feeds ys
feeds-append xs ys = sum_by-append (λ b. cond (b == 10) 1 0) xs ys

-- a line that ends has one
pub feed_at_end : (bytes : List ℕ) → 1 ≤ line_feeds (bytes ++ 10 ∷ [])
feed_at_end bytes = let all = feeds-append bytes (10 ∷ []) in omega (arith, all)

-- a read that gave bytes counts
pub counted_some : (bytes : List ℕ) → 0 < length bytes → counted bytes ≡ 1
counted_some [] more = absurd (omega arith)
counted_some (b ∷ bytes) more = refl

-- n bytes more of what is left to write
pub part_more : (bytes front rest : List ℕ) (n : ℕ) → n ≤ length rest → bytes ≡ front ++ rest
    → bytes ≡ (front ++ take n rest) ++ take (length rest - n) (drop n rest)
part_more bytes front rest n most is =
    let whole : take (length rest - n) (drop n rest) ≡ drop n rest =
    take_all _ _ (omega (arith, length-drop n rest)) in
    is ∙ rw whole (ap (λ (x : List ℕ). front ++ x) (sym (take-append-drop n rest))
    ∙ sym (append_assoc front (take n rest) (drop n rest)))

pub took_none : (d : Devices) → d.is_output_broken ≡ false → Took d d []
took_none d whole = (omega arith, whole, (refl, refl, refl, refl))

pub took_more : (d e f : Devices) (front more : List ℕ) → Took d e front → Took e f more → Took d f (front ++ more)
took_more d e f front more first then =
    let all = feeds-append front more in
    let one = first.0 in
    let two = then.0 in (
      omega (arith, all, one, two),
      then.1,
      (then.2.0 ∙ first.2.0, then.2.1 ∙ first.2.1, then.2.2 ∙ first.2.2, then.2.3 ∙ first.2.3),
    )
