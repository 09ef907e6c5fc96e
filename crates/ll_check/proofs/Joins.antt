-- Bytes that are appended one after the other.
use Rattle.std.proofs.Common.{◌≡◌, ◌∙◌, ◌++◌, ℕ, Bool, true, false, cond, List, [], ap, append_assoc, sym}

-- the first, and what comes behind it
pub behind : (front back old mid new : List ℕ) → mid ≡ old ++ front → new ≡ mid ++ back → new ≡ old ++ (front ++ back)
behind front back old mid new first then = then ∙ ap (λ (x : List ℕ). x ++ back) first ∙ append_assoc old front back

-- a text that isn't empty is shown
pub if_shown : (is_empty test : Bool) (text old new : List ℕ) → is_empty ≡ test → is_empty ≡ false
    → new ≡ old ++ text → new ≡ old ++ cond test [] text
if_shown is_empty true text old new is not e = absurd (cc (sym is ∙ not))
if_shown is_empty false text old new is not e = e
