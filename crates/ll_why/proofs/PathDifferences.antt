-- Differences of several paths, and whose they are.
use Rattle.std.specs.Prelude.{◌≡◌, ℕ, Bool, true, false, ◌||◌, List, [], ◌∷◌, ◌++◌, length, refl}
use Rattle.std.proofs.Common.{ap, sym, subst, ◌∙◌, append_assoc}
use Rattle.ll_path.specs.Path.{Path}
use Rattle.ll_seq.specs.declared.call.Call.{Call}
use Rattle.ll_why.specs.Difference.{AddsDifferences, AreCompared, AreDifferences, Seen, difference_in, differs}
use Rattle.ll_why.specs.Difference.{paths_compared, seen_by}
use Rattle.ll_why.specs.declared.comparison.Comparison.{Comparison}
use Rattle.ll_why.specs.declared.difference.DifferenceStyle.{DifferenceStyle}

or_assoc : (a b c : Bool) → ((a || b) || c) ≡ (a || (b || c))
or_assoc true b c = refl
or_assoc false b c = refl

pub or_false : (b : Bool) → b ≡ (b || false)
or_false true = refl
or_false false = refl

module _ (old new : Seen) (style : DifferenceStyle) where
  join : (ps qs : List Path) (f g : Bool) (text lines : List ℕ) → AreDifferences old new style ps f text
      → AreDifferences old new style qs g lines → AreDifferences old new style (ps ++ qs) (f || g) (text ++ lines)
  join [] qs f g text lines e more =
      subst (λ b. AreDifferences old new style qs (b || g) (text ++ lines)) (sym e.0)
      (subst (λ t. AreDifferences old new style qs g (t ++ lines)) (sym e.1) more)
  join (p ∷ ps) qs f g text lines h more = (
    h.0,
    h.1,
    h.2 || g,
    h.3 ++ lines,
    h.4,
    h.5,
    join ps qs h.2 g h.3 lines h.6 more,
    ap (λ b. b || g) h.7 ∙ or_assoc (differs h.0 h.1) h.2 g,
    ap (λ t. t ++ lines) h.8 ∙ append_assoc (difference_in style p h.0 h.1) h.3 lines,
  )

-- where lines are appended, they are those of these paths too
pub adds : (it : Comparison) (ps qs : List Path) (f f' : Bool) (text text' : List ℕ) → AreCompared it ps f text
    → AddsDifferences it qs f f' text text' → AreCompared it (ps ++ qs) f' text'
adds it ps qs f f' text text' so_far more =
    subst (λ b. AreCompared it (ps ++ qs) b text') (sym more.3)
    (subst (λ t. AreCompared it (ps ++ qs) (f || more.0) t) (sym more.4)
    (join (seen_by it.old) (seen_by it.new) it.style ps qs f more.0 text more.1 so_far more.2))

pub some_compared : (paths : List Path) (new old : List Call) → (length paths ≡ 0 → ⊥)
    → paths_compared paths new old ≡ paths
some_compared [] new old some = absurd (some refl)
some_compared (p ∷ ps) new old some = refl
