-- Chains of entries, cut in two.
use Rattle.std.specs.Prelude.{◌≡◌, ℕ, Bool, true, List, [], ◌∷◌, ◌++◌, Option, Some, None, option_and_then, slice_get}
use Rattle.std.specs.Prelude.{refl}
use Rattle.std.proofs.Common.{ap, ◌∙◌}
use Rattle.ll_rights.specs.declared.errno.Errno.{Errno}
use Rattle.ll_rights.specs.Errno.{refuse}
use Rattle.ll_path.specs.Path.{Path}
use Rattle.ll_seq.specs.State.{State, Name, child, root}
use Rattle.ll_seq.specs.Tree.{end_from, named}

onward : (f g : ℕ → Option ℕ) (o : Option ℕ) (d : ℕ) (h : Option ℕ) → ((j : ℕ) → f j ≡ Some d → g j ≡ h)
    → option_and_then f o ≡ Some d → option_and_then g o ≡ h
onward f g None d h same e = absurd cc
onward f g (Some j) d h same e = same j e

-- what a path and a further path name is what the further one names from where the first ends
pub end_append : (s : State) (p q : Path) (i d : ℕ) → end_from s p i ≡ Some d → end_from s (p ++ q) i ≡ end_from s q d
end_append s [] q i d e = let same : i ≡ d = cc in ap (end_from s q) same
end_append s (name ∷ p) q i d e =
    onward (end_from s p) (end_from s (p ++ q)) (child s i name) d (end_from s q d) (λ j f. end_append s p q j d f) e

itself : (o : Option ℕ) → option_and_then (λ z. Some z) o ≡ o
itself None = refl
itself (Some x) = refl

-- a path names what its parent has under its last name
pub named-child : (s : State) (path front : Path) (name : Name) (d : ℕ) → path ≡ front ++ name ∷ []
    → named s front ≡ Some d → named s path ≡ child s d name
named-child s path front name d whole found =
    ap (named s) whole ∙ end_append s front (name ∷ []) root d found ∙ itself (child s d name)

-- the refusal after a free way
pub refused_after : (way : List Errno) (test : Bool) (e : Errno) → way ≡ [] → test ≡ true
    → slice_get (way ++ refuse test e) 0 ≡ Some e
refused_after way test e free holds =
    ap (λ w. slice_get (w ++ refuse test e) 0) free ∙ ap (λ b. slice_get (refuse b e) 0) holds
