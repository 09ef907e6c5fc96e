-- What a word tells of a target.
use Rattle.std.proofs.Common.{◌≡◌, ℕ, List, [], ◌∷◌, Some, slice_get, refl, ap, sym, subst}
use Rattle.ll_rights.specs.declared.errno.Errno.{Errno}
use Rattle.ll_path.specs.Path.{path_of_text, path_refusals}
use Rattle.ll_path.specs.Target.{IsTarget, target_text}
use Rattle.ll_path.specs.declared.target.Target.{Target}
use Rattle.ll_path.specs.declared.target.Target.TheVariants.{Good, Bad}
use Rattle.ll_path.proofs.TargetLemmas.{target_of_text}
use Rattle.ll_wire.specs.Grammar.{SpellsTarget}

pub text_is : (word : List ℕ) (target : Target) → SpellsTarget word target → target_text target ≡ word
text_is word target h = target_of_text word target h.1

pub own_text : (word : List ℕ) (target : Target) → SpellsTarget word target → SpellsTarget (target_text target) target
own_text word target h = subst (λ (text : List ℕ). SpellsTarget text target) (sym (text_is word target h)) h

target_by : (text : List ℕ) (errnos : List Errno) → path_refusals text ≡ errnos → (target : Target)
    × IsTarget text target
target_by text [] e = (Good (path_of_text text), (e, refl))
target_by text (errno ∷ errnos) e =
    let refused : slice_get (path_refusals text) 0 ≡ Some errno = ap (λ (es : List Errno). slice_get es 0) e in
    (Bad (record { word = text; errno = errno; refused = refused }), (refl, refused))

-- each text is some target's
pub some_target : (text : List ℕ) → (target : Target) × IsTarget text target
some_target text = target_by text (path_refusals text) refl
