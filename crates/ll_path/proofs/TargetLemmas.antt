-- A target has the text of its word, and is fixed by it.
use Rattle.std.proofs.Common.{◌≡◌, ℕ, List, [], Some, slice_get, ap, sym, ◌∙◌, rules}
use Rattle.std.proofs.lemmas.Option.{same_Some, none-some}
use Rattle.std.proofs.Props.{props}
use denote.Enum.Declared.{tag_of}
use denote.Enum.Bare.{tag_one}
use base.Stored.{Coded, coded_via, coded_ℕ}
use Rattle.ll_rights.specs.contracts.errno.Errno.{the_type}
use mathlib.Core.HLevel.{Σ_prop_path}
use Rattle.ll_rights.specs.declared.errno.Errno.{Errno}
use Rattle.ll_path.specs.declared.target.BadPath.{BadPath}
use Rattle.ll_path.specs.declared.target.Target.{Target}
use Rattle.ll_path.specs.declared.target.Target.TheVariants.{Good, Bad}
use Rattle.ll_path.specs.Path.{path_refusals, path_text}
use Rattle.ll_path.specs.Target.{IsTarget, target_text}
use Rattle.ll_path.proofs.PathLemmas.{path_text-path_of_text}

pub target_of_text : (text : List ℕ) (target : Target) → IsTarget text target → target_text target ≡ text
target_of_text text (Good path) h = ap path_text h.1 ∙ path_text-path_of_text text h.0
target_of_text text (Bad bad) h = h.0

-- a refusal is known by its place among the refusals
errno_coded : Coded Errno
errno_coded = coded_via coded_ℕ (tag_of the_type) (tag_one the_type (search rules))

abbrev Refused : List ℕ × Errno → Type 0
Refused b = slice_get (path_refusals b.0) 0 ≡ Some b.1

refused_once : (b : List ℕ × Errno) → IsProp (Refused b)
refused_once b = hlevel (props, errno_coded)

not_both : (text : List ℕ) (errno : Errno) → path_refusals text ≡ [] → slice_get (path_refusals text) 0 ≡ Some errno → ⊥
not_both text errno e h = none-some errno (sym (ap (λ (errnos : List Errno). slice_get errnos 0) e) ∙ h)

same_bad : (one two : BadPath) → one.word ≡ two.word → one.errno ≡ two.errno → one ≡ two
same_bad one two e d =
    let parts : ◌≡◌ {A = List ℕ × Errno} (one.word, one.errno) (two.word, two.errno) = λ i. (e i, d i) in
    let whole : ◌≡◌ {A = (b : List ℕ × Errno) × Refused b} ((one.word, one.errno), one.refused)
    ((two.word, two.errno), two.refused) = Σ_prop_path refused_once parts in
    λ i. record { word = (whole i).0.0; errno = (whole i).0.1; refused = (whole i).1 }

pub target_unique : (text : List ℕ) (one two : Target) → IsTarget text one → IsTarget text two → one ≡ two
target_unique text (Good path) (Good other) h k = ap Good (h.1 ∙ sym k.1)
target_unique text (Good path) (Bad other) h k = absurd (not_both text other.errno h.0 k.1)
target_unique text (Bad bad) (Good other) h k = absurd (not_both text bad.errno k.0 h.1)
target_unique text (Bad bad) (Bad other) h k =
    ap Bad (same_bad bad other (h.0 ∙ sym k.0) (same_Some _ _ (sym h.1 ∙ k.1)))
