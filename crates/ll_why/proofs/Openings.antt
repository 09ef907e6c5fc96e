-- Openings, with one entry more.
use Rattle.std.proofs.Common.{◌≡◌, ℕ, Bool, true, false, List, [], ◌∷◌, ◌++◌, Option, Some, None, ap, sym, subst, ◌∙◌}
use Rattle.std.proofs.Common.{append_assoc, if◌then◌else◌}
use Rattle.std.proofs.lemmas.List.{append-nil}
use Rattle.ll_seq.specs.declared.reply.Entry.{Entry}
use Rattle.ll_why.specs.Opener.{Openings, is_spawned, opened_after, opened_by, openings, opens}

more_by : (known : Openings) (es xs : List Entry) (e : Entry) (client fd : ℕ)
    → opened_by known es (xs ++ e ∷ []) client fd ≡ opened_after (opened_by known es xs) (es ++ xs) e client fd
more_by known es [] e client fd = ap (λ (l : List Entry). opened_after known l e client fd) (sym (append-nil es))
more_by known es (x ∷ xs) e client fd =
    more_by (opened_after known es x) (es ++ x ∷ []) xs e client fd
    ∙ ap (λ (l : List Entry). opened_after (opened_by known es (x ∷ xs)) l e client fd) (append_assoc es (x ∷ []) xs)

with_last : (xs : List Entry) (e : Entry) (client fd : ℕ)
    → openings (xs ++ e ∷ []) client fd ≡ opened_after (openings xs) xs e client fd
with_last xs e client fd = more_by (λ client fd. None) [] xs e client fd

module _ (rest before : List Entry) (e : Entry) (holder fd : ℕ) (parts : rest ≡ before ++ e ∷ []) where
  abbrev either : Bool → List Entry → Option (List Entry × Entry)
  either opened upto =
      if opened then Some (upto, e)
      else openings before (if is_spawned holder e.reply then e.client else holder) fd

  by_last : openings rest holder fd ≡ either (opens holder fd e) rest
  by_last = subst (λ (l : List Entry). openings l holder fd ≡ either (opens holder fd e) l) (sym parts)
      (with_last before e holder fd)

  pub found : opens holder fd e ≡ true → openings rest holder fd ≡ Some (rest, e)
  found is = by_last ∙ ap (λ (b : Bool). either b rest) is

  pub passed_over : opens holder fd e ≡ false
      → openings rest holder fd ≡ openings before (if is_spawned holder e.reply then e.client else holder) fd
  passed_over is = by_last ∙ ap (λ (b : Bool). either b rest) is
