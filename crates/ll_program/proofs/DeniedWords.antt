-- What the words of a list deny, a word at a time.
use Rattle.std.proofs.Common.{◌≡◌, ◌∙◌, ◌+◌, ◌<◌, ◌≤◌, ℕ, List, Option, Some, add-one, ap, drop}
use Rattle.std.proofs.Common.{get_or, length, suc, sym}
use Rattle.std.specs.Prelude.{option_and_then}
use Rattle.std.proofs.lemmas.List.{drop_all}
use Rattle.std.proofs.Math.Seq.{drop-cons}
use Rattle.clap.specs.Words.{Text}
use Rattle.ll_program.specs.declared.denied.Denied.{Denied}
use Rattle.ll_program.specs.Options.{denied_all, denied_too}

module _ (denied : Denied) (words : List Text) (k : ℕ) where
  pub to_come : (word : Text) → k < length words → word ≡ get_or words k word → (too : Option Denied)
      → too ≡ denied_too denied word
      → denied_all denied (drop k words) ≡ option_and_then (λ d. denied_all d (drop (k + 1) words)) too
  to_come word within at too is =
      ap (denied_all denied) (drop-cons words k word within)
      ∙ ap (λ w. option_and_then (λ d. denied_all d (drop (suc k) words)) (denied_too denied w)) (sym at)
      ∙ ap (λ t. option_and_then (λ d. denied_all d (drop (suc k) words)) t) (sym is)
      ∙ ap (λ n. option_and_then (λ d. denied_all d (drop n words)) too) (sym (add-one k))

  pub none_to_come : length words ≤ k → denied_all denied (drop k words) ≡ Some denied
  none_to_come behind = ap (denied_all denied) (drop_all k words behind)
