-- Tables of several profiles.
use Rattle.std.specs.Prelude.{◌≡◌, ◌⊎◌, ℕ, List, [], ◌∷◌, ◌++◌, refl}
use Rattle.std.proofs.Common.{ap, append_assoc, inl, inr, subst, sym, ◌∙◌}
use Rattle.clap.specs.Words.{Text}
use Rattle.ll_program.specs.Options.{RightsOrder, TreeOrder}
use Rattle.ll_program.specs.Paths.{HasBadWord, IsOfWords}
use Rattle.ll_program.specs.declared.failure.Failure.{Failure}
use Rattle.ll_program.specs.declared.failure.Failure.TheVariants.{CommandLine, Policy, Opening, File, Output, Socket}
use Rattle.ll_program.specs.declared.failure.Failure.TheVariants.{NoMemory}
use Rattle.ll_commands.specs.Profiles.{AddsTables, AreTables, LacksTables, StopsAt}
use Rattle.ll_commands.specs.Rights.{LacksTable}

module _ (order : RightsOrder) (policy : List ℕ) where
  join : (ps qs : List Text) (text more : List ℕ) → AreTables order policy ps text → AreTables order policy qs more
      → AreTables order policy (ps ++ qs) (text ++ more)
  join [] qs text more e h = subst (λ t. AreTables order policy qs (t ++ more)) (sym e) h
  join (p ∷ ps) qs text more h k = (
    h.0,
    h.1 ++ more,
    h.2,
    join ps qs h.1 more h.3 k,
    ap (λ t. t ++ more) h.4 ∙ append_assoc h.0 h.1 more,
  )

  -- where tables are appended, they are those of these profiles too
  pub adds : (ps qs : List Text) (text text' : List ℕ) → AreTables order policy ps text
      → AddsTables order policy qs text text' → AreTables order policy (ps ++ qs) text'
  adds ps qs text text' so_far more =
      subst (AreTables order policy (ps ++ qs)) (sym more.2) (join ps qs text more.0 so_far more.1)

  -- the profiles before have tables, and this one has none
  pub stops : (ps qs : List Text) (q : Text) (text : List ℕ) (f : Failure) → AreTables order policy ps text
      → LacksTable order q policy f → StopsAt order policy (ps ++ q ∷ qs) f
  stops [] qs q text f h lacks = inl lacks
  stops (p ∷ ps) qs q text f h lacks = inr (h.0, h.2, stops ps qs q h.1 f h.3 lacks)

  pub by_words : (f : Failure) → IsOfWords f → (f ≡ CommandLine → HasBadWord order.paths) → LacksTables order policy f
  by_words CommandLine is bad = inl (refl, bad refl)
  by_words (Policy fault) is bad = absurd is
  by_words (Opening refusal) is bad = absurd is
  by_words File is bad = absurd is
  by_words Output is bad = absurd is
  by_words Socket is bad = absurd is
  by_words NoMemory is bad = inr (inl (λ tree. tt))
