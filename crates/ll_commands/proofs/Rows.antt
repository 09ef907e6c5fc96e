-- Why rights aren't known.
use Rattle.std.specs.Prelude.{◌≡◌, ◌⊎◌, ℕ, List, [], Option, Some, None, IfSome, refl}
use Rattle.std.proofs.Common.{ap, inl, inr, subst, sym, ◌∙◌}
use Rattle.toml.specs.Parse.{parse_document}
use Rattle.clap.specs.Words.{Text}
use Rattle.ll_policy.specs.Plan.{IsPlanOf, Plan}
use Rattle.ll_program.specs.declared.tree.TreeOptions.{TreeOptions}
use Rattle.ll_program.specs.Options.{TreeOrder, tree_in}
use Rattle.ll_program.specs.Paths.{HasBadWord, IsOfWords}
use Rattle.ll_program.specs.Policy.{ByPlan, IsPolicy, IsSetBy, IsSetup, Lacks, profile_of}
use Rattle.ll_program.specs.declared.failure.Failure.{Failure}
use Rattle.ll_program.specs.declared.failure.Failure.TheVariants.{CommandLine, Policy, Opening, File, Output, Socket}
use Rattle.ll_program.specs.declared.failure.Failure.TheVariants.{NoMemory}
use Rattle.ll_session.specs.declared.refusal.Refusal.{Refusal}
use Rattle.ll_session.specs.declared.setup.Setup.{Setup}
use Rattle.ll_commands.specs.OpenedTree.{FailsSo, IsStopped}
use Rattle.ll_commands.specs.Rights.{LacksRights}

pub fails_so : (P Q : Refusal → Type 0) (f : Failure) → ((refusal : Refusal) → P refusal → Q refusal) → FailsSo P f
    → FailsSo Q f
fails_so P Q CommandLine g p = absurd p
fails_so P Q (Policy fault) g p = absurd p
fails_so P Q (Opening refusal) g p = g refusal p
fails_so P Q File g p = absurd p
fails_so P Q Output g p = absurd p
fails_so P Q Socket g p = absurd p
fails_so P Q NoMemory g p = tt

-- what a reader has left, if it tells it
pub left : (o : Option (List ℕ)) → (text : List ℕ) × IfSome o (λ told. text ≡ told)
left None = ([], tt)
left (Some told) = (told, refl)

-- the setup that a policy with this text gives, if the order names its file
pub set_by : (options : TreeOptions) (order : TreeOrder) (file : Text) (text : List ℕ) (plan : Plan) (setup : Setup)
    → tree_in options ≡ order → order.policy ≡ Some file → IsPolicy text → IsPlanOf (parse_document text) plan
    → setup.nodes ≡ options.nodes → setup.history ≡ options.history → ByPlan (tree_in options) plan setup
    → IsSetup order text setup
set_by options order file text plan setup same named right is nodes history by = (
  nodes ∙ ap (λ (o : TreeOrder). o.nodes) same,
  history ∙ ap (λ (o : TreeOrder). o.history) same,
  subst (λ (o : Option Text). IsSetBy o order text setup) (sym named)
      (right, (plan, is, subst (λ (o : TreeOrder). ByPlan o plan setup) same by)),
)

module _ (words : List Text) (tree : TreeOrder) (text : List ℕ) where
  pub by_words : (f : Failure) → IsOfWords f → (f ≡ CommandLine → HasBadWord words) → LacksRights words tree text f
  by_words CommandLine is bad = inl (bad refl)
  by_words (Policy fault) is bad = absurd is
  by_words (Opening refusal) is bad = absurd is
  by_words File is bad = tt
  by_words Output is bad = absurd is
  by_words Socket is bad = absurd is
  by_words NoMemory is bad = tt

  pub by_setup : (f : Failure) → Lacks tree text f → LacksRights words tree text f
  by_setup CommandLine lacks = inr lacks
  by_setup (Policy fault) lacks = lacks
  by_setup (Opening refusal) lacks = absurd lacks
  by_setup File lacks = tt
  by_setup Output lacks = absurd lacks
  by_setup Socket lacks = absurd lacks
  by_setup NoMemory lacks = tt

  -- a policy with this text doesn't have the profile, or memory ran out
  pub by_plan : (plan : Plan) (f : Failure) → IsPlanOf (parse_document text) plan
      → (f ≡ NoMemory) ⊎ ((f ≡ CommandLine) × (profile_of tree.profile plan ≡ None)) → LacksRights words tree text f
  by_plan plan f is (inl e) = subst (LacksRights words tree text) (sym e) tt
  by_plan plan f is (inr h) = subst (LacksRights words tree text) (sym h.0) (inr (plan, is, h.1))

  pub by_opening : (setup : Setup) (f : Failure) → IsSetup tree text setup → FailsSo (IsStopped setup) f
      → LacksRights words tree text f
  by_opening setup CommandLine is fails = absurd fails
  by_opening setup (Policy fault) is fails = absurd fails
  by_opening setup (Opening refusal) is fails = (setup, is, fails)
  by_opening setup File is fails = tt
  by_opening setup Output is fails = absurd fails
  by_opening setup Socket is fails = absurd fails
  by_opening setup NoMemory is fails = tt
