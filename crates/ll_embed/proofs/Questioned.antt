-- Why a question has no answer, and the lines of its text.
use Rattle.std.proofs.Common.{◌≡◌, ◌⊎◌, ℕ, List, [], ◌∷◌, ◌++◌, Err, IfErr, IsErrAnd, Ok, Result, ap, inl, inr, length}
use Rattle.std.proofs.Common.{map, refl, sym, subst, ◌∙◌}
use Rattle.std.specs.Borrow.{Bor}
use Rattle.ll_program.specs.Paths.{IsOfWords}
use Rattle.ll_program.specs.Policy.{IsSetup, Lacks}
use Rattle.ll_program.specs.declared.failure.Failure.{Failure}
use Rattle.ll_program.specs.declared.failure.Failure.TheVariants as failures
use Rattle.ll_session.specs.declared.setup.Setup.{Setup}
use Rattle.ll_why.proofs.TextGrowth.{empty_is}
use Rattle.ll_commands.specs.OpenedTree.{FailsSo, IsStopped}
use Rattle.ll_commands.specs.Why.{HasNoCommand, IsNoCommand}
use Rattle.ll_embed.specs.Answers.{fault_at}
use Rattle.ll_embed.specs.Lines.{LacksCommand, LacksPath}
use Rattle.ll_embed.specs.Questions.{LacksRights, LacksTree, LacksWhy, ProfileOrder, fault_of_lines, tree_asked}
use Rattle.ll_embed.specs.declared.ask_fault.AskFault.{AskFault}
use Rattle.ll_embed.specs.declared.ask_fault.AskFault.TheVariants.{PolicyMissing, ProfileMissing, Tree, WrongCommand}
use Rattle.ll_embed.specs.declared.ask_fault.AskFault.TheVariants.{WrongForm, WrongPath}

-- ---- why there is no tree

pub no_setup : (o : ProfileOrder) (f : Failure) → Lacks (tree_asked o) o.policy f → LacksTree o (Tree (fault_at f))
no_setup o failures.CommandLine lacks = inr lacks
no_setup o (failures.Policy fault) lacks = lacks
no_setup o (failures.Opening refusal) lacks = absurd lacks
no_setup o failures.File lacks = tt
no_setup o failures.Output lacks = tt
no_setup o failures.Socket lacks = tt
no_setup o failures.NoMemory lacks = tt

pub not_opened : (o : ProfileOrder) (setup : Setup) (f : Failure) → IsSetup (tree_asked o) o.policy setup
    → FailsSo (IsStopped setup) f → LacksTree o (Tree (fault_at f))
not_opened o setup failures.CommandLine is fails = absurd fails
not_opened o setup (failures.Policy fault) is fails = absurd fails
not_opened o setup (failures.Opening refusal) is fails = (setup, refusal, is, fails)
not_opened o setup failures.File is fails = tt
not_opened o setup failures.Output is fails = tt
not_opened o setup failures.Socket is fails = tt
not_opened o setup failures.NoMemory is fails = tt

-- ---- so there is no answer

-- an error is handed on
pub handed_on : {T E : Type 0} (r : Result T E) (e : E) (P : E → Type 0) → IsErrAnd r (λ f. f ≡ e) → P e → IfErr r P
handed_on (Ok value) e P is p = tt
handed_on (Err f) e P is p = subst P (sym is) p

module _ (o : ProfileOrder) (form : ℕ) (names : List ℕ) where
  pub no_table : (fault : AskFault) → LacksTree o fault → LacksRights o form names fault
  no_table WrongForm lacks = absurd lacks
  no_table WrongPath lacks = absurd lacks
  no_table WrongCommand lacks = lacks
  no_table PolicyMissing lacks = lacks
  no_table ProfileMissing lacks = lacks
  no_table (Tree fault) lacks = lacks

  pub no_paths : (f : Failure) → IsOfWords f → (f ≡ failures.CommandLine → LacksPath names)
      → LacksRights o form names (fault_of_lines f WrongPath)
  no_paths failures.CommandLine is bad = bad refl
  no_paths (failures.Policy fault) is bad = absurd is
  no_paths (failures.Opening refusal) is bad = absurd is
  no_paths failures.File is bad = tt
  no_paths failures.Output is bad = tt
  no_paths failures.Socket is bad = tt
  no_paths failures.NoMemory is bad = tt

module _ (o : ProfileOrder) (commands : List ℕ) where
  pub no_why : (fault : AskFault) → LacksTree o fault → LacksWhy o commands fault
  no_why WrongForm lacks = lacks
  no_why WrongPath lacks = lacks
  no_why WrongCommand lacks = absurd lacks
  no_why PolicyMissing lacks = lacks
  no_why ProfileMissing lacks = lacks
  no_why (Tree fault) lacks = lacks

  pub no_command : (f : Failure) → IsOfWords f → (f ≡ failures.CommandLine → LacksCommand commands)
      → LacksWhy o commands (fault_of_lines f WrongCommand)
  no_command failures.CommandLine is bad = bad refl
  no_command (failures.Policy fault) is bad = absurd is
  no_command (failures.Opening refusal) is bad = absurd is
  no_command failures.File is bad = tt
  no_command failures.Output is bad = tt
  no_command failures.Socket is bad = tt
  no_command failures.NoMemory is bad = tt

-- ---- the last of some lines

pub of_words : (f : Failure) → (f ≡ failures.CommandLine) ⊎ (f ≡ failures.NoMemory) → IsOfWords f
of_words f (inl e) = subst IsOfWords (sym e) tt
of_words f (inr e) = subst IsOfWords (sym e) tt

abbrev texts : List (Bor (List ℕ)) → List (List ℕ)
texts lines = map (λ l. l.now) lines

texts_more : (lines : List (Bor (List ℕ))) (last : Bor (List ℕ))
    → texts (lines ++ last ∷ []) ≡ texts lines ++ last.now ∷ []
texts_more [] last = refl
texts_more (l ∷ lines) last = ap (λ m. l.now ∷ m) (texts_more lines last)

pub last_line : (items slice before : List (Bor (List ℕ))) (last : Bor (List ℕ)) (lines : List (List ℕ))
    → slice ≡ items → slice ≡ before ++ last ∷ [] → texts items ≡ lines → lines ≡ texts before ++ last.now ∷ []
last_line items slice before last lines same split are =
    sym are ∙ ap texts (sym same ∙ split) ∙ texts_more before last

pub no_line : (items slice : List (Bor (List ℕ))) (lines : List (List ℕ)) → slice ≡ items → length slice ≡ 0
    → texts items ≡ lines → lines ≡ []
no_line items slice lines same none are = sym are ∙ ap texts (sym same ∙ empty_is slice none)

pub bad_before : (before : List (List ℕ)) (last : List ℕ) → HasNoCommand before → HasNoCommand (before ++ last ∷ [])
bad_before [] last bad = absurd bad
bad_before (line ∷ before) last (inl bad) = inl bad
bad_before (line ∷ before) last (inr bad) = inr (bad_before before last bad)

pub bad_last : (before : List (List ℕ)) (last : List ℕ) → IsNoCommand last → HasNoCommand (before ++ last ∷ [])
bad_last [] last bad = inl bad
bad_last (line ∷ before) last bad = inr (bad_last before last bad)
