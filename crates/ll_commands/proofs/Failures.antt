-- Why nothing is told.
use Rattle.std.specs.Prelude.{◌≡◌, ◌⊎◌, ℕ, List, Option, Some, None, refl}
use Rattle.std.proofs.Common.{inl, inr}
use Rattle.clap.specs.Words.{Text}
use Rattle.ll_program.specs.Options.{Asked, TreeOrder, of_command, of_entry}
use Rattle.ll_program.specs.Policy.{IsSetup}
use Rattle.ll_program.specs.declared.failure.Failure.{Failure}
use Rattle.ll_program.specs.declared.failure.Failure.TheVariants.{CommandLine, Policy, Opening, File, Output, Socket}
use Rattle.ll_program.specs.declared.failure.Failure.TheVariants.{NoMemory}
use Rattle.ll_session.specs.declared.setup.Setup.{Setup}
use Rattle.ll_why.specs.declared.style.WhyStyle.{WhyStyle}
use Rattle.ll_commands.specs.OpenedTree.{FailsSo, IsStopped}
use Rattle.ll_commands.specs.Why.{Answers, CommandFails, EntryFails, Fails, HasNoCommand, IsNoCommand}
use Rattle.ll_commands.specs.declared.why.Answer.{Answer}

module _ (run : TreeOrder) (before : List Text) (word file : List ℕ) where
  pub by_word : (f : Failure) → (f ≡ CommandLine) ⊎ (f ≡ NoMemory)
      → (f ≡ CommandLine → IsNoCommand word ⊎ HasNoCommand before) → CommandFails run before word file f
  by_word CommandLine is none = inl (none refl)
  by_word (Policy fault) (inl e) none = absurd (cc e)
  by_word (Policy fault) (inr e) none = absurd (cc e)
  by_word (Opening refusal) (inl e) none = absurd (cc e)
  by_word (Opening refusal) (inr e) none = absurd (cc e)
  by_word File is none = tt
  by_word Output (inl e) none = absurd (cc e)
  by_word Output (inr e) none = absurd (cc e)
  by_word Socket (inl e) none = absurd (cc e)
  by_word Socket (inr e) none = absurd (cc e)
  by_word NoMemory is none = tt

  pub by_opening : (setup : Setup) (f : Failure) → IsSetup run file setup → FailsSo (IsStopped setup) f
      → CommandFails run before word file f
  by_opening setup CommandLine is fails = absurd fails
  by_opening setup (Policy fault) is fails = absurd fails
  by_opening setup (Opening refusal) is fails = (setup, is, fails)
  by_opening setup File is fails = tt
  by_opening setup Output is fails = absurd fails
  by_opening setup Socket is fails = absurd fails
  by_opening setup NoMemory is fails = tt

pub by_file : (number : ℕ) (file : List ℕ) (f : Failure) → (f ≡ File) ⊎ (f ≡ NoMemory) → EntryFails number file f
by_file number file CommandLine (inl e) = absurd (cc e)
by_file number file CommandLine (inr e) = absurd (cc e)
by_file number file (Policy fault) (inl e) = absurd (cc e)
by_file number file (Policy fault) (inr e) = absurd (cc e)
by_file number file (Opening refusal) (inl e) = absurd (cc e)
by_file number file (Opening refusal) (inr e) = absurd (cc e)
by_file number file File is = tt
by_file number file Output (inl e) = absurd (cc e)
by_file number file Output (inr e) = absurd (cc e)
by_file number file Socket (inl e) = absurd (cc e)
by_file number file Socket (inr e) = absurd (cc e)
by_file number file NoMemory is = tt

-- where something is answered, memory may be wanted
pub lacks_memory : (style : WhyStyle) (nodes : ℕ) (asked : Option Asked) (file : List ℕ) (answer : Answer)
    → Answers style nodes asked file answer → Fails nodes asked file NoMemory
lacks_memory style nodes None file answer is = absurd is
lacks_memory style nodes (Some (of_entry history number)) file answer is = tt
lacks_memory style nodes (Some (of_command policy profile before word)) file answer is = tt
