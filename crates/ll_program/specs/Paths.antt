-- Words that should spell paths. own
use Rattle.std.specs.Prelude.{◌≢◌, ◌⊎◌, ⊤, List, [], ◌∷◌}
use Rattle.clap.specs.Words.{Text}
use Rattle.ll_path.specs.Path.{path_refusals}
use Rattle.ll_path.specs.Word.{IsWord}
use Rattle.ll_program.specs.declared.failure.Failure.{Failure}
use Rattle.ll_program.specs.declared.failure.Failure.TheVariants.{CommandLine, NoMemory}

-- the word spells no path
abbrev pub IsBadWord : Text → Type 0
IsBadWord word = (IsWord word → ⊥) ⊎ (path_refusals word ≢ [])

abbrev pub HasBadWord : List Text → Type 0
HasBadWord [] = ⊥
HasBadWord (word ∷ words) = IsBadWord word ⊎ HasBadWord words

-- why the words give no paths
abbrev pub IsOfWords : Failure → Type 0
IsOfWords CommandLine = ⊤
IsOfWords NoMemory = ⊤
IsOfWords failure = ⊥
