-- What a call keeps of a word that should be a path. own
use Rattle.std.specs.Prelude.{◌≡◌, ℕ, List, [], Some, slice_get}
use Rattle.ll_path.specs.declared.target.Target.{Target}
use Rattle.ll_path.specs.declared.target.Target.TheVariants.{Good, Bad}
use Rattle.ll_path.specs.Path.{path_of_text, path_refusals, path_text}

-- the path that the word spells, or the word with the first reason why it spells none
abbrev pub IsTarget : List ℕ → Target → Type 0
IsTarget text (Good path) = (path_refusals text ≡ []) × (path ≡ path_of_text text)
IsTarget text (Bad bad) = (bad.word ≡ text) × (slice_get (path_refusals text) 0 ≡ Some bad.errno)

abbrev pub target_text : Target → List ℕ
target_text (Good path) = path_text path
target_text (Bad bad) = bad.word
