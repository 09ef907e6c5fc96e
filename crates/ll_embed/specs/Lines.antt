-- Texts whose lines are paths or commands. own
use Rattle.std.specs.Prelude.{◌≡◌, ◌⊎◌, ℕ, List, []}
use Rattle.std.specs.Str.{IsUtf8}
use Rattle.std.specs.Str.Lines.{lines}
use Rattle.ll_program.specs.Paths.{HasBadWord}
use Rattle.ll_commands.specs.Why.{HasNoCommand}

-- the text isn't UTF-8, or a line of it spells no path
abbrev pub LacksPath : List ℕ → Type 0
LacksPath text = (IsUtf8 text → ⊥) ⊎ HasBadWord (lines text)

-- the text isn't UTF-8, or has no line, or a line of it is no command
abbrev pub LacksCommand : List ℕ → Type 0
LacksCommand text = (IsUtf8 text → ⊥) ⊎ (lines text ≡ []) ⊎ HasNoCommand (lines text)
