-- What the program's words name. own
use Rattle.std.specs.Prelude.{bytes_eq, ◌≡◌, ℕ, List, Option, Some, None, option_and_then, codes, if◌then◌else◌}
use Rattle.std.specs.Prelude.{IfSome}

-- the file with this name, or standard input
abbrev pub named : List ℕ → Option (List ℕ)
named name = if bytes_eq name (codes "-") then None else Some name

-- the text of the file with this name, if one is named
abbrev pub text_in : (Option (List ℕ) → Option (List ℕ)) → Option (List ℕ) → Option (List ℕ)
text_in texts file = option_and_then (λ name. texts (Some name)) file

-- if the file's text is known, these bytes are all of it: what is left to read, or what the file has
abbrev pub Starts : (text told : Option (List ℕ)) → Type 0
Starts text told = IfSome text (λ bytes. told ≡ Some bytes)

-- A source that is read: the text of its file, what is left to read of it, and what was read and is kept, each if known
pub record LateBytes : Type 0 where
  pub text : Option (List ℕ)
  pub left : Option (List ℕ)
  pub kept : Option (List ℕ)
