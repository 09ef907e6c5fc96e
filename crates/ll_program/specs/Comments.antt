-- Scripts with comments. own
use Rattle.std.specs.Prelude.{◌==◌, ◌||◌, ◌+◌, ◌-◌, ◌++◌, ℕ, Bool, false, List, [], ◌∷◌, Option, if◌then◌else◌, map}
use Rattle.std.specs.Prelude.{option_map, slice_get, unwrap_or}
use Rattle.std.specs.List.{flat_map, list_all}
use Rattle.ll_session.specs.declared.stop.Stop.{Stop}
use Rattle.ll_session.specs.declared.stop.Stop.TheVariants.{AtLine, AtOpening}
use Rattle.ll_wire.specs.Pieces.{pieces}

-- a line without its line feed (10), which only the last line of a file may lack
abbrev pub body_of : List ℕ → List ℕ
body_of [] = []
body_of (b ∷ []) = if b == 10 then [] else b ∷ []
body_of (b ∷ c ∷ bytes) = b ∷ body_of (c ∷ bytes)

-- it begins with `#` (35)
abbrev pub is_comment : List ℕ → Bool
is_comment [] = false
is_comment (b ∷ bytes) = b == 35

-- only spaces, or a comment
abbrev pub is_silent : List ℕ → Bool
is_silent body = list_all (λ b. b == 32) body || is_comment body

-- the lines that aren't silent, each with its number; the first line here has this number
abbrev pub spoken : (number : ℕ) → List (List ℕ) → List (ℕ × List ℕ)
spoken number [] = []
spoken number (line ∷ lines) =
    if is_silent (body_of line) then spoken (number + 1) lines
    else (number, body_of line) ∷ spoken (number + 1) lines

abbrev pub with_feed : ℕ × List ℕ → List ℕ
with_feed it = it.1 ++ 10 ∷ []

abbrev pub number_in : ℕ × List ℕ → ℕ
number_in it = it.0

-- what is run of such a script: those lines, each with a line feed
abbrev pub spoken_text : List ℕ → List ℕ
spoken_text text = flat_map with_feed (spoken 1 (pieces text))

-- the numbers of those lines in the script
abbrev pub spoken_numbers : List ℕ → List ℕ
spoken_numbers text = map number_in (spoken 1 (pieces text))

-- the number in the script of the line that has this number, from 1, among these
abbrev pub line_there : (numbers : List ℕ) → ℕ → ℕ
line_there numbers line = unwrap_or (slice_get numbers (line - 1)) line

-- what ended the run of those lines, as it is told of the script
abbrev pub stop_there : (numbers : List ℕ) → Stop → Stop
stop_there numbers (AtLine line reply) = AtLine (line_there numbers line) reply
stop_there numbers (AtOpening refusal) = AtOpening refusal
