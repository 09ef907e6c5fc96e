-- Whether hints are wanted. own
use Rattle.std.specs.Prelude.{Bool, false, not, ◌&&◌, ◌||◌, ℕ, List, [], ◌∷◌, bytes_eq, codes, slice_get}
use Rattle.std.specs.List.{list_any}
use Rattle.std.specs.Option.{option_map_or}

-- this word asks for hints
abbrev pub asks : List ℕ → Bool
asks word = bytes_eq word (codes "--explain")

-- this word wants none
abbrev pub declines : List ℕ → Bool
declines word = bytes_eq word (codes "--terse")

abbrev pub is_wish : List ℕ → Bool
is_wish word = asks word || declines word

-- this command gives hints unasked
abbrev pub is_telling : List ℕ → Bool
is_telling command = list_any (bytes_eq command)
    (codes "check" ∷ codes "rights" ∷ codes "why" ∷ codes "learn" ∷ codes "export" ∷ [])

-- No word wants none, and a word asks for hints, or the surroundings do, or the command (the second word, after the
-- program's name and without wishes) gives them
abbrev pub are_wanted : (asked : Bool) → (words rest : List (List ℕ)) → Bool
are_wanted asked words rest =
    not (list_any declines words)
    && (asked || list_any asks words || option_map_or is_telling (slice_get rest 1) false)
