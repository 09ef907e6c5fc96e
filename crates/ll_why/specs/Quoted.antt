-- Strings and the names of rights as JSON. RFC 8259
use Rattle.std.specs.Prelude.{ℕ, List, [], ◌∷◌, codes}
use Rattle.std.specs.List.{concat, join_by}
use Rattle.serde_json.specs.Data.{string}
use Rattle.serde_json.specs.Written.{compact_text}
use Rattle.ll_rights.specs.Access.{set_names}

-- a string as serde_json writes it
abbrev pub json_string : List ℕ → List ℕ
json_string text = compact_text (string text)

-- a name without characters that need a backslash
abbrev pub quoted : List ℕ → List ℕ
quoted name = concat (codes "\"" ∷ name ∷ codes "\"" ∷ [])

-- the names of the rights in a set, in their order
abbrev pub json_names : ℕ → List ℕ
json_names set = join_by quoted (codes ", ") (set_names set)

-- texts with commas between
abbrev pub listed : List (List ℕ) → List ℕ
listed texts = join_by (λ t. t) (codes ", ") texts
