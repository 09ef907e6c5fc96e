-- Tables and what stands at their keys.
use Rattle.std.proofs.Common.{◌≡◌, ℕ, ◌+◌, ◌<◌, ◌||◌, List, [], ◌∷◌, ◌++◌, length, get_or, drop, map, refl, ap}
use Rattle.std.specs.Prelude.{option_to_list}
use Rattle.std.specs.Borrow.{Bor}
use Rattle.std.specs.Str.{bytes_eq}
use Rattle.std.specs.List.{list_any}
use Rattle.toml.specs.Data.{Members, as_table}
use Rattle.toml.specs.View.{view, items_view}
use Rattle.toml.specs.declared.value.Value.{Value}
use Rattle.toml.proofs.Views.{items_view-drop}
use Rattle.ll_policy.specs.Table.{tables_of}

-- the tables among values
abbrev pub tables_in : List Value → List Members
tables_in values = tables_of (items_view values)

pub tables_in-drop : (values : List Value) (i : ℕ) (d : Value) → i < length values
    → tables_in (drop i values) ≡ option_to_list (as_table (view (get_or values i d)))
    ++ tables_in (drop (i + 1) values)
tables_in-drop values i d low = ap tables_of (items_view-drop values i d low)

pub known_names : (key : List ℕ) (known : List (Bor (List ℕ)))
    → list_any (bytes_eq key) (map (λ name. name.now) known) ≡ list_any (λ name. bytes_eq key name.now) known
known_names key [] = refl
known_names key (name ∷ known) = ap (λ b. bytes_eq key name.now || b) (known_names key known)
