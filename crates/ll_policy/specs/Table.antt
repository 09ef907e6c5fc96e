-- A table of a document: its keys and their values. TOML 1.1, "Table" and "Array of Tables"
use Rattle.std.specs.Prelude.{bytes_eq, ℕ, ℤ, Bool, true, false, not, ◌&&◌, ◌||◌, List, [], ◌++◌, Option, is_some}
use Rattle.std.specs.Prelude.{unwrap_or, option_map, option_and_then, option_to_list}
use Rattle.std.specs.Option.{option_map_or}
use Rattle.std.specs.List.{list_any}
use Rattle.toml.specs.Data.{Items, no_items, item, Members, no_members, member, get_member, as_str, as_integer}
use Rattle.toml.specs.Data.{as_array, as_table}

-- the table has a key that is none of these
abbrev pub has_other_key : List (List ℕ) → Members → Bool
has_other_key known no_members = false
has_other_key known (member key d ms) = not (list_any (bytes_eq key) known) || has_other_key known ms

-- each item of the array is a table
abbrev pub are_tables : Items → Bool
are_tables no_items = true
are_tables (item d ds) = is_some (as_table d) && are_tables ds

-- the tables in an array, in order
abbrev pub tables_of : Items → List Members
tables_of no_items = []
tables_of (item d ds) = option_to_list (as_table d) ++ tables_of ds

-- each key of the table has a table
abbrev pub hold_tables : Members → Bool
hold_tables no_members = true
hold_tables (member key d ms) = is_some (as_table d) && hold_tables ms

-- the tables in a table with their keys, in its order: after reading, the keys increase by their bytes
abbrev pub named_tables : Members → List (List ℕ × Members)
named_tables no_members = []
named_tables (member key d ms) = option_to_list (option_map (λ t. (key, t)) (as_table d)) ++ named_tables ms

-- the text at a key
abbrev pub text_at : List ℕ → Members → List ℕ
text_at key t = unwrap_or (option_and_then as_str (get_member key t)) []

-- the whole number at a key
abbrev pub integer_at : List ℕ → Members → Option ℤ
integer_at key t = option_and_then as_integer (get_member key t)

-- the array of tables at a key, or none if the key is missing
abbrev pub tables_at : List ℕ → Members → List Members
tables_at key t = option_map_or tables_of (option_and_then as_array (get_member key t)) []

-- the table of tables at a key, or none if the key is missing
abbrev pub named_tables_at : List ℕ → Members → List (List ℕ × Members)
named_tables_at key t = option_map_or named_tables (option_and_then as_table (get_member key t)) []
