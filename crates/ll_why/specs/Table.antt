-- The lines of the table of rights. own
use Rattle.std.specs.Prelude.{ℕ, Bool, List, [], ◌∷◌, ◌++◌, Option, Some, None, codes, take, ◌==◌}
use Rattle.std.specs.Prelude.{if◌then◌else◌}
use Rattle.std.specs.List.{enumerate_from, flat_map}
use Rattle.ll_rights.specs.declared.kind.Kind.{Kind}
use Rattle.ll_rights.specs.Access.{access_text}
use Rattle.ll_rights.specs.Kind.{kind_text}
use Rattle.ll_path.specs.Path.{Path, path_text}
use Rattle.ll_why.specs.declared.grants.Grants.{Grants}
use Rattle.ll_why.specs.declared.grants.Ruled.{Ruled}
use Rattle.ll_why.specs.declared.rights.PathRights.{PathRights}
use Rattle.ll_why.specs.declared.rights.RightsAt.{RightsAt}
use Rattle.ll_why.specs.declared.rights.RightsAt.TheVariants.{Node, New, Nowhere}

-- the tokens, each after a space (32)
abbrev pub behind : List (List ℕ) → List ℕ
behind tokens = flat_map (λ token. 32 ∷ token) tokens

abbrev pub kind_word : Option Kind → List ℕ
kind_word None = codes "missing"
kind_word (Some kind) = kind_text kind

-- what grants these rights, and the rights, if there are any
abbrev pub granted_tokens : List ℕ → ℕ → List (List ℕ)
granted_tokens by rights = if rights == 0 then [] else by ∷ access_text rights ∷ []

-- the rights that the rule on the node with this many of the path's names allows
abbrev pub ruled_tokens : Path → ℕ × Ruled → List (List ℕ)
ruled_tokens path r = granted_tokens (path_text (take r.0 path)) r.1.rights.0

-- a layer's column: what it doesn't restrict, and what its rules allow, from the root on
abbrev pub column_tokens : Path → Grants → List (List ℕ)
column_tokens path g =
    codes "|" ∷ (granted_tokens (codes "-") g.free.0
    ++ flat_map (ruled_tokens path) (enumerate_from 0 g.ruled.items))

-- a column for each layer, if asked for
abbrev pub shown_tokens : Path → PathRights → Bool → List (List ℕ)
shown_tokens path told layers = if layers then flat_map (column_tokens path) told.layers.items else []

-- the kind of the path's node, and what all layers grant on it
abbrev pub node_tokens : Path → PathRights → Bool → List (List ℕ)
node_tokens path told layers = kind_text told.kind ∷ access_text told.rights.0 ∷ shown_tokens path told layers

-- what all layers grant on a new file and on a new directory; the columns are the directory's, which may have all
-- rights that the file may have
abbrev pub new_tokens : Path → (file directory : PathRights) → Bool → List (List ℕ)
new_tokens path file directory layers =
    codes "missing" ∷ codes "new-file" ∷ access_text file.rights.0
    ∷ codes "new-dir" ∷ access_text directory.rights.0 ∷ shown_tokens path directory layers

-- there is no directory for a node: what is in its place
abbrev pub nowhere_tokens : Option Kind → List (List ℕ)
nowhere_tokens kind = codes "missing" ∷ codes "parent-is" ∷ kind_word kind ∷ []

abbrev pub row_tokens : Path → RightsAt → Bool → List (List ℕ)
row_tokens path (Node told) layers = node_tokens path told layers
row_tokens path (New file directory) layers = new_tokens path file directory layers
row_tokens path (Nowhere kind) layers = nowhere_tokens kind

-- the path, and what all layers grant there
abbrev pub row_line : Path → RightsAt → Bool → List ℕ
row_line path told layers = path_text path ++ behind (row_tokens path told layers) ++ 10 ∷ []
