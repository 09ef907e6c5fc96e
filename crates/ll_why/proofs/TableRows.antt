-- Rows of a table, and whose they are.
use Rattle.std.specs.Prelude.{◌≡◌, ℕ, List, [], ◌∷◌, ◌++◌, length, refl}
use Rattle.std.proofs.Common.{ap, sym, subst, ◌∙◌, append_assoc}
use Rattle.ll_path.specs.Path.{Path}
use Rattle.ll_rules.specs.Layer.{Layer}
use Rattle.ll_seq.specs.State.{State}
use Rattle.ll_seq.specs.declared.call.Call.{Call}
use Rattle.ll_why.specs.PathRows.{AreRows, paths_or_nodes, row_in}
use Rattle.ll_why.specs.declared.path_rows.RowStyle.{RowStyle}

module _ (s : State) (domain : List Layer) (style : RowStyle) where
  pub rows_join : (ps qs : List Path) (text rows : List ℕ) → AreRows s domain style ps text
      → AreRows s domain style qs rows → AreRows s domain style (ps ++ qs) (text ++ rows)
  rows_join [] qs text rows e more = subst (λ t. AreRows s domain style qs (t ++ rows)) (sym e) more
  rows_join (p ∷ ps) qs text rows h more = (
    h.0,
    h.1 ++ rows,
    h.2,
    rows_join ps qs h.1 rows h.3 more,
    ap (λ t. t ++ rows) h.4 ∙ append_assoc (row_in style p h.0) h.1 rows,
  )

pub some_paths : (paths : List Path) (calls : List Call) → (length paths ≡ 0 → ⊥) → paths_or_nodes paths calls ≡ paths
some_paths [] calls some = absurd (some refl)
some_paths (p ∷ ps) calls some = refl
