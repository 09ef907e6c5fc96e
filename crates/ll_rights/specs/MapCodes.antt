-- Maps with equal entries are equal, so a map can be a model's value.
use Rattle.std.specs.Prelude.{◌≡◌, T, List}
use Rattle.std.specs.declared.cmp.Ordering.{Ordering}
use Rattle.std.specs.FinMap.Entries.{is_sorted}
use Rattle.ll_rights.specs.Map.{Map}
use mathlib.Core.HLevel.{Σ_prop_path}
use lib.Dec.{T_prop}
use base.Stored.{Coded, coded×, coded_list, coded_via}

module _ {K X : Type 0} {R : K → K → Ordering} where
  pub same_list_map : (m n : Map R X) → m.list ≡ n.list → m ≡ n
  same_list_map m n e =
      let pairs : ◌≡◌ {A = (es : List (K × X)) × T (is_sorted R es)} (m.list, m.sorted) (n.list, n.sorted) =
      Σ_prop_path (λ es. T_prop _) e in
      λ i. record { list = (pairs i).0; sorted = (pairs i).1 }

  abbrev pub code : Coded K → Coded X → Coded (Map R X)
  code k x = coded_via (coded_list (coded× k x)) (λ (m : Map R X). m.list) same_list_map
