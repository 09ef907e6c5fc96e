-- As many facts as nodes.
use Rattle.std.specs.Prelude.{◌≡◌, ℕ, ◌+◌, Bool, true, false, cond, T, ◌&&◌, List, [], ◌∷◌, map, length, Option, Some}
use Rattle.std.specs.Prelude.{None, is_some, option_map, refl}
use Rattle.std.specs.declared.cmp.Ordering.{Ordering}
use Rattle.std.specs.Ordering.{nat_cmp, is_lt, eq_by_cmp}
use Rattle.std.specs.Cmp.{nat_cmp_total}
use Rattle.std.specs.FinMap.{nat_cmp-IsAntisymmetric}
use Rattle.std.specs.FinMap.Entries.{put, find, is_sorted, is_sorted-put, length-put, below_all, same_entries}
use Rattle.std.proofs.Common.{sym, subst, ap, ◌∙◌, inl, inr}
use Rattle.std.proofs.lemmas.List.{length-map}
use Rattle.ll_rights.specs.declared.kind.Kind.{Kind}
use Rattle.ll_rights.specs.Map.{Map, checked, get, has, insert, remove, entries, len}
use Rattle.ll_rights.proofs.Sizes.{same_len}
use Rattle.ll_seq.specs.declared.facts.Fact.{Fact}
use Rattle.ll_seq.specs.declared.node.Node.{Node}
use Rattle.ll_seq.specs.State.{State, kind_of, names_in, name_count}
use Rattle.ll_seq.specs.Facts.{AreKept, open_count}

pub facts_len : (s : State) (facts : Map nat_cmp Fact) → AreKept s facts → len facts ≡ len s.nodes
facts_len s facts kept = same_len facts s.nodes (λ (f : Fact). f.kind) (λ (n : Node). n.kind)
    (λ q. ap (option_map (λ (f : Fact). f.kind)) (kept.told q) ∙ by q (kind_of s q))
  where
    by : (q : ℕ) (o : Option Kind)
        → option_map (λ (f : Fact). f.kind)
        (option_map (λ (kind : Kind).
        record { kind = kind; names = length (names_in s q); links = name_count s q; opens = open_count s q }) o) ≡ o
    by q None = refl
    by q (Some kind) = refl
