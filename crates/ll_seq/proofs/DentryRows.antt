-- Dentries by the place where their row stands.
use Rattle.std.specs.Prelude.{◌≡◌, ℕ, zero, suc, Bool, true, false, cond, T, ◌&&◌, List, [], ◌∷◌, Some, slice_get, refl}
use Rattle.std.specs.declared.cmp.Ordering.{Ordering}
use Rattle.std.specs.declared.cmp.Ordering.TheVariants.{Less, Equal, Greater}
use Rattle.std.specs.Ordering.{is_lt, is_eq, eq_by_cmp, ordering_reverse}
use Rattle.std.specs.Cmp.{IsTotalOrder, tied_itself}
use Rattle.std.specs.FinMap.{IsAntisymmetric}
use Rattle.std.specs.FinMap.Entries.{find, below_all, is_sorted}
use Rattle.std.proofs.Common.{ap, sym, ◌∙◌}
use Rattle.ll_rights.specs.Map.{get, entries}
use Rattle.ll_rights.proofs.Maps.{equal_at}
use Rattle.ll_seq.specs.declared.dentries.Dentry.{Dentry}
use Rattle.ll_seq.specs.State.{Name, State, child, dentry}
use Rattle.ll_seq.proofs.DentryOrder.{dentry_total, dentry_exact}

pub both : (a b : Bool) → T (a && b) → T a × T b
both true b h = (tt, h)
both false b h = absurd h

pub is_less : (r : Ordering) → T (is_lt r) → r ≡ Less
is_less Less h = refl
is_less Equal h = absurd h
is_less Greater h = absurd h

module _ {K X : Type 0} {R : K → K → Ordering} (o : IsTotalOrder R) (exact : IsAntisymmetric R) where
  -- what is found stands in a row
  pub row_of_found : (es : List (K × X)) (q : K) (x : X) → find R q es ≡ Some x → (i : ℕ)
      × (slice_get es i ≡ Some (q, x))
  row_of_found [] q x f = absurd (cc f)
  row_of_found (e ∷ es) q x f =
      elim (eq_by_cmp R q e.0) as (λ b. eq_by_cmp R q e.0 ≡ b → cond b (Some e.1) (find R q es) ≡ Some x → (i : ℕ)
      × (slice_get (e ∷ es) i ≡ Some (q, x))) [
        | true ↦ λ t g. let key : q ≡ e.0 = exact q e.0 (equal_at _ t) in let value : e.1 ≡ x = cc in
            (0, λ i. Some (sym key i, value i))
        | false ↦ λ t g. let rest = row_of_found es q x g in (suc rest.0, rest.1)
      ] refl f

  pub lower : (k : K) (es : List (K × X)) (i : ℕ) (row : K × X) → T (below_all R k es) → slice_get es i ≡ Some row
      → R k row.0 ≡ Less
  lower k [] i row h at = absurd (cc at)
  lower k (e ∷ es) zero row h at = let same : e ≡ row = cc in
      ap (λ (f : K × X). R k f.0) (sym same) ∙ is_less (R k e.0) (both (is_lt (R k e.0)) (below_all R k es) h).0
  lower k (e ∷ es) (suc i) row h at = lower k es i row (both (is_lt (R k e.0)) (below_all R k es) h).1 at

  -- and what stands in a row is found
  pub found_of_row : (es : List (K × X)) (i : ℕ) (row : K × X) → T (is_sorted R es) → slice_get es i ≡ Some row
      → find R row.0 es ≡ Some row.1
  found_of_row [] i row h at = absurd (cc at)
  found_of_row (e ∷ es) zero row h at =
      let same : e ≡ row = cc in
      ap (λ (f : K × X). cond (is_eq (R row.0 f.0)) (Some f.1) (find R row.0 es)) same
      ∙ ap (λ r. cond (is_eq r) (Some row.1) (find R row.0 es)) (tied_itself o row.0)
  found_of_row (e ∷ es) (suc i) row h at =
      let parts = both (below_all R e.0 es) (is_sorted R es) h in
      let after : R row.0 e.0 ≡ Greater = o.antisymm row.0 e.0 ∙ ap ordering_reverse (lower e.0 es i row parts.0 at) in
      ap (λ r. cond (is_eq r) (Some e.1) (find R row.0 es)) after ∙ found_of_row es i row parts.1 at

pub row_of_child : (s : State) (d : ℕ) (name : Name) (x : ℕ) → child s d name ≡ Some x → (i : ℕ)
    × (slice_get (entries s.entries) i ≡ Some (dentry d name, x))
unfolding get entries
row_of_child s d name x is = row_of_found dentry_total dentry_exact s.entries.list (dentry d name) x is

pub child_of_row : (s : State) (i : ℕ) (row : Dentry × ℕ) → slice_get (entries s.entries) i ≡ Some row
    → child s row.0.directory row.0.name ≡ Some row.1
unfolding get entries
child_of_row s i row at = found_of_row dentry_total dentry_exact s.entries.list i row s.entries.sorted at
