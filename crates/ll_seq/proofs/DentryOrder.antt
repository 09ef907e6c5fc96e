-- The order of places.
use Rattle.std.specs.Prelude.{◌≡◌, refl}
use Rattle.std.specs.declared.cmp.Ordering.{Ordering}
use Rattle.std.specs.declared.cmp.Ordering.TheVariants.{Less, Equal, Greater}
use Rattle.std.specs.Ordering.{nat_cmp, ordering_then}
use Rattle.std.specs.Cmp.{IsTotalOrder, nat_cmp_total}
use Rattle.std.specs.FinMap.{IsAntisymmetric, nat_cmp-IsAntisymmetric, slice_cmp-IsAntisymmetric}
use Rattle.std.specs.Cmp.Lexicographic.{nat_list_cmp_total, slice_cmp}
use Rattle.std.proofs.lemmas.Cmp.{on_total, then_total}
use Rattle.ll_seq.specs.declared.dentries.Dentry.{Dentry}
use Rattle.ll_seq.specs.State.{dentry_cmp}

pub dentry_total : IsTotalOrder dentry_cmp
dentry_total = then_total (on_total (λ (s : Dentry). s.directory) nat_cmp_total)
    (on_total (λ (s : Dentry). s.name) nat_list_cmp_total)

both_equal : (r s : Ordering) → ordering_then r s ≡ Equal → (r ≡ Equal) × (s ≡ Equal)
both_equal Less s e = cc
both_equal Equal s e = (refl, e)
both_equal Greater s e = cc

pub dentry_exact : IsAntisymmetric dentry_cmp
dentry_exact a b e =
    let parts = both_equal (nat_cmp a.directory b.directory) (slice_cmp nat_cmp a.name b.name) e in
    let directories = nat_cmp-IsAntisymmetric a.directory b.directory parts.0 in
    let names = slice_cmp-IsAntisymmetric nat_cmp-IsAntisymmetric a.name b.name parts.1 in
    λ i. record { directory = directories i; name = names i }
