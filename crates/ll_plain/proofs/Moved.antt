-- Names that move.
use Rattle.std.specs.Prelude.{◌≡◌, ◌≢◌, ℕ, Bool, true, false, Option, Some, None, cond, refl}
use Rattle.std.specs.Option.{option_map_or}
use Rattle.std.specs.Ordering.{eq_by_cmp}
use Rattle.std.proofs.Common.{ap, ◌∙◌}
use Rattle.ll_rights.specs.Map.{Map, get, insert, remove}
use Rattle.ll_rights.proofs.Maps.{get-insert}
use Rattle.ll_seq.specs.declared.dentries.Dentry.{Dentry}
use Rattle.ll_seq.specs.State.{State, dentry_cmp}
use Rattle.ll_seq.specs.Effects.{with_name, with_moved}
use Rattle.ll_seq.proofs.DentryOrder.{dentry_total, dentry_exact}
use Rattle.ll_seq.proofs.OrderedTables.{two_keys, remove-insert_other, instead}

pub moved_name : (a s : State) (old new : Dentry) (inode : ℕ) (left : Map dentry_cmp ℕ) → a ≡ with_name s new inode
    → get s.entries old ≡ Some inode → get s.entries new ≡ None
    → left ≡ remove a.entries old → record a { entries = left } ≡ with_moved s old new inode
moved_name a s old new inode left is there missing rest =
    ap (λ m. record a { entries = m }) (rest ∙ ap (λ (z : State). remove z.entries old) is
    ∙ remove-insert_other dentry_total dentry_exact s.entries new old inode
    (two_keys s.entries new old None (Some inode) missing there (λ e. cc)))
    ∙ ap (λ (z : State). record z { entries = insert (remove s.entries old) new inode }) is

other_some : (x y : ℕ) → x ≢ y → ◌≡◌ {A = Option ℕ} (Some y) (Some x) → ⊥
other_some x y differ e = differ cc

pub moved_over : (a s : State) (old new : Dentry) (inode replaced : ℕ) (over left : Map dentry_cmp ℕ) → a ≡ s
    → get s.entries old ≡ Some inode → get s.entries new ≡ Some replaced → inode ≢ replaced
    → over ≡ instead a.entries new inode → left ≡ remove over old
    → record a { entries = left } ≡ with_moved s old new inode
moved_over a s old new inode replaced over left is there other differ put rest =
    let over_is : over ≡ insert s.entries new inode =
    put ∙ ap (λ (z : State). instead z.entries new inode) is
    ∙ ap (λ o. option_map_or (λ (j : ℕ). insert s.entries new inode) o s.entries) other in
    ap (λ m. record a { entries = m }) (rest ∙ ap (λ m. remove m old) over_is
    ∙ remove-insert_other dentry_total dentry_exact s.entries new old inode
    (two_keys s.entries new old (Some replaced) (Some inode) other there (other_some inode replaced differ)))
    ∙ ap (λ (z : State). record z { entries = insert (remove s.entries old) new inode }) is

-- a place that has a name has one after another place gets one
stays_there : (b : Bool) (x : ℕ) (o : Option ℕ) (m w : Map dentry_cmp ℕ) (y : ℕ) → o ≡ Some y
    → option_map_or (λ (old : ℕ). w) (cond b (Some x) o) m ≡ w
stays_there true x o m w y e = refl
stays_there false x o m w y e = ap (λ p. option_map_or (λ (old : ℕ). w) p m) e

pub exchanged_names : (a s : State) (old new : Dentry) (inode other : ℕ) (over left : Map dentry_cmp ℕ) → a ≡ s
    → get s.entries old ≡ Some inode → get s.entries new ≡ Some other
    → over ≡ instead a.entries new inode → left ≡ instead over old other
    → record a { entries = left } ≡ with_name (with_name s new inode) old other
exchanged_names a s old new inode other over left is there beside put rest =
    let over_is : over ≡ insert s.entries new inode =
    put ∙ ap (λ (z : State). instead z.entries new inode) is
    ∙ ap (λ o. option_map_or (λ (j : ℕ). insert s.entries new inode) o s.entries) beside in
    ap (λ m. record a { entries = m })
    (rest ∙ ap (λ m. instead m old other) over_is
    ∙ ap (λ o. option_map_or (λ (j : ℕ). insert (insert s.entries new inode) old other) o (insert s.entries new inode))
    (get-insert dentry_total dentry_exact s.entries new inode old)
    ∙ stays_there (eq_by_cmp dentry_cmp old new) inode (get s.entries old) (insert s.entries new inode)
    (insert (insert s.entries new inode) old other) inode there)
    ∙ ap (λ (z : State). record z { entries = insert (insert s.entries new inode) old other }) is
