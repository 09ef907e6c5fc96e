-- Maps that answer alike, by what is told of their values, and client records that are alike but for their layers.
use Rattle.std.specs.Prelude.{◌≡◌, ℕ, Bool, true, false, cond, not, T, ◌&&◌, ◌||◌, ◌==◌, List, [], ◌∷◌, ◌++◌, Option}
use Rattle.std.specs.Prelude.{None, Some, find, is_none, is_some, option_map, refl}
use Rattle.std.specs.List.{list_any}
use Rattle.std.specs.Option.{option_map_or}
use Rattle.std.specs.Ordering.{nat_cmp, is_lt, eq_by_cmp}
use Rattle.std.specs.Cmp.{nat_cmp_total}
use Rattle.std.specs.FinMap.{nat_cmp-IsAntisymmetric}
use Rattle.std.specs.FinMap.Entries as entries_of
use Rattle.std.specs.FinMap.Entries.{is_sorted, below_all, same_entries}
use Rattle.std.proofs.Common.{sym, subst, ap, ◌∙◌}
use Rattle.ll_rights.specs.declared.limits.TheConstants.{CLIENT_DESCRIPTORS}
use Rattle.ll_rights.specs.declared.errno.Errno.{Errno}
use Rattle.ll_rights.specs.declared.errno.Errno.TheVariants.{EBADF}
use Rattle.ll_rights.specs.Errno.{refuse}
use Rattle.ll_rights.specs.Map.{Map, get, entries}
use Rattle.ll_seq.specs.declared.client.ClientRecord.{ClientRecord}
use Rattle.ll_seq.specs.declared.client.Descriptor.{Descriptor}
use Rattle.ll_seq.specs.Effects.{inode_at}
use Rattle.ll_seq.specs.Stages.{without, lowest_free, numbers_from, no_ruleset, ruleset_at}

-- ---- maps

module _ {X : Type 0} (f : X → Bool) where
  abbrev told : List (ℕ × X) → List (ℕ × Bool)
  told [] = []
  told (e ∷ es) = (e.0, f e.1) ∷ told es

  below_told : (k : ℕ) (es : List (ℕ × X)) → below_all nat_cmp k (told es) ≡ below_all nat_cmp k es
  below_told k [] = refl
  below_told k (e ∷ es) = ap (λ b. is_lt (nat_cmp k e.0) && b) (below_told k es)

  sorted_told : (es : List (ℕ × X)) → is_sorted nat_cmp (told es) ≡ is_sorted nat_cmp es
  sorted_told [] = refl
  sorted_told (e ∷ es) = (λ i. below_told e.0 es i && is_sorted nat_cmp (told es))
      ∙ ap (λ b. below_all nat_cmp e.0 es && b) (sorted_told es)

  find_told : (q : ℕ) (es : List (ℕ × X))
      → entries_of.find nat_cmp q (told es) ≡ option_map f (entries_of.find nat_cmp q es)
  find_told q [] = refl
  find_told q (e ∷ es) = elim (eq_by_cmp nat_cmp q e.0) as
      (λ b. cond b (Some (f e.1)) (entries_of.find nat_cmp q (told es))
      ≡ option_map f (cond b (Some e.1) (entries_of.find nat_cmp q es)))
      [ true ↦ refl | false ↦ find_told q es ]

  any_told : (es : List (ℕ × X)) → list_any (λ (e : ℕ × Bool). e.1) (told es) ≡ list_any (λ (e : ℕ × X). f e.1) es
  any_told [] = refl
  any_told (e ∷ es) = ap (λ b. f e.1 || b) (any_told es)

  -- a value of which it holds is in both or in neither
  pub any_same : (m n : Map nat_cmp X) → ((q : ℕ) → option_map f (get m q) ≡ option_map f (get n q))
      → list_any (λ (e : ℕ × X). f e.1) (entries m) ≡ list_any (λ (e : ℕ × X). f e.1) (entries n)
  unfolding get entries
  any_same m n same =
      sym (any_told m.list)
      ∙ ap (list_any (λ (e : ℕ × Bool). e.1)) (same_entries nat_cmp nat_cmp_total nat_cmp-IsAntisymmetric
      (told m.list) (told n.list)
      (subst T (sym (sorted_told m.list)) m.sorted) (subst T (sym (sorted_told n.list)) n.sorted)
      (λ q. find_told q m.list ∙ same q ∙ sym (find_told q n.list)))
      ∙ any_told n.list

-- ---- descriptors

-- but for what its opening kept
abbrev pub plain : Descriptor → Descriptor
plain d = record d { kept = None }

abbrev pub Same : Option Descriptor → Option Descriptor → Type 0
Same o p = option_map plain p ≡ option_map plain o

-- what doesn't look at what is kept is the same
pub same_of : {Z : Type 0} (f : Descriptor → Z) (z : Z) (o p : Option Descriptor) → Same o p
    → option_map_or (λ (d : Descriptor). f (plain d)) p z ≡ option_map_or (λ (d : Descriptor). f (plain d)) o z
same_of {Z} f z o p e = sym (by p) ∙ ap (λ q. option_map_or f q z) e ∙ by o
  where
    by : (q : Option Descriptor)
        → option_map_or f (option_map plain q) z ≡ option_map_or (λ (d : Descriptor). f (plain d)) q z
    by None = refl
    by (Some d) = refl

pub same_map_of : {Z : Type 0} (f : Descriptor → Z) (o p : Option Descriptor) → Same o p
    → option_map (λ (d : Descriptor). f (plain d)) p ≡ option_map (λ (d : Descriptor). f (plain d)) o
same_map_of {Z} f o p e = sym (by p) ∙ ap (option_map f) e ∙ by o
  where
    by : (q : Option Descriptor) → option_map f (option_map plain q) ≡ option_map (λ (d : Descriptor). f (plain d)) q
    by None = refl
    by (Some d) = refl

pub same_none : (o p : Option Descriptor) → Same o p → is_none p ≡ is_none o
same_none o p e = sym (by p) ∙ ap is_none e ∙ by o
  where
    by : (q : Option Descriptor) → is_none (option_map plain q) ≡ is_none q
    by None = refl
    by (Some d) = refl

pub same_some : (o p : Option Descriptor) → Same o p → is_some p ≡ is_some o
same_some o p e = sym (by p) ∙ ap is_some e ∙ by o
  where
    by : (q : Option Descriptor) → is_some (option_map plain q) ≡ is_some q
    by None = refl
    by (Some d) = refl

-- ---- client records

-- but for their layers and for what openings kept
pub record AreAlike (c d : ClientRecord) : Type 0 where
  pub rulesets : d.rulesets ≡ c.rulesets
  pub files : (fd : ℕ) → Same (get c.descriptors fd) (get d.descriptors fd)

pub alike_itself : (c : ClientRecord) → AreAlike c c
alike_itself c = record { rulesets = refl; files = λ fd. refl }

-- a client has the inode open
abbrev pub has_open : ℕ → ClientRecord → Bool
has_open inode c = list_any (λ (d : ℕ × Descriptor). d.1.inode == inode) (entries c.descriptors)

module _ (c d : ClientRecord) (a : AreAlike c d) where
  pub open_same : (inode : ℕ) → has_open inode d ≡ has_open inode c
  open_same inode = any_same (λ (e : Descriptor). e.inode == inode) d.descriptors c.descriptors
      (λ fd. same_map_of (λ (e : Descriptor). e.inode == inode) _ _ (a.files fd))

  pub lowest_same : lowest_free d.descriptors ≡ lowest_free c.descriptors
  lowest_same i = find (λ fd. not (same_some (get c.descriptors fd) (get d.descriptors fd) (a.files fd) i))
      (numbers_from 0 CLIENT_DESCRIPTORS)

  pub inode_same : (fd : ℕ) → inode_at d fd ≡ inode_at c fd
  inode_same fd = same_of (λ (e : Descriptor). e.inode) 0 _ _ (a.files fd)

  pub none_same : (fd : ℕ) → is_none (get d.descriptors fd) ≡ is_none (get c.descriptors fd)
  none_same fd = same_none _ _ (a.files fd)

  pub without_same : (fd : ℕ) (allows : Descriptor → Bool) (errno : Errno)
      → without d fd (λ e. allows (plain e)) errno ≡ without c fd (λ e. allows (plain e)) errno
  without_same fd allows errno =
      ap (λ b. refuse b EBADF
      ++ refuse (not (option_map_or (λ (e : Descriptor). allows (plain e)) (get d.descriptors fd) true)) errno)
      (none_same fd)
      ∙ ap (λ b. refuse (is_none (get c.descriptors fd)) EBADF ++ refuse (not b) errno)
      (same_of allows true _ _ (a.files fd))

  pub ruleset_same : (number : ℕ) → ruleset_at d number ≡ ruleset_at c number
  ruleset_same number = ap (λ rs. ruleset_at (record c { rulesets = rs }) number) a.rulesets

  pub no_ruleset_same : (number : ℕ) → no_ruleset d number ≡ no_ruleset c number
  no_ruleset_same number = ap (λ rs. no_ruleset (record c { rulesets = rs }) number) a.rulesets
