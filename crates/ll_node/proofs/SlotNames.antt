-- Maps of names: none in what is no directory, and a name in the place of another.
use Rattle.std.specs.Prelude.{◌≡◌, ℕ, false, not, List, [], ◌∷◌, map, Option, Some, None, is_some, refl}
use Rattle.std.specs.Ordering.{nat_cmp}
use Rattle.std.specs.Option.{option_map_or}
use Rattle.std.specs.Cmp.Lexicographic.{slice_cmp, nat_list_cmp_total}
use Rattle.std.proofs.Common.{sym, ap, ◌∙◌}
use Rattle.ll_rights.specs.declared.errno.Errno.TheVariants.{ENOENT}
use Rattle.ll_rights.specs.Errno.{refuse}
use Rattle.ll_rights.specs.Map.{empty, get, has, insert, remove, entries}
use Rattle.ll_rights.proofs.Maps.{get-empty}
use Rattle.ll_seq.proofs.OrderedTables.{two_keys, remove-insert_other}
use Rattle.ll_node.specs.Slot.{NameMap, renamed}
use Rattle.ll_node.specs.Refusals.{missing}
use Rattle.ll_node.proofs.NameTable.{names_exact}

pub no_names : (names : NameMap) → empty ≡ names → [] ≡ map (λ (e : List ℕ × ℕ). e.0) (entries names)
unfolding empty entries
no_names names none = ap (λ (m : NameMap). map (λ (e : List ℕ × ℕ). e.0) (entries m)) none

pub none_under : (names : NameMap) (name : List ℕ) → empty ≡ names → None ≡ get names name
none_under names name none = sym (get-empty ℕ (slice_cmp nat_cmp) name) ∙ ap (λ (m : NameMap). get m name) none

-- what isn't found is missing
pub missing_is : (names : NameMap) (name : List ℕ) → None ≡ get names name → missing names name ≡ ENOENT ∷ []
missing_is names name none = ap (λ o. refuse (not (is_some o)) ENOENT) (sym none)

absent : (o : Option ℕ) → is_some o ≡ false → o ≡ None
absent None e = refl
absent (Some inode) e = cc

-- the new name put in and the old one taken out
pub renamed_is : (names after : NameMap) (old new : List ℕ) (inode : ℕ) → get names old ≡ Some inode
    → has names new ≡ false → after ≡ remove (insert names new inode) old → after ≡ renamed names old new
renamed_is names after old new inode there free is =
    is
    ∙ remove-insert_other nat_list_cmp_total names_exact names new old inode
    (two_keys names new old None (Some inode) (absent (get names new) free) there (λ e. cc))
    ∙ sym (ap (λ o. option_map_or (λ (i : ℕ). insert (remove names old) new i) o names) there)
