-- A name taken from a directory, whether or not it was there.
use Rattle.std.specs.Prelude.{◌≡◌, ℕ, not, List, [], ◌∷◌, Option, Some, None, Result, Ok, Err, OnOk, OnErr, IfErr}
use Rattle.std.specs.Prelude.{is_some, refl}
use Rattle.std.specs.Cmp.Lexicographic.{nat_list_cmp_total}
use Rattle.std.proofs.Common.{sym, ap, ◌∙◌}
use Rattle.ll_rights.specs.declared.errno.Errno.{Errno}
use Rattle.ll_rights.specs.declared.errno.Errno.TheVariants.{ENOENT}
use Rattle.ll_rights.specs.Errno.{refuse}
use Rattle.ll_rights.specs.Map.{get, remove}
use Rattle.ll_seq.proofs.OrderedTables.{remove-absent}
use Rattle.ll_node.specs.Slot.{NameMap, Slot}
use Rattle.ll_node.specs.Refusals.{missing}
use Rattle.ll_node.proofs.NameTable.{names_exact}

none_there : (o : Option ℕ) (errno : Errno) → refuse (not (is_some o)) ENOENT ≡ errno ∷ [] → o ≡ None
none_there None errno refused = refl
none_there (Some inode) errno refused = cc

-- a name that isn't there is taken away with no change
pub removed_is : (done : Result ℕ Errno) (old new : Slot) (name : List ℕ)
    → OnOk done (new ≡ record old { names = remove old.names name })
    → IfErr done (λ errno. missing old.names name ≡ errno ∷ []) → OnErr done (new ≡ old)
    → new ≡ record old { names = remove old.names name }
removed_is (Ok inode) old new name ok refused err = ok
removed_is (Err errno) old new name ok refused err =
    err ∙ ap (λ (m : NameMap). record old { names = m })
    (sym (remove-absent nat_list_cmp_total names_exact old.names name
    (none_there (get old.names name) errno refused)))
