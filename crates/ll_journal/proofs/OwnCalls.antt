-- Which calls are for the client alone.
use Rattle.std.specs.Prelude.{◌≡◌, Bool, true, false, not, ◌&&◌, List, [], ◌∷◌, Option, Some, None, option_map}
use Rattle.std.specs.Prelude.{slice_get, refl}
use Rattle.std.proofs.Common.{sym, subst, ◌∙◌}
use Rattle.ll_rights.specs.declared.errno.Errno.{Errno}
use Rattle.ll_seq.specs.declared.call.Call.{Call}
use Rattle.ll_seq.specs.declared.client.ClientRecord.{ClientRecord}
use Rattle.ll_seq.specs.Call.{targets}
use Rattle.ll_seq.specs.History.{is_connect}
use Rattle.ll_laws.specs.World.{has_any, is_on_descriptor, is_alone}
use Rattle.ll_seq.specs.Stages.{early_refusals}
use Rattle.ll_journal.specs.declared.alone.Own.{Own}
use Rattle.ll_journal.specs.declared.alone.Own.TheVariants.{OnRecord}
use Rattle.ll_journal.specs.declared.alone.RecordCall.TheVariants.{Refused}
use Rattle.ll_journal.specs.Own.{IsOwn}

none_first : {A : Type 0} (es : List A) → None ≡ slice_get es 0 → has_any es ≡ false
none_first [] e = refl
none_first (x ∷ es) e = absurd (cc e)

some_first : {A : Type 0} (es : List A) (x : A) → Some x ≡ slice_get es 0 → has_any es ≡ true
some_first [] x e = absurd (cc e)
some_first (y ∷ es) x e = refl

-- a call that names a path is, where an early stage refuses it
pub by_path : (c : ClientRecord) (call : Call) (early : Option Errno) (result : Option Own)
    → has_any (targets call) ≡ true → is_connect call ≡ false → is_on_descriptor c call ≡ false
    → early ≡ slice_get (early_refusals c call) 0 → result ≡ option_map (λ errno. OnRecord (Refused errno)) early
    → IsOwn c call result
by_path c call early result named connect fd found is = subst (IsOwn c call) (sym is) (by early found)
  where
    alone : is_alone c call ≡ has_any (early_refusals c call)
    alone = (λ i. not (connect i) && not (named i && not (has_any (early_refusals c call))) && not (fd i))
        ∙ plain (has_any (early_refusals c call))
      where
        plain : (b : Bool) → (not false && not (true && not b) && not false) ≡ b
        plain true = refl
        plain false = refl

    by : (o : Option Errno) → o ≡ slice_get (early_refusals c call) 0
        → IsOwn c call (option_map (λ errno. OnRecord (Refused errno)) o)
    by None e = alone ∙ none_first (early_refusals c call) e
    by (Some errno) e = (alone ∙ some_first (early_refusals c call) errno e, sym e)
