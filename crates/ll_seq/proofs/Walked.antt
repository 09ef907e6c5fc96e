-- A free way, and what has passed where no stage before policy refuses.
use Rattle.std.specs.Prelude.{◌≡◌, ℕ, true, is_some, is_none, List, [], ◌∷◌, ◌++◌, Option, Some, None, slice_get, refl}
use Rattle.std.specs.List.{flat_map}
use Rattle.std.proofs.Common.{ap, subst, sym, ◌∙◌}
use Rattle.std.proofs.lemmas.List.{append_assoc}
use Rattle.ll_rights.specs.declared.errno.Errno.{Errno}
use Rattle.ll_rights.specs.declared.errno.Errno.TheVariants.{ENOENT}
use Rattle.ll_rights.specs.Errno.{refuse}
use Rattle.ll_path.specs.Path.{Path, parent}
use Rattle.ll_path.specs.declared.target.Target.{Target}
use Rattle.ll_seq.specs.Call.{first_of, second_of, first_path, second_path, targets}
use Rattle.ll_seq.specs.declared.call.Call.{Call}
use Rattle.ll_seq.specs.declared.call.Call.TheVariants.{Make, Open, Read, Write, Ftruncate, Close, Truncate, ReadDir}
use Rattle.ll_seq.specs.declared.call.Call.TheVariants.{Stat, Exec, Unlink, Rmdir, Rename, RenameNoreplace, Exchange}
use Rattle.ll_seq.specs.declared.call.Call.TheVariants.{Link, Ruleset, Allow, Confine, Spawn, Connect}
use Rattle.ll_seq.specs.declared.client.ClientRecord.{ClientRecord}
use Rattle.ll_seq.specs.Stages.{in_the_way, way_to, missing, present, text_refusals, number_refusals, relation_refusals}
use Rattle.ll_seq.specs.Stages.{walk_refusals}
use Rattle.ll_seq.specs.CallParts.{existence_refusals}
use Rattle.ll_seq.specs.State.{State, root}
use Rattle.ll_seq.specs.Tree.{named}
use Rattle.ll_seq.specs.declared.found.Found.{Found}
use Rattle.ll_seq.specs.Found.{AreFacts, Stands}
use Rattle.ll_seq.specs.Passed.{before_policy, found_refusals, Exist, IsThere, Passed, IsFree}
use Rattle.ll_seq.specs.Stages.{early_refusals}

pub one_free : {A : Type 0} (xs ys : List A) → xs ++ ys ≡ [] → xs ≡ []
one_free [] ys e = refl
one_free (x ∷ xs) ys e = absurd cc

pub other_free : {A : Type 0} (xs ys : List A) → xs ++ ys ≡ [] → ys ≡ []
other_free [] ys e = e
other_free (x ∷ xs) ys e = absurd cc

-- what comes after no refusal
pub after_none : (ones others : List Errno) (other : Option Errno) → slice_get ones 0 ≡ None
    → (ones ≡ [] → other ≡ slice_get others 0)
    → other ≡ slice_get (ones ++ others) 0
after_none [] others other none then = then refl
after_none (x ∷ ones) others other none then = absurd cc

pub first_way : (s : State) (words : List Target) → flat_map (way_to s) words ≡ []
    → in_the_way s (parent (first_of words)) root ≡ []
first_way s [] e = refl
first_way s (word ∷ words) e = one_free (way_to s word) _ e

pub second_way : (s : State) (words : List Target) → flat_map (way_to s) words ≡ []
    → in_the_way s (parent (second_of words)) root ≡ []
second_way s [] e = refl
second_way s (word ∷ []) e = one_free (way_to s word) _ e
second_way s (old ∷ (new ∷ words)) e = one_free (way_to s new) _ (other_free (way_to s old) _ e)

-- where no way is blocked, both last names stand as they are found
module _ (s : State) (call : Call) (found : Found) (facts : AreFacts s call found) (free : walk_refusals s call ≡ [])
  where
    pub first_stands : Stands s (first_path call) found.first
    first_stands = facts.first.stands (facts.first.way ∙ ap (λ l. slice_get l 0) (first_way s (targets call) free))

    pub second_stands : Stands s (second_path call) found.second
    second_stands = facts.second.stands (facts.second.way ∙ ap (λ l. slice_get l 0) (second_way s (targets call) free))

some_there : (o : Option ℕ) → refuse (is_none o) ENOENT ≡ [] → is_some o ≡ true
some_there None e = absurd cc
some_there (Some x) e = refl

needed : (s : State) (p : Path) → missing s p ≡ [] → IsThere s p
needed s p e = some_there (named s p) e

exist : (s : State) (call : Call) (at new : Path) → existence_refusals s call at new ≡ [] → Exist s call at new
exist s (Make kind t) at new e = tt
exist s (Open mode t) at new e = tt
exist s (Read n o c) at new e = tt
exist s (Write n o b) at new e = tt
exist s (Ftruncate n z) at new e = tt
exist s (Close n) at new e = tt
exist s (Truncate t z) at new e = needed s at e
exist s (ReadDir t) at new e = needed s at e
exist s (Stat t) at new e = needed s at e
exist s (Exec t) at new e = needed s at e
exist s (Unlink t) at new e = needed s at e
exist s (Rmdir t) at new e = needed s at e
exist s (Rename from into) at new e = needed s at e
exist s (RenameNoreplace from into) at new e = needed s at (one_free (missing s at) (present s new) e)
exist s (Exchange from into) at new e = (
  needed s at (one_free (missing s at) (missing s new) e),
  needed s new (other_free (missing s at) (missing s new) e),
)
exist s (Link from into) at new e = needed s at (one_free (missing s at) (present s new) e)
exist s (Ruleset r) at new e = tt
exist s (Allow n t r) at new e = needed s at e
exist s (Confine n) at new e = tt
exist s Spawn at new e = tt
exist s Connect at new e = tt

pub all_passed : (s : State) (c : ClientRecord) (call : Call) (found : Found) → AreFacts s call found
    → before_policy s c call ≡ [] → Passed s c call found
all_passed s c call found facts free =
    let at = first_path call in
    let new = second_path call in
    let numbers = other_free (text_refusals call) _ free in
    let lying = other_free (number_refusals c call) _ numbers in
    let walk = other_free (relation_refusals call at new) _ lying in
    let way = one_free (walk_refusals s call) (existence_refusals s call at new) walk in
    let existence = other_free (walk_refusals s call) (existence_refusals s call at new) walk in
    record {
      first = first_stands s call found facts way;
      second = second_stands s call found facts way;
      full = facts.full;
      exist = exist s call at new existence;
      numbers = one_free (number_refusals c call) _ numbers;
      lying = one_free (relation_refusals call at new) _ lying;
      way = way;
      existence = existence;
    }

pub passed_at : (s : State) (c : ClientRecord) (call same : Call) (found : Found) → call ≡ same → Passed s c call found
    → Passed s c same found
passed_at s c call same found is = subst (λ (z : Call). Passed s c z found) is

pub free_at : (s : State) (c : ClientRecord) (call same : Call) (found : Found) → call ≡ same → IsFree s c call found
    → IsFree s c same found
free_at s c call same found is = subst (λ (z : Call). IsFree s c z found) is

-- ---- early refusals, and those by what is found

pub in_order : (s : State) (c : ClientRecord) (call : Call)
    → early_refusals c call ++ found_refusals s call ≡ before_policy s c call
in_order s c call =
    let text = text_refusals call in
    let number = number_refusals c call in
    let lying = relation_refusals call (first_path call) (second_path call) in
    append_assoc (text ++ number) lying (found_refusals s call)
    ∙ append_assoc text number (lying ++ found_refusals s call)

-- where no early stage refuses it
pub after_early : (s : State) (c : ClientRecord) (call : Call) → early_refusals c call ≡ []
    → before_policy s c call ≡ found_refusals s call
after_early s c call e = sym (in_order s c call) ∙ ap (λ es. es ++ found_refusals s call) e

pub first_kept : {A : Type 0} (xs ys : List A) (x : A) → slice_get xs 0 ≡ Some x → slice_get (xs ++ ys) 0 ≡ Some x
first_kept [] ys x e = absurd (cc e)
first_kept (y ∷ xs) ys x e = e
