-- What lists a directory tells each name in it.
use Rattle.std.specs.Prelude.{◌≡◌, ◌==◌, ℕ, zero, suc, Bool, true, false, List, [], ◌∷◌, ◌++◌, Some, filter, map}
use Rattle.std.specs.Prelude.{refl, slice_get}
use Rattle.std.specs.List.{AllByRecursion}
use Rattle.std.proofs.Common.{ap, cond, sym, ◌∙◌}
use Rattle.std.proofs.lemmas.Bool.{eq-eqb}
use Rattle.ll_rights.specs.Map.{entries}
use Rattle.ll_seq.specs.declared.call.Call.TheVariants.{ReadDir}
use Rattle.ll_seq.specs.declared.client.ClientRecord.{ClientRecord}
use Rattle.ll_seq.specs.declared.call.Call.{Call}
use Rattle.ll_seq.specs.declared.dentries.Dentry.{Dentry}
use Rattle.ll_seq.specs.declared.reply.Reply.{Reply}
use Rattle.ll_seq.specs.declared.reply.Reply.TheVariants.{Denied, Listed, Refused}
use Rattle.ll_rights.specs.declared.errno.Errno.{Errno}
use Rattle.ll_path.specs.Path.{Path, path_of_text, path_refusals}
use Rattle.ll_path.specs.Target.{IsTarget}
use Rattle.ll_path.specs.declared.target.Target.{Target}
use Rattle.ll_path.specs.declared.target.Target.TheVariants.{Bad, Good}
use Rattle.ll_seq.specs.Asked.{call_denials}
use Rattle.ll_seq.specs.Call.{first_path, path_of, second_path}
use Rattle.ll_seq.specs.Effects.{effect}
use Rattle.ll_seq.specs.Stages.{number_refusals, relation_refusals, stages, text_refusals, walk_refusals}
use Rattle.ll_seq.specs.State.{Name, State, child, dentry, names_in, new_client}
use Rattle.ll_seq.specs.Step.{client_of, first_or, refusals, step}
use Rattle.ll_seq.specs.Tree.{inode_of}
use Rattle.ll_seq.proofs.DentryRows.{row_of_child}
use Rattle.ll_plain.specs.Refusal.{is_refusal}

-- an element that passes is among those that do
passed : {A B : Type 0} (p : A → Bool) (f : A → B) (xs : List A) (i : ℕ) (x : A) → slice_get xs i ≡ Some x
    → p x ≡ true → (k : ℕ) × (slice_get (map f (filter p xs)) k ≡ Some (f x))
passed p f [] i x at e = absurd (cc at)
passed p f (y ∷ xs) zero x at e =
    let same : y ≡ x = cc in
    let so : p y ≡ true = ap p same ∙ e in
    (0, ap (λ b. slice_get (map f (cond b (y ∷ filter p xs) (filter p xs))) 0) so ∙ ap (λ z. Some (f z)) same)
passed {A} {B} p f (y ∷ xs) (suc i) x at e = by (p y) (passed p f xs i x at e)
  where
    by : (b : Bool) → (k : ℕ) × (slice_get (map f (filter p xs)) k ≡ Some (f x))
        → (k : ℕ) × (slice_get (map f (cond b (y ∷ filter p xs) (filter p xs))) k ≡ Some (f x))
    by true there = (suc there.0, there.1)
    by false there = there

-- a child's name is among the directory's
pub listed : (s : State) (directory : ℕ) (name : Name) (inode : ℕ) → child s directory name ≡ Some inode
    → (k : ℕ) × (slice_get (names_in s directory) k ≡ Some name)
listed s directory name inode is =
    let row = row_of_child s directory name inode is in
    passed (λ (e : Dentry × ℕ). e.0.directory == directory) (λ (e : Dentry × ℕ). e.0.name) (entries s.entries) row.0
    (dentry directory name, inode) row.1 (eq-eqb directory directory refl)

-- ---- replies

abbrev AreRefusals : List Reply → Type 0
AreRefusals = AllByRecursion (λ r. is_refusal r ≡ true)

both : (xs ys : List Reply) → AreRefusals xs → AreRefusals ys → AreRefusals (xs ++ ys)
both [] ys first second = second
both (x ∷ xs) ys first second = (first.0, both xs ys first.1 second)

each : {A : Type 0} (f : A → Reply) (xs : List A) → ((x : A) → is_refusal (f x) ≡ true) → AreRefusals (map f xs)
each f [] are = tt
each f (x ∷ xs) are = (are x, each f xs are)

are_refusals : (s : State) (c : ClientRecord) (call : Call) → AreRefusals (refusals s c call)
are_refusals s c call =
    let at = first_path call in
    let new = second_path call in
    both _ _ (both _ _ (both _ _ (both _ _ (both _ _ (both _ _ (both _ _
    (each Refused (text_refusals call) (λ x. refl)) (each Refused (number_refusals c call) (λ x. refl)))
    (each Refused (relation_refusals call at new) (λ x. refl))) (each Refused (walk_refusals s call) (λ x. refl)))
    (each Refused (stages s new_client at new call).existence (λ x. refl)))
    (each Denied (call_denials s c call) (λ x. refl))) (each Refused (stages s c at new call).kinds (λ x. refl)))
    (each Refused (stages s c at new call).limits (λ x. refl))

told : (s t : State) (replies : List Reply) (names : List Name) (outcome : Reply × State) → AreRefusals replies
    → ◌≡◌ {A = Reply × State} (Listed names, t) (first_or s replies outcome) → Listed names ≡ outcome.0
told s t [] names outcome are e = ap (λ (o : Reply × State). o.0) e
told s t (reply ∷ replies) names outcome are e =
    let same : Listed names ≡ reply = ap (λ (o : Reply × State). o.0) e in
    absurd (cc (ap is_refusal same ∙ are.0))

-- a call that lists a directory tells the names in it
pub listing_is : (s t : State) (number fresh : ℕ) (target : Target) (names : List Name)
    → ◌≡◌ {A = Reply × State} (Listed names, t) (step s number (ReadDir target) fresh)
    → names ≡ names_in s (inode_of s (path_of target))
listing_is s t number fresh target names e =
    let c = client_of s number in
    let same : Listed names ≡ Listed (names_in s (inode_of s (path_of target))) =
    told s t (refusals s c (ReadDir target)) names
    (effect s number c (path_of target) (second_path (ReadDir target)) fresh (ReadDir target))
    (are_refusals s c (ReadDir target)) e in
    cc

-- a text that spells a path is read as it
pub target_is : (text : List ℕ) (target : Target) (path : Path) → IsTarget text target → path_refusals text ≡ []
    → path ≡ path_of_text text → path_of target ≡ path
target_is text (Good read) path is none e = is.1 ∙ sym e
target_is text (Bad bad) path is none e =
    absurd (cc (sym (ap (λ (errnos : List Errno). slice_get errnos 0) none) ∙ is.1))
