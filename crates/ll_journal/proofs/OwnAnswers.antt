-- What the sequential step answers where a client calls for itself.
use Rattle.std.specs.Prelude.{◌≡◌, ◌≢◌, ℕ, ◌+◌, Bool, true, false, List, [], ◌∷◌, ◌++◌, map, length, zero, suc, ◌<◌}
use Rattle.std.specs.Prelude.{not, Option, Some, None, Result, Ok, Err, IfOk, OnErr, nat_le, is_none, is_some}
use Rattle.std.specs.Prelude.{unwrap_or, slice_get, refl}
use Rattle.std.specs.declared.alloc.AllocError.{AllocError}
use Rattle.std.specs.Borrow.{Bor}
use Rattle.std.specs.Option.{option_copied}
use Rattle.std.specs.Cmp.{nat_cmp_total}
use Rattle.std.specs.FinMap.{nat_cmp-IsAntisymmetric}
use Rattle.std.specs.List.{flat_map, enumerate_from}
use Rattle.std.proofs.Common.{sym, subst, arith, ap, ◌∙◌, inl, inr}
use Rattle.std.proofs.lemmas.Bool.{false≢true}
use Rattle.ll_rights.specs.declared.errno.Errno.{Errno}
use Rattle.ll_rights.specs.declared.errno.Errno.TheVariants.{E2BIG, EBADF, EINVAL, EMFILE, ENOMSG, NoMemory}
use Rattle.ll_rights.specs.declared.limits.TheConstants.{CLIENT_RULESETS, TREE_CLIENTS}
use Rattle.ll_rights.specs.declared.access.Access.{Access}
use Rattle.ll_rights.specs.Access.{is_within, known_set}
use Rattle.ll_rights.specs.Errno.{refuse}
use Rattle.ll_rights.specs.MapCodes.{same_list_map}
use Rattle.ll_rights.specs.Map.{get, insert, len}
use Rattle.ll_rights.proofs.Maps.{insert_cases, same_map}
use Rattle.ll_rules.specs.Layer.{Layer}
use Rattle.ll_rules.specs.Rules.{create_refusals, new_ruleset, layer_limit}
use Rattle.ll_decide.specs.declared.denial.Denial.{Denial}
use Rattle.ll_decide.specs.Verdict.{all_denials}
use Rattle.ll_seq.specs.declared.call.Call.{Call}
use Rattle.ll_seq.specs.declared.call.Call.TheVariants.{Ruleset, Confine, Spawn, Connect}
use Rattle.ll_seq.specs.declared.client.ClientRecord.{ClientRecord}
use Rattle.ll_seq.specs.declared.reply.Reply.{Reply}
use Rattle.ll_seq.specs.declared.reply.Reply.TheVariants.{Done, Created, Spawned, Denied, Refused}
use Rattle.ll_seq.specs.Asked.{grants}
use Rattle.ll_seq.specs.Effects.{with_client, child_of}
use Rattle.ll_seq.specs.Fails.{Fails}
use Rattle.ll_seq.specs.Stages.{ruleset_at, text_refusals, number_refusals, relation_refusals, walk_refusals}
use Rattle.ll_seq.specs.CallParts.{existence_refusals, kind_refusals, limit_refusals}
use Rattle.ll_seq.specs.Call.{first_path, second_path}
use Rattle.ll_seq.specs.Asked.{call_denials}
use Rattle.ll_seq.specs.Stages.{early_refusals}
use Rattle.ll_laws.proofs.Gain.{done_of}
use Rattle.ll_seq.specs.State.{State, new_client}
use Rattle.ll_seq.specs.Step.{step, refusals, client_of}
use Rattle.ll_journal.specs.declared.alone.RecordCall.{RecordCall}
use Rattle.ll_journal.specs.declared.alone.RecordCall.TheVariants as asked
use Rattle.ll_journal.specs.Own.{Comes, IsFreeOwn}
use Rattle.ll_journal.specs.Direct.{is_refusal}
use Rattle.ll_journal.proofs.Shown.{step_refused, step_done}
use Rattle.ll_journal.proofs.Starved.{both_refuse, one_refusal, only_memory, step_granted, when_err}

abbrev silent : {A : Type 0} → ℕ × A → List Denial
silent l = []

nothing_asked : {A : Type 0} (n : ℕ) (layers : List A) → flat_map silent (enumerate_from n layers) ≡ []
nothing_asked n [] = refl
nothing_asked n (l ∷ layers) = nothing_asked (n + 1) layers

-- a call that asks nothing isn't denied
pub nothing_denied : (s : State) (layers : List Layer) → all_denials (grants s) layers [] [] ≡ []
nothing_denied s layers = λ i. nothing_asked 1 layers i ++ nothing_asked 1 layers i ++ nothing_asked 1 layers i

module _ (s : State) (number fresh : ℕ) where
  connect_refusals : refusals s (client_of s number) Connect
      ≡ map Refused (refuse (nat_le TREE_CLIENTS (len s.clients)) EMFILE)
  connect_refusals = ap (λ ds. (map Denied ds ++ [])
      ++ map Refused (refuse (nat_le TREE_CLIENTS (len s.clients)) EMFILE))
      (nothing_denied s (client_of s number).domain)

  pub connect_done : nat_le TREE_CLIENTS (len s.clients) ≡ false
      → step s number Connect fresh ≡ (Done, with_client s number new_client)
  connect_done few = step_done s number Connect fresh (connect_refusals ∙ ap (λ b. map Refused (refuse b EMFILE)) few)

-- ---- the caller's record

-- what is there already changes nothing
pub same_client : (s : State) (number : ℕ) (c : ClientRecord) → get s.clients number ≡ Some c
    → with_client s number c ≡ s
same_client s number c there =
    ap (λ m. record s { clients = m })
    (same_list_map _ _ (same_map nat_cmp_total nat_cmp-IsAntisymmetric (insert s.clients number c) s.clients (λ q.
    elim (insert_cases nat_cmp_total nat_cmp-IsAntisymmetric s.clients number c q) [
      | inl a ↦ a.1 ∙ sym (ap (get s.clients) a.0 ∙ there)
      | inr a ↦ a.1
    ])))

-- ---- what an early stage refuses

abbrev rest_of : List Reply → List Errno → List Errno → List Denial → List Errno → List Errno → List Reply
rest_of early w x d k l = ((((early ++ map Refused w) ++ map Refused x) ++ map Denied d) ++ map Refused k)
    ++ map Refused l

abbrev FirstIs : List Reply → Reply → Type 0
FirstIs replies reply = (more : List Reply) × (replies ≡ reply ∷ more)

first_early : (t n r w x : List Errno) (d : List Denial) (k l : List Errno) (e : Errno)
    → slice_get (t ++ n ++ r) 0 ≡ Some e
    → FirstIs (rest_of (map Refused t ++ map Refused n ++ map Refused r) w x d k l) (Refused e)
first_early [] [] [] w x d k l e h = absurd (cc h)
first_early [] [] (y ∷ r) w x d k l e h = let same : y ≡ e = (cc h) in
    (rest_of (map Refused r) w x d k l, ap (λ z. Refused z ∷ rest_of (map Refused r) w x d k l) same)
first_early [] (y ∷ n) r w x d k l e h = let same : y ≡ e = (cc h) in (
  rest_of (map Refused n ++ map Refused r) w x d k l,
  ap (λ z. Refused z ∷ rest_of (map Refused n ++ map Refused r) w x d k l) same,
)
first_early (y ∷ t) n r w x d k l e h = let same : y ≡ e = (cc h) in (
  rest_of (map Refused t ++ map Refused n ++ map Refused r) w x d k l,
  ap (λ z. Refused z ∷ rest_of (map Refused t ++ map Refused n ++ map Refused r) w x d k l) same,
)

module _ (s : State) (number fresh : ℕ) (c : ClientRecord) (there : get s.clients number ≡ Some c) where
  client_is : client_of s number ≡ c
  client_is = ap (λ o. unwrap_or o new_client) there

  -- a refusal keeps the record
  refused_as : (call : Call) (e : Errno) → FirstIs (refusals s c call) (Refused e)
      → step s number call fresh ≡ (Refused e, with_client s number c)
  refused_as call e first =
      step_refused s number call fresh (Refused e) first.0 (ap (λ x. refusals s x call) client_is ∙ first.1)
      ∙ ap (λ z. (Refused e, z)) (sym (same_client s number c there))

  pub refused_own : (call : Call) (e : Errno) → slice_get (early_refusals c call) 0 ≡ Some e
      → step s number call fresh ≡ (Refused e, with_client s number c)
  refused_own call e h =
      refused_as call e (first_early (text_refusals call) (number_refusals c call)
      (relation_refusals call (first_path call) (second_path call)) (walk_refusals s call)
      (existence_refusals s call (first_path call) (second_path call))
      (call_denials s c call) (kind_refusals s c call (first_path call) (second_path call))
      (limit_refusals s c call (first_path call) (second_path call)) e h)

  first_of : (es : List Errno) (e : Errno) → slice_get es 0 ≡ Some e → FirstIs (map Refused es) (Refused e)
  first_of [] e h = absurd (cc h)
  first_of (y ∷ es) e h = let same : y ≡ e = (cc h) in (map Refused es, ap (λ z. Refused z ∷ map Refused es) same)

  fails_own : (call : Call) (es : List Errno) (e : Errno) → refusals s c call ≡ map Refused es → Fails es e
      → e ≢ NoMemory → step s number call fresh ≡ (Refused e, with_client s number c)
  fails_own call es e is (inl first) told = let found = first_of es e first in refused_as call e (found.0, is ∙ found.1)
  fails_own call es e is (inr starved) told = absurd (told starved.0)

  done_own : (call : Call) (es : List Errno) → refusals s c call ≡ map Refused es → es ≡ []
      → step s number call fresh ≡ done_of s number c call fresh
  done_own call es is none =
      step_done s number call fresh (ap (λ x. refusals s x call) client_is ∙ is ∙ ap (map Refused) none)
      ∙ ap (λ x. done_of s number x call fresh) client_is

  both : (k l : List Errno) → map Refused k ++ map Refused l ≡ map Refused (k ++ l)
  both [] l = refl
  both (x ∷ k) l = ap (λ z. Refused x ∷ z) (both k l)

  -- a new ruleset
  module _ (rights : Access) where
    abbrev ruleset_fails : List Errno
    ruleset_fails = create_refusals s.rules.abi rights.0 ++ refuse (nat_le CLIENT_RULESETS (length c.rulesets)) EMFILE

    ruleset_refusals : refusals s c (Ruleset rights) ≡ map Refused ruleset_fails
    ruleset_refusals =
        ap (λ ds. (map Denied ds ++ map Refused (create_refusals s.rules.abi rights.0))
        ++ map Refused (refuse (nat_le CLIENT_RULESETS (length c.rulesets)) EMFILE)) (nothing_denied s c.domain)
        ∙ both (create_refusals s.rules.abi rights.0) (refuse (nat_le CLIENT_RULESETS (length c.rulesets)) EMFILE)

    pub ruleset_free : (e : Errno) → e ≡ NoMemory → Fails ruleset_fails e → refusals s c (Ruleset rights) ≡ []
    ruleset_free e none fails =
        ruleset_refusals
        ∙ ap (map Refused) (only_memory ruleset_fails
        (both_refuse (create_refusals s.rules.abi rights.0) _
        (both_refuse (refuse (not (is_within rights.0 (known_set s.rules.abi))) EINVAL) _
        (one_refusal _ EINVAL (λ x. cc x)) (one_refusal _ ENOMSG (λ x. cc x))) (one_refusal _ EMFILE (λ x. cc x)))
        e none fails)

    pub ruleset_fails_so : (e : Errno) → Fails ruleset_fails e → e ≢ NoMemory
        → step s number (Ruleset rights) fresh ≡ (Refused e, with_client s number c)
    ruleset_fails_so e = fails_own (Ruleset rights) ruleset_fails e ruleset_refusals

    pub ruleset_made : ruleset_fails ≡ []
        → step s number (Ruleset rights) fresh
        ≡ (
          Created (length c.rulesets),
          with_client s number (record c { rulesets = c.rulesets ++ new_ruleset rights.0 ∷ [] }),
        )
    ruleset_made none = done_own (Ruleset rights) ruleset_fails ruleset_refusals none

  -- one layer more
  module _ (layer : ℕ) where
    pub confine_without : is_none (slice_get c.rulesets layer) ≡ true
        → step s number (Confine layer) fresh ≡ (Refused EBADF, with_client s number c)
    confine_without none = refused_own (Confine layer) EBADF (ap (λ b. slice_get (refuse b EBADF ++ []) 0) none)

    module _ (some : is_none (slice_get c.rulesets layer) ≡ false) where
      confine_refusals : refusals s c (Confine layer) ≡ map Refused (layer_limit c.domain)
      confine_refusals =
          ap (λ b. rest_of (map Refused (refuse b EBADF) ++ []) [] [] (all_denials (grants s) c.domain [] []) []
          (layer_limit c.domain)) some
          ∙ ap (λ ds. (map Denied ds ++ []) ++ map Refused (layer_limit c.domain)) (nothing_denied s c.domain)

      pub confine_free : (e : Errno) → e ≡ NoMemory → Fails (layer_limit c.domain) e → refusals s c (Confine layer) ≡ []
      confine_free e none fails = confine_refusals
          ∙ ap (map Refused) (only_memory (layer_limit c.domain) (one_refusal _ E2BIG (λ x. cc x)) e none fails)

      pub confine_fails_so : (e : Errno) → Fails (layer_limit c.domain) e → e ≢ NoMemory
          → step s number (Confine layer) fresh ≡ (Refused e, with_client s number c)
      confine_fails_so e = fails_own (Confine layer) (layer_limit c.domain) e confine_refusals

      pub confined : layer_limit c.domain ≡ []
          → step s number (Confine layer) fresh
          ≡ (Done, with_client s number (record c { domain = c.domain ++ ruleset_at c layer ∷ [] }))
      confined none = done_own (Confine layer) (layer_limit c.domain) confine_refusals none

  -- one client more
  spawn_refusals : refusals s c Spawn ≡ map Refused (refuse (nat_le TREE_CLIENTS (len s.clients)) EMFILE)
  spawn_refusals = ap (λ ds. (map Denied ds ++ []) ++ map Refused (refuse (nat_le TREE_CLIENTS (len s.clients)) EMFILE))
      (nothing_denied s c.domain)

  pub spawn_refused : nat_le TREE_CLIENTS (len s.clients) ≡ true
      → step s number Spawn fresh ≡ (Refused EMFILE, with_client s number c)
  spawn_refused many = refused_as Spawn EMFILE ([], spawn_refusals ∙ ap (λ b. map Refused (refuse b EMFILE)) many)

  pub spawn_free : nat_le TREE_CLIENTS (len s.clients) ≡ false → refusals s c Spawn ≡ []
  spawn_free few = spawn_refusals ∙ ap (λ b. map Refused (refuse b EMFILE)) few

  pub spawned : nat_le TREE_CLIENTS (len s.clients) ≡ false
      → step s number Spawn fresh ≡ (Spawned fresh, with_client s fresh (child_of s.rules c))
  spawned few = done_own Spawn (refuse (nat_le TREE_CLIENTS (len s.clients)) EMFILE) spawn_refusals
      (ap (λ b. refuse b EMFILE) few)

-- ---- as the code finds it

when_ok : {A E : Type 0} (r : Result A E) (P Q : A → Type 0) → ((x : A) → P x → Q x) → IfOk r P → IfOk r Q
when_ok (Ok x) P Q f h = f x h
when_ok (Err e) P Q f h = tt

abbrev TellsOf : Errno → Reply → Type 0
TellsOf e reply = (e ≢ NoMemory) × (reply ≡ Refused e)

module _ (abi : ℕ) (c after : ClientRecord) where
  pub comes_made : (rights : Access) (n : ℕ)
      → (create_refusals abi rights.0 ++ refuse (nat_le CLIENT_RULESETS (length c.rulesets)) EMFILE ≡ [])
      × (n ≡ length c.rulesets) × (after ≡ record c { rulesets = c.rulesets ++ new_ruleset rights.0 ∷ [] })
      → Comes abi c (asked.Ruleset rights) (Created n) after
  comes_made rights n h call is s number fresh level there =
      ap (λ k. step s number k fresh) is
      ∙ ruleset_made s number fresh c there rights
      (ap (λ a. create_refusals a rights.0 ++ refuse (nat_le CLIENT_RULESETS (length c.rulesets)) EMFILE) level
      ∙ h.0)
      ∙ (λ i. (Created (sym h.1 i), with_client s number (sym h.2 i)))

  pub comes_not_made : (rights : Access) (e : Errno) (result : Result Reply AllocError)
      → Fails (create_refusals abi rights.0 ++ refuse (nat_le CLIENT_RULESETS (length c.rulesets)) EMFILE) e → after ≡ c
      → IfOk result (TellsOf e) → IfOk result (λ reply. Comes abi c (asked.Ruleset rights) reply after)
  comes_not_made rights e result fails same told =
      when_ok result (TellsOf e) (λ reply. Comes abi c (asked.Ruleset rights) reply after)
      (λ reply tells call is s number fresh level there.
      ap (λ k. step s number k fresh) is
      ∙ ruleset_fails_so s number fresh c there rights e
      (subst (λ a. Fails (create_refusals a rights.0 ++ refuse (nat_le CLIENT_RULESETS (length c.rulesets)) EMFILE)
      e) (sym level) fails) tells.0
      ∙ (λ i. (sym tells.1 i, with_client s number (sym same i)))) told

  pub comes_without : (layer : ℕ) → is_none (slice_get c.rulesets layer) ≡ true → after ≡ c
      → Comes abi c (asked.Confine layer) (Refused EBADF) after
  comes_without layer none same call is s number fresh level there =
      ap (λ k. step s number k fresh) is
      ∙ confine_without s number fresh c there layer none
      ∙ (λ i. (Refused EBADF, with_client s number (sym same i)))

  pub comes_confined : (layer : ℕ) → is_none (slice_get c.rulesets layer) ≡ false → (layer_limit c.domain ≡ [])
      × (after ≡ record c { domain = c.domain ++ ruleset_at c layer ∷ [] })
      → Comes abi c (asked.Confine layer) Done after
  comes_confined layer some h call is s number fresh level there =
      ap (λ k. step s number k fresh) is
      ∙ confined s number fresh c there layer some h.0
      ∙ (λ i. (Done, with_client s number (sym h.1 i)))

  pub comes_refused : (told : RecordCall) (e : Errno) → told ≡ asked.Refused e → after ≡ c
      → Comes abi c told (Refused e) after
  comes_refused told e tells same =
      subst (λ a. Comes abi c a (Refused e) after) (sym tells)
      (λ call is s number fresh level there. refused_own s number fresh c there call e is.1
      ∙ (λ i. (Refused e, with_client s number (sym same i))))

pub comes_not_confined : (c after : ClientRecord) (layer : ℕ) (e : Errno) (result : Result Reply AllocError)
    → is_none (slice_get c.rulesets layer) ≡ false → Fails (layer_limit c.domain) e → after ≡ c
    → IfOk result (TellsOf e) → IfOk result (λ reply. (abi : ℕ) → Comes abi c (asked.Confine layer) reply after)
comes_not_confined c after layer e result some fails same told =
    when_ok result (TellsOf e) (λ reply. (abi : ℕ) → Comes abi c (asked.Confine layer) reply after)
    (λ reply tells abi call is s number fresh level there.
    ap (λ k. step s number k fresh) is
    ∙ confine_fails_so s number fresh c there layer some e fails tells.0
    ∙ (λ i. (sym tells.1 i, with_client s number (sym same i)))) told

-- where memory ran out, nothing refuses the call
pub free_to_make : (abi : ℕ) (c : ClientRecord) (rights : Access) (e : Errno) (result : Result Reply AllocError)
    → Fails (create_refusals abi rights.0 ++ refuse (nat_le CLIENT_RULESETS (length c.rulesets)) EMFILE) e
    → OnErr result (e ≡ NoMemory) → OnErr result (IsFreeOwn abi c (asked.Ruleset rights))
free_to_make abi c rights e result fails out = when_err result (λ none call is s number level there.
    ap (refusals s c) is
    ∙ ruleset_free s number 0 c there rights e none
    (subst (λ a. Fails (create_refusals a rights.0 ++ refuse (nat_le CLIENT_RULESETS (length c.rulesets)) EMFILE) e)
    (sym level) fails)) out

pub free_to_confine : (c : ClientRecord) (layer : ℕ) (e : Errno) (result : Result Reply AllocError)
    → is_none (slice_get c.rulesets layer) ≡ false → Fails (layer_limit c.domain) e
    → OnErr result (e ≡ NoMemory) → OnErr result ((abi : ℕ) → IsFreeOwn abi c (asked.Confine layer))
free_to_confine c layer e result some fails out = when_err result (λ none abi call is s number level there.
    ap (refusals s c) is ∙ confine_free s number 0 c there layer some e none fails) out

-- a call that an early stage refuses is refused
pub early_not_free : (s : State) (number : ℕ) (c : ClientRecord) → get s.clients number ≡ Some c
    → (call : Call) (e : Errno) → slice_get (early_refusals c call) 0 ≡ Some e → refusals s c call ≡ [] → ⊥
early_not_free s number c there call e early free =
    false≢true (sym (step_granted s number call 0 (ap (λ x. refusals s x call) (client_is s number 0 c there) ∙ free))
    ∙ ap (λ (o : Reply × State). is_refusal o.0) (refused_own s number 0 c there call e early))

-- whether the client has the ruleset
pub none_found : {A B : Type 0} (found : Option A) (there : Option B) (f : Option A → Option B) (none : Bool)
    → f found ≡ there → ((o : Option A) → is_none (f o) ≡ is_none o) → is_some found ≡ not none → is_none there ≡ none
none_found {A = A} found there f none is same test = sym (ap is_none is) ∙ same found ∙ by found none test
  where
    by : (o : Option A) (b : Bool) → is_some o ≡ not b → is_none o ≡ b
    by None true e = refl
    by None false e = absurd (cc e)
    by (Some x) true e = absurd (cc e)
    by (Some x) false e = refl

pub copied_none : {A : Type 0} (o : Option (Bor A)) → is_none (option_copied o) ≡ is_none o
copied_none None = refl
copied_none (Some x) = refl

pub within : (xs : List Layer) (i : ℕ) → is_none (slice_get xs i) ≡ false → i < length xs
within [] i e = absurd (cc e)
within (x ∷ xs) zero e = omega arith
within (x ∷ xs) (suc i) e = let more = within xs i e in omega arith
