-- One entry, in both runs.
use Rattle.std.specs.Prelude.{◌≡◌, ◌≢◌, ℕ, ◌+◌, ◌<◌, ◌≤◌, Bool, true, false, not, List, [], ◌∷◌, ◌++◌, length, Option}
use Rattle.std.specs.Prelude.{None, Some, nat_le, refl, slice_get, unwrap_or, IsTrue}
use Rattle.std.specs.Ordering.{nat_cmp}
use Rattle.std.specs.Cmp.{nat_cmp_total}
use Rattle.std.specs.FinMap.{nat_cmp-IsAntisymmetric}
use Rattle.std.proofs.Common.{sym, subst, ap, ◌∙◌, arith}
use Rattle.std.proofs.lemmas.Bool.{leb-true}
use Rattle.std.proofs.lemmas.List.{length-append}
use Rattle.ll_rights.specs.declared.errno.Errno.{Errno}
use Rattle.ll_rights.specs.declared.errno.Errno.TheVariants.{E2BIG}
use Rattle.ll_rights.specs.declared.limits.TheConstants.{DOMAIN_LAYERS}
use Rattle.ll_rights.specs.Errno.{refuse}
use Rattle.ll_rights.specs.Map.{Map, get, has}
use Rattle.ll_rights.proofs.Maps.{get-insert_same}
use Rattle.ll_rules.specs.Layer.{Layer}
use Rattle.ll_rules.specs.Rules.{layer_limit}
use Rattle.ll_decide.specs.declared.denial.Denial.{Denial}
use Rattle.ll_seq.specs.Asked.{call_denials}
use Rattle.ll_seq.specs.History.{MayStand, after, fresh_of, is_connect, outcome_of}
use Rattle.ll_seq.specs.Passed.{after_policy, before_policy}
use Rattle.ll_seq.specs.Stages.{ruleset_at}
use Rattle.ll_seq.specs.State.{State, new_client}
use Rattle.ll_seq.specs.Step.{client_of, step}
use Rattle.ll_seq.specs.declared.call.Call.{Call}
use Rattle.ll_seq.specs.declared.call.Call.TheVariants.{Make, Open, Read, Write, Ftruncate, Close, Truncate, ReadDir}
use Rattle.ll_seq.specs.declared.call.Call.TheVariants.{Stat, Exec, Unlink, Rmdir, Rename, RenameNoreplace, Exchange}
use Rattle.ll_seq.specs.declared.call.Call.TheVariants.{Link, Ruleset, Allow, Confine, Spawn, Connect}
use Rattle.ll_seq.specs.declared.client.ClientRecord.{ClientRecord}
use Rattle.ll_seq.specs.declared.reply.Entry.{Entry}
use Rattle.ll_seq.specs.declared.reply.Reply.{Reply}
use Rattle.ll_seq.specs.declared.reply.Reply.TheVariants.{Denied, Refused, Spawned}
use Rattle.ll_seq.proofs.StepParts.{comes_to, denied, does_so, none_refused, refused_early, refused_late}
use Rattle.ll_learn.specs.PassedCalls.{Openings, joins, opened_at}
use Rattle.ll_learn.proofs.AlikeRecords.{AreAlike}
use Rattle.ll_learn.proofs.TwinEffects.{Follow, done_goes, entry, stays}
use Rattle.ll_learn.proofs.TwinPolicy.{denied_same}
use Rattle.ll_learn.proofs.TwinRefusals.{IsLimited, after_same, before_same}
use Rattle.ll_learn.proofs.Twins.{IsLayered, Twin, Twins, same_count, same_there, twin_alike, twin_records, with_all}

first_is : {A : Type 0} (xs ys : List A) (x : A) → xs ≡ x ∷ ys → slice_get xs 0 ≡ Some x
first_is xs ys x e = ap (λ z. slice_get z 0) e

none_is : {A : Type 0} (xs : List A) → xs ≡ [] → slice_get xs 0 ≡ None
none_is xs e = ap (λ z. slice_get z 0) e

-- ---- the limit of layers

-- a ruleset is enforced where there is room for one layer more behind it
module _ (s : State) (q number fresh : ℕ) (free : before_policy s (client_of s q) (Confine number) ≡ [])
    (allowed : call_denials s (client_of s q) (Confine number) ≡ [])
    (room : length (client_of (step s q (Confine number) fresh).1 q).domain < DOMAIN_LAYERS) where
  abbrev own : List Layer
  own = (client_of s q).domain

  confined_room : (b : Bool) → nat_le DOMAIN_LAYERS (length own) ≡ b → length own + 1 < DOMAIN_LAYERS
  confined_room true is =
      let same : s ≡ (step s q (Confine number) fresh).1 =
      ap (λ (z : Reply × State). z.1) (refused_late s q (Confine number) free (none_is _ allowed) E2BIG
      (ap (λ b. slice_get (refuse b E2BIG) 0) is) fresh) in
      let short : length own < DOMAIN_LAYERS =
      subst (λ (z : State). length (client_of z q).domain < DOMAIN_LAYERS) (sym same) room in
      let long : DOMAIN_LAYERS ≤ length own = leb-true DOMAIN_LAYERS (length own) is in
      absurd (omega arith)
  confined_room false is =
      let new : List Layer = own ++ ruleset_at (client_of s q) number ∷ [] in
      let does = comes_to s q (Confine number) fresh (none_refused s q (Confine number) free (none_is _ allowed)
      (ap (λ b. refuse b E2BIG) is)) in
      let domain : (client_of (step s q (Confine number) fresh).1 q).domain
      ≡ own ++ ruleset_at (client_of s q) number ∷ [] =
      ap (λ (z : Reply × State). (client_of z.1 q).domain) does
      ∙ ap (λ (o : Option ClientRecord). (unwrap_or o new_client).domain)
      (get-insert_same nat_cmp_total nat_cmp-IsAntisymmetric s.clients q _) in
      let count : length (client_of (step s q (Confine number) fresh).1 q).domain ≡ length own + 1 =
      ap length domain ∙ length-append own (ruleset_at (client_of s q) number ∷ []) in
      omega arith

  confined_limit : (layer : Layer) (front back : List Layer) (d : ClientRecord) → own ≡ front ++ back
      → d.domain ≡ front ++ layer ∷ back → layer_limit d.domain ≡ layer_limit own
  confined_limit layer front back d was is =
      let short : length own + 1 < DOMAIN_LAYERS = confined_room (nat_le DOMAIN_LAYERS (length own)) refl in
      let one : length own ≡ length front + length back = ap length was ∙ length-append front back in
      let two : length d.domain ≡ length front + (length back + 1) = ap length is ∙ length-append front (layer ∷ back)
      ∙ omega arith in
      ap (λ b. refuse b E2BIG) (low (length d.domain) (omega arith))
      ∙ sym (ap (λ b. refuse b E2BIG) (low (length own) (omega arith)))
    where
      low : (n : ℕ) → n < DOMAIN_LAYERS → nat_le DOMAIN_LAYERS n ≡ false
      low n h = by (nat_le DOMAIN_LAYERS n) refl
        where
          by : (b : Bool) → nat_le DOMAIN_LAYERS n ≡ b → nat_le DOMAIN_LAYERS n ≡ false
          by true e = let w : DOMAIN_LAYERS ≤ n = leb-true DOMAIN_LAYERS n e in absurd (omega arith)
          by false e = e

-- ---- a step

module _ (layer : Layer) (s : State) (m : Map nat_cmp ClientRecord) (on : ℕ → Bool) (known : Openings)
    (w : Twins layer on known s.clients m) (q : ℕ)
    (twin : Twin layer (on q) (known q) (client_of s q) (client_of (with_all s m) q)) where
  abbrev Steps : Call → Reply × State → Reply × State → Type 0
  Steps call o p = Follow layer (joins on (entry q call o.0)) (opened_at s known (entry q call o.0)) o p

  alike : AreAlike (client_of s q) (client_of (with_all s m) q)
  alike = twin_alike layer (on q) (known q) (client_of s q) (client_of (with_all s m) q) twin

  refused_goes : (call : Call) (errno : Errno) (o p : Reply × State) → ◌≡◌ {A = Reply × State} (Refused errno, s) o
      → ◌≡◌ {A = Reply × State} (Refused errno, with_all s m) p → Steps call o p
  refused_goes call errno o p eo ep =
      subst (λ (z : Reply × State). Steps call z p) eo
      (subst (λ (z : Reply × State). Steps call (Refused errno, s) z) ep
      (stays layer s m on known w q (client_of s q) (client_of (with_all s m) q) twin call (Refused errno, s)
      (Refused errno, with_all s m) ((λ fd. refl), (λ k. refl)) refl refl refl))

  denied_goes : (call : Call) (denial : Denial) (o p : Reply × State) → ◌≡◌ {A = Reply × State} (Denied denial, s) o
      → ◌≡◌ {A = Reply × State} (Denied denial, with_all s m) p → Steps call o p
  denied_goes call denial o p eo ep =
      subst (λ (z : Reply × State). Steps call z p) eo
      (subst (λ (z : Reply × State). Steps call (Denied denial, s) z) ep
      (stays layer s m on known w q (client_of s q) (client_of (with_all s m) q) twin call (Denied denial, s)
      (Denied denial, with_all s m) ((λ fd. refl), (λ k. refl)) refl refl refl))

  pub step_goes : (call : Call) (fresh : ℕ)
      → ((number : ℕ) → (step s q call fresh).0 ≡ Spawned number → has s.clients number ≡ false)
      → (IsTrue (is_connect call) → on q ≡ false)
      → (before_policy s (client_of s q) call ≡ []
      → call_denials (with_all s m) (client_of (with_all s m) q) call ≡ call_denials s (client_of s q) call)
      → (before_policy s (client_of s q) call ≡ [] → call_denials s (client_of s q) call ≡ []
      → after_policy (with_all s m) (client_of (with_all s m) q) call ≡ after_policy s (client_of s q) call)
      → Steps call (step s q call fresh) (step (with_all s m) q call fresh)
  step_goes call fresh free off policy late =
      by_early (before_policy s (client_of s q) call) refl
    where
      early : before_policy (with_all s m) (client_of (with_all s m) q) call ≡ before_policy s (client_of s q) call
      early = before_same s m (client_of s q) (client_of (with_all s m) q) alike call

      by_late : before_policy s (client_of s q) call ≡ [] → call_denials s (client_of s q) call ≡ []
          → (ls : List Errno) → after_policy s (client_of s q) call ≡ ls
          → Steps call (step s q call fresh) (step (with_all s m) q call fresh)
      by_late b d (x ∷ xs) is = refused_goes call x _ _
          (refused_late s q call b (none_is _ d) x (first_is _ xs x is) fresh)
          (refused_late (with_all s m) q call (early ∙ b) (none_is _ (policy b ∙ d)) x
          (first_is _ xs x (late b d ∙ is)) fresh)
      by_late b d [] is =
          let here = comes_to s q call fresh (none_refused s q call b (none_is _ d) is) in
          let there = comes_to (with_all s m) q call fresh
          (none_refused (with_all s m) q call (early ∙ b) (none_is _ (policy b ∙ d)) (late b d ∙ is)) in
          subst (λ (z : Reply × State). Steps call z (step (with_all s m) q call fresh)) (sym here)
          (subst (λ (z : Reply × State). Steps call (does_so s q call fresh) z) (sym there)
          (done_goes layer s m on known w q (client_of s q) (client_of (with_all s m) q) twin call fresh
          (λ number r. free number (ap (λ (z : Reply × State). z.0) here ∙ r)) off))

      by_policy : before_policy s (client_of s q) call ≡ [] → (ds : List Denial)
          → call_denials s (client_of s q) call ≡ ds
          → Steps call (step s q call fresh) (step (with_all s m) q call fresh)
      by_policy b (x ∷ xs) is = denied_goes call x _ _ (denied s q call b x (first_is _ xs x is) fresh)
          (denied (with_all s m) q call (early ∙ b) x (first_is _ xs x (policy b ∙ is)) fresh)
      by_policy b [] is = by_late b is (after_policy s (client_of s q) call) refl

      by_early : (es : List Errno) → before_policy s (client_of s q) call ≡ es
          → Steps call (step s q call fresh) (step (with_all s m) q call fresh)
      by_early (x ∷ xs) is = refused_goes call x _ _ (refused_early s q call x (first_is _ xs x is) fresh)
          (refused_early (with_all s m) q call x (first_is _ xs x (early ∙ is)) fresh)
      by_early [] is = by_policy is (call_denials s (client_of s q) call) refl

-- ---- an entry

abbrev pub Unharmed : State → Entry → Type 0
Unharmed s e = ((denial : Denial) → e.reply ≢ Denied denial)
    × (length (client_of (after s e) e.client).domain < DOMAIN_LAYERS)

module _ (layer : Layer) (s : State) (m : Map nat_cmp ClientRecord) (on : ℕ → Bool) (known : Openings)
    (w : Twins layer on known s.clients m) (e : Entry) (may : MayStand s e) where
  abbrev was : ClientRecord
  was = client_of s e.client

  abbrev is : ClientRecord
  is = client_of (with_all s m) e.client

  pub caller_twin : Twin layer (on e.client) (known e.client) was is
  caller_twin = twin_records layer (on e.client) (known e.client) (get s.clients e.client) (get m e.client)
      (w.at e.client) (λ none. off none (on e.client) refl)
    where
      off : has s.clients e.client ≡ false → (b : Bool) → on e.client ≡ b → on e.client ≡ false
      off none true g = absurd (cc (sym none ∙ w.there e.client g))
      off none false g = g

  pub caller_layered : on e.client ≡ true → IsLayered layer (known e.client) was is
  caller_layered g = subst (λ (b : Bool). Twin layer b (known e.client) was is) g caller_twin

  -- nothing is denied in the run as it was
  pub undenied : ((denial : Denial) → e.reply ≢ Denied denial) → before_policy s was e.call ≡ []
      → call_denials s was e.call ≡ []
  undenied never b = by (call_denials s was e.call) refl
    where
      by : (ds : List Denial) → call_denials s was e.call ≡ ds → call_denials s was e.call ≡ []
      by [] g = g
      by (x ∷ xs) g = absurd (never x (sym may.answered ∙ ap (λ (z : Reply × State). z.0)
          (sym (denied s e.client e.call b x (first_is _ xs x g) (fresh_of e.reply)))))

  limited : (on e.client ≡ true → Unharmed s e) → (call : Call) → e.call ≡ call → before_policy s was call ≡ []
      → call_denials s was call ≡ [] → IsLimited call was is
  limited fine (Confine number) same b d = by (on e.client) refl caller_twin
    where
      by : (z : Bool) → on e.client ≡ z → Twin layer z (known e.client) was is
          → layer_limit is.domain ≡ layer_limit was.domain
      by true g t = confined_limit s e.client number (fresh_of e.reply) b d
          (subst (λ (z : Call). length (client_of (step s e.client z (fresh_of e.reply)).1 e.client).domain
          < DOMAIN_LAYERS) same (fine g).1) layer t.front t.back is t.was t.is
      by false g t = ap (λ (z : ClientRecord). layer_limit z.domain) t
  limited fine (Make kind t) same b d = tt
  limited fine (Open mode t) same b d = tt
  limited fine (Read fd offset size) same b d = tt
  limited fine (Write fd offset bytes) same b d = tt
  limited fine (Ftruncate fd size) same b d = tt
  limited fine (Close fd) same b d = tt
  limited fine (Truncate t size) same b d = tt
  limited fine (ReadDir t) same b d = tt
  limited fine (Stat t) same b d = tt
  limited fine (Exec t) same b d = tt
  limited fine (Unlink t) same b d = tt
  limited fine (Rmdir t) same b d = tt
  limited fine (Rename o n) same b d = tt
  limited fine (RenameNoreplace o n) same b d = tt
  limited fine (Exchange o n) same b d = tt
  limited fine (Link o n) same b d = tt
  limited fine (Ruleset rights) same b d = tt
  limited fine (Allow rs t rights) same b d = tt
  limited fine Spawn same b d = tt
  limited fine Connect same b d = tt

  -- If the layer denies a client that it is on nothing either, both runs go on as twins
  pub entry_goes : (on e.client ≡ true → Unharmed s e)
      → (on e.client ≡ true → before_policy s was e.call ≡ [] → call_denials (with_all s m) is e.call ≡ [])
      → Follow layer (joins on e) (opened_at s known e) (outcome_of s e) (outcome_of (with_all s m) e)
  entry_goes fine allowed =
      subst (λ (r : Reply). Follow layer (joins on (entry e.client e.call r))
      (opened_at s known (entry e.client e.call r)) (outcome_of s e) (outcome_of (with_all s m) e)) may.answered
      (step_goes layer s m on known w e.client caller_twin e.call (fresh_of e.reply)
      (λ number r. may.spawned number (sym may.answered ∙ r)) off
      (λ b. policy b (on e.client) refl caller_twin)
      (λ b d. after_same s m (same_count layer on known s.clients m w) was is
      (twin_alike layer (on e.client) (known e.client) was is caller_twin) e.call (limited fine e.call refl b d)))
    where
      off : IsTrue (is_connect e.call) → on e.client ≡ false
      off c = by (on e.client) refl
        where
          by : (b : Bool) → on e.client ≡ b → on e.client ≡ false
          by true g = absurd (cc (sym (w.there e.client g) ∙ may.caller ∙ ap not c))
          by false g = g

      policy : before_policy s was e.call ≡ [] → (z : Bool) → on e.client ≡ z → Twin layer z (known e.client) was is
          → call_denials (with_all s m) is e.call ≡ call_denials s was e.call
      policy b true g t = allowed g b ∙ sym (undenied (fine g).0 b)
      policy b false g t = ap (λ (z : ClientRecord). call_denials (with_all s m) z e.call) t
          ∙ denied_same s m was e.call

  -- if the entry may stand in the other run, nothing is denied there
  pub standing_undenied : on e.client ≡ true → Unharmed s e → MayStand (with_all s m) e
      → before_policy s was e.call ≡ [] → call_denials (with_all s m) is e.call ≡ []
  standing_undenied g fine stands b = by (call_denials (with_all s m) is e.call) refl
    where
      early : before_policy (with_all s m) is e.call ≡ []
      early = before_same s m was is (twin_alike layer (on e.client) (known e.client) was is caller_twin) e.call ∙ b

      by : (ds : List Denial) → call_denials (with_all s m) is e.call ≡ ds → call_denials (with_all s m) is e.call ≡ []
      by [] h = h
      by (x ∷ xs) h = absurd (fine.0 x (sym stands.answered ∙ ap (λ (z : Reply × State). z.0)
          (sym (denied (with_all s m) e.client e.call early x (first_is _ xs x h) (fresh_of e.reply)))))

  pub stands_there : Follow layer (joins on e) (opened_at s known e) (outcome_of s e) (outcome_of (with_all s m) e)
      → MayStand (with_all s m) e
  stands_there follow = record {
    caller = same_there layer on known s.clients m w e.client ∙ may.caller;
    connected = may.connected;
    spawned = λ number r. same_there layer on known s.clients m w number ∙ may.spawned number r;
    answered = follow.reply ∙ may.answered;
  }
