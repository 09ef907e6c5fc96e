-- Which clients are there after an entry, and how many.
use Rattle.std.specs.Prelude.{◌≡◌, ◌≢◌, ◌⊎◌, ℕ, ◌+◌, Bool, true, false, not, List, [], ◌∷◌, map, Option, Some}
use Rattle.std.specs.Prelude.{None}
use Rattle.std.specs.Prelude.{is_some, option_map, unwrap_or, nat_le, ◌==◌, refl}
use Rattle.std.specs.Cmp.{nat_cmp_total}
use Rattle.std.specs.FinMap.{nat_cmp-IsAntisymmetric}
use Rattle.std.specs.Ordering.{nat_cmp}
use Rattle.std.proofs.Common.{sym, ap, subst, ◌∙◌, inl, inr}
use Rattle.std.proofs.lemmas.Bool.{false≢true, eqb-true, eq-eqb}
use Rattle.ll_rights.specs.declared.errno.Errno.TheVariants.{EMFILE}
use Rattle.ll_rights.specs.declared.limits.TheConstants.{TREE_CLIENTS}
use Rattle.ll_rights.specs.Errno.{refuse}
use Rattle.ll_rights.specs.Map.{Map, get, has, insert, len}
use Rattle.ll_rights.proofs.Maps.{get-insert_same, insert_cases}
use Rattle.ll_rights.proofs.Sizes.{one_comes, same_len}
use Rattle.ll_seq.specs.declared.call.Call.{Call}
use Rattle.ll_seq.specs.declared.call.Call.TheVariants.{Connect}
use Rattle.ll_seq.specs.declared.client.ClientRecord.{ClientRecord}
use Rattle.ll_seq.specs.declared.reply.Entry.{Entry}
use Rattle.ll_seq.specs.declared.reply.Reply.{Reply}
use Rattle.ll_seq.specs.declared.reply.Reply.TheVariants.{Done, Refused, Spawned}
use Rattle.ll_seq.specs.Effects.{with_client}
use Rattle.ll_seq.specs.History.{MayStand, after, fresh_of, is_connect, state_after}
use Rattle.ll_seq.specs.State.{State, new_client}
use Rattle.ll_seq.specs.Step.{step, refusals, client_of, first_or}
use Rattle.ll_seq.proofs.Consequences.{step-clients_stay, step-no_other, step-spawned}

-- ---- a connect of one who isn't there

-- it comes, or there are too many
abbrev pub Ends : State → ℕ → Reply × State → Type 0
Ends s n outcome =
    ((nat_le TREE_CLIENTS (len s.clients) ≡ false) × (outcome ≡ (Done, with_client s n new_client)))
    ⊎ ((nat_le TREE_CLIENTS (len s.clients) ≡ true) × (outcome ≡ (Refused EMFILE, s)))

-- nobody's record is a new one's
pub nobody_new : (s : State) (n : ℕ) → has s.clients n ≡ false → client_of s n ≡ new_client
nobody_new s n free = by (get s.clients n) free
  where
    by : (o : Option ClientRecord) → is_some o ≡ false → unwrap_or o new_client ≡ new_client
    by None e = refl
    by (Some c) e = absurd (cc e)

pub connects : (s : State) (n fresh : ℕ) → has s.clients n ≡ false → Ends s n (step s n Connect fresh)
connects s n fresh free = subst
    (λ (c : ClientRecord). Ends s n (first_or s (refusals s c Connect) (Done, with_client s n new_client)))
    (sym (nobody_new s n free)) (go (nat_le TREE_CLIENTS (len s.clients)) refl)
  where
    go : (b : Bool) → nat_le TREE_CLIENTS (len s.clients) ≡ b
        → Ends s n (first_or s (map Refused (refuse b EMFILE)) (Done, with_client s n new_client))
    go true e = inr (e, refl)
    go false e = inl (e, refl)

-- who is answered `ok` is there
pub connected_there : (s : State) (n fresh : ℕ) → has s.clients n ≡ false → (step s n Connect fresh).0 ≡ Done
    → has (step s n Connect fresh).1.clients n ≡ true
connected_there s n fresh free told = elim (connects s n fresh free) [
  | inl e ↦ ap (λ (p : Reply × State). has p.1.clients n) e.1
      ∙ ap is_some (get-insert_same nat_cmp_total nat_cmp-IsAntisymmetric s.clients n new_client)
  | inr e ↦ absurd (let both : Done ≡ Refused EMFILE = sym told ∙ ap (λ (p : Reply × State). p.0) e.1 in cc)
]

connect_is : (call : Call) → is_connect call ≡ true → call ≡ Connect
connect_is Connect e = refl
connect_is _ e = absurd (false≢true e)

-- ---- whose entry stands in a history is there

pub caller_there : (s : State) (e : Entry) → MayStand s e → has (after s e).clients e.client ≡ true
caller_there s e may = by (is_connect e.call) refl
  where
    by : (b : Bool) → is_connect e.call ≡ b → has (after s e).clients e.client ≡ true
    by false is = step-clients_stay s e.client e.call (fresh_of e.reply) e.client (may.caller ∙ ap not is)
    by true is =
        let call : e.call ≡ Connect = connect_is e.call is in
        let told = ap (λ k. (step s e.client k (fresh_of e.reply)).0) (sym call) ∙ may.answered ∙ may.connected is in
        ap (λ k. has (step s e.client k (fresh_of e.reply)).1.clients e.client) call
        ∙ connected_there s e.client (fresh_of e.reply) (may.caller ∙ ap not is) told

pub stay_there : (s : State) (es : List Entry) (number : ℕ) → has s.clients number ≡ true
    → has (state_after s es).clients number ≡ true
stay_there s [] number h = h
stay_there s (e ∷ es) number h =
    stay_there (after s e) es number (step-clients_stay s e.client e.call (fresh_of e.reply) number h)

-- ---- how many there are

abbrev mark : ClientRecord → ℕ
mark c = 0

alike : (o o' : Option ClientRecord) → is_some o ≡ is_some o' → option_map mark o ≡ option_map mark o'
alike None None e = refl
alike None (Some c) e = absurd (cc e)
alike (Some c) None e = absurd (cc e)
alike (Some c) (Some d) e = refl

pub as_many : (m n : Map nat_cmp ClientRecord) → ((q : ℕ) → has m q ≡ has n q) → len m ≡ len n
as_many m n same = same_len m n mark mark (λ q. alike (get m q) (get n q) (same q))

not_there : (o : Option ClientRecord) → is_some o ≡ false → o ≡ None
not_there None e = refl
not_there (Some c) e = absurd (cc e)

pub one_more : (m n : Map nat_cmp ClientRecord) (k : ℕ) → has m k ≡ false → has n k ≡ true
    → ((q : ℕ) → q ≢ k → has n q ≡ has m q) → len n ≡ len m + 1
one_more m n k out there others =
    as_many n (insert m k new_client) (λ q. elim (insert_cases nat_cmp_total nat_cmp-IsAntisymmetric m k new_client q) [
      | inl here ↦ ap (has n) here.0 ∙ there ∙ sym (ap is_some here.1)
      | inr away ↦ others q away.0 ∙ sym (ap is_some away.1)
    ])
    ∙ one_comes m k new_client (not_there (get m k) out)

same_or_not : (m n : ℕ) → (m ≡ n) ⊎ (m ≢ n)
same_or_not m n = by (m == n) refl
  where
    by : (b : Bool) → (m == n) ≡ b → (m ≡ n) ⊎ (m ≢ n)
    by true e = inl (eqb-true m n e)
    by false e = inr (λ same. false≢true (sym e ∙ eq-eqb m n same))

module _ (s : State) (e : Entry) (may : MayStand s e) where
  told : (step s e.client e.call (fresh_of e.reply)).0 ≡ e.reply
  told = may.answered

  -- after a call that brings nobody
  pub same_many : is_connect e.call ≡ false → ((n : ℕ) → e.reply ≢ Spawned n)
      → len (after s e).clients ≡ len s.clients
  same_many other none = as_many (after s e).clients s.clients (λ q. elim (same_or_not q e.client) [
    | inl same ↦ ap (has (after s e).clients) same ∙ caller_there s e may
        ∙ sym (ap (has s.clients) same ∙ may.caller ∙ ap not other)
    | inr differ ↦ step-no_other s e.client e.call (fresh_of e.reply) q differ (λ is. none q (sym told ∙ is))
  ])

  -- after a spawn
  pub child_there : (n : ℕ) → e.reply ≡ Spawned n → has (after s e).clients n ≡ true
  child_there n is = (step-spawned s e.client e.call (fresh_of e.reply) n (told ∙ is)).1

  pub one_child : is_connect e.call ≡ false → (n : ℕ) → e.reply ≡ Spawned n
      → len (after s e).clients ≡ len s.clients + 1
  one_child other n is = one_more s.clients (after s e).clients n (may.spawned n is) (child_there n is)
      (λ q apart. elim (same_or_not q e.client) [
        | inl same ↦ ap (has (after s e).clients) same ∙ caller_there s e may
            ∙ sym (ap (has s.clients) same ∙ may.caller ∙ ap not other)
        | inr differ ↦ step-no_other s e.client e.call (fresh_of e.reply) q differ
            (λ bears. let both : Spawned n ≡ Spawned q = sym is ∙ sym told ∙ bears in
            apart (let same : q ≡ n = cc in same))
      ])

  -- after a connect
  pub one_comer : is_connect e.call ≡ true → len (after s e).clients ≡ len s.clients + 1
  one_comer is = one_more s.clients (after s e).clients e.client (may.caller ∙ ap not is) (caller_there s e may)
      (λ q apart. step-no_other s e.client e.call (fresh_of e.reply) q apart
      (λ bears. let both : Done ≡ Spawned q = sym (may.connected is) ∙ sym told ∙ bears in absurd cc))
