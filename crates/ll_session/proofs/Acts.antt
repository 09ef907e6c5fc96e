-- What a client does that has met all others is an act of the session, and it is the last one then.
use Rattle.std.specs.Prelude.{◌≡◌, ◌≢◌, ℕ, zero, suc, ◌<◌, ◌≤◌, false, List, [], ◌∷◌, ◌++◌, length, Some, None}
use Rattle.std.specs.Prelude.{slice_get, slice_set, refl}
use Rattle.std.proofs.Common.{sym, ap, subst, ◌∙◌, inr, arith}
use Rattle.std.proofs.lemmas.Bool.{false≢true}
use Rattle.ll_journal.specs.declared.direct.Made.TheVariants as made
use Rattle.ll_journal.specs.declared.direct.Made.{Made}
use Rattle.ll_rights.specs.declared.errno.Errno.{Errno}
use Rattle.ll_rights.specs.declared.errno.Errno.TheVariants as errnos
use Rattle.ll_seq.specs.declared.call.Call.{Call}
use Rattle.ll_seq.specs.declared.call.Call.TheVariants.{Connect, Spawn}
use Rattle.ll_seq.specs.declared.reply.Reply.{Reply}
use Rattle.ll_seq.specs.declared.reply.Reply.TheVariants.{Done, Spawned}
use Rattle.ll_seq.specs.History.{is_connect}
use Rattle.ll_client.specs.CallStart.{childless}
use Rattle.ll_client.specs.Entries.{Knows, knows, numbered}
use Rattle.ll_client.specs.Gains.{Gains, Told}
use Rattle.ll_client.specs.Replies.{Fits, success}
use Rattle.ll_session.specs.Talk.{Asks, IsLast, IsMet, Joins, LooksAt, Spawns, is_birth, met, seen_by}
use Rattle.ll_session.proofs.KeptParts.{push_there, set_there}
use Rattle.ll_session.proofs.Seen.{seen_push, seen_set}

-- ---- who brings nobody

-- only a spawn is answered by a child
not_spawned : (call : Call) (n : ℕ) → call ≢ Spawn → success call (Spawned n) ≡ false
not_spawned Spawn n other = absurd (other refl)
not_spawned _ n other = refl

brings_none : (call : Call) (reply : Reply) → call ≢ Spawn → Fits (success call) reply
    → is_birth (made.Replied reply) ≡ false
brings_none call (Spawned n) other fits = absurd (false≢true (sym (not_spawned call n other) ∙ fits))
brings_none call _ other fits = refl

pub others_bring_none : (limit : ℕ) (call : Call) (k k' : Knows) (it : Made) → call ≢ Spawn → Gains limit call k it k'
    → is_birth it ≡ false
others_bring_none limit call k k' (made.Replied reply) other gains = brings_none call reply other gains.1
others_bring_none limit call k k' made.HistoryFull other gains = refl
others_bring_none limit call k k' made.NoMemory other gains = refl

pub childless_brings_none : (errno : Errno) → is_birth (childless errno) ≡ false
childless_brings_none errnos.HistoryFull = refl
childless_brings_none errnos.NoMemory = refl
childless_brings_none _ = refl

-- ---- the client has met all of them

set_again : (ks : List Knows) (place : ℕ) (j k : Knows)
    → slice_set (slice_set ks place j) place k ≡ slice_set ks place k
set_again [] place j k = refl
set_again (i ∷ ks) zero j k = refl
set_again (i ∷ ks) (suc place) j k = ap (λ l. i ∷ l) (set_again ks place j k)

set_last : (ks ks' : List Knows) (place : ℕ) (me now : Knows) → slice_get ks place ≡ Some me → seen_by ks ≤ now.seen
    → ks' ≡ slice_set ks place now → IsLast ks' place
set_last ks ks' place me now at later is = inr (
  now,
  ap (λ l. slice_get l place) is ∙ set_there ks place me now at,
  sym (ap seen_by is ∙ seen_set ks place me now at later),
)

module _ (ks mid : List Knows) (place : ℕ) (m : IsMet ks place mid) (known : Knows)
    (at : slice_get mid place ≡ Some known)
  where
    is_met : known ≡ met ks m.0
    is_met = let both : Some known ≡ Some (met ks m.0) =
        sym at ∙ ap (λ l. slice_get l place) m.2 ∙ set_there ks place m.0 (met ks m.0) m.1 in cc

    set_met : (now : Knows) → slice_set mid place now ≡ slice_set ks place now
    set_met now = ap (λ l. slice_set l place now) m.2 ∙ set_again ks place (met ks m.0) now

    pub asks_so : (limit : ℕ) (call : Call) (it : Made) (now : Knows) (ks' : List Knows) → is_connect call ≡ false
        → is_birth it ≡ false → Gains limit call known it now → ks' ≡ slice_set mid place now
        → Asks limit ks place call it ks'
    asks_so limit call it now ks' other none gains is = record {
      me = m.0;
      now = now;
      at = m.1;
      other = other;
      childless = none;
      gains = subst (λ (k : Knows). Gains limit call k it now) is_met gains;
      after = is ∙ set_met now;
    }

    pub spawns_so : (child : ℕ) (now : Knows) (ks' : List Knows) → Told Spawn (Spawned child) known now
        → ks' ≡ slice_set mid place now ++ knows child [] [] now.seen None ∷ [] → Spawns ks place child ks'
    spawns_so child now ks' told is = record {
      me = m.0;
      now = now;
      at = m.1;
      told = subst (λ (k : Knows). Told Spawn (Spawned child) k now) is_met told;
      after = is ∙ ap (λ l. l ++ knows child [] [] now.seen None ∷ []) (set_met now);
    }

    is_seen : known.seen ≡ seen_by ks
    is_seen = ap (λ (k : Knows). k.seen) is_met

    pub told_last : (now : Knows) (ks' : List Knows) → known.seen < now.seen → ks' ≡ slice_set mid place now
        → IsLast ks' place
    told_last now ks' later is =
        let same = is_seen in set_last ks ks' place m.0 now m.1 (omega (arith, same, later)) (is ∙ set_met now)

    pub told_seen : (now : Knows) (ks' : List Knows) → known.seen < now.seen → ks' ≡ slice_set mid place now
        → seen_by ks' ≡ now.seen
    told_seen now ks' later is =
        let same = is_seen in
        ap seen_by (is ∙ set_met now) ∙ seen_set ks place m.0 now m.1 (omega (arith, same, later))

-- ---- who is the last one then

pub push_last : (ks ks' : List Knows) (now : Knows) → seen_by ks ≤ now.seen → ks' ≡ ks ++ now ∷ []
    → IsLast ks' (length ks)
push_last ks ks' now later is = inr (
  now,
  ap (λ l. slice_get l (length ks)) is ∙ push_there ks now,
  sym (ap seen_by is ∙ seen_push ks now later),
)

gains_later : (limit : ℕ) (call : Call) (k now : Knows) (it : Made) → Gains limit call k it now → k.seen ≤ now.seen
gains_later limit call k now (made.Replied reply) gains = let lt = gains.0 in omega (arith, lt)
gains_later limit call k now made.HistoryFull gains =
    let less = gains.0 in
    let last : now.seen ≡ limit = ap (λ (j : Knows). j.seen) gains.1 in
    omega (arith, less, last)
gains_later limit call k now made.NoMemory gains = gains.1

pub asks_last : (limit : ℕ) (ks ks' : List Knows) (place : ℕ) (call : Call) (it : Made)
    → Asks limit ks place call it ks'
    → IsLast ks' place
asks_last limit ks ks' place call it a =
    set_last ks ks' place a.me a.now a.at (gains_later limit call (met ks a.me) a.now it a.gains) a.after

pub spawns_last : (ks ks' : List Knows) (place child : ℕ) → (a : Spawns ks place child ks')
    → IsLast ks' (length (slice_set ks place a.now))
spawns_last ks ks' place child a =
    let lt = a.told.0 in
    let same = seen_set ks place a.me a.now a.at (omega (arith, lt)) in
    push_last (slice_set ks place a.now) ks' (knows child [] [] a.now.seen None) (omega (arith, same)) a.after

pub joins_last : (ks ks' : List Knows) (number : ℕ) → Joins ks number ks' → IsLast ks' (length ks)
joins_last ks ks' number j =
    let lt = j.later in
    push_last ks ks' (knows number (numbered j.seen Connect Done ∷ []) [] j.seen None) (omega (arith, lt)) j.after

pub looks_last : (ks ks' : List Knows) (place : ℕ) → LooksAt ks place ks' → IsLast ks' place
looks_last ks ks' place l = set_last ks ks' place l.me (record l.me { seen = l.seen }) l.at l.later l.after
