-- What an act of a party comes to, after a look whether the history is full.
use Rattle.std.specs.Prelude.{⊤, ◌≡◌, ◌↔◌, ℕ, ◌<◌, ◌≤◌, Bool, IsTrue, false, List, length}
use Rattle.std.specs.Prelude.{Some, option_map, slice_get, refl}
use Rattle.std.proofs.Common.{sym, ap, subst, ◌∙◌, inl, inr, arith}
use Rattle.std.proofs.lemmas.Bool.{false≢true}
use Rattle.std.proofs.lemmas.Option.{slice_get-map}
use Rattle.ll_rights.specs.declared.errno.Errno.{Errno}
use Rattle.ll_rights.specs.declared.errno.Errno.TheVariants.{EMFILE, HistoryFull, NoMemory}
use Rattle.ll_rights.specs.declared.limits.TheConstants.{TREE_CLIENTS}
use Rattle.ll_seq.specs.declared.call.Call.{Call}
use Rattle.ll_seq.specs.declared.call.Call.TheVariants.{Spawn}
use Rattle.ll_seq.specs.declared.reply.Entry.{Entry}
use Rattle.ll_seq.specs.declared.reply.Reply.TheVariants.{Done, Refused, Spawned}
use Rattle.ll_seq.specs.declared.reply.Reply.{Reply}
use Rattle.ll_seq.specs.declared.rules.Rules.{Rules}
use Rattle.ll_journal.specs.declared.direct.Made.{Made}
use Rattle.ll_client.specs.Closed.{IsClosed, numbers_of}
use Rattle.ll_client.specs.CallStart.{childless}
use Rattle.ll_client.specs.Entries.{Knows}
use Rattle.ll_session.specs.Between.{IsSettled, Leads, between}
use Rattle.ll_session.specs.PartySession.{Called, Connects, Session, following, joined}
use Rattle.ll_session.specs.Talk.{Asks, AsksFor, Goes, Joins, Spawns, asks, looks, nowhere, reply_of, seen_by}
use Rattle.ll_session.proofs.Edges.{may_fail}
use Rattle.ll_session.proofs.ActChains.{nothing_leads, so_leads, then_leads}
use Rattle.ll_session.proofs.Turns as turns

-- there is a session to which its connect leads, with this refusal
abbrev pub IsRefused : Errno → Session → Type 0
IsRefused errno s = (mid : Session) × Connects s (Refused errno) mid

-- whoever connects is refused, and nothing changes
abbrev pub Refuses : Errno → Session → Session → Type 0
Refuses errno s t = IsRefused errno s × (t ≡ s)

-- the next client has come
abbrev pub Brings : Session → Session → Type 0
Brings s t = (mid : Session) × Connects s Done mid × (joined s mid ≡ t)

-- it has come under this number, which is the next
abbrev Comes : ℕ → Session → Session → Type 0
Comes number s t = (mid : Session) × Connects s Done mid × (joined s mid ≡ t) × (number ≡ following s)

-- the call of the client at this place
abbrev pub Replies : ℕ → Call → Reply → Session → Session → Type 0
Replies place call reply s t = (client : ℕ) × (slice_get s.clients place ≡ Some client) × Called s client call reply t

abbrev pub Stays : Session → Session → Type 0
Stays s t = t ≡ s

module _ (rules : Rules) (room limit : ℕ) where
  -- ---- nothing changes, and then something

  pub stays_on : (is js ks : List Knows) → Leads rules room limit is js Stays → Leads rules room limit js ks Stays
      → Leads rules room limit is ks Stays
  stays_on is js ks one two =
      so_leads rules room limit is ks (λ s u. (t : Session) × Stays s t × Stays t u) Stays
      (then_leads rules room limit is js ks Stays Stays one two)
      (λ history end c s s' h. h.2 ∙ h.1)

  refused_so : (errno : Errno) (is ks : List Knows) → Leads rules room limit is ks Stays
      → ((history : List Entry) (end : List Knows) → IsClosed rules room limit history end
      → IsSettled rules room history ks → IsRefused errno (between rules room limit history ks))
      → Leads rules room limit is ks (Refuses errno)
  refused_so errno is ks one fails =
      so_leads rules room limit is ks Stays (Refuses errno) one
      (λ history end c s s' same. (subst (IsRefused errno) same (fails history end c s'), same))

  pub full_so : (is ks : List Knows) → Leads rules room limit is ks Stays → limit ≤ seen_by ks
      → Leads rules room limit is ks (Refuses HistoryFull)
  full_so is ks one full =
      refused_so HistoryFull is ks one
      (λ history end c s. (between rules room limit history ks, (may_fail rules room limit history ks end c s).0 full))

  pub many_so : (is ks : List Knows) → Leads rules room limit is ks Stays → seen_by ks < limit
      → TREE_CLIENTS ≤ length ks → Leads rules room limit is ks (Refuses EMFILE)
  many_so is ks one free many =
      refused_so EMFILE is ks one (λ history end c s. (may_fail rules room limit history ks end c s).1 free many)

  pub starved_so : (is ks : List Knows) → Leads rules room limit is ks Stays → seen_by ks < limit
      → length ks < TREE_CLIENTS → Leads rules room limit is ks (Refuses NoMemory)
  starved_so is ks one free few =
      refused_so NoMemory is ks one
      (λ history end c s. (
        between rules room limit history ks,
        (may_fail rules room limit history ks end c s).2 free few,
      ))

  pub joined_so : (is js ks : List Knows) (number : ℕ) → Leads rules room limit is js Stays → Joins js number ks
      → Leads rules room limit is ks Brings
  joined_so is js ks number one j =
      so_leads rules room limit is ks (λ s u. (t : Session) × Stays s t × Comes number t u) Brings
      (then_leads rules room limit is js ks Stays (Comes number) one (turns.joins rules room limit js ks number j))
      (λ history end c s s' h. subst (λ t. Brings t (between rules room limit history ks)) h.1
      (h.2.0, h.2.1, h.2.2))

  -- ---- calls

  number_at : (ks : List Knows) (place : ℕ) (k : Knows) → slice_get ks place ≡ Some k
      → slice_get (numbers_of ks) place ≡ Some k.number
  number_at ks place k at =
      slice_get-map (λ (x : Knows). x.number) ks place ∙ ap (λ o. option_map (λ (x : Knows). x.number) o) at

  asked_so : (ks ks' : List Knows) (place : ℕ) (call : Call) (it : Made) → Asks limit ks place call it ks'
      → Leads rules room limit ks ks' (Replies place call (reply_of it))
  asked_so ks ks' place call it a =
      so_leads rules room limit ks ks' (λ s t. Called s a.me.number call (reply_of it) t)
      (Replies place call (reply_of it)) (turns.asks rules room limit ks ks' place call it a)
      (λ history end c s s' called. (a.me.number, number_at ks place a.me a.at, called))

  -- what a call comes to that brings nobody
  pub call_so : (ks ks' : List Knows) (place : ℕ) (call : Call) (reply : Reply)
      → (it : Made) × Asks limit ks place call it ks' × (reply ≡ reply_of it)
      → Leads rules room limit ks ks' (Replies place call reply)
  call_so ks ks' place call reply it =
      subst (λ r. Leads rules room limit ks ks' (Replies place call r)) (sym it.2)
      (asked_so ks ks' place call it.0 it.1)

  spawned_so : (ks ks' : List Knows) (place child : ℕ) → Spawns ks place child ks'
      → Leads rules room limit ks ks' (Replies place Spawn (Spawned child))
  spawned_so ks ks' place child a =
      so_leads rules room limit ks ks'
      (λ s t. Called s a.me.number Spawn (Spawned child) t × (child ≡ following s))
      (Replies place Spawn (Spawned child)) (turns.spawns rules room limit ks ks' place child a)
      (λ history end c s s' h. (a.me.number, number_at ks place a.me a.at, h.0))

  -- what a call comes to, whoever it brings
  pub ask_so : (ks ks' : List Knows) (place : ℕ) (call : Call) (reply : Reply)
      → AsksFor limit ks place call reply ks' → Leads rules room limit ks ks' (Replies place call reply)
  ask_so ks ks' place call reply (inl child) =
      subst (λ r. Leads rules room limit ks ks' (Replies place call r)) (sym child.3)
      (subst (λ (c : Call). Leads rules room limit ks ks' (Replies place c (Spawned child.0))) (sym child.1)
      (spawned_so ks ks' place child.0 child.2))
  ask_so ks ks' place call reply (inr it) = call_so ks ks' place call reply it

  -- ---- calls and looks, whatever they come to

  any_leads : (ks ks' : List Knows) (Holds : Session → Session → Type 0) → Leads rules room limit ks ks' Holds
      → Leads rules room limit ks ks' (λ s t. ⊤)
  any_leads ks ks' Holds leads = so_leads rules room limit ks ks' Holds (λ s t. ⊤) leads (λ history end c s t h. tt)

  any_then : (is js ks : List Knows) → Leads rules room limit is js (λ s t. ⊤)
      → Leads rules room limit js ks (λ s t. ⊤) → Leads rules room limit is ks (λ s t. ⊤)
  any_then is js ks one two =
      any_leads is ks (λ s u. (t : Session) × ⊤ × ⊤)
      (then_leads rules room limit is js ks (λ s t. ⊤) (λ s t. ⊤) one two)

  pub goes_so : (ks ks' : List Knows) → Goes limit ks ks' → Leads rules room limit ks ks' (λ s t. ⊤)
  goes_so ks ks' nowhere = any_leads ks ks Stays (nothing_leads rules room limit ks)
  goes_so ks ks' (asks mid end place call reply before act) =
      any_then ks mid end (goes_so ks mid before)
      (any_leads mid end (Replies place call reply) (ask_so mid end place call reply act))
  goes_so ks ks' (looks mid end before act) =
      any_then ks mid end (goes_so ks mid before)
      (any_leads mid end Stays (turns.looks rules room limit mid end act))

-- a spawn without a child is answered by the errno
pub refusal_of : (errno : Errno) → reply_of (childless errno) ≡ Refused errno
refusal_of HistoryFull = refl
refusal_of NoMemory = refl
refusal_of _ = refl

-- there is room in the history
pub not_full : (b : Bool) (limit seen : ℕ) → IsTrue b ↔ (limit ≤ seen) → b ≡ false → seen < limit
not_full b limit seen both is =
    let no : (limit ≤ seen) → ⊥ = λ le. false≢true (sym is ∙ both.1 le) in omega (arith, no)
