-- Sessions on a tree of their own.
use Rattle.std.proofs.Common.{◌≡◌, ◌≢◌, ◌⊎◌, ℕ, zero, suc, ◌+◌, ◌-◌, ◌<◌, ◌≤◌, ◌&&◌, Bool, true, false, cond, List, []}
use Rattle.std.proofs.Common.{◌∷◌, ◌++◌, length, drop, get_or, Option, None, Some, Err, refl, sym, ap, subst, ◌∙◌}
use Rattle.std.proofs.Common.{arith, inl, inr}
use Rattle.std.proofs.lemmas.List.{append-nil, length-append}
use Rattle.std.proofs.lemmas.Bool.{cases_lt, ne_eqb}
use Rattle.std.specs.declared.alloc.Global.{Global}
use Rattle.std.specs.declared.vec.Vec.{Vec}
use Rattle.ll_rights.specs.declared.errno.Errno.{Errno}
use Rattle.ll_rights.specs.declared.errno.Errno.TheVariants.{HistoryFull, NoMemory, BadLine}
use Rattle.ll_rights.specs.Map.{empty, get, has}
use Rattle.ll_seq.specs.declared.call.Call.{Call}
use Rattle.ll_seq.specs.declared.call.Call.TheVariants.{Connect}
use Rattle.ll_seq.specs.declared.reply.Entry.{Entry}
use Rattle.ll_seq.specs.declared.reply.Reply.{Reply}
use Rattle.ll_seq.specs.declared.reply.Reply.TheVariants.{Done, Opened, Bytes, Wrote, Listed, Found, Created, Spawned}
use Rattle.ll_seq.specs.declared.reply.Reply.TheVariants.{Refused, Denied}
use Rattle.ll_seq.specs.declared.rules.Rules.{Rules}
use Rattle.ll_seq.specs.History.{Log}
use Rattle.ll_seq.specs.Memory.{MayStarve, holds_memory}
use Rattle.ll_seq.specs.Stages.{numbers_from}
use Rattle.ll_seq.specs.State.{State, start}
use Rattle.ll_seq.specs.Step.{step}
use Rattle.ll_plain.specs.Refusal.{is_refusal}
use Rattle.ll_wire.proofs.Cuts.{kept, long}
use Rattle.ll_wire.specs.LineCuts.{Holds}
use Rattle.ll_wire.specs.Grammar.{SpellsCommand}
use Rattle.ll_wire.specs.Reads.{ReadsBy, holds_text}
use Rattle.ll_embed.specs.Alone.{IsUnreadIn}
use Rattle.ll_session.specs.Beside.{placed}
use Rattle.ll_session.specs.Counts.{counted, noted}
use Rattle.ll_session.specs.FirstClients.{Coming, Comes, EndsOpening, Loads, Makes, Refuses, Stops, coming_at, fresh}
use Rattle.ll_session.specs.FirstClients.{made, unconnected, unmade}
use Rattle.ll_session.specs.PartySession.{Session, Called, Connects, answered, brought, following, full, joined, next}
use Rattle.ll_session.specs.PartySession.{starved}
use Rattle.ll_session.specs.Session.{Answers, as_written, bad, calls, unread}
use Rattle.ll_session.specs.Strict.{IsEnd, is_of_layers}
use Rattle.ll_session.specs.declared.score.Score.{Score}
use Rattle.ll_session.specs.declared.refusal.Opener.{Opener}
use Rattle.ll_session.specs.declared.refusal.Opener.TheVariants.{Loader, Profile}
use Rattle.ll_session.specs.declared.refusal.Refusal.{Refusal}
use Rattle.ll_session.specs.declared.setup.Setup.{Setup}
use Rattle.ll_session.proofs.Comers.{connected_there}
use Rattle.ll_session.proofs.FirstComers.{next_call}
use Rattle.ll_session.proofs.SessionPlaces.{after_first, how_many, in_place, no_place}

-- ---- clients by their numbers

pub one_more : (k count : ℕ) → numbers_from k count ++ (k + count) ∷ [] ≡ numbers_from k (suc count)
unfolding numbers_from
one_more k zero = let same : k + 0 ≡ k = omega arith in ap (λ j. j ∷ []) same
one_more k (suc count) = let same : k + suc count ≡ suc k + count = omega arith in
    ap (λ j. k ∷ (numbers_from (suc k) count ++ j ∷ [])) same ∙ ap (λ l. k ∷ l) (one_more (suc k) count)

-- whom a reply brings has the next number
with_brought : (k count : ℕ) (r : Reply) → ((told : ℕ) → r ≡ Spawned told → told ≡ k + count)
    → numbers_from k count ++ brought r ≡ numbers_from k (count + length (brought r))
with_brought k count (Spawned told) after =
    let longer : suc count ≡ count + 1 = omega arith in
    ap (λ j. numbers_from k count ++ j ∷ []) (after told refl) ∙ one_more k count ∙ ap (numbers_from k) longer
with_brought k count _ after = let same : count ≡ count + 0 = omega arith in
    append-nil (numbers_from k count) ∙ ap (numbers_from k) same

pub nobody : (rules : Rules) (nodes number : ℕ) → has (start rules nodes).clients number ≡ false
unfolding empty get
nobody rules nodes number = refl

-- the session with this tree and this log, of so many clients after those before
abbrev pub standing : State → Log → (before clients : ℕ) → Session
standing tree log before clients = record {
  tree = tree;
  clients = numbers_from (before + 1) clients;
  entries = log.entries;
  limit = log.limit;
}

-- a log with one more entry
abbrev pub grown : Log → Entry → Log
grown log entry = record log { entries = log.entries ++ entry ∷ [] }

none_yet : (k count : ℕ) → count ≡ 0 → [] ≡ numbers_from k count
unfolding numbers_from
none_yet k count e = rw e refl

-- a new tree
pub is_fresh : (setup : Setup) (tree : State) (log : Log) → tree ≡ start setup.rules setup.nodes
    → log ≡ record { entries = []; limit = setup.history } → standing tree log 0 0 ≡ fresh setup
is_fresh setup tree log is empty =
    ap (λ (l : Log). standing tree l 0 0) empty
    ∙ ap (λ (t : State). record { tree = t; clients = numbers_from 1 0; entries = []; limit = setup.history }) is
    ∙ ap (λ (ns : List ℕ). record {
      tree = start setup.rules setup.nodes;
      clients = ns;
      entries = [];
      limit = setup.history;
    }) (sym (none_yet 1 0 refl))

-- a reply is NoMemory, or it isn't
for_memory : (errno : Errno) → (Refused errno ≡ Refused NoMemory) ⊎ (Refused errno ≢ Refused NoMemory)
for_memory NoMemory = inl refl
for_memory _ = inr (λ e. absurd cc)

pub is_starved : (reply : Reply) → (reply ≡ Refused NoMemory) ⊎ (reply ≢ Refused NoMemory)
is_starved (Refused errno) = for_memory errno
is_starved _ = inr (λ e. absurd cc)

-- those who were there, and whom the reply brings, are
pub there_after : (old new : State) (last : ℕ) (r : Reply) → ((n : ℕ) → 1 ≤ n → n ≤ last → has old.clients n ≡ true)
    → ((n : ℕ) → has old.clients n ≡ true → has new.clients n ≡ true)
    → ((told : ℕ) → r ≡ Spawned told → (told ≡ last + 1) × (has new.clients told ≡ true))
    → (n : ℕ) → 1 ≤ n → n ≤ last + length (brought r) → has new.clients n ≡ true
there_after old new last (Spawned told) there stay comes n first most = elim (cases_lt last n) [
  | inl more ↦ (let c = comes told refl in let same : n ≡ told = (let next = c.0 in omega arith)
      in ap (λ k. has new.clients k) same ∙ c.1)
  | inr less ↦ stay n (there n first less)
]
there_after old new last _ there stay comes n first most = stay n (there n first (omega arith))

-- nobody else is
pub nobody_after : (old new : State) (last client : ℕ) (r : Reply) → client ≤ last
    → ((n : ℕ) → last < n → has old.clients n ≡ false)
    → ((n : ℕ) → n ≢ client → r ≢ Spawned n → has new.clients n ≡ has old.clients n)
    → ((told : ℕ) → r ≡ Spawned told → told ≡ last + 1)
    → (n : ℕ) → last + length (brought r) < n → has new.clients n ≡ false
nobody_after old new last client (Spawned told) known free others comes n more =
    others n (λ same. omega arith) (λ e. let is : told ≡ n = cc in let next = comes told refl in omega arith)
    ∙ free n (omega arith)
nobody_after old new last client r known free others comes n more =
    others n (λ same. omega arith)
    (λ e. let some : length (brought r) ≡ 1 = ap (λ (x : Reply). length (brought x)) e in let next = comes n e
    in omega arith) ∙ free n (omega arith)

-- ---- calls

pub call_enters : (old new : State) (log log' : Log) (before clients clients' n : ℕ) (call : Call) (reply : Reply)
    → length log.entries < log.limit → has old.clients (before + clients + 1) ≡ false
    → ◌≡◌ {A = Reply × State} (reply, new) (step old n call (before + clients + 1))
    → clients' ≡ clients + length (brought reply)
    → ((told : ℕ) → reply ≡ Spawned told → told ≡ before + clients + 1)
    → log' ≡ grown log (record { client = n; call = call; reply = reply })
    → Called (standing old log before clients) n call reply (standing new log' before clients')
call_enters old new log log' before clients clients' n call reply room free is many spawned more =
    let entry : Entry = record { client = n; call = call; reply = reply } in
    let at : (told : ℕ) → reply ≡ Spawned told → told ≡ before + 1 + clients =
    λ told e. let same = spawned told e in omega (arith, same) in
    let all : numbers_from (before + 1) clients ++ brought reply ≡ numbers_from (before + 1) clients' =
    with_brought (before + 1) clients reply at ∙ ap (numbers_from (before + 1)) (sym many) in
    let here = standing old log before clients in
    subst (λ (l : Log). Called here n call reply (standing new l before clients')) (sym more)
    (subst (λ (ns : List ℕ). Called here n call reply
    (record { tree = new; clients = ns; entries = log.entries ++ entry ∷ []; limit = log.limit })) all
    (answered reply new (before + clients + 1) room free is))

-- ---- lines

-- a reply is written with the newest client's place
placed_as : (s t : Session) (n count : ℕ) (call : Call) (reply : Reply) → Called s n call reply t
    → count ≡ length t.clients → placed count reply ≡ as_written s.clients reply
placed_as s t n count call reply (full over) many = refl
placed_as s t n count call reply (starved room may) many = refl
placed_as s t n count call given (answered reply tree fresh room free is) many = go reply many
  where
    go : (r : Reply) → count ≡ length (s.clients ++ brought r) → placed count r ≡ as_written s.clients r
    go (Spawned number) all = ap Spawned (all ∙ length-append s.clients (number ∷ []))
    go Done all = refl
    go (Opened number) all = refl
    go (Bytes bytes) all = refl
    go (Wrote size) all = refl
    go (Listed names) all = refl
    go (Found status) all = refl
    go (Created number) all = refl
    go (Refused errno) all = refl
    go (Denied denial) all = refl

-- the call of a client of the session, for a line that spells it
pub answered_by : (old new : State) (log log' : Log) (before clients clients' n : ℕ) (piece : List ℕ) (call : Call)
    (told : Reply) → SpellsCommand piece n call → n ≤ clients → (before' : ℕ)
    → Called (standing old log before clients) (before + n) call told (standing new log' before' clients')
    → Answers (standing old log before clients) piece (placed clients' told) (standing new log' before' clients')
answered_by old new log log' before clients clients' n piece call told is few before' called =
    let s = standing old log before clients in
    let t = standing new log' before' clients' in
    subst (λ (r : Reply). Answers s piece r t)
    (sym (placed_as s t (before + n) clients' call told called (sym (how_many (before' + 1) clients'))))
    (calls n (before + n) call told t is (in_place before clients n is.is_client.0 few) called)

-- no client of the session makes a call by the piece
pub spells_none : (tree : State) (log : Log) (before clients : ℕ) (piece : List ℕ)
    → ((n : ℕ) (call : Call) → SpellsCommand piece n call → clients < n)
    → Answers (standing tree log before clients) piece (Refused BadLine) (standing tree log before clients)
spells_none tree log before clients piece none = bad (λ n call is. no_place before clients n (none n call is))

and_false : (b : Bool) → (b && false) ≡ false
and_false true = refl
and_false false = refl

-- a reply with bytes or names ends no session
pub held_ends_none : (piece : List ℕ) (n : ℕ) (call : Call) (reply : Reply)
    → SpellsCommand piece n call → holds_memory reply ≡ true → IsEnd piece reply None
held_ends_none piece n call (Bytes bytes) is holds = (n, call, is, and_false (is_of_layers call))
held_ends_none piece n call (Listed names) is holds = (n, call, is, and_false (is_of_layers call))
held_ends_none piece n call Done is holds = absurd cc
held_ends_none piece n call (Opened number) is holds = absurd cc
held_ends_none piece n call (Wrote count) is holds = absurd cc
held_ends_none piece n call (Found status) is holds = absurd cc
held_ends_none piece n call (Created number) is holds = absurd cc
held_ends_none piece n call (Spawned number) is holds = absurd cc
held_ends_none piece n call (Refused errno) is holds = absurd cc
held_ends_none piece n call (Denied denial) is holds = absurd cc

-- it is no refusal
pub held_is_none : (reply : Reply) → holds_memory reply ≡ true → is_refusal reply ≡ false
held_is_none (Bytes bytes) holds = refl
held_is_none (Listed names) holds = refl
held_is_none Done holds = refl
held_is_none (Opened number) holds = refl
held_is_none (Wrote count) holds = refl
held_is_none (Found status) holds = refl
held_is_none (Created number) holds = refl
held_is_none (Spawned number) holds = refl
held_is_none (Refused errno) holds = absurd cc
held_is_none (Denied denial) holds = absurd cc

note_plainly : (score : Score) (reply : Reply)
    → noted score reply false
    ≡ record { is_strict = score.is_strict; tally = counted score.tally reply; end = score.end }
note_plainly score reply = ap (λ (b : Bool).
    record { is_strict = score.is_strict; tally = counted score.tally reply; end = cond b (Some reply) score.end })
    (and_false score.is_strict)

-- it is counted as one without
pub held_counts : (score : Score) (reply : Reply) → holds_memory reply ≡ true
    → noted score reply false ≡ noted score Done false
held_counts score (Bytes bytes) holds = note_plainly score (Bytes bytes) ∙ sym (note_plainly score Done)
held_counts score (Listed names) holds = note_plainly score (Listed names) ∙ sym (note_plainly score Done)
held_counts score Done holds = absurd cc
held_counts score (Opened number) holds = absurd cc
held_counts score (Wrote count) holds = absurd cc
held_counts score (Found status) holds = absurd cc
held_counts score (Created number) holds = absurd cc
held_counts score (Spawned number) holds = absurd cc
held_counts score (Refused errno) holds = absurd cc
held_counts score (Denied denial) holds = absurd cc

-- it names no client
pub held_is_placed : (clients : ℕ) (reply : Reply) → holds_memory reply ≡ true → placed clients reply ≡ reply
held_is_placed clients (Bytes bytes) holds = refl
held_is_placed clients (Listed names) holds = refl
held_is_placed clients Done holds = absurd cc
held_is_placed clients (Opened number) holds = absurd cc
held_is_placed clients (Wrote count) holds = absurd cc
held_is_placed clients (Found status) holds = absurd cc
held_is_placed clients (Created number) holds = absurd cc
held_is_placed clients (Spawned number) holds = absurd cc
held_is_placed clients (Refused errno) holds = absurd cc
held_is_placed clients (Denied denial) holds = absurd cc

-- ---- lines that aren't read

pub too_long : (line : Option (List ℕ)) (piece : List ℕ) (clients : ℕ) → line ≡ None → Holds line piece
    → (n : ℕ) (call : Call) → SpellsCommand piece n call → clients < n
too_long line piece clients none held n call is =
    let more = long line piece none held in let short = is.short in omega (arith, more, short)

-- the line gets this refusal, which ends a strict session
abbrev pub RefusedSo : Session → (piece : List ℕ) → Errno → Type 0
RefusedSo s piece told = Answers s piece (Refused told) s × IsEnd piece (Refused told) (Some (Refused told))

module _ (tree : State) (log : Log) (before clients : ℕ) (line : Option (List ℕ)) (bytes piece : List ℕ)
    (some : line ≡ Some bytes) (held : Holds line piece) where
  abbrev here : Session
  here = standing tree log before clients

  same : bytes ≡ piece
  same = kept line bytes piece some held

  pub not_read : (errno told : Errno)
      → ReadsBy (λ (v : ℕ × Call). SpellsCommand bytes v.0 v.1 × (v.0 ≤ clients))
      (λ (v : ℕ × Call). holds_text v.1 ≡ true) (Err errno)
      → IsUnreadIn (standing tree log before clients) errno told
      → RefusedSo (standing tree log before clients) piece told
  not_read errno told (inl h) (inl over) = absurd (let both = sym h.0 ∙ over.0 in cc)
  not_read errno told (inl h) (inr so) = subst (RefusedSo here piece) (sym (so.0 ∙ h.0)) (
    spells_none tree log before clients piece (λ n call is. elim (cases_lt clients n) [
      | inl more ↦ more
      | inr few ↦ absurd (h.1 (n, call) (subst (λ (p : List ℕ). SpellsCommand p n call) (sym same) is, few))
    ]),
    (refl, inl refl),
  )
  not_read errno told (inr h) (inl over) = subst (RefusedSo here piece) (sym over.2)
      (let is = subst (λ (p : List ℕ). SpellsCommand p h.1.0 h.1.1) same h.2.0 in (
        calls h.1.0 (before + h.1.0) h.1.1 (Refused HistoryFull) here is
            (in_place before clients h.1.0 is.is_client.0 h.2.1) (full over.1),
        (refl, inr (h.1.0, h.1.1, is, refl)),
      ))
  not_read errno told (inr h) (inr so) = subst (RefusedSo here piece) (sym (so.0 ∙ h.0))
      (let is = subst (λ (p : List ℕ). SpellsCommand p h.1.0 h.1.1) same h.2.0 in (
        unread h.1.0 (before + h.1.0) h.1.1 is (in_place before clients h.1.0 is.is_client.0 h.2.1) (so.1 h.0) h.3,
        (refl, inr (h.1.0, h.1.1, is, refl)),
      ))

-- ---- a client that comes

module _ (old : State) (log : Log) (before clients : ℕ) where
  abbrev now : Session
  now = standing old log before clients

  named : following now ≡ clients + 1
  named = ap (λ (n : ℕ). n + 1) (how_many (before + 1) clients)

  pub following_is : following (standing old log before clients) ≡ clients + 1
  following_is = named

  vacant : has old.clients (clients + 1) ≡ false → has old.clients (following now) ≡ false
  vacant free = ap (has old.clients) named ∙ free

  pub none_fits : log.limit ≤ length log.entries → has old.clients (clients + 1) ≡ false
      → (t : Session) × Connects (standing old log before clients) (Refused HistoryFull) t
  none_fits over free = (now, (vacant free, full over))

  pub none_has_memory : length log.entries < log.limit → has old.clients (clients + 1) ≡ false
      → MayStarve old (clients + 1) Connect
      → (t : Session) × Connects (standing old log before clients) (Refused NoMemory) t
  none_has_memory room free may =
      (now, (vacant free, starved room (subst (λ (n : ℕ). MayStarve old n Connect) (sym named) may)))

  -- the connect's step is the session's
  steps : (outcome : Reply × State)
      → ◌≡◌ {A = Reply × State} outcome (step old (clients + 1) Connect (clients + 1))
      → ◌≡◌ {A = Reply × State} outcome (step old (following now) Connect (clients + 1))
  steps outcome is = is ∙ ap (λ (n : ℕ). step old n Connect (clients + 1)) (sym named)

  pub none_comes : (errno : Errno) (new : State) → length log.entries < log.limit
      → has old.clients (clients + 1) ≡ false
      → ◌≡◌ {A = Reply × State} (Refused errno, new) (step old (clients + 1) Connect (clients + 1))
      → (t : Session) × Connects (standing old log before clients) (Refused errno) t
  none_comes errno new room free is = (
    next now (following now) Connect (Refused errno) new,
    (vacant free, answered (Refused errno) new (clients + 1) room free (steps (Refused errno, new) is)),
  )

  pub comes : (new : State) (log' : Log) → before ≡ 0 → length log.entries < log.limit
      → has old.clients (clients + 1) ≡ false
      → ◌≡◌ {A = Reply × State} (Done, new) (step old (clients + 1) Connect (clients + 1))
      → log' ≡ grown log (record { client = clients + 1; call = Connect; reply = Done })
      → (t : Session) × Connects (standing old log before clients) Done t
      × (standing new log' before (clients + 1) ≡ joined (standing old log before clients) t)
  comes new log' alone room free is more = (
    next now (following now) Connect Done new,
    (vacant free, answered Done new (clients + 1) room free (steps (Done, new) is)),
    ap (λ (l : Log). standing new l before (clients + 1)) more
        ∙ ap (λ (ns : List ℕ). record {
          tree = new;
          clients = ns;
          entries = log.entries ++ record { client = clients + 1; call = Connect; reply = Done } ∷ [];
          limit = log.limit;
        }) (sym longer)
        ∙ ap (λ (n : ℕ). record {
          tree = new;
          clients = (numbers_from (before + 1) clients ++ []) ++ following now ∷ [];
          entries = log.entries ++ record { client = n; call = Connect; reply = Done } ∷ [];
          limit = log.limit;
        }) (sym named),
  )
    where
      longer : (numbers_from (before + 1) clients ++ []) ++ following now ∷ [] ≡ numbers_from (before + 1) (clients + 1)
      longer =
          let number : following now ≡ before + 1 + clients =
          named ∙ (let same : clients + 1 ≡ before + 1 + clients = omega (arith, alone) in same) in
          let count : suc clients ≡ clients + 1 = omega arith in
          ap (λ (l : List ℕ). l ++ following now ∷ []) (append-nil (numbers_from (before + 1) clients))
          ∙ ap (λ (n : ℕ). numbers_from (before + 1) clients ++ n ∷ []) number
          ∙ one_more (before + 1) clients ∙ ap (numbers_from (before + 1)) count

-- who has connected is there
pub comes_there : (old new : State) (n fresh : ℕ) → has old.clients n ≡ false
    → ◌≡◌ {A = Reply × State} (Done, new) (step old n Connect fresh) → has new.clients n ≡ true
comes_there old new n fresh free is =
    ap (λ (p : Reply × State). has p.1.clients n) is
    ∙ connected_there old n fresh free (sym (ap (λ (p : Reply × State). p.0) is))

-- ---- its calls

module _ (client : ℕ) (first s mid : Session) (items yielded : List Call) (call : Call) (told : Reply)
    (turn : (length yielded < length items) × (call ≡ get_or items (length yielded) call))
    (called : Called s client call told mid) where
  pub makes_on : is_refusal told ≡ false
      → ((t : Session) → Makes client s (drop (length yielded) items) t → Makes client first items t)
      → (t : Session) → Makes client mid (drop (length (yielded ++ call ∷ [])) items) t → Makes client first items t
  makes_on quiet so t rest = so t
      (subst (λ (l : List Call). Makes client s l t) (sym (next_call items yielded call turn))
      (told, mid, called, quiet, rest))

  pub stops_on : is_refusal told ≡ false
      → ((number all : ℕ) (reply : Reply) (t : Session) → all ≡ length yielded + number
      → Stops client s (drop (length yielded) items) number reply t → Stops client first items all reply t)
      → (number all : ℕ) (reply : Reply) (t : Session) → all ≡ length (yielded ++ call ∷ []) + number
      → Stops client mid (drop (length (yielded ++ call ∷ [])) items) number reply t
      → Stops client first items all reply t
  stops_on quiet so number all reply t e rest =
      let more : length (yielded ++ call ∷ []) ≡ length yielded + 1 = length-append yielded (call ∷ []) in
      so (number + 1) all reply t (omega (arith, e, more))
      (subst (λ (l : List Call). Stops client s l (number + 1) reply t) (sym (next_call items yielded call turn))
      (told, mid, called, inr (quiet, number, refl, rest)))

  pub stops_here : (all : ℕ) → all ≡ length yielded + 1 → is_refusal told ≡ true
      → ((number all : ℕ) (reply : Reply) (t : Session) → all ≡ length yielded + number
      → Stops client s (drop (length yielded) items) number reply t → Stops client first items all reply t)
      → Stops client first items all told mid
  stops_here all e loud so = so 1 all told mid e
      (subst (λ (l : List Call). Stops client s l 1 told mid) (sym (next_call items yielded call turn))
      (told, mid, called, inl (loud, refl, refl, refl)))

-- ---- a client that comes and makes its calls

-- it has connected, and the session is this one now
abbrev pub HasCome : (s after : Session) → Type 0
HasCome s after = (mid : Session) × Connects s Done mid × (after ≡ joined s mid)

pub comes_made : (s after t : Session) (client : ℕ) (list : List Call) → HasCome s after → following s ≡ client
    → Makes client after list t → Comes s list (made t)
comes_made s after t client list c is makes = (
  c.0,
  c.1,
  subst (λ (n : ℕ). Makes n (joined s c.0) list t) (sym is)
      (subst (λ (u : Session). Makes client u list t) c.2 makes),
)

pub comes_unmade : (s after t : Session) (client : ℕ) (list : List Call) (refusal : Refusal) → HasCome s after
    → following s ≡ client → 1 ≤ refusal.calls → Stops client after list refusal.calls refusal.reply t
    → Comes s list (coming_at refusal t)
comes_unmade s after t client list refusal c is some stops = subst
    (λ (b : Bool). Comes s list (cond b (unconnected refusal.reply t) (unmade refusal.calls refusal.reply t)))
    (sym (ne_eqb refusal.calls 0 (λ e. omega (arith, e, some)))) (
      c.0,
      c.1,
      subst (λ (n : ℕ). Stops n (joined s c.0) list refusal.calls refusal.reply t) (sym is)
          (subst (λ (u : Session). Stops client u list refusal.calls refusal.reply t) c.2 stops),
    )

-- ---- an opening

pub loads_some : (s : Session) (loader : Option (Vec Call Global)) (list : Vec Call Global) (end : Coming)
    → loader ≡ Some list → Comes s list.items end → Loads s loader end
loads_some s loader list end is comes = subst (λ (o : Option (Vec Call Global)). Loads s o end) (sym is) comes

pub loads_none : (s : Session) (loader : Option (Vec Call Global)) → loader ≡ None → Loads s loader (made s)
loads_none s loader is = subst (λ (o : Option (Vec Call Global)). Loads s o (made s)) (sym is) refl

-- the session after the loader
pub after_loader : (tree : State) (log : Log) (before loaded total : ℕ) (s : Session) → before ≡ 0 → loaded ≤ total
    → length s.clients ≡ loaded
    → standing tree log loaded (total - loaded)
    ≡ record (standing tree log before total) { clients = drop (length s.clients) (numbers_from (before + 1) total) }
after_loader tree log before loaded total s alone less many =
    let first : before + 1 + loaded ≡ loaded + 1 = omega (arith, alone) in
    ap (λ (ns : List ℕ). record { tree = tree; clients = ns; entries = log.entries; limit = log.limit })
    (sym (ap (λ (n : ℕ). drop n (numbers_from (before + 1) total)) many ∙ after_first loaded (before + 1) total less
    ∙ ap (λ (k : ℕ). numbers_from k (total - loaded)) first))

-- the loader is refused, or the first client
pub loader_refused : (setup : Setup) (t : Session) (refusal : Refusal) → refusal.opener ≡ Loader
    → Loads (fresh setup) setup.loader (coming_at refusal t) → Refuses setup refusal t
loader_refused setup t refusal who loads =
    subst (λ (o : Opener). EndsOpening o setup (coming_at refusal t)) (sym who) loads

pub profile_refused : (setup : Setup) (loaded t : Session) (refusal : Refusal) → refusal.opener ≡ Profile
    → Loads (fresh setup) setup.loader (made loaded) → Comes loaded setup.profile.items (coming_at refusal t)
    → Refuses setup refusal t
profile_refused setup loaded t refusal who loads comes =
    subst (λ (o : Opener). EndsOpening o setup (coming_at refusal t)) (sym who) (loaded, loads, comes)
