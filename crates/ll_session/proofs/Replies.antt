-- The reply to a line.
use Rattle.std.proofs.Common.{◌≡◌, ℕ, ◌+◌, ◌-◌, ◌<◌, ◌≤◌, true, List, [], ◌∷◌, ◌++◌, length, drop, Option, None, Some}
use Rattle.std.proofs.Common.{Err}
use Rattle.std.proofs.Common.{refl, sym, ap, subst, ◌∙◌, arith, inl, inr}
use Rattle.std.specs.Prelude.{slice_get, take}
use Rattle.std.proofs.lemmas.List.{length-append, length-drop, length-set, length-take-le}
use Rattle.std.proofs.lemmas.Bool.{cases_lt}
use Rattle.ll_rights.specs.declared.errno.Errno.{Errno}
use Rattle.ll_rights.specs.declared.errno.Errno.TheVariants.{HistoryFull, NoMemory, BadLine}
use Rattle.ll_seq.specs.declared.call.Call.{Call}
use Rattle.ll_seq.specs.declared.reply.Entry.{Entry}
use Rattle.ll_seq.specs.declared.reply.Reply.{Reply}
use Rattle.ll_seq.specs.declared.reply.Reply.TheVariants.{Done, Opened, Bytes, Wrote, Listed, Found, Created, Spawned}
use Rattle.ll_seq.specs.declared.reply.Reply.TheVariants.{Refused, Denied}
use Rattle.ll_seq.specs.declared.rules.Rules.{Rules}
use Rattle.ll_seq.specs.Stages.{numbers_from}
use Rattle.ll_client.specs.Closed.{numbers_of}
use Rattle.ll_client.specs.Entries.{Knows}
use Rattle.ll_wire.specs.LineCuts.{Holds}
use Rattle.ll_wire.proofs.Cuts.{kept, long}
use Rattle.ll_wire.specs.Grammar.{SpellsCommand}
use Rattle.ll_wire.specs.Reads.{ReadsBy, holds_text}
use Rattle.ll_session.specs.Between.{IsSettled, Leads, between}
use Rattle.ll_session.specs.PartySession.{Session, Called, answered, brought, full, starved}
use Rattle.ll_session.specs.Talk.{AsksFor, Goes, Looks, looks, nowhere, seen_by}
use Rattle.ll_session.proofs.Later.{called_later}
use Rattle.ll_session.proofs.ActChains.{nothing_leads, so_leads}
use Rattle.ll_session.proofs.Leadings.{ask_so}
use Rattle.ll_session.proofs.Lists.{asks_for_count}
use Rattle.ll_session.proofs.Seen.{count_numbers}
use Rattle.ll_session.proofs.Turns as turns
use Rattle.ll_session.specs.Session.{Answers, as_written, bad, calls, unread}
use Rattle.ll_session.specs.Beside as beside
use Rattle.ll_session.specs.Beside.{AnswersBeside, placed}
use Rattle.ll_session.specs.Progress.{IsUnread, without}
use Rattle.ll_session.proofs.Ways.{by_number}
use Rattle.ll_session.proofs.SessionPlaces.{after_first, in_place, no_place}

-- a reply is written with the newest client's place
placed_as : (s t : Session) (n count : ℕ) (call : Call) (reply : Reply) → Called s n call reply t
    → count ≡ length t.clients → placed count reply ≡ as_written s.clients reply
placed_as s t n count call reply (full over) many = refl
placed_as s t n count call reply (starved room may) many = refl
placed_as s t n count call given (answered reply tree fresh room free is) many = go reply many
  where
    go : (r : Reply) → count ≡ length (s.clients ++ brought r) → placed count r ≡ as_written s.clients r
    go (Spawned number) all = ap Spawned (all ∙ length-append s.clients (number ∷ []))
    go Done all = refl
    go (Opened number) all = refl
    go (Bytes bytes) all = refl
    go (Wrote size) all = refl
    go (Listed names) all = refl
    go (Found status) all = refl
    go (Created number) all = refl
    go (Refused errno) all = refl
    go (Denied denial) all = refl

-- ---- the clients of a session

module _ (rules : Rules) (room limit : ℕ) (history : List Entry) (ks : List Knows) (before : ℕ)
    (s : IsSettled rules room history ks) (less : before ≤ length ks) where
  its_clients : drop before (numbers_of ks) ≡ numbers_from (before + 1) (length ks - before)
  its_clients =
      let same : 1 + before ≡ before + 1 = omega arith in
      ap (drop before) s.numbers ∙ after_first before 1 (length ks) less
      ∙ ap (λ k. numbers_from k (length ks - before)) same

  caller : (place : ℕ) → 1 ≤ place → place ≤ length ks - before
      → slice_get (drop before (numbers_of ks)) (place - 1) ≡ Some (before + place)
  caller place first last =
      ap (λ ns. slice_get ns (place - 1)) its_clients ∙ in_place before (length ks - before) place first last

  no_caller : (place : ℕ) → length ks - before < place
      → slice_get (drop before (numbers_of ks)) (place - 1) ≡ None
  no_caller place more =
      ap (λ ns. slice_get ns (place - 1)) its_clients ∙ no_place before (length ks - before) place more

  -- the piece spells no call of one of them
  spells_none : (piece : List ℕ) → ((n : ℕ) (call : Call) → SpellsCommand piece n call → length ks < before + n) →
      let now = without before (between rules room limit history ks) in Answers now piece (Refused BadLine) now
  spells_none piece none =
      bad (λ n call is. let more = none n call is in no_caller n (omega (arith, more, less)))

  -- it spells a call of one of them, which isn't read
  module _ (piece : List ℕ) (n : ℕ) (call : Call) (is : SpellsCommand piece n call) (low : before + n ≤ length ks)
      (holds : holds_text call ≡ true) where
    caller_here : slice_get (drop before (numbers_of ks)) (n - 1) ≡ Some (before + n)
    caller_here = caller n is.is_client.0 (omega (arith, low))

    over : limit ≤ length (take (seen_by ks) history) →
        let now = without before (between rules room limit history ks) in Answers now piece (Refused HistoryFull) now
    over filled =
        let now = without before (between rules room limit history ks) in
        calls n (before + n) call (Refused HistoryFull) now is caller_here (full filled)

    not_over : length (take (seen_by ks) history) < limit →
        let now = without before (between rules room limit history ks) in Answers now piece (Refused NoMemory) now
    not_over free = unread n (before + n) call is caller_here free holds

entries_seen : (rules : Rules) (room limit : ℕ) (history : List Entry) (ks : List Knows)
    → IsSettled rules room history ks → length (take (seen_by ks) history) ≡ seen_by ks
entries_seen rules room limit history ks s = length-take-le (seen_by ks) history s.low

-- ---- lines of a session that has all clients of its tree

looks_count : (ks ks' : List Knows) → Looks ks ks' → length ks' ≡ length ks
looks_count ks ks' (inl none) = ap length (none.1 ∙ sym none.0)
looks_count ks ks' (inr l) = ap length l.1.after ∙ length-set ks l.0 (record l.1.me { seen = l.1.seen })

-- no client is lost
pub answers_count : (limit before : ℕ) (ks ks' : List Knows) (piece : List ℕ) (reply : Reply)
    → AnswersBeside limit before ks piece reply ks' → length ks ≤ length ks'
answers_count limit before ks ks' piece reply (beside.calls n call told end is low act) =
    (asks_for_count limit ks end (before + n - 1) call told act).0
answers_count limit before ks ks' piece reply (beside.full n call end is low holds act most) =
    let same = looks_count ks end act in omega (arith, same)
answers_count limit before ks ks' piece reply (beside.unread n call end is low holds act free) =
    let same = looks_count ks end act in omega (arith, same)
answers_count limit before ks ks' piece reply (beside.bad none) = omega arith

module _ (rules : Rules) (room limit : ℕ) (before : ℕ) (piece : List ℕ) where
  abbrev AnswersPiece : Reply → Session → Session → Type 0
  AnswersPiece reply s t = Answers (without before s) piece reply (without before t)

  called_at : (ks ks' : List Knows) (n : ℕ) (call : Call) (reply : Reply) → before < length ks
      → SpellsCommand piece n call → before + n ≤ length ks
      → length ks ≤ length ks'
      → Leads rules room limit ks ks' (λ s t. Called s (before + n - 1 + 1) call reply t)
      → Leads rules room limit ks ks' (AnswersPiece (placed (length ks' - before) reply))
  called_at ks ks' n call reply less is low grows leads = so_leads rules room limit ks ks'
      (λ s t. Called s (before + n - 1 + 1) call reply t) (AnswersPiece (placed (length ks' - before) reply)) leads
      (λ history end c s s' h.
      let now = between rules room limit history ks in
      let then = between rules room limit history ks' in
      let first = is.is_client.0 in
      let number : before + n - 1 + 1 ≡ before + n = omega (arith, first) in
      let many = count_numbers ks in
      let called : Called (without before now) (before + n) call reply (without before then) =
      called_later before now then (before + n) call reply (omega (arith, less, many))
      (subst (λ m. Called now m call reply then) number h) in
      let left : length ks' - before ≡ length (drop before (numbers_of ks')) =
      (let cut = length-drop before (numbers_of ks') in let many' = count_numbers ks' in
      omega (arith, cut, many')) in
      subst (λ (r : Reply). Answers (without before now) piece r (without before then))
      (sym (placed_as (without before now) (without before then) (before + n) (length ks' - before) call reply called
      left))
      (calls n (before + n) call reply (without before then) is
      (caller rules room limit history ks before s (omega (arith, less)) n first (omega (arith, low))) called))

  looked : (ks ks' : List Knows) (told : Errno) → Looks ks ks'
      → ((history : List Entry) → IsSettled rules room history ks → IsSettled rules room history ks'
      → between rules room limit history ks' ≡ between rules room limit history ks →
      let now = without before (between rules room limit history ks) in Answers now piece (Refused told) now)
      → Leads rules room limit ks ks' (AnswersPiece (Refused told))
  looked ks ks' told act so = so_leads rules room limit ks ks' (λ s t. t ≡ s) (AnswersPiece (Refused told))
      (turns.looks rules room limit ks ks' act)
      (λ history end c s s' h.
      let now = without before (between rules room limit history ks) in
      subst (λ (t : Session). Answers now piece (Refused told) (without before t)) (sym h) (so history s s' h))

  -- what a line is answered beside others is what the plain tree answers
  pub answers_so : (ks ks' : List Knows) (reply : Reply) → before < length ks
      → AnswersBeside limit before ks piece reply ks' → Leads rules room limit ks ks' (AnswersPiece reply)
  answers_so ks ks' reply less (beside.calls n call told end is low act) =
      let place : before + n - 1 < length ks = (let first = is.is_client.0 in omega (arith, first, low)) in
      called_at ks end n call told less is low (asks_for_count limit ks end (before + n - 1) call told act).0
      (by_number rules room limit ks end (before + n - 1) call told place
      (ask_so rules room limit ks end (before + n - 1) call told act))
  answers_so ks ks' reply less (beside.full n call end is low holds act most) =
      looked ks end HistoryFull act (λ history s s' h.
      let seen = entries_seen rules room limit history end s' in
      let same = ap (λ (t : Session). length t.entries) h in
      over rules room limit history ks before s (omega (arith, less)) piece n call is low holds
      (omega (arith, seen, same, most)))
  answers_so ks ks' reply less (beside.unread n call end is low holds act free) =
      looked ks end NoMemory act (λ history s s' h.
      let seen = entries_seen rules room limit history end s' in
      let same = ap (λ (t : Session). length t.entries) h in
      not_over rules room limit history ks before s (omega (arith, less)) piece n call is low holds
      (omega (arith, seen, same, free)))
  answers_so ks ks' reply less (beside.bad none) = so_leads rules room limit ks ks (λ s t. t ≡ s)
      (AnswersPiece (Refused BadLine)) (nothing_leads rules room limit ks)
      (λ history end c s s' h.
      spells_none rules room limit history ks before s (omega (arith, less)) piece none)

-- ---- lines, as they are read

module _ (limit before : ℕ) (ks : List Knows) (line : Option (List ℕ)) (piece : List ℕ) (held : Holds line piece)
  where
    pub too_long : line ≡ None → AnswersBeside limit before ks piece (Refused BadLine) ks
    too_long none = beside.bad (λ n call is.
        let more = long line piece none held in let short = is.short in omega (arith, more, short))

    module _ (bytes : List ℕ) (clients : ℕ) (some : line ≡ Some bytes) (all : clients + before ≡ length ks) where
      pub called_there : (place count : ℕ) (call : Call) (reply : Reply) (ks' : List Knows)
          → SpellsCommand bytes place call × (place ≤ clients) → AsksFor limit ks (before + place - 1) call reply ks'
          → count + before ≡ length ks' → AnswersBeside limit before ks piece (placed count reply) ks'
      called_there place count call reply ks' is act all' =
          let last = is.1 in
          let left : length ks' - before ≡ count = omega (arith, all') in
          subst (λ (m : ℕ). AnswersBeside limit before ks piece (placed m reply) ks') left
          (beside.calls place call reply ks'
          (subst (λ (p : List ℕ). SpellsCommand p place call) (kept line bytes piece some held) is.0)
          (omega (arith, last, all)) act)

      -- nothing was read from the line: it spells nothing, or there was no memory for its word or bytes
      pub not_read : (errno told : Errno) (ks' : List Knows)
          → ReadsBy (λ (v : ℕ × Call). SpellsCommand bytes v.0 v.1 × (v.0 ≤ clients))
          (λ (v : ℕ × Call). holds_text v.1 ≡ true) (Err errno) → IsUnread limit ks errno told ks'
          → AnswersBeside limit before ks piece (Refused told) ks'
      not_read errno told ks' reads kind =
          let same = kept line bytes piece some held in elim reads [
            | inl h ↦ elim kind [
              | inl over ↦ absurd (let both = sym h.0 ∙ over.0 in cc)
              | inr rest ↦ elim rest [
                | inl free ↦ absurd (let both = sym h.0 ∙ free.0 in cc)
                | inr none ↦ subst (λ (e : Errno). AnswersBeside limit before ks piece (Refused e) ks')
                    (sym (none.2 ∙ h.0))
                    (subst (λ (l : List Knows). AnswersBeside limit before ks piece (Refused BadLine) l) (sym none.1)
                    (beside.bad (λ n call is. elim (cases_lt clients n) [
                      | inl more ↦ omega (arith, more, all)
                      | inr few ↦ absurd (h.1 (n, call)
                          (subst (λ (p : List ℕ). SpellsCommand p n call) (sym same) is, few))
                    ])))
              ]
            ]
            | inr h ↦
                let is = subst (λ (p : List ℕ). SpellsCommand p h.1.0 h.1.1) same h.2.0 in
                let few = h.2.1 in
                let low : before + h.1.0 ≤ length ks = omega (arith, few, all) in elim kind [
                  | inl over ↦ subst (λ (e : Errno). AnswersBeside limit before ks piece (Refused e) ks')
                      (sym over.3) (beside.full h.1.0 h.1.1 ks' is low h.3 over.1 over.2)
                  | inr rest ↦ elim rest [
                    | inl free ↦ subst (λ (e : Errno). AnswersBeside limit before ks piece (Refused e) ks')
                        (sym free.3) (beside.unread h.1.0 h.1.1 ks' is low h.3 free.1 free.2)
                    | inr none ↦ absurd (none.0 h.0)
                  ]
                ]
          ]

-- whatever a line that wasn't read is refused by, nothing was done but a look
pub unread_goes : (limit : ℕ) (ks ks' : List Knows) (errno told : Errno) → IsUnread limit ks errno told ks'
    → Goes limit ks ks'
unread_goes limit ks ks' errno told (inl over) = looks ks ks' nowhere over.1
unread_goes limit ks ks' errno told (inr (inl free)) = looks ks ks' nowhere free.1
unread_goes limit ks ks' errno told (inr (inr none)) =
    subst (λ (l : List Knows). Goes limit ks l) (sym none.1) nowhere
