-- The entries by which tests pass.
use Rattle.std.proofs.Common.{◌≡◌, ◌⊎◌, ◌+◌, ◌-◌, ◌≤◌, ℕ, zero, suc, Bool, true, false, List, [], ◌∷◌, ◌++◌, Some}
use Rattle.std.proofs.Common.{length, map, refl, sym, ap, subst, ◌∙◌, inl, inr, arith, append-nil, append_assoc}
use Rattle.std.specs.Prelude.{◌==◌, if◌then◌else◌, slice_get}
use Rattle.std.specs.List.{AllByRecursion, flat_map}
use Rattle.std.proofs.lemmas.Bool.{false≢true}
use Rattle.ll_rights.specs.Errno.{errno_number}
use Rattle.ll_rights.specs.declared.errno.Errno.{Errno}
use Rattle.ll_rights.specs.declared.errno.Errno.TheVariants.{HistoryFull, NoMemory, BadLine}
use Rattle.ll_seq.specs.History.{IsLegal}
use Rattle.ll_seq.specs.State.{start}
use Rattle.ll_seq.specs.declared.call.Call.{Call}
use Rattle.ll_seq.specs.declared.reply.Entry.{Entry}
use Rattle.ll_seq.specs.declared.reply.Reply.{Reply}
use Rattle.ll_seq.specs.declared.reply.Reply.TheVariants as reply
use Rattle.ll_wire.specs.FirstWords.{Begins}
use Rattle.ll_wire.specs.Grammar.{IsCall, SpellsCommand, reply_line}
use Rattle.ll_wire.specs.Pieces.{pieces}
use Rattle.ll_wire.specs.declared.first_words.FirstWords.{FirstWords}
use Rattle.ll_wire.specs.declared.first_words.FirstWords.TheVariants as first
use Rattle.ll_wire.specs.declared.first_words.RefusalWords.TheVariants as refusal
use Rattle.ll_wire.proofs.Unique.{spells_one}
use Rattle.ll_session.specs.CallsRun.{Replied, call_line}
use Rattle.ll_session.specs.PartySession.{Session, Called, answered, brought, full, next, starved}
use Rattle.ll_session.specs.Session.{Answers, as_written, bad, calls, unread}
use Rattle.ll_session.specs.declared.client_call.ClientCall.{ClientCall}
use Rattle.ll_session.proofs.CallsRuns.{lines_get_them}
use Rattle.ll_session.proofs.Legal.{legally}
use Rattle.ll_program.specs.Comments.{body_of}
use Rattle.ll_check.specs.declared.check_text.Test.{Test}
use Rattle.ll_check.specs.declared.wanted.Wanted.{Wanted}
use Rattle.ll_check.specs.declared.wanted.Wanted.TheVariants.{Success, Allowed, Denied, DeniedRight, DeniedAt, Whole}
use Rattle.ll_check.specs.declared.wanted.Wanted.TheVariants.{First}
use Rattle.ll_check.specs.Checks.{AreRead, Reading, SpellsTest, TakesLine, Tests, all_of, at_start, is_blank}
use Rattle.ll_check.specs.Files.{AreTestsIn, Source}
use Rattle.ll_check.specs.Possible.{CanCome, MayGet, MayRefuse}
use Rattle.ll_check.specs.Report.{IsJudged, Judged}
use Rattle.ll_check.specs.Wanted.{Satisfies, is_allowed}
use Rattle.ll_check.specs.Witness.{AreWitnessed, IsEntryOf, PassesByEntry, SameReply, TestsPassByEntries}
use Rattle.ll_check.specs.Witness.{wants_bad_line}

-- ---- lists

front_get : {A : Type 0} (xs more : List A) (i : ℕ) (x : A) → slice_get xs i ≡ Some x
    → slice_get (xs ++ more) i ≡ Some x
front_get [] more i x e = absurd cc
front_get (y ∷ xs) more zero x e = e
front_get (y ∷ xs) more (suc i) x e = front_get xs more i x e

seam_get : {A : Type 0} (xs : List A) (x : A) (i : ℕ) → i ≡ length xs → slice_get (xs ++ x ∷ []) i ≡ Some x
seam_get [] x zero e = refl
seam_get [] x (suc i) e = absurd (omega (arith, e))
seam_get (y ∷ xs) x zero e = absurd (omega (arith, e))
seam_get (y ∷ xs) x (suc i) e = seam_get xs x i (omega (arith, e))

all_get : {A : Type 0} (P : A → Type 0) (xs : List A) (i : ℕ) (x : A) → AllByRecursion P xs → slice_get xs i ≡ Some x
    → P x
all_get P [] i x all e = absurd cc
all_get P (y ∷ xs) zero x all e = let same : y ≡ x = cc in subst P same all.0
all_get P (y ∷ xs) (suc i) x all e = all_get P xs i x all.1 e

all_both : {A : Type 0} (P : A → Type 0) (xs ys : List A) → AllByRecursion P xs → AllByRecursion P ys
    → AllByRecursion P (xs ++ ys)
all_both P [] ys all others = others
all_both P (x ∷ xs) ys all others = (all.0, all_both P xs ys all.1 others)

-- ---- replies that no entry has

abbrev HasNoEntry : Errno → Type 0
HasNoEntry errno = (errno ≡ HistoryFull) ⊎ (errno ≡ NoMemory) ⊎ (errno ≡ BadLine)

unallowed : (errno : Errno) → HasNoEntry errno → is_allowed (reply.Refused errno) ≡ false
unallowed errno (inl is) = ap (λ (e : Errno). is_allowed (reply.Refused e)) is
unallowed errno (inr (inl is)) = ap (λ (e : Errno). is_allowed (reply.Refused e)) is
unallowed errno (inr (inr is)) = ap (λ (e : Errno). is_allowed (reply.Refused e)) is

above : (errno : Errno) → HasNoEntry errno → 21 ≤ errno_number errno
above errno (inl is) = let e = ap errno_number is in omega (arith, e)
above errno (inr (inl is)) = let e = ap errno_number is in omega (arith, e)
above errno (inr (inr is)) = let e = ap errno_number is in omega (arith, e)

-- of those a test may expect BadLine alone
bad_alone : (number : ℕ) → 21 ≤ number → MayRefuse number → (number == errno_number BadLine) ≡ true
bad_alone number more (inl own) = absurd (omega (arith, more, own.1))
bad_alone number more (inr is) = ap (λ n. n == errno_number BadLine) is

begins_bad : (call : Call) (words : FirstWords) (errno : Errno) → 21 ≤ errno_number errno
    → CanCome call (First words) → Begins words (reply.Refused errno) → wants_bad_line (First words) ≡ true
begins_bad call (first.Refused refusal.Nothing) errno more can is = absurd (omega (arith, more, is))
begins_bad call (first.Refused (refusal.Number number)) errno more can is =
    bad_alone number (omega (arith, more, is)) can
begins_bad call (first.Refused (refusal.Whole given)) errno more can is =
    let same = ap errno_number is in bad_alone (errno_number given) (omega (arith, more, same)) can
begins_bad call words errno more can is = absurd is

-- a test that isn't vain, and that such a reply makes pass, expects BadLine
wants_bad : (call : Call) (wanted : Wanted) (errno : Errno) → HasNoEntry errno → CanCome call wanted
    → Satisfies wanted (reply.Refused errno) → wants_bad_line wanted ≡ true
wants_bad call Success errno none can is = absurd cc
wants_bad call Allowed errno none can is = absurd (false≢true (sym (unallowed errno none) ∙ is))
wants_bad call Denied errno none can is = absurd (cc is.1)
wants_bad call (DeniedRight right) errno none can is = absurd (cc is.1)
wants_bad call (DeniedAt right place) errno none can is = absurd (cc is.1)
wants_bad call (Whole given) errno none can is =
    subst (λ (g : Reply). MayGet call g → wants_bad_line (Whole g) ≡ true) is
    (λ may. bad_alone (errno_number errno) (above errno none) may) can
wants_bad call (First words) errno none can is = begins_bad call words errno (above errno none) can is

-- ---- entries

-- calls add entries and clients to a session
record Grows (s t : Session) : Type 0 where
  entered : List Entry
  entries : t.entries ≡ s.entries ++ entered
  came : List ℕ
  clients : t.clients ≡ s.clients ++ came

stays : (s : Session) → Grows s s
stays s = record {
  entered = [];
  entries = sym (append-nil s.entries);
  came = [];
  clients = sym (append-nil s.clients);
}

grows_on : (r s t : Session) → Grows r s → Grows s t → Grows r t
grows_on r s t one two = record {
  entered = one.entered ++ two.entered;
  entries = two.entries ∙ ap (λ (es : List Entry). es ++ two.entered) one.entries
      ∙ append_assoc r.entries one.entered two.entered;
  came = one.came ++ two.came;
  clients = two.clients ∙ ap (λ (cs : List ℕ). cs ++ two.came) one.clients
      ∙ append_assoc r.clients one.came two.came;
}

-- one of the session's entries has the call and the reply
abbrev HasEntry : Session → ClientCall → Reply → Type 0
HasEntry t made told =
    (number : ℕ) × (e : Entry) × (slice_get t.entries number ≡ Some e) × IsEntryOf t.clients made told e

abbrev HasNone : Reply → Type 0
HasNone told = (errno : Errno) × HasNoEntry errno × (told ≡ reply.Refused errno)

same_later : (clients more : List ℕ) (told entered : Reply) → SameReply clients told entered
    → SameReply (clients ++ more) told entered
same_later clients more (reply.Spawned place) (reply.Spawned number) is = front_get clients more (place - 1) number is
same_later clients more told entered is = is

still_there : (s t : Session) (made : ClientCall) (told : Reply) → Grows s t → HasEntry s made told
    → HasEntry t made told
still_there s t made told more has =
    let e = has.1 in
    let is = has.3 in (
      has.0,
      e,
      subst (λ (es : List Entry). slice_get es has.0 ≡ Some e) (sym more.entries)
          (front_get s.entries more.entered has.0 e has.2),
      subst (λ (cs : List ℕ). IsEntryOf cs made told e) (sym more.clients) (record {
        caller = front_get s.clients more.came (made.client - 1) e.client is.caller;
        call = is.call;
        reply = same_later s.clients more.came told e.reply is.reply;
      }),
    )

as_entered : (clients : List ℕ) (entered : Reply)
    → SameReply (clients ++ brought entered) (as_written clients entered) entered
as_entered clients reply.Done = refl
as_entered clients (reply.Opened number) = refl
as_entered clients (reply.Bytes bytes) = refl
as_entered clients (reply.Wrote count) = refl
as_entered clients (reply.Listed names) = refl
as_entered clients (reply.Found status) = refl
as_entered clients (reply.Created number) = refl
as_entered clients (reply.Spawned number) = seam_get clients number (length clients + 1 - 1) (omega arith)
as_entered clients (reply.Refused errno) = refl
as_entered clients (reply.Denied denial) = refl

-- how a session goes on after a call with this reply
abbrev GoesOn : Session → ClientCall → Reply → Session → Type 0
GoesOn s made told t = Grows s t × (HasNone told ⊎ HasEntry t made told)

by_called : (s t : Session) (made : ClientCall) (client : ℕ) (got : Reply)
    → slice_get s.clients (made.client - 1) ≡ Some client → Called s client made.call got t
    → GoesOn s made (as_written s.clients got) t
by_called s t made client got at (answered told tree fresh room new same) =
    let e : Entry = record { client = client; call = made.call; reply = told } in (
      record {
        entered = e ∷ [];
        entries = refl;
        came = brought told;
        clients = refl;
      },
      inr (
        length s.entries,
        e,
        seam_get s.entries e (length s.entries) refl,
        record {
          caller = front_get s.clients (brought told) (made.client - 1) client at;
          call = refl;
          reply = as_entered s.clients told;
        },
      ),
    )
by_called s t made client got at (full most) = (stays s, inl (HistoryFull, inl refl, refl))
by_called s t made client got at (starved room may) = (stays s, inl (NoMemory, inr (inl refl), refl))

spelled : (made : ClientCall) → IsCall made.call → SpellsCommand (call_line made) made.client made.call
spelled made is = record {
  is_client = (made.first, made.last);
  is_call = is;
  short = made.short;
  text = refl;
}

by_answered : (s t : Session) (made : ClientCall) (told : Reply) → IsCall made.call → Answers s (call_line made) told t
    → GoesOn s made told t
by_answered s t made told is (calls n client call got last spells at act) =
    let same = spells_one (call_line made) n made.client call made.call spells (spelled made is) in
    by_called s last made client got (subst (λ (m : ℕ). slice_get s.clients (m - 1) ≡ Some client) same.0 at)
    (subst (λ (c : Call). Called s client c got last) same.1 act)
by_answered s t made told is (unread n client call spells at room holds) =
    (stays s, inl (NoMemory, inr (inl refl), refl))
by_answered s t made told is (bad none) = (stays s, inl (BadLine, inr (inr refl), refl))

-- ---- verdicts

-- the test's command is one, and may get what is expected
abbrev IsFair : Test → Type 0
IsFair test = IsCall test.call.call × CanCome test.call.call test.wanted

passes_by : (t : Session) (it : Judged) → IsFair it.test → IsJudged it
    → HasNone it.reply ⊎ HasEntry t it.test.call it.reply → PassesByEntry t.clients t.entries it
passes_by t it fair judged (inl none) = λ passes other.
    absurd (false≢true (sym other ∙ wants_bad it.test.call.call it.test.wanted none.0 none.1 fair.1
    (subst (Satisfies it.test.wanted) none.2 (judged.0 passes))))
passes_by t it fair judged (inr has) = λ passes other. has

each_passes : (s t : Session) (verdicts : List Judged)
    → Replied s (map (λ (test : Test). test.call) (map (λ (it : Judged). it.test) verdicts))
    (map (λ (it : Judged). it.reply) verdicts) t
    → AllByRecursion (λ (it : Judged). IsFair it.test) verdicts → AllByRecursion IsJudged verdicts
    → Grows s t × AllByRecursion (PassesByEntry t.clients t.entries) verdicts
each_passes s t [] h fair judged = (subst (Grows s) (sym h) (stays s), tt)
each_passes s t (it ∷ verdicts) h fair judged =
    let one = by_answered s h.0 it.test.call it.reply fair.0.0 h.1 in
    let more = each_passes h.0 t verdicts h.2 fair.1 judged.1 in
    (grows_on s h.0 t one.0 more.0, (passes_by t it fair.0 judged.0 (later one.1 more.0), more.1))
  where
    later : HasNone it.reply ⊎ HasEntry h.0 it.test.call it.reply → Grows h.0 t
        → HasNone it.reply ⊎ HasEntry t it.test.call it.reply
    later (inl none) more = inl none
    later (inr has) more = inr (still_there h.0 t it.test.call it.reply more has)

fair_verdicts : (verdicts : List Judged) → AllByRecursion IsFair (map (λ (it : Judged). it.test) verdicts)
    → AllByRecursion (λ (it : Judged). IsFair it.test) verdicts
fair_verdicts [] all = tt
fair_verdicts (it ∷ verdicts) all = (all.0, fair_verdicts verdicts all.1)

-- ---- tests that were read

abbrev AreFair : Tests → Type 0
AreFair file = AllByRecursion IsFair file.tests

abbrev IsFairReading : Reading → Type 0
IsFairReading r = AllByRecursion AreFair r.done × AreFair r.last

is_call : (body : List ℕ) (test : Test) → SpellsTest body test → IsCall test.call.call
is_call body test (inl alone) = alone.0.is_call
is_call body test (inr followed) = followed.3.is_call

fair_done : (blank : Bool) (done : List Tests) (last : Tests) → AllByRecursion AreFair done → AreFair last
    → AllByRecursion AreFair (if blank then done else done ++ last ∷ [])
fair_done true done last all one = all
fair_done false done last all one = all_both AreFair done (last ∷ []) all (one, tt)

fair_line : (line : List ℕ) (number : ℕ) (before after : Reading) → TakesLine line number before after
    → IsFairReading before → IsFairReading after
fair_line line number before after (inl silent) fair = subst IsFairReading (sym silent.1) fair
fair_line line number before after (inr (inl is)) fair =
    subst IsFairReading (sym is.4)
    (fair.0, all_both IsFair before.last.tests (is.0 ∷ []) fair.1 ((is_call (body_of line) is.0 is.1, is.3), tt))
fair_line line number before after (inr (inr (inl is))) fair =
    subst IsFairReading (sym is.3)
    (fair_done (is_blank before.last) before.done before.last fair.0 fair.1, tt)
fair_line line number before after (inr (inr (inr is))) fair = subst IsFairReading (sym is.3) fair

fair_lines : (number : ℕ) (lines : List (List ℕ)) (before after : Reading) → AreRead number lines before after
    → IsFairReading before → IsFairReading after
fair_lines number [] before after h fair = subst IsFairReading (sym h) fair
fair_lines number (line ∷ lines) before after h fair =
    fair_lines (number + 1) lines h.0 after h.2 (fair_line line number before h.0 h.1 fair)

fair_files : (sources : List Source) (files : List Tests) → AreTestsIn sources files → AllByRecursion AreFair files
fair_files [] files h = subst (AllByRecursion AreFair) (sym h) tt
fair_files (source ∷ sources) files h =
    let end = fair_lines 1 (pieces source.text) (at_start source.name) h.3.0 h.3.1 (tt, tt) in
    let own : AllByRecursion AreFair h.0 = subst (AllByRecursion AreFair) (sym h.3.2)
    (all_both AreFair h.3.0.done (h.3.0.last ∷ []) end.0 (end.1, tt)) in
    subst (AllByRecursion AreFair) (sym h.2) (all_both AreFair h.0 h.1 own (fair_files sources h.1 h.4))

-- ---- the law

pub tests_pass : TestsPassByEntries
tests_pass sources files index file are is style setup replies entries before after tally h =
    let s = h.0.0 in
    let t = h.0.1 in
    let made = map (λ (test : Test). test.call) file.tests in
    let verdicts = h.1.0 in
    let judged = h.1.1 in
    let fair = all_get AreFair files index file (fair_files sources files are) is in
    let of_tests
    : Replied s (map (λ (test : Test). test.call) (map (λ (it : Judged). it.test) verdicts)) replies.items t =
    subst (λ (ts : List Test). Replied s (map (λ (test : Test). test.call) ts) replies.items t) (sym judged.of_tests)
    h.0.3 in
    let replied = subst (λ (rs : List Reply).
    Replied s (map (λ (test : Test). test.call) (map (λ (it : Judged). it.test) verdicts)) rs t)
    (sym judged.by_replies) of_tests in
    let each = each_passes s t verdicts replied
    (fair_verdicts verdicts (subst (AllByRecursion IsFair) (sym judged.of_tests) fair)) judged.each in
    let legal = legally setup (map call_line made) [] (flat_map reply_line replies.items) t
    (inl (s, h.0.2, refl, lines_get_them s t made replies.items h.0.3)) in
    record {
      first = s;
      last = t;
      opens = h.0.2;
      replied = h.0.3;
      left = h.0.4;
      legal = subst (IsLegal (start setup.rules setup.nodes)) (sym h.0.4) legal.0;
      verdicts = verdicts;
      judged = judged;
      count = h.1.3;
      each = subst (λ (es : List Entry). AllByRecursion (PassesByEntry t.clients es) verdicts) (sym h.0.4) each.1;
    }
