-- Whole runs.
use Rattle.std.proofs.Common.{◌≡◌, ℕ, List, [], ◌∷◌, ◌++◌, Option, None, Some, ap, refl, sym, subst, ◌∙◌, inl, inr}
use Rattle.std.proofs.Common.{Bool, true, false, cond, Result, Ok, Err, arith, is_some}
use Rattle.std.specs.Prelude.{IfErr, IfSome, OnErr, OnOk, IsErrAnd}
use Rattle.std.specs.Io.KnownBytes.{Appends}
use Rattle.ll_wire.specs.Devices.{Devices}
use Rattle.ll_wire.specs.Grammar.{reply_line}
use Rattle.ll_wire.specs.Pieces.{pieces}
use Rattle.ll_seq.specs.declared.reply.Entry.{Entry}
use Rattle.ll_seq.specs.declared.reply.Reply.{Reply}
use Rattle.ll_session.specs.declared.fault.RunFault.{RunFault}
use Rattle.ll_session.specs.declared.fault.RunFault.TheVariants.{Opening, Session}
use Rattle.ll_session.specs.declared.refusal.Refusal.{Refusal}
use Rattle.ll_session.specs.declared.setup.Setup.{Setup}
use Rattle.ll_wire.specs.Transcript.{Transcript, Writes}
use Rattle.ll_wire.specs.declared.fault.SessionFault.{SessionFault}
use Rattle.ll_wire.specs.declared.fault.SessionFault.TheVariants.{Read, Write, NoMemory, TooLong}
use Rattle.ll_session.specs.PartySession as at
use Rattle.ll_session.specs.Session.{Answers, Tells}
use Rattle.ll_session.specs.FirstClients.{begun, fresh, refused, Opens}
use Rattle.ll_session.specs.Run.{Begins, BeginsBy, BeginsLines, BeginsRefusal, IsOpened, MayEnd, Runs, RunsAs}
use Rattle.ll_session.specs.Run.{refusal_in}
use Rattle.ll_session.specs.Progress.{IsOfRefusal, RunsTo, StopsAt, without}
use Rattle.ll_session.specs.Counts.{first_score, stop_at, stop_of}
use Rattle.ll_session.specs.Strict.{RunsStrictly, TellsStrictly}
use Rattle.ll_session.specs.declared.score.Score.{Score}
use Rattle.ll_session.specs.declared.stop.Run.{Run}
use Rattle.ll_session.specs.declared.stop.Stop.{Stop}
use Rattle.ll_session.specs.declared.stop.Stop.TheVariants.{AtOpening}
use Rattle.ll_wire.proofs.WrittenText.{appends-none}
use Rattle.ll_session.proofs.FirstComers.{may_be_refused}
use Rattle.ll_session.proofs.Scores.{lax_lines, lines_counted, strict_lines}
use Rattle.ll_session.proofs.Ways.{AtEnd}

pub some_is : (o : Option (List ℕ)) (P : List ℕ → Type 0) → ((x : List ℕ) → o ≡ Some x → P x) → IfSome o P
some_is None P f = tt
some_is (Some x) P f = f x refl

-- this of the fault that a session's becomes
pub if_err : {T : Type 0} (r : Result T RunFault) (of : SessionFault) (P : RunFault → Type 0)
    → IsErrAnd r (λ fault. fault ≡ Session of) → P (Session of) → IfErr r P
if_err (Ok value) of P is p = tt
if_err (Err fault) of P is p = subst P (sym is) p

pub at_ok : {T E P : Type 0} (r : Result T E) (value : T) → r ≡ Ok value → OnOk r P → P
at_ok {P = P} r value is h = subst (λ x. OnOk x P) is h

pub at_err : {T E P : Type 0} (r : Result T E) (fault : E) → r ≡ Err fault → OnErr r P → P
at_err {P = P} r fault is h = subst (λ x. OnErr x P) is h

-- this of what is read and written, where what the devices read is known
abbrev pub IfKnown : (old new : Devices) → (List ℕ → List ℕ → Type 0) → Type 0
IfKnown old new P = IfSome old.remaining (λ input. Writes old.contents new.contents (P input))

module _ (setup : Setup) (old new : Devices) (before : ℕ) (entries : List Entry) where
  -- what holds of a session that was opened, after so many clients, and is answered
  module _ (score : Score) (stop : Option Stop) (is : stop ≡ stop_of score) where
    lax : (end : Option Reply) → score.end ≡ end
        → AtEnd (λ mid. Opens setup (begun (without before mid))) (RunsTo before false score old new) entries
        → IfKnown old new (λ input text. RunsAs false setup input new.remaining text stop entries)
    lax None none e = some_is old.remaining _ (λ input told.
        let first = without before e.0 in
        let h = e.3.1.0 (ap is_some none) input told in
        let lines = lax_lines (first, first_score false) (e.3.0, score) (pieces input) h.1.0 (refl, refl) h.1.1 in
        (h.1.0, ([], h.0, (e.3.0, inl (first, e.2, refl, lines.1), sym e.4 ∙ e.3.2)), h.1.2))
    lax (Some reply) some e = some_is old.remaining _ (λ input told.
        let first = without before e.0 in
        let h = e.3.1.1 (ap is_some some) input told in
        let lines = lax_lines (first, first_score false) (e.3.0, score) h.0 h.2 (refl, refl) h.4 in
        absurd (let none = lines.0.1 in cc))

    strictly : (end : Option Reply) → score.end ≡ end
        → AtEnd (λ mid. Opens setup (begun (without before mid))) (RunsTo before true score old new) entries
        → IfKnown old new (λ input text. RunsAs true setup input new.remaining text stop entries)
    strictly None none e = some_is old.remaining _ (λ input told.
        let first = without before e.0 in
        let h = e.3.1.0 (ap is_some none) input told in
        let lines = strict_lines (first, first_score true) (e.3.0, score) (pieces input) h.1.0 refl h.1.1 in (
          h.1.0,
          subst (λ (o : Option Stop). RunsStrictly setup input h.1.0 o entries)
              (sym (is ∙ ap (stop_at score.tally.lines) none)) (
                e.3.0,
                (
                  first,
                  e.2,
                  subst (λ (o : Option Reply). Transcript TellsStrictly (first, None) (pieces input) h.1.0 (e.3.0, o))
                      none lines.1,
                ),
                sym e.4 ∙ e.3.2,
              ),
          h.1.2,
        ))
    strictly (Some reply) some e = some_is old.remaining _ (λ input told.
        let first = without before e.0 in
        let h = e.3.1.1 (ap is_some some) input told in
        let lines = strict_lines (first, first_score true) (e.3.0, score) h.0 h.2 refl h.4 in
        let many = lines_counted Answers (first, first_score true) (e.3.0, score) h.0 h.2 h.4 in (
          h.2,
          subst (λ (o : Option Stop). RunsStrictly setup input h.2 o entries)
              (sym (is ∙ ap (stop_at score.tally.lines) some)) (
                e.3.0,
                (
                  first,
                  h.0,
                  h.1,
                  e.2,
                  h.3,
                  omega (arith, many),
                  subst (λ (o : Option Reply). Transcript TellsStrictly (first, None) h.0 h.2 (e.3.0, o)) some lines.1,
                ),
                sym e.4 ∙ e.3.2,
              ),
          h.5,
        ))

    pub runs : (strict : Bool)
        → AtEnd (λ mid. Opens setup (begun (without before mid))) (RunsTo before strict score old new) entries
        → IfKnown old new (λ input text. RunsAs strict setup input new.remaining text stop entries)
    runs false = lax score.end refl
    runs true = strictly score.end refl

  -- a beginning of the lines of some first pieces
  pub begins_lines : (strict : Bool)
      → AtEnd (λ mid. Opens setup (begun (without before mid))) (StopsAt before strict old new) entries
      → IfKnown old new (BeginsLines strict setup)
  begins_lines false e = some_is old.remaining _ (λ input told.
      let first = without before e.0 in
      let h = e.3.2 input told in
      let lines = lax_lines (first, first_score false) (e.3.0, e.3.1) h.0 h.2 (refl, refl) h.4 in (
        h.5.0,
        (
          first,
          e.3.0,
          h.0,
          h.1,
          h.5.1,
          e.2,
          h.3,
          subst (λ (text : List ℕ). Transcript Tells first h.0 text e.3.0) h.5.2 lines.1,
        ),
        h.5.3,
      ))
  begins_lines true e = some_is old.remaining _ (λ input told.
      let first = without before e.0 in
      let h = e.3.2 input told in
      let lines = strict_lines (first, first_score true) (e.3.0, e.3.1) h.0 h.2 refl h.4 in (
        h.5.0,
        (
          first,
          e.3.0,
          e.3.1.end,
          h.0,
          h.1,
          h.5.1,
          e.2,
          h.3,
          subst (λ (text : List ℕ). Transcript TellsStrictly (first, None) h.0 text (e.3.0, e.3.1.end)) h.5.2 lines.1,
        ),
        h.5.3,
      ))

weaker : (old new : Devices) (P Q : List ℕ → List ℕ → Type 0) → ((input text : List ℕ) → P input text → Q input text)
    → IfKnown old new P → IfKnown old new Q
weaker old new P Q f h = go old.remaining h
  where
    go : (o : Option (List ℕ)) → IfSome o (λ input. Writes old.contents new.contents (P input))
        → IfSome o (λ input. Writes old.contents new.contents (Q input))
    go None x = tt
    go (Some input) x = (x.0, f input x.0 x.1, x.2)

-- so a session that was begun ends, whichever fault ends it
pub begins_by : (strict : Bool) (setup : Setup) (fault : SessionFault) (old new : Devices)
    → IfKnown old new (BeginsLines strict setup) → IfKnown old new (BeginsBy strict setup (Session fault))
begins_by strict setup Read old new h = h
begins_by strict setup Write old new h =
    weaker old new (BeginsLines strict setup) (BeginsBy strict setup (Session Write)) (λ input text b. inl b) h
begins_by strict setup NoMemory old new h =
    weaker old new (BeginsLines strict setup) (BeginsBy strict setup (Session NoMemory)) (λ input text b. inr b) h
begins_by strict setup TooLong old new h = h

lines_begin : (setup : Setup) (input text : List ℕ) → BeginsLines false setup input text → Begins setup input text
lines_begin setup input text b = (b.2, [], b.3, b.4, b.1, b.6, inl (b.0, b.5, refl, b.7))

refusal_begins : (setup : Setup) (input text : List ℕ) → BeginsRefusal setup text → Begins setup input text
refusal_begins setup input text b = ([], [], pieces input, b.2, b.1, refl, inr (b.0, b.3, refl, sym b.4))

none_begins : (setup : Setup) (input text : List ℕ) → text ≡ [] → Begins setup input text
none_begins setup input text none =
    let may = may_be_refused setup in
    let line = reply_line may.0.reply in (
      [],
      [],
      pieces input,
      line,
      fresh setup,
      refl,
      inr (may.0, may.1, refl, ap (λ (x : List ℕ). x ++ line) none),
    )

begins : (setup : Setup) (fault : RunFault) (input text : List ℕ) → BeginsBy false setup fault input text
    → Begins setup input text
begins setup (Opening refusal) input text b = none_begins setup input text b
begins setup (Session Read) input text b = lines_begin setup input text b
begins setup (Session Write) input text (inl b) = lines_begin setup input text b
begins setup (Session Write) input text (inr b) = refusal_begins setup input text b
begins setup (Session NoMemory) input text (inl b) = none_begins setup input text b
begins setup (Session NoMemory) input text (inr b) = lines_begin setup input text b
begins setup (Session TooLong) input text b = lines_begin setup input text b

-- ---- runs whose opening is refused

refusal_runs : (strict : Bool) (setup : Setup) (input : List ℕ) (left : Option (List ℕ)) (refusal : Refusal)
    (last : at.Session) (entries : List Entry) → Opens setup (refused refusal last) → left ≡ Some input
    → entries ≡ last.entries
    → RunsAs strict setup input left (reply_line refusal.reply) (cond strict (Some (AtOpening refusal)) None) entries
refusal_runs false setup input left refusal last entries is same ends =
    (input, same, (last, inr (refusal, is, refl, refl), ends))
refusal_runs true setup input left refusal last entries is same ends = (last, (is, refl), ends)

-- the entries at the end are those that the refusal leaves
left_so : (setup : Setup) (refusal : Refusal) (entries : List Entry)
    → (e : AtEnd (λ t. Opens setup (refused refusal t)) (λ s t. t ≡ s) entries) → entries ≡ e.0.entries
left_so setup refusal entries e = sym e.4 ∙ ap (λ (t : at.Session). t.entries) e.3

pub refusal_told : (strict : Bool) (setup : Setup) (old new : Devices) (refusal : Refusal) (entries : List Entry)
    (stop : Option Stop) → stop ≡ cond strict (Some (AtOpening refusal)) None
    → AtEnd (λ t. Opens setup (refused refusal t)) (λ s t. t ≡ s) entries
    → Appends old.contents new.contents (reply_line refusal.reply) → new.remaining ≡ old.remaining
    → IfKnown old new (λ input text. RunsAs strict setup input new.remaining text stop entries)
refusal_told strict setup old new refusal entries stop so e wrote still = some_is old.remaining _ (λ input told. (
  reply_line refusal.reply,
  subst (λ (o : Option Stop). RunsAs strict setup input new.remaining (reply_line refusal.reply) o entries) (sym so)
      (refusal_runs strict setup input new.remaining refusal e.0 entries e.2 (still ∙ told)
      (left_so setup refusal entries e)),
  wrote,
))

-- a run that is refused so has this refusal
refusal_of : (strict : Bool) (refusal : Refusal)
    → refusal_in (cond strict (Some (AtOpening refusal)) None) (cond strict None (Some refusal)) ≡ Some refusal
refusal_of false refusal = refl
refusal_of true refusal = refl

pub opening_refused : (strict : Bool) (setup : Setup) (old new : Option (List ℕ)) (refusal : Refusal)
    (entries : List Entry) (stop : Option Stop) (told : Option Refusal)
    → stop ≡ cond strict (Some (AtOpening refusal)) None → told ≡ cond strict None (Some refusal)
    → AtEnd (λ t. Opens setup (refused refusal t)) (λ s t. t ≡ s) entries → Appends old new (reply_line refusal.reply)
    → IsOpened setup old new (refusal_in stop told) entries
opening_refused strict setup old new refusal entries stop told so too e wrote =
    subst (λ (o : Option Refusal). IsOpened setup old new o entries)
    (sym (ap (λ (o : Option Stop). refusal_in o told) so
    ∙ ap (refusal_in (cond strict (Some (AtOpening refusal)) None)) too ∙ refusal_of strict refusal))
    (e.0, e.2, left_so setup refusal entries e, wrote)

-- and one that is begun has none
none_of : (lines : ℕ) (end : Option Reply) → refusal_in (stop_at lines end) None ≡ None
none_of lines None = refl
none_of lines (Some reply) = refl

pub opening_begun : (setup : Setup) (old new : Option (List ℕ)) (entries : List Entry) (score : Score)
    (stop : Option Stop) (told : Option Refusal) (first : at.Session) → stop ≡ stop_of score → told ≡ None
    → Opens setup (begun first) → IsOpened setup old new (refusal_in stop told) entries
opening_begun setup old new entries score stop told first so too is =
    subst (λ (o : Option Refusal). IsOpened setup old new o entries)
    (sym (ap (λ (o : Option Stop). refusal_in o told) so ∙ ap (refusal_in (stop_of score)) too
    ∙ none_of score.tally.lines score.end))
    (first, is)

pub refusal_stops : (strict : Bool) (setup : Setup) (fault : SessionFault) (old new : Devices) (refusal : Refusal)
    (last : at.Session) → Opens setup (refused refusal last)
    → IsOfRefusal fault old.contents new.contents (reply_line refusal.reply)
    → IfKnown old new (BeginsBy strict setup (Session fault))
refusal_stops strict setup Read old new refusal last is wrote = absurd wrote
refusal_stops strict setup Write old new refusal last is wrote = some_is old.remaining _ (λ input told.
    (wrote.0, inr (refusal, last, wrote.1, is, wrote.2), wrote.3))
refusal_stops strict setup NoMemory old new refusal last is wrote =
    some_is old.remaining _ (λ input told. ([], inl refl, wrote))
refusal_stops strict setup TooLong old new refusal last is wrote = absurd wrote

-- ---- runs that read and write nothing

pub nothing_done : (strict : Bool) (setup : Setup) (fault : RunFault) (d : Devices)
    → ((input : List ℕ) → BeginsBy strict setup fault input []) → IfKnown d d (BeginsBy strict setup fault)
nothing_done strict setup fault d none = some_is d.remaining _ (λ input told. ([], none input, appends-none d.contents))

-- ---- which fault may end a run

pub may_begun : (setup : Setup) (fault : SessionFault) (first : at.Session) → Opens setup (begun first)
    → MayEnd setup (Session fault)
may_begun setup Read first is = (first, is)
may_begun setup Write first is = inl (first, is)
may_begun setup NoMemory first is = tt
may_begun setup TooLong first is = (first, is)

pub may_refused : (setup : Setup) (fault : SessionFault) (old new : Option (List ℕ)) (line : List ℕ)
    (refusal : Refusal) (last : at.Session) → Opens setup (refused refusal last) → IsOfRefusal fault old new line
    → MayEnd setup (Session fault)
may_refused setup Read old new line refusal last is wrote = absurd wrote
may_refused setup Write old new line refusal last is wrote = inr (refusal, last, is)
may_refused setup NoMemory old new line refusal last is wrote = tt
may_refused setup TooLong old new line refusal last is wrote = absurd wrote

-- with any fault, what was written is such a beginning
pub of_err : {T : Type 0} (setup : Setup) (r : Result T RunFault) (remaining old new : Option (List ℕ))
    → IfErr r (λ fault. IfSome remaining (λ input. Writes old new (BeginsBy false setup fault input)))
    → OnErr r (IfSome remaining (λ input. Writes old new (Begins setup input)))
of_err setup (Ok value) remaining old new h = tt
of_err setup (Err fault) None old new h = tt
of_err setup (Err fault) (Some input) old new h = (h.0, begins setup fault input h.0 h.1, h.2)

-- ---- as a script is run, which isn't strict

in_turn : (remaining left old new : Option (List ℕ)) (P : List ℕ → List ℕ → List ℕ → Type 0)
    → IfSome remaining (λ input. Writes old new (λ text. (it : List ℕ) × (left ≡ Some it) × P input it text))
    → IfSome remaining (λ input. (it : List ℕ) × (left ≡ Some it) × Writes old new (λ text. P input it text))
in_turn None left old new P h = tt
in_turn (Some input) left old new P h = (h.1.0, h.1.1, (h.0, h.1.2, h.2))

pub script_runs : (run : Run) (setup : Setup) (remaining left old new : Option (List ℕ))
    → IfSome remaining (λ input. Writes old new (λ text.
    RunsAs false setup input left text run.stop run.history.entries))
    → IfSome remaining (λ input. (it : List ℕ) × (left ≡ Some it)
    × Writes old new (λ text. Runs setup input it text run.history.entries))
script_runs run setup remaining left old new =
    in_turn remaining left old new (λ input it text. Runs setup input it text run.history.entries)
