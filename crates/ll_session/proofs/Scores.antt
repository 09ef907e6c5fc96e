-- Sessions that count what they answer, and may be strict.
use Rattle.std.proofs.Common.{◌≡◌, ℕ, ◌+◌, ◌<◌, ◌≤◌, ◌&&◌, Bool, true, false, cond, List, [], ◌∷◌, Option, None, Some}
use Rattle.std.specs.Prelude.{OnOk}
use Rattle.std.proofs.Common.{Result, Ok, Err, length, ap, refl, sym, subst, ◌∙◌, inl, inr, arith, is_some}
use Rattle.ll_client.specs.Entries.{Knows}
use Rattle.ll_rights.specs.declared.errno.Errno.{Errno}
use Rattle.ll_rights.specs.declared.errno.Errno.TheVariants as errno
use Rattle.ll_seq.specs.declared.call.Call.{Call}
use Rattle.ll_seq.specs.declared.reply.Entry.{Entry}
use Rattle.ll_seq.specs.declared.reply.Reply.{Reply}
use Rattle.ll_seq.specs.declared.reply.Reply.TheVariants.{Refused}
use Rattle.ll_seq.specs.declared.rules.Rules.{Rules}
use Rattle.ll_wire.proofs.Cuts.{kept}
use Rattle.ll_wire.specs.LineCuts.{Holds}
use Rattle.ll_wire.specs.Devices.{Devices}
use Rattle.ll_wire.specs.Grammar.{SpellsCommand, reply_line}
use Rattle.ll_wire.specs.Pieces.{pieces}
use Rattle.ll_wire.specs.Reached.{AnswersAll, AnswersFirst, StartsAll}
use Rattle.ll_wire.specs.Reads.{ReadsBy, holds_text}
use Rattle.ll_wire.specs.Transcript.{Transcript}
use Rattle.ll_session.specs.Beside.{AnswersBeside, CountsBeside}
use Rattle.ll_session.specs.Between.{Leads, between}
use Rattle.ll_session.specs.Counts.{StaysAs, counted, first_score, noted, nothing}
use Rattle.ll_session.specs.PartySession as at
use Rattle.ll_session.specs.Progress.{IsUnread, RunsTo, StopsAt, without}
use Rattle.ll_session.specs.Session.{Answers, Tells}
use Rattle.ll_session.specs.Strict.{EndsAt, IsEnd, Scores, ScoresTo, TellsStrictly, is_end}
use Rattle.ll_session.specs.Talk.{Goes}
use Rattle.ll_session.specs.declared.score.Score.{Score}
use Rattle.ll_session.specs.declared.tally.Tally.{Tally}
use Rattle.ll_session.proofs.ActChains.{nothing_leads, so_leads, then_leads}
use Rattle.ll_session.proofs.Leadings.{goes_so}
use Rattle.ll_session.proofs.Replies.{answers_count, answers_so}

none_there : {A : Type 0} → (o : Option A) → is_some o ≡ false → o ≡ None
none_there None e = refl
none_there (Some x) e = absurd cc

-- two things of a call that ended well
pub on_both : {T E P Q R : Type 0} (r : Result T E) → (P → Q → R) → OnOk r P → OnOk r Q → OnOk r R
on_both (Ok value) f p q = f p q
on_both (Err fault) f p q = tt

-- ---- whether a reply ends a strict session

by_call : (piece : List ℕ) (reply : Reply) (b : Bool) (n : ℕ) (call : Call) → SpellsCommand piece n call
    → b ≡ is_end call reply → IsEnd piece reply (cond b (Some reply) None)
by_call piece reply true n call is e = (refl, inr (n, call, is, sym e))
by_call piece reply false n call is e = (n, call, is, sym e)

module _ (line : Option (List ℕ)) (bytes piece : List ℕ) (held : Holds line piece) (some : line ≡ Some bytes) where
  -- the line spells a call
  pub called_ends : (place : ℕ) (call : Call) (reply : Reply) (b : Bool) → SpellsCommand bytes place call
      → b ≡ is_end call reply → IsEnd piece reply (cond b (Some reply) None)
  called_ends place call reply b is = by_call piece reply b place call
      (subst (λ (p : List ℕ). SpellsCommand p place call) (kept line bytes piece some held) is)

  -- a line that wasn't read ends a strict session
  pub unread_ends : (limit clients : ℕ) (ks ks' : List Knows) (because told : Errno)
      → ReadsBy (λ (v : ℕ × Call). SpellsCommand bytes v.0 v.1 × (v.0 ≤ clients))
      (λ (v : ℕ × Call). holds_text v.1 ≡ true) (Err because) → IsUnread limit ks because told ks'
      → IsEnd piece (Refused told) (Some (Refused told))
  unread_ends limit clients ks ks' because told reads kind = elim reads [
    | inl h ↦ elim kind [
      | inl over ↦ absurd (let both = sym h.0 ∙ over.0 in cc)
      | inr rest ↦ elim rest [
        | inl free ↦ absurd (let both = sym h.0 ∙ free.0 in cc)
        | inr none ↦ (refl, inl (ap Refused (none.2 ∙ h.0)))
      ]
    ]
    | inr h ↦
        let is = subst (λ (p : List ℕ). SpellsCommand p h.1.0 h.1.1) (kept line bytes piece some held) h.2.0 in
        elim kind [
          | inl over ↦ (
            refl,
            inr (h.1.0, h.1.1, is, subst (λ (e : Errno). is_end h.1.1 (Refused e) ≡ true) (sym over.3) refl),
          )
          | inr rest ↦ elim rest [
            | inl free ↦ (
              refl,
              inr (h.1.0, h.1.1, is, subst (λ (e : Errno). is_end h.1.1 (Refused e) ≡ true) (sym free.3) refl),
            )
            | inr none ↦ absurd (none.0 h.0)
          ]
        ]
  ]

ends_at : (strict b : Bool) (piece : List ℕ) (reply : Reply) (end : Option Reply) → end ≡ None
    → IsEnd piece reply (cond b (Some reply) None) → EndsAt strict piece reply (cond (strict && b) (Some reply) end)
ends_at false b piece reply end none ends = none
ends_at true b piece reply end none ends =
    subst (λ (o : Option Reply). IsEnd piece reply (cond b (Some reply) o)) (sym none) ends

-- so the line is answered where nothing has ended the session before
pub scored : {S : Type 0} (A : S → List ℕ → Reply → S → Type 0) (s t : S) (score : Score) (piece line : List ℕ)
    (reply : Reply) (b : Bool) → is_some score.end ≡ false → A s piece reply t → line ≡ reply_line reply
    → IsEnd piece reply (cond b (Some reply) None) → Scores A (s, score) piece line (t, noted score reply b)
scored A s t score piece line reply b going answers is ends =
    let none = none_there score.end going in
    (none, (reply, answers, is, ends_at score.is_strict b piece reply score.end none ends, refl, refl))

-- a session that isn't strict isn't ended
pub stays_as : (score : Score) (reply : Reply) (b : Bool) → StaysAs score (noted score reply b)
stays_as score reply b = (refl, λ lax. ap (λ (s : Bool). cond (s && b) (Some reply) score.end) lax)

-- ---- transcripts, told otherwise

module _ {S T : Type 0} (f : S → T) (Keeps : S → Type 0) (P : S → List ℕ → List ℕ → S → Type 0)
    (Q : T → List ℕ → List ℕ → T → Type 0)
    (step : (a b : S) (piece line : List ℕ) → Keeps a → P a piece line b → Keeps b × Q (f a) piece line (f b)) where
  pub along : (a b : S) (done : List (List ℕ)) (text : List ℕ) → Keeps a → Transcript P a done text b
      → Keeps b × Transcript Q (f a) done text (f b)
  along a b [] text k h = (subst Keeps (sym h.1) k, (h.0, ap f h.1))
  along a b (piece ∷ done) text k h =
      let one = step a h.1 piece h.0 k h.3 in
      let rest = along h.1 b done h.2 one.0 h.4 in
      (rest.0, (h.0, f h.1, h.2, one.1, rest.1, h.5))

module _ {S : Type 0} (A : S → List ℕ → Reply → S → Type 0) where
  -- so many lines are counted
  pub lines_counted : (a b : S × Score) (done : List (List ℕ)) (text : List ℕ) → Transcript (Scores A) a done text b
      → b.1.tally.lines ≡ a.1.tally.lines + length done
  lines_counted a b [] text h =
      let same = ap (λ (x : S × Score). x.1.tally.lines) h.1 in omega (arith, same)
  lines_counted a b (piece ∷ done) text h =
      let one = ap (λ (t : Tally). t.lines) h.3.1.4 in
      let rest = lines_counted h.1 b done h.2 h.4 in omega (arith, one, rest)

  -- neither strict nor ended
  abbrev pub IsLax : S × Score → Type 0
  IsLax a = (a.1.is_strict ≡ false) × (a.1.end ≡ None)

  lax_step : (a b : S × Score) (piece line : List ℕ) → IsLax a → Scores A a piece line b → IsLax b
  lax_step a b piece line lax h =
      (h.1.5 ∙ lax.0, subst (λ (s : Bool). EndsAt s piece h.1.0 b.1.end) lax.0 h.1.3)

pub lax_lines : (a b : at.Session × Score) (done : List (List ℕ)) (text : List ℕ) → IsLax Answers a
    → Transcript (Scores Answers) a done text b → IsLax Answers b × Transcript Tells a.0 done text b.0
lax_lines = along {S = at.Session × Score} {T = at.Session} (λ a. a.0) (IsLax Answers) (Scores Answers) Tells
    (λ a b piece line lax h. (lax_step Answers a b piece line lax h, (h.1.0, h.1.1, h.1.2)))

pub strict_lines : (a b : at.Session × Score) (done : List (List ℕ)) (text : List ℕ) → a.1.is_strict ≡ true
    → Transcript (Scores Answers) a done text b
    → (b.1.is_strict ≡ true) × Transcript TellsStrictly (a.0, a.1.end) done text (b.0, b.1.end)
strict_lines = along {S = at.Session × Score} {T = at.Session × Option Reply} (λ a. (a.0, a.1.end))
    (λ a. a.1.is_strict ≡ true) (Scores Answers) TellsStrictly
    (λ a b piece line strict h. (
      h.1.5 ∙ strict,
      (
        h.0,
        (h.1.0, h.1.1, h.1.2, subst (λ (s : Bool). EndsAt s piece h.1.0 b.1.end) strict h.1.3),
      ),
    ))

pub counted_lines : (limit : ℕ) (a b : List Knows × Score) (done : List (List ℕ)) (text : List ℕ)
    → IsLax (AnswersBeside limit 0) a → Transcript (Scores (AnswersBeside limit 0)) a done text b
    → IsLax (AnswersBeside limit 0) b
    × Transcript (CountsBeside limit 0) (a.0, a.1.tally) done text (b.0, b.1.tally)
counted_lines limit = along {S = List Knows × Score} {T = List Knows × Tally} (λ a. (a.0, a.1.tally))
    (IsLax (AnswersBeside limit 0)) (Scores (AnswersBeside limit 0)) (CountsBeside limit 0)
    (λ a b piece line lax h.
    (lax_step (AnswersBeside limit 0) a b piece line lax h, (h.1.0, h.1.1, h.1.2, h.1.4)))

-- ---- lines, one after the other

module _ (rules : Rules) (room limit before : ℕ) where
  abbrev Beside : List Knows × Score → List ℕ → List ℕ → List Knows × Score → Type 0
  Beside = Scores (AnswersBeside limit before)

  -- the session that knows so much, with these scores
  abbrev Between : (done : List (List ℕ)) (text : List ℕ) (a b : Score) (s t : at.Session) → Type 0
  Between done text a b s t = Transcript (Scores Answers) (without before s, a) done text (without before t, b)

  one_line : (ks : List Knows) (a : Score) (t : List Knows × Score) (piece line : List ℕ) → before < length ks
      → Beside (ks, a) piece line t
      → Leads rules room limit ks t.0 (λ s u. Scores Answers (without before s, a) piece line (without before u, t.1))
  one_line ks a t piece line less h = so_leads rules room limit ks t.0
      (λ s u. Answers (without before s) piece h.1.0 (without before u))
      (λ s u. Scores Answers (without before s, a) piece line (without before u, t.1))
      (answers_so rules room limit before piece ks t.0 h.1.0 less h.1.1)
      (λ history end c s s' answers. (h.0, (h.1.0, answers, h.1.2, h.1.3, h.1.4, h.1.5)))

  lines_so : (ks : List Knows) (a : Score) (t : List Knows × Score) (done : List (List ℕ)) (text : List ℕ)
      → before < length ks → Transcript Beside (ks, a) done text t
      → Leads rules room limit ks t.0 (Between done text a t.1)
  lines_so ks a t [] text less h =
      subst (λ (x : List Knows × Score). Leads rules room limit ks x.0 (Between [] text a x.1)) (sym h.1)
      (so_leads rules room limit ks ks (λ s u. u ≡ s) (Between [] text a a) (nothing_leads rules room limit ks)
      (λ history end c s s' same. (h.0, ap (λ (u : at.Session). (without before u, a)) same)))
  lines_so ks a t (piece ∷ done) text less h =
      let mid = h.1 in
      let more = answers_count limit before ks mid.0 piece h.3.1.0 h.3.1.1 in
      so_leads rules room limit ks t.0
      (λ s u. (v : at.Session) × Scores Answers (without before s, a) piece h.0 (without before v, mid.1)
      × Between done h.2 mid.1 t.1 v u)
      (Between (piece ∷ done) text a t.1)
      (then_leads rules room limit ks mid.0 t.0
      (λ s u. Scores Answers (without before s, a) piece h.0 (without before u, mid.1)) (Between done h.2 mid.1 t.1)
      (one_line ks a mid piece h.0 less h.3) (lines_so mid.0 mid.1 t done h.2 (omega (arith, less, more)) h.4))
      (λ history end c s s' it. (h.0, (without before it.0, mid.1), h.2, it.1, it.2, h.5))

  module _ (ks ks' : List Knows) (strict : Bool) (score : Score) (old new : Devices) (goes : Goes limit ks ks')
      (less : before < length ks) where
    -- the session at this point
    abbrev point : List Entry → List Knows → at.Session
    point history is = without before (between rules room limit history is)

    pub runs_to : ScoresTo (AnswersBeside limit before) (ks, first_score strict) (ks', score) old new
        → Leads rules room limit ks ks' (RunsTo before strict score old new)
    runs_to to =
        let on = goes_so rules room limit ks ks' goes in (
          on.0,
          λ history end c g s. (
            (on.1 history end c g s).0,
            (
              point history ks',
              (
                λ none input is. let h = to.0 none input is in (
                  h.0,
                  (
                    h.1.0,
                    ((lines_so ks (first_score strict) (ks', score) (pieces input) h.1.0 less h.1.1).1 history end c g
                        s).1,
                    h.1.2,
                  ),
                ),
                λ some input is. let h = to.1 some input is in (
                  h.0,
                  h.1,
                  h.2,
                  h.3,
                  ((lines_so ks (first_score strict) (ks', score) h.0 h.2 less h.4).1 history end c g s).1,
                  h.5,
                ),
              ),
              refl,
            ),
          ),
        )

    pub stops_at : StartsAll Beside (ks, first_score strict) (ks', score) old new
        → Leads rules room limit ks ks' (StopsAt before strict old new)
    stops_at start =
        let on = goes_so rules room limit ks ks' goes in (
          on.0,
          λ history end c g s. (
            (on.1 history end c g s).0,
            (
              point history ks',
              score,
              λ input is. let h = start input is in (
                h.0,
                h.1,
                h.2,
                h.3,
                ((lines_so ks (first_score strict) (ks', score) h.0 h.2 less h.4).1 history end c g s).1,
                h.5,
              ),
            ),
          ),
        )

-- ---- what a session tells of itself, told of its clients

module _ {S : Type 0} (clients : S → List Knows) (score : S → Score) (before : S → ℕ) (limit : ℕ) where
  abbrev pub On : S → List ℕ → List ℕ → S → Type 0
  On a piece line b =
      Scores (AnswersBeside limit (before a)) (clients a, score a) piece line (clients b, score b)
      × (before b ≡ before a)

  of_session : (n : ℕ) (a b : S) (done : List (List ℕ)) (text : List ℕ) → before a ≡ n → Transcript On a done text b
      → (before b ≡ n)
      × Transcript (Scores (AnswersBeside limit n)) (clients a, score a) done text (clients b, score b)
  of_session n = along {S = S} {T = List Knows × Score} (λ a. (clients a, score a)) (λ a. before a ≡ n) On
      (Scores (AnswersBeside limit n))
      (λ a b piece line is h. (
        h.1 ∙ is,
        subst (λ (m : ℕ). Scores (AnswersBeside limit m) (clients a, score a) piece line (clients b, score b)) is h.0,
      ))

  module _ (a b : S) (old new : Devices) where
    pub scores_to : (is_some (score b).end ≡ false → AnswersAll On a b old new)
        → (is_some (score b).end ≡ true → AnswersFirst On a b old new)
        → ScoresTo (AnswersBeside limit (before a)) (clients a, score a) (clients b, score b) old new
    scores_to all some = (
      λ none input is. let h = all none input is in
          (h.0, (h.1.0, (of_session (before a) a b (pieces input) h.1.0 refl h.1.1).1, h.1.2)),
      λ ended input is. let h = some ended input is in
          (h.0, h.1, h.2, h.3, (of_session (before a) a b h.0 h.2 refl h.4).1, h.5),
    )

    pub starts_all : StartsAll On a b old new
        → StartsAll (Scores (AnswersBeside limit (before a))) (clients a, score a) (clients b, score b) old new
    starts_all start = λ input is.
        let h = start input is in (h.0, h.1, h.2, h.3, (of_session (before a) a b h.0 h.2 refl h.4).1, h.5)

-- ---- one that isn't strict, and counts

module _ (limit : ℕ) (ks ks' : List Knows) (score : Score) (old new : Devices) where
  pub counts_all : score.end ≡ None
      → ScoresTo (AnswersBeside limit 0) (ks, first_score false) (ks', score) old new
      → AnswersAll (CountsBeside limit 0) (ks, nothing) (ks', score.tally) old new
  counts_all none to = λ input is.
      let h = to.0 (ap is_some none) input is in (
        h.0,
        (
          h.1.0,
          (counted_lines limit (ks, first_score false) (ks', score) (pieces input) h.1.0 (refl, refl) h.1.1).1,
          h.1.2,
        ),
      )

  pub counts_some : StartsAll (Scores (AnswersBeside limit 0)) (ks, first_score false) (ks', score) old new
      → StartsAll (CountsBeside limit 0) (ks, nothing) (ks', score.tally) old new
  counts_some start = λ input is.
      let h = start input is in (
        h.0,
        h.1,
        h.2,
        h.3,
        (counted_lines limit (ks, first_score false) (ks', score) h.0 h.2 (refl, refl) h.4).1,
        h.5,
      )
