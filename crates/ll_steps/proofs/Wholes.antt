-- Whole schedules.
use Rattle.std.proofs.Common.{◌≡◌, ℕ, suc, ◌+◌, ◌≤◌, Bool, true, false, List, [], ◌∷◌, ◌++◌, Option, None, Some}
use Rattle.std.proofs.Common.{Result, Ok, Err, ap, append-nil, append_assoc, arith, inl, inr, is_some, length, refl}
use Rattle.std.proofs.Common.{length-append, subst, sym, ◌∙◌}
use Rattle.std.specs.Prelude.{IfSome}
use Rattle.std.specs.List.{join_with_byte}
use Rattle.std.specs.Io.KnownBytes.{Appends}
use Rattle.ll_wire.specs.Devices.{Devices, line_feeds}
use Rattle.ll_wire.proofs.FeedsInParts.{feed_at_end}
use Rattle.ll_rights.specs.declared.errno.Errno.{Errno}
use Rattle.ll_seq.specs.declared.reply.Entry.{Entry}
use Rattle.ll_seq.specs.declared.reply.Reply.TheVariants as reply
use Rattle.ll_steps.specs.declared.report.Report.{Report}
use Rattle.ll_wire.specs.Reached.{AnswersAll, AnswersFirst, StartsAll}
use Rattle.ll_wire.specs.Transcript.{Transcript, Writes}
use Rattle.ll_laws.specs.World.{World}
use Rattle.ll_wire.proofs.WrittenText.{appends-more, appends-none, front-more}
use Rattle.ll_wire.specs.Grammar.{reply_tokens}
use Rattle.ll_wire.specs.WriterGains.{AppendsFront}
use Rattle.ll_wire.specs.Pieces.{pieces}
use Rattle.ll_steps.specs.declared.halt.Halt.{Halt}
use Rattle.ll_steps.specs.declared.halt.Pace.{Pace}
use Rattle.ll_steps.specs.declared.setup.WorldSetup.{WorldSetup}
use Rattle.ll_steps.specs.Pace.{TellsOn, end_text, first_pace}
use Rattle.ll_steps.specs.Tells.{Tells, TellsMade, answer_line, outcome_tokens}
use Rattle.ll_steps.specs.Told.{IsBegunAs, IsBegunStrictly, IsToldAs, IsToldStrictly, lines_answered, opened}
use Rattle.ll_steps.proofs.Paces.{HasEnded, Lines, all_made, ends_by, lax_lines}

-- every answer is a line
pub answer_feeds : (history : List Entry) (answer : Result Report Errno) → 1 ≤ line_feeds (answer_line history answer)
answer_feeds history (Ok outcome) = feed_at_end (join_with_byte 32 (outcome_tokens history outcome))
answer_feeds history (Err errno) = feed_at_end (join_with_byte 32 (reply_tokens (reply.Refused errno)))

some_is : (o : Option (List ℕ)) (P : List ℕ → Type 0) → ((x : List ℕ) → o ≡ Some x → P x) → IfSome o P
some_is None P f = tt
some_is (Some x) P f = f x refl

-- ---- the lines of a schedule with this setup

-- Some first pieces are answered with these lines. They are all, or the last of them has ended it
abbrev IsOver : WorldSetup → Bool → (input lines : List ℕ) → (done more : List (List ℕ)) → World × Pace → Type 0
IsOver setup strict input lines done more t =
    (pieces input ≡ done ++ more) × Lines (opened setup, first_pace strict) done lines t
    × (t.1.halt ≡ None → more ≡ [])

-- the first pieces of a strict schedule, the last of which has ended it
strictly_ended : (setup : WorldSetup) (input lines : List ℕ) (done more : List (List ℕ)) (w' : World) (halt : Halt)
    → pieces input ≡ done ++ more → HasEnded (opened setup) 0 done lines w' halt
    → IsToldStrictly setup input lines (Some halt)
strictly_ended setup input lines done more w' halt e h =
    let number : halt.line ≡ 0 + suc (length h.0) = h.5 in (
      h.0,
      more,
      h.1,
      h.2,
      h.3,
      w',
      e ∙ ap (λ (x : List (List ℕ)). x ++ more) h.4 ∙ append_assoc h.0 (h.1 ∷ []) more,
      omega (arith, number),
      h.6,
      h.7,
      h.8,
      h.9,
    )

-- what is written in all
told_as : (setup : WorldSetup) (strict : Bool) (input lines : List ℕ) (done more : List (List ℕ)) (t : World × Pace)
    → IsOver setup strict input lines done more t
    → IsToldAs strict setup input (lines ++ end_text t.0 t.1.halt) t.1.halt
told_as setup false input lines done more t h =
    let lax = lax_lines (opened setup, first_pace false) t done lines (refl, refl) h.1 in
    let all : done ≡ pieces input =
    sym (h.0 ∙ ap (λ (x : List (List ℕ)). done ++ x) (h.2 lax.0.1) ∙ append-nil done) in (
      lax.0.1,
      (
        lines,
        t.0,
        subst (λ (x : List (List ℕ)). Transcript Tells (opened setup) x lines t.0) all lax.1,
        ap (λ (o : Option Halt). lines ++ end_text t.0 o) lax.0.1,
      ),
    )
told_as setup true input lines done more t h = go t.1.halt refl
  where
    go : (o : Option Halt) → t.1.halt ≡ o → IsToldStrictly setup input (lines ++ end_text t.0 t.1.halt) t.1.halt
    go None none =
        let all : done ≡ pieces input =
        sym (h.0 ∙ ap (λ (x : List (List ℕ)). done ++ x) (h.2 none) ∙ append-nil done) in
        subst (λ (o : Option Halt). IsToldStrictly setup input (lines ++ end_text t.0 o) o) (sym none) (
          lines,
          t.0,
          subst (λ (x : List (List ℕ)). Transcript TellsMade (opened setup) x lines t.0) all
              (all_made (opened setup, first_pace true) t done lines refl h.1 none),
          refl,
        )
    go (Some halt) ended =
        subst (λ (o : Option Halt). IsToldStrictly setup input (lines ++ end_text t.0 o) o) (sym ended)
        (subst (λ (x : List ℕ). IsToldStrictly setup input x (Some halt)) (sym (append-nil lines))
        (strictly_ended setup input lines done more t.0 halt h.0
        (ends_by (opened setup, first_pace true) t done lines halt refl refl h.1 ended)))

-- a part of that
begun_whole : (setup : WorldSetup) (strict : Bool) (input whole text back : List ℕ) (halt : Option Halt)
    → IsToldAs strict setup input whole halt → whole ≡ text ++ back → IsBegunAs strict setup input text
begun_whole setup false input whole text back halt h e = inl (whole, back, h.1, e)
begun_whole setup true input whole text back halt h e = inl (halt, whole, back, h, e)

-- a part of the lines for some first pieces
begun_lines : (setup : WorldSetup) (strict : Bool) (input text lines back : List ℕ) (done more : List (List ℕ))
    (t : World × Pace) → pieces input ≡ done ++ more → Lines (opened setup, first_pace strict) done lines t
    → lines ≡ text ++ back → IsBegunAs strict setup input text
begun_lines setup false input text lines back done more t e h part =
    let lax = lax_lines (opened setup, first_pace false) t done lines (refl, refl) h in
    inr (done, more, lines, back, t.0, e, lax.1, part)
begun_lines setup true input text lines back done more t e h part = go t.1.halt refl
  where
    go : (o : Option Halt) → t.1.halt ≡ o → IsBegunStrictly setup input text
    go None none =
        inr (
          done,
          more,
          lines,
          back,
          t.0,
          e,
          all_made (opened setup, first_pace true) t done lines refl h none,
          part,
        )
    go (Some halt) ended =
        inl (
          Some halt,
          lines,
          back,
          strictly_ended setup input lines done more t.0 halt e
              (ends_by (opened setup, first_pace true) t done lines halt refl refl h ended),
          part,
        )

length_last : (xs : List (List ℕ)) (x : List ℕ) → length (xs ++ x ∷ []) ≡ suc (length xs)
length_last xs x = omega (arith, length-append xs (x ∷ []))

-- how many lines were answered
counted_as : (setup : WorldSetup) (strict : Bool) (input lines : List ℕ) (done more : List (List ℕ)) (t : World × Pace)
    → IsOver setup strict input lines done more t → lines_answered input t.1.halt ≡ length done
counted_as setup strict input lines done more t h = go strict t.1.halt refl refl
  where
    go : (s : Bool) (o : Option Halt) → strict ≡ s → t.1.halt ≡ o → lines_answered input t.1.halt ≡ length done
    go s None same none =
        let all : pieces input ≡ done =
        h.0 ∙ ap (λ (x : List (List ℕ)). done ++ x) (h.2 none) ∙ append-nil done in
        subst (λ (o : Option Halt). lines_answered input o ≡ length done) (sym none) (ap length all)
    go false (Some halt) lax ended =
        let told = lax_lines (opened setup, first_pace strict) t done lines (lax, refl) h.1 in
        absurd (let both = sym told.0.1 ∙ ended in cc)
    go true (Some halt) is ended =
        let end = ends_by (opened setup, first_pace strict) t done lines halt is refl h.1 ended in
        let count : length done ≡ suc (length end.0) = ap length end.4 ∙ length_last end.0 end.1 in
        let number : halt.line ≡ 0 + suc (length end.0) = end.5 in
        subst (λ (o : Option Halt). lines_answered input o ≡ length done) (sym ended) (omega (arith, count, number))

-- ---- a schedule that is opened with this world, and answered

-- what is told of a line, by a state with this world and pace that has seen so many lines
abbrev pub TellsOf : {S : Type 0} (world : S → World) (pace : S → Pace) (seen : S → ℕ) → S → List ℕ → List ℕ → S
    → Type 0
TellsOf world pace seen before piece line after =
    TellsOn (world before, pace before) piece line (world after, pace after) × (seen after ≡ suc (seen before))

module _ {S : Type 0} (world : S → World) (pace : S → Pace) (seen : S → ℕ) where
  -- a transcript of states is one of their worlds and paces
  of_states : (a b : S) (done : List (List ℕ)) (text : List ℕ) → Transcript (TellsOf world pace seen) a done text b
      → Lines (world a, pace a) done text (world b, pace b)
  of_states a b [] text h = (h.0, ap (λ (x : S). (world x, pace x)) h.1)
  of_states a b (piece ∷ done) text h =
      (h.0, (world h.1, pace h.1), h.2, h.3.0, of_states h.1 b done h.2 h.4, h.5)

  -- each piece was seen
  each_seen : (a b : S) (done : List (List ℕ)) (text : List ℕ) → Transcript (TellsOf world pace seen) a done text b
      → seen b ≡ seen a + length done
  each_seen a b [] text h =
      let same : seen b ≡ seen a = ap seen h.1 in omega (arith, same)
  each_seen a b (piece ∷ done) text h =
      let first : seen h.1 ≡ suc (seen a) = h.3.1 in
      let others : seen b ≡ seen h.1 + length done = each_seen h.1 b done h.2 h.4 in
      omega (arith, first, others)

module _ {S : Type 0} (a b : S) (world : S → World) (pace : S → Pace) (seen : S → ℕ) (setup : WorldSetup)
    (strict : Bool) (is : world a ≡ opened setup) (new : pace a ≡ first_pace strict) (old mid : Devices) where
  -- so it is of the lines
  lines_of : (done : List (List ℕ)) (text : List ℕ) → Transcript (TellsOf world pace seen) a done text b
      → Lines (opened setup, first_pace strict) done text (world b, pace b)
  lines_of done text h =
      subst (λ (p : Pace). Lines (opened setup, p) done text (world b, pace b)) new
      (subst (λ (w : World). Lines (w, pace a) done text (world b, pace b)) is
      (of_states world pace seen a b done text h))

  -- the first pieces that were answered, all if no line has ended it
  abbrev HasFirst : List ℕ → Type 0
  HasFirst input =
      (done more : List (List ℕ)) × (lines : List ℕ)
      × IsOver setup strict input lines done more (world b, pace b)
      × Appends old.contents mid.contents lines × (seen b ≡ seen a + length done)

  module _ (all : is_some (pace b).halt ≡ false → AnswersAll (TellsOf world pace seen) a b old mid)
      (some : is_some (pace b).halt ≡ true → AnswersFirst (TellsOf world pace seen) a b old mid) where
    firsts : (input : List ℕ) → old.remaining ≡ Some input → HasFirst input
    firsts input e = go (pace b).halt refl
      where
        go : (o : Option Halt) → (pace b).halt ≡ o → HasFirst input
        go None none =
            let h = all (ap is_some none) input e in (
              pieces input,
              [],
              h.1.0,
              (sym (append-nil (pieces input)), lines_of (pieces input) h.1.0 h.1.1, λ n. refl),
              h.1.2,
              each_seen world pace seen a b (pieces input) h.1.0 h.1.1,
            )
        go (Some halt) ended =
            let h = some (ap is_some ended) input e in (
              h.0,
              h.1,
              h.2,
              (h.3, lines_of h.0 h.2 h.4, λ none. absurd (let both = sym none ∙ ended in cc)),
              h.5,
              each_seen world pace seen a b h.0 h.2 h.4,
            )

    module _ (last : Devices) where
      pub all_told : Appends mid.contents last.contents (end_text (world b) (pace b).halt)
          → IfSome old.remaining (λ input. Writes old.contents last.contents
          (λ text. IsToldAs strict setup input text (pace b).halt))
      all_told wrote = some_is old.remaining _ (λ input e.
          let t = firsts input e in (
            t.2 ++ end_text (world b) (pace b).halt,
            told_as setup strict input t.2 t.0 t.1 (world b, pace b) t.3,
            appends-more old.contents mid.contents last.contents t.2 (end_text (world b) (pace b).halt) t.4 wrote,
          ))

      pub all_read : last.remaining ≡ mid.remaining → (pace b).halt ≡ None
          → IfSome old.remaining (λ input. last.remaining ≡ Some [])
      all_read same none = some_is old.remaining _ (λ input e. same ∙ (all (ap is_some none) input e).0)

      pub last_stops : AppendsFront mid.contents last.contents (end_text (world b) (pace b).halt)
          → IfSome old.remaining (λ input. Writes old.contents last.contents (IsBegunAs strict setup input))
      last_stops wrote = some_is old.remaining _ (λ input e.
          let t = firsts input e in
          let end = end_text (world b) (pace b).halt in
          let front = front-more old.contents mid.contents last.contents t.2 end t.4 wrote in (
            front.0,
            begun_whole setup strict input (t.2 ++ end) front.0 front.1 (pace b).halt
                (told_as setup strict input t.2 t.0 t.1 (world b, pace b) t.3) front.2,
            front.3,
          ))

    pub all_seen : (before after : ℕ) → seen a ≡ before → after ≡ seen b
        → IfSome old.remaining (λ input. after ≡ before + lines_answered input (pace b).halt)
    all_seen before after e f = some_is old.remaining _ (λ input h.
        let t = firsts input h in
        let count : lines_answered input (pace b).halt ≡ length t.0 =
        counted_as setup strict input t.2 t.0 t.1 (world b, pace b) t.3 in
        let seen_all : seen b ≡ seen a + length t.0 = t.5 in omega (arith, count, seen_all, e, f))

  pub line_stops : StartsAll (TellsOf world pace seen) a b old mid
      → IfSome old.remaining (λ input. Writes old.contents mid.contents (IsBegunAs strict setup input))
  line_stops start = some_is old.remaining _ (λ input e.
      let h = start input e in (
        h.5.0,
        begun_lines setup strict input h.5.0 h.2 h.5.1 h.0 h.1 (world b, pace b) h.3 (lines_of h.0 h.2 h.4) h.5.2,
        h.5.3,
      ))

nothing_begun : (setup : WorldSetup) (strict : Bool) (input : List ℕ) → IsBegunAs strict setup input []
nothing_begun setup strict input =
    begun_lines setup strict input [] [] [] [] (pieces input) (opened setup, first_pace strict) refl (refl, refl) refl

pub nothing_told : (setup : WorldSetup) (strict : Bool) (d : Devices)
    → IfSome d.remaining (λ input. Writes d.contents d.contents (IsBegunAs strict setup input))
nothing_told setup strict d = some_is d.remaining _ (λ input e.
    ([], nothing_begun setup strict input, appends-none d.contents))
