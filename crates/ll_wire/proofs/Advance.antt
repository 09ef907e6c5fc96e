-- One line more of a transcript.
use Rattle.std.proofs.Common.{◌≡◌, ℕ, Bool, true, false, List, [], ◌∷◌, ◌++◌, Option, Result, Ok, Err, refl, sym}
use Rattle.std.proofs.Common.{ap}
use Rattle.std.proofs.Common.{subst, ◌∙◌, append_assoc}
use Rattle.std.specs.Prelude.{OnErr}
use Rattle.std.specs.Io.KnownBytes.{Appends}
use Rattle.std.proofs.lemmas.List.{append-nil}
use Rattle.ll_wire.specs.Devices.{Devices}
use Rattle.ll_wire.specs.Pieces.{pieces}
use Rattle.ll_wire.proofs.WrittenText.{appends-none}
use Rattle.ll_wire.specs.LineCuts.{Cuts, Holds, IsLeft, IsTold, Reading, TellsFront, TellsFrontOf, TellsMore, TellsOn}
use Rattle.ll_wire.specs.LineCuts.{unread}
use Rattle.ll_wire.specs.Transcript.{Transcript}
use Rattle.ll_wire.specs.Reached.{AnswersAll, AnswersFirst, AnswersSome, StartsAll}
use Rattle.ll_wire.specs.SettledAnswers.{TellsStill}
use Rattle.ll_wire.proofs.LeftToRead.{at_last, at_start, none_of}

pub on_err : {T E P : Type 0} → (r : Result T E) → P → OnErr r P
on_err (Ok value) p = tt
on_err (Err fault) p = p

module _ {S : Type 0} (Tells : S → List ℕ → List ℕ → S → Type 0) where
  lines-append : (done : List (List ℕ)) (s mid t : S) (text piece line : List ℕ) → Transcript Tells s done text mid
      → Tells mid piece line t → Transcript Tells s (done ++ piece ∷ []) (text ++ line) t
  lines-append [] s mid t text piece line h a =
      (line, t, [], subst (λ (m : S). Tells m piece line t) h.1 a, (refl, refl), rw h.0 (sym (append-nil line)))
  lines-append (p ∷ ps) s mid t text piece line h a = (
    h.0,
    h.1,
    h.2 ++ line,
    h.3,
    lines-append ps h.1 mid t h.2 piece line h.4 a,
    ap (λ (x : List ℕ). x ++ line) h.5 ∙ append_assoc h.0 h.2 line,
  )

  -- lines that led to t may as well lead to u
  still_more : (p : List ℕ) (ps : List (List ℕ)) (s t u : S) (text : List ℕ) → TellsStill Tells t u
      → Transcript Tells s (p ∷ ps) text t → Transcript Tells s (p ∷ ps) text u
  still_more p [] s t u text still h = (
    h.0,
    u,
    h.2,
    still s p h.0 (subst (λ (m : S). Tells s p h.0 m) (sym h.4.1) h.3),
    (h.4.0, refl),
    h.5,
  )
  still_more p (q ∷ qs) s t u text still h = (h.0, h.1, h.2, h.3, still_more q qs h.1 t u h.2 still h.4, h.5)

  still_lines : (done : List (List ℕ)) (s t u : S) (text : List ℕ) → TellsStill Tells t u → (text ≡ [] → u ≡ t)
      → Transcript Tells s done text t → Transcript Tells s done text u
  still_lines [] s t u text still quiet h = (h.0, quiet h.0 ∙ h.1)
  still_lines (p ∷ ps) s t u text still quiet h = still_more p ps s t u text still h

  -- where nothing waits, nothing changes
  still_told : (done : List (List ℕ)) (s t u : S) (text : List ℕ) (first : Option (List ℕ)) (r : Reading) (d : Devices)
      → TellsStill Tells t u → (r.waiting ≡ [] → u ≡ t) → IsTold first r d text → Transcript Tells s done text t
      → Transcript Tells s done text u
  still_told done s t u text first r d still quiet told h =
      still_lines done s t u text still (λ none. quiet (none_of told.0 r.waiting (sym none ∙ told.1))) h

  -- what was answered is kept
  pub still_some : (s t u : S) (r : Reading) (first d : Devices) → AnswersSome Tells s t r first d
      → TellsStill Tells t u → (r.waiting ≡ [] → u ≡ t) → AnswersSome Tells s u r first d
  still_some s t u r first d some still quiet input is =
      let a = some input is in (
        a.0,
        a.1,
        a.2,
        a.3,
        a.4,
        still_told a.1 s t u a.2 first.contents r d still quiet a.6 a.5,
        a.6,
      )

  -- nothing is read yet
  pub none_yet : (s : S) (r : Reading) (d : Devices) → r ≡ unread → AnswersSome Tells s s r d d
  none_yet s r d is input e = (
    input,
    [],
    [],
    at_start r d.remaining input is e,
    refl,
    (refl, refl),
    ([], sym (ap (λ (x : Reading). x.waiting) is), appends-none d.contents),
  )

  module _ (s t : S) (r : Reading) (first d : Devices) (some : AnswersSome Tells s t r first d) where
    -- the next line can't be read
    pub reading_stops : (e : Devices) → TellsFront r d e → StartsAll Tells s t first e
    reading_stops e front input is =
        let a = some input is in (a.1, pieces a.0, a.2, a.4, a.5, front first.contents a.2 a.6)

    -- no more lines are answered, and all that waits is written
    pub all_told : (e : Devices) → ((text : List ℕ) → IsTold first.contents r d text → Appends first.contents e.contents
        text) → AnswersFirst Tells s t first e
    all_told e written input is =
        let a = some input is in (a.1, pieces a.0, a.2, a.4, a.5, written a.2 a.6)

    -- this line is the next one, if there is one
    module _ (r' : Reading) (e : Devices) (line : Option (List ℕ)) (is_there : Bool)
        (cuts : (left : List ℕ) → IsLeft r d.remaining left → Cuts left is_there line (IsLeft r' e.remaining))
        (on : TellsOn r r' d e) where
      at : (b : Bool) → is_there ≡ b → (left : List ℕ) → IsLeft r d.remaining left
          → Cuts left b line (IsLeft r' e.remaining)
      at b is left there = subst (λ (c : Bool). Cuts left c line (IsLeft r' e.remaining)) is (cuts left there)

      module _ (is : is_there ≡ true) (u : S) where
        -- it is answered by this text
        pub one_more : (answer : List ℕ) (r'' : Reading) (f : Devices)
            → ((piece : List ℕ) → Holds line piece → Tells t piece answer u)
            → ((left : List ℕ) → IsLeft r' e.remaining left → IsLeft r'' f.remaining left)
            → TellsMore r' r'' e f answer → AnswersSome Tells s u r'' first f
        one_more answer r'' f answers keeps more input told =
            let a = some input told in
            let cut = at true is a.0 a.3 in (
              cut.1,
              a.1 ++ cut.0 ∷ [],
              a.2 ++ answer,
              keeps cut.1 cut.4,
              a.4 ∙ ap (λ (x : List (List ℕ)). a.1 ++ x) cut.2 ∙ sym (append_assoc a.1 (cut.0 ∷ []) (pieces cut.1)),
              lines-append a.1 s t u a.2 cut.0 answer a.5 (answers cut.0 cut.3),
              more first.contents a.2 (on first.contents a.2 a.6),
            )

        -- the text isn't wholly written
        pub one_stops : (answer : List ℕ) (f : Devices) → ((piece : List ℕ) → Holds line piece → Tells t piece answer u)
            → TellsFrontOf r' e f answer → StartsAll Tells s u first f
        one_stops answer f answers front input told =
            let a = some input told in
            let cut = at true is a.0 a.3 in (
              a.1 ++ cut.0 ∷ [],
              pieces cut.1,
              a.2 ++ answer,
              a.4 ∙ ap (λ (x : List (List ℕ)). a.1 ++ x) cut.2 ∙ sym (append_assoc a.1 (cut.0 ∷ []) (pieces cut.1)),
              lines-append a.1 s t u a.2 cut.0 answer a.5 (answers cut.0 cut.3),
              front first.contents a.2 (on first.contents a.2 a.6),
            )

        -- it is answered by some text, of which nothing is written
        pub one_untold : (f : Devices)
            → ((piece : List ℕ) → Holds line piece → (answer : List ℕ) × Tells t piece answer u)
            → TellsFront r' e f → StartsAll Tells s u first f
        one_untold f answers front input told =
            let a = some input told in
            let cut = at true is a.0 a.3 in
            let answer = answers cut.0 cut.3 in
            let w = front first.contents a.2 (on first.contents a.2 a.6) in (
              a.1 ++ cut.0 ∷ [],
              pieces cut.1,
              a.2 ++ answer.0,
              a.4 ∙ ap (λ (x : List (List ℕ)). a.1 ++ x) cut.2 ∙ sym (append_assoc a.1 (cut.0 ∷ []) (pieces cut.1)),
              lines-append a.1 s t u a.2 cut.0 answer.0 a.5 answer.1,
              (
                w.0,
                w.1 ++ answer.0,
                ap (λ (x : List ℕ). x ++ answer.0) w.2 ∙ append_assoc w.0 w.1 answer.0,
                w.3,
              ),
            )

      -- what was answered is kept then
      module _ (u : S) (still : TellsStill Tells t u) (quiet : r'.waiting ≡ [] → u ≡ t) where
        -- there is none, and all is written
        pub all_read : (f : Devices) → is_there ≡ false → f.remaining ≡ e.remaining
            → ((text : List ℕ) → IsTold first.contents r' e text → Appends first.contents f.contents text)
            → AnswersAll Tells s u first f
        all_read f is same written input told =
            let a = some input told in
            let cut = at false is a.0 a.3 in
            let o = on first.contents a.2 a.6 in
            let all : a.1 ≡ pieces input = sym (a.4 ∙ ap (λ (x : List ℕ). a.1 ++ pieces x) cut.0 ∙ append-nil a.1) in (
              same ∙ at_last r' e.remaining cut.1,
              (
                a.2,
                subst (λ (x : List (List ℕ)). Transcript Tells s x a.2 u) all
                    (still_told a.1 s t u a.2 first.contents r' e still quiet o a.5),
                written a.2 o,
              ),
            )

        -- there is none, and not all is written
        pub end_stops : (f : Devices) → TellsFront r' e f → StartsAll Tells s u first f
        end_stops f front input told =
            let a = some input told in
            let o = on first.contents a.2 a.6 in (
              a.1,
              pieces a.0,
              a.2,
              a.4,
              still_told a.1 s t u a.2 first.contents r' e still quiet o a.5,
              front first.contents a.2 o,
            )
