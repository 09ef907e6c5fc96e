-- Schedules line after line, and which line ends a strict one.
use Rattle.std.proofs.Common.{◌≡◌, ℕ, suc, ◌+◌, ◌&&◌, Bool, true, false, List, [], ◌∷◌, ◌++◌, Option, None, Some}
use Rattle.std.proofs.Common.{Result, append-nil, append_assoc, arith, ap, cond, is_some, length, refl, subst, sym, ◌∙◌}
use Rattle.std.specs.Prelude.{not}
use Rattle.std.specs.Io.KnownBytes.{Appends}
use Rattle.ll_rights.specs.declared.errno.Errno.{Errno}
use Rattle.ll_laws.specs.World.{World}
use Rattle.ll_wire.proofs.WrittenText.{appends-none}
use Rattle.ll_wire.specs.Transcript.{Transcript}
use Rattle.ll_steps.specs.Pace.{StaysAs, TellsOn, end_text, halt_at, noted}
use Rattle.ll_steps.specs.Tells.{Answers, Tells, TellsMade, answer_line, is_made}
use Rattle.ll_steps.specs.Told.{last_line}
use Rattle.ll_steps.specs.declared.halt.Halt.{Halt}
use Rattle.ll_steps.specs.declared.halt.Pace.{Pace}
use Rattle.ll_steps.specs.declared.report.Report.{Report}

pub none_there : {A : Type 0} → (o : Option A) → is_some o ≡ false → o ≡ None
none_there None e = refl
none_there (Some x) e = absurd cc

-- a line that has ended a schedule is its last
pub nothing_more : (w : World) (o : Option Halt) (halt : Halt) (contents : Option (List ℕ)) → o ≡ Some halt
    → Appends contents contents (end_text w o)
nothing_more w o halt contents e =
    subst (λ (x : Option Halt). Appends contents contents (end_text w x)) (sym e) (appends-none contents)

pub one_more : (w : World) (o : Option Halt) → o ≡ None → last_line w ≡ end_text w o
one_more w o e = ap (end_text w) (sym e)

-- a schedule that isn't strict isn't ended
pub stays_as : (p : Pace) (answer : Result Report Errno) → StaysAs p (noted p answer)
stays_as p answer = (
  refl,
  λ lax. ap (λ (s : Bool). cond (s && not (is_made answer)) (Some (halt_at p answer)) p.halt) lax,
)

-- ---- lines of a schedule, by its worlds and paces

abbrev pub Lines : World × Pace → List (List ℕ) → List ℕ → World × Pace → Type 0
Lines = Transcript TellsOn

-- ---- not strict

-- neither strict nor ended
abbrev pub IsLax : Pace → Type 0
IsLax p = (p.is_strict ≡ false) × (p.halt ≡ None)

lax_on : (p : Pace) (answer : Result Report Errno) (q : Pace) → IsLax p → q ≡ noted p answer → IsLax q
lax_on p answer q lax e = subst IsLax (sym e) (lax.0, (stays_as p answer).1 lax.0 ∙ lax.1)

pub lax_lines : (s t : World × Pace) (done : List (List ℕ)) (text : List ℕ) → IsLax s.1 → Lines s done text t
    → IsLax t.1 × Transcript Tells s.0 done text t.0
lax_lines s t [] text lax h = (
  subst (λ (x : World × Pace). IsLax x.1) (sym h.1) lax,
  (h.0, ap (λ (x : World × Pace). x.0) h.1),
)
lax_lines s t (piece ∷ done) text lax h =
    let rest = lax_lines h.1 t done h.2 (lax_on s.1 h.3.1.0 h.1.1 lax h.3.1.3) h.4 in
    (rest.0, (h.0, h.1.0, h.2, (h.3.1.0, h.3.1.1, h.3.1.2), rest.1, h.5))

-- ---- strict

-- whoever is answered wasn't ended before
going : (s t : World × Pace) (done : List (List ℕ)) (text : List ℕ) → Lines s done text t → t.1.halt ≡ None
    → s.1.halt ≡ None
going s t [] text h none = ap (λ (x : World × Pace). x.1.halt) (sym h.1) ∙ none
going s t (piece ∷ done) text h none = h.3.0

-- an outcome that doesn't end a strict schedule is that of a step that was made
made_on : (b : Bool) (halt : Halt) (o : Option Halt) → cond (true && not b) (Some halt) o ≡ None → b ≡ true
made_on true halt o e = refl
made_on false halt o e = absurd cc

-- and one that ends it isn't
ended_on : (b : Bool) (halt its : Halt) (o : Option Halt) → o ≡ None
    → cond (true && not b) (Some halt) o ≡ Some its → (b ≡ false) × (its ≡ halt)
ended_on true halt its o none e = absurd (let both = sym none ∙ e in cc)
ended_on false halt its o none e = (refl, cc)

-- which line has ended it then
strict_halt : (p q : Pace) (answer : Result Report Errno) (o : Option Halt) → p.is_strict ≡ true → q ≡ noted p answer
    → q.halt ≡ o → cond (true && not (is_made answer)) (Some (halt_at p answer)) p.halt ≡ o
strict_halt p q answer o strict e is =
    subst (λ (s : Bool). cond (s && not (is_made answer)) (Some (halt_at p answer)) p.halt ≡ o) strict
    (ap (λ (x : Pace). x.halt) (sym e) ∙ is)

strict_made : (p q : Pace) (answer : Result Report Errno) → p.is_strict ≡ true → q ≡ noted p answer
    → q.halt ≡ None → is_made answer ≡ true
strict_made p q answer strict e none =
    made_on (is_made answer) (halt_at p answer) p.halt (strict_halt p q answer None strict e none)

strict_ended : (p q : Pace) (answer : Result Report Errno) (halt : Halt) → p.is_strict ≡ true → p.halt ≡ None
    → q ≡ noted p answer → q.halt ≡ Some halt → (is_made answer ≡ false) × (halt ≡ halt_at p answer)
strict_ended p q answer halt strict none e ended =
    ended_on (is_made answer) (halt_at p answer) halt p.halt none (strict_halt p q answer (Some halt) strict e ended)

still : (p q : Pace) (answer : Result Report Errno) → p.is_strict ≡ true → q ≡ noted p answer → q.is_strict ≡ true
still p q answer strict e = ap (λ (x : Pace). x.is_strict) e ∙ strict

-- no line has ended it: each was made
pub all_made : (s t : World × Pace) (done : List (List ℕ)) (text : List ℕ) → s.1.is_strict ≡ true → Lines s done text t
    → t.1.halt ≡ None → Transcript TellsMade s.0 done text t.0
all_made s t [] text strict h none = (h.0, ap (λ (x : World × Pace). x.0) h.1)
all_made s t (piece ∷ done) text strict h none =
    let on = h.3.1 in
    let made = strict_made s.1 h.1.1 on.0 strict on.3 (going h.1 t done h.2 h.4 none) in
    let rest = all_made h.1 t done h.2 (still s.1 h.1.1 on.0 strict on.3) h.4 none in
    (h.0, h.1.0, h.2, (on.0, on.1, made, on.2), rest, h.5)

-- The last of these lines has ended a strict schedule, whose world is then w'. Those before it were made
abbrev pub HasEnded : World → (lines : ℕ) → List (List ℕ) → List ℕ → World → Halt → Type 0
HasEnded w lines done text w' halt =
    (first : List (List ℕ)) × (piece front : List ℕ) × (before : World) × (done ≡ first ++ piece ∷ [])
    × (halt.line ≡ lines + suc (length first)) × Transcript TellsMade w first front before
    × Answers before piece halt.answer w' × (is_made halt.answer ≡ false)
    × (text ≡ front ++ answer_line w'.history halt.answer)

-- nothing is answered after the line that ends it
last_one : (s t : World × Pace) (piece line : List ℕ) (done : List (List ℕ)) (rest : List ℕ) (halt : Halt)
    (answer : Result Report Errno) (w : World) (lines : ℕ) → s.1.halt ≡ Some halt → Lines s done rest t
    → Answers w piece answer s.0 → line ≡ answer_line s.0.history answer → is_made answer ≡ false
    → halt.line ≡ lines + 1 → halt.answer ≡ answer
    → HasEnded w lines (piece ∷ done) (line ++ rest) t.0 halt × (t.1.halt ≡ Some halt)
last_one s t piece line [] rest halt answer w lines ended h answers is made number its =
    let world : t.0 ≡ s.0 = ap (λ (x : World × Pace). x.0) h.1 in (
      (
        [],
        piece,
        [],
        w,
        refl,
        omega (arith, number),
        (refl, refl),
        subst (λ (x : World). Answers w piece halt.answer x) (sym world)
            (subst (λ (a : Result Report Errno). Answers w piece a s.0) (sym its) answers),
        ap is_made its ∙ made,
        ap (λ (x : List ℕ). line ++ x) h.0 ∙ append-nil line ∙ is
            ∙ ap (λ (a : Result Report Errno). answer_line s.0.history a) (sym its)
            ∙ ap (λ (x : World). answer_line x.history halt.answer) (sym world),
      ),
      ap (λ (x : World × Pace). x.1.halt) h.1 ∙ ended,
    )
last_one s t piece line (next ∷ done) rest halt answer w lines ended h answers is made number its =
    absurd (let both = sym ended ∙ h.3.0 in cc)

-- the line at hand isn't the one that ends it
later : (w v w' : World) (lines : ℕ) (piece line : List ℕ) (done : List (List ℕ)) (rest text : List ℕ) (halt : Halt)
    → TellsMade w piece line v → text ≡ line ++ rest → HasEnded v (lines + 1) done rest w' halt
    → HasEnded w lines (piece ∷ done) text w' halt
later w v w' lines piece line done rest text halt one e more =
    let number : halt.line ≡ lines + 1 + suc (length more.0) = more.5 in (
      piece ∷ more.0,
      more.1,
      line ++ more.2,
      more.3,
      ap (λ (x : List (List ℕ)). piece ∷ x) more.4,
      omega (arith, number),
      (line, v, more.2, one, more.6, refl),
      more.7,
      more.8,
      e ∙ ap (λ (x : List ℕ). line ++ x) more.9
          ∙ sym (append_assoc line more.2 (answer_line w'.history halt.answer)),
    )

some_same : (a b : Halt) → Some a ≡ Some b → a ≡ b
some_same a b e = cc

-- the first of these lines has ended it, or a later one
ends_at : (s t : World × Pace) (piece : List ℕ) (done : List (List ℕ)) (text : List ℕ) (halt : Halt) (o : Option Halt)
    → s.1.is_strict ≡ true → s.1.halt ≡ None → (h : Lines s (piece ∷ done) text t) → t.1.halt ≡ Some halt
    → h.1.1.halt ≡ o → (h.1.1.halt ≡ None → HasEnded h.1.0 h.1.1.lines done h.2 t.0 halt)
    → HasEnded s.0 s.1.lines (piece ∷ done) text t.0 halt
ends_at s t piece done text halt None strict none h ended is more =
    let on = h.3.1 in
    let made = strict_made s.1 h.1.1 on.0 strict on.3 is in
    let number : h.1.1.lines ≡ s.1.lines + 1 = ap (λ (x : Pace). x.lines) on.3 in
    later s.0 h.1.0 t.0 s.1.lines piece h.0 done h.2 text halt (on.0, on.1, made, on.2) h.5
    (subst (λ (n : ℕ). HasEnded h.1.0 n done h.2 t.0 halt) number (more is))
ends_at s t piece done text halt (Some its) strict none h ended is more =
    let on = h.3.1 in
    let end = strict_ended s.1 h.1.1 on.0 its strict none on.3 is in
    let last = last_one h.1 t piece h.0 done h.2 its on.0 s.0 s.1.lines is h.4 on.1 on.2 end.0
    (ap (λ (x : Halt). x.line) end.1) (ap (λ (x : Halt). x.answer) end.1) in
    let same : its ≡ halt = some_same its halt (sym last.1 ∙ ended) in
    subst (λ (x : Halt). HasEnded s.0 s.1.lines (piece ∷ done) text t.0 x) same
    (subst (λ (x : List ℕ). HasEnded s.0 s.1.lines (piece ∷ done) x t.0 its) (sym h.5) last.0)

pub ends_by : (s t : World × Pace) (done : List (List ℕ)) (text : List ℕ) (halt : Halt) → s.1.is_strict ≡ true
    → s.1.halt ≡ None → Lines s done text t → t.1.halt ≡ Some halt → HasEnded s.0 s.1.lines done text t.0 halt
ends_by s t [] text halt strict none h ended =
    absurd (let both = sym none ∙ (ap (λ (x : World × Pace). x.1.halt) (sym h.1) ∙ ended) in cc)
ends_by s t (piece ∷ done) text halt strict none h ended =
    ends_at s t piece done text halt h.1.1.halt strict none h ended refl
    (λ going. ends_by h.1 t done h.2 halt (still s.1 h.1.1 h.3.1.0 strict h.3.1.3) going h.4 ended)
