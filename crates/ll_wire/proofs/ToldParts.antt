-- What is told, of which some waits.
use Rattle.std.proofs.Common.{◌≡◌, ℕ, ◌+◌, ◌^◌, ◌≤◌, List, [], ◌++◌, Option, sym, ap, subst, ◌∙◌, append_assoc}
use Rattle.std.proofs.Common.{arith, inl, inr}
use Rattle.std.proofs.Common.{Result, Ok, Err, Some, false, ◌==◌}
use Rattle.std.proofs.lemmas.Bool.{ne_eqb}
use Rattle.std.proofs.lemmas.List.{append-nil}
use Rattle.std.specs.Prelude.{OnOk}
use Rattle.std.specs.Io.KnownBytes.{Appends}
use Rattle.ll_wire.specs.Devices.{Devices, IsWhole, Took, line_feeds}
use Rattle.ll_wire.proofs.FeedsInParts.{feeds-append}
use Rattle.ll_wire.specs.WriterGains.{AppendsFront}
use Rattle.ll_wire.proofs.WrittenText.{appends-more, front-more}
use Rattle.ll_wire.specs.LineCuts.{Calls, CanGoOn, IsSilent, Reading, Told, feeds_of, unread}

pub on_ok : {T E P : Type 0} → (r : Result T E) → P → OnOk r P
on_ok (Ok value) p = p
on_ok (Err fault) p = tt

-- two facts of a call that ended well
pub ok_both : {T E A B C : Type 0} → (r : Result T E) → (A → B → C) → OnOk r A → OnOk r B → OnOk r C
ok_both (Ok value) f a b = f a b
ok_both (Err fault) f a b = tt

-- what is told of the one is told of the other
abbrev Tells : (w w' : List ℕ) (c c' : Option (List ℕ)) → Type 0
Tells w w' c c' = (first : Option (List ℕ)) (text : List ℕ) → Told first w c text → Told first w' c' text

abbrev Fronts : List ℕ → (c c' : Option (List ℕ)) → Type 0
Fronts w c c' = (first : Option (List ℕ)) (text : List ℕ) → Told first w c text → AppendsFront first c' text

-- all that waited is written
pub told_written : (w w' : List ℕ) (c c' : Option (List ℕ)) → w' ≡ [] → Appends c c' w → Tells w w' c c'
told_written w w' c c' none wrote first text told = (
  told.0 ++ w,
  told.1 ∙ sym (ap (λ (x : List ℕ). (told.0 ++ w) ++ x) none ∙ append-nil (told.0 ++ w)),
  appends-more first c c' told.0 w told.2 wrote,
)

-- a front of it is
pub told_front : (w : List ℕ) (c c' : Option (List ℕ)) → AppendsFront c c' w → Fronts w c c'
told_front w c c' wrote first text told =
    subst (AppendsFront first c') (sym told.1) (front-more first c c' told.0 w told.2 wrote)

-- nothing is
pub told_kept : (w w' : List ℕ) (c c' : Option (List ℕ)) → w' ≡ w → c' ≡ c → Tells w w' c c'
told_kept w w' c c' same contents first text told = (
  told.0,
  told.1 ∙ ap (λ (x : List ℕ). told.0 ++ x) (sym same),
  subst (λ (x : Option (List ℕ)). Appends first x told.0) (sym contents) told.2,
)

pub kept_front : (w : List ℕ) (c c' : Option (List ℕ)) → c' ≡ c → Fronts w c c'
kept_front w c c' contents first text told =
    (told.0, w, told.1, subst (λ (x : Option (List ℕ)). Appends first x told.0) (sym contents) told.2)

-- nothing waits
pub told_all : (w w' : List ℕ) (c c' : Option (List ℕ)) → w' ≡ [] → Tells w w' c c' → (first : Option (List ℕ))
    (text : List ℕ) → Told first w c text → Appends first c' text
told_all w w' c c' none tells first text told =
    let t = tells first text told in
    subst (Appends first c') (sym (t.1 ∙ ap (λ (x : List ℕ). t.0 ++ x) none ∙ append-nil t.0)) t.2

-- of what is all written a front is
pub front_all : (c : Option (List ℕ)) (first : Option (List ℕ)) (text : List ℕ) → Appends first c text
    → AppendsFront first c text
front_all c first text all = (text, [], sym (append-nil text), all)

-- ---- a line more

-- it waits
pub line_waits : (w w' : List ℕ) (c : Option (List ℕ)) (line : List ℕ) → w' ≡ w ++ line → (first : Option (List ℕ))
    (text : List ℕ) → Told first w c text → Told first w' c (text ++ line)
line_waits w w' c line is first text told = (
  told.0,
  ap (λ (x : List ℕ). x ++ line) told.1 ∙ append_assoc told.0 w line ∙ ap (λ (x : List ℕ). told.0 ++ x) (sym is),
  told.2,
)

module _ (w w' : List ℕ) (c mid c' : Option (List ℕ)) (line : List ℕ) (none : w' ≡ []) (tells : Tells w w' c mid)
    (first : Option (List ℕ)) (text : List ℕ) (told : Told first w c text) where
  -- it is written, after all that waited
  pub line_written : Appends mid c' line → Told first w' c' (text ++ line)
  line_written wrote =
      let t = tells first text told in
      let all : text ≡ t.0 = t.1 ∙ ap (λ (x : List ℕ). t.0 ++ x) none ∙ append-nil t.0 in (
        t.0 ++ line,
        ap (λ (x : List ℕ). x ++ line) all
            ∙ sym (ap (λ (x : List ℕ). (t.0 ++ line) ++ x) none ∙ append-nil (t.0 ++ line)),
        appends-more first mid c' t.0 line t.2 wrote,
      )

  -- a front of it is
  pub line_front : AppendsFront mid c' line → AppendsFront first c' (text ++ line)
  line_front wrote =
      let t = tells first text told in
      let all : text ≡ t.0 = t.1 ∙ ap (λ (x : List ℕ). t.0 ++ x) none ∙ append-nil t.0 in
      subst (λ (x : List ℕ). AppendsFront first c' (x ++ line)) (sym all) (front-more first mid c' t.0 line t.2 wrote)

-- not even all that waited is
pub front_of : (first c' : Option (List ℕ)) (text line : List ℕ) → AppendsFront first c' text
    → AppendsFront first c' (text ++ line)
front_of first c' text line f =
    (f.0, f.1 ++ line, ap (λ (x : List ℕ). x ++ line) f.2 ∙ append_assoc f.0 f.1 line, f.3)

-- ---- what is owed

-- a line that waits answers one
pub owes_less : (r r' : Reading) (d : Devices) (line : List ℕ) → r'.waiting ≡ r.waiting ++ line → r'.bytes ≡ r.bytes
    → r'.reads ≡ r.reads → 1 ≤ line_feeds line → CanGoOn 1 r d → CanGoOn 0 r' d
owes_less r r' d line is bytes reads some can =
    let all : line_feeds r'.waiting ≡ line_feeds r.waiting + line_feeds line =
    ap line_feeds is ∙ feeds-append r.waiting line in
    let held = ap line_feeds bytes in
    let less = can.1 in
    let room = can.2 in
    (can.0, omega (arith, all, held, less, some), omega (arith, room, reads))

-- a line that is written does
pub owes_less_then : (r : Reading) (d d' : Devices) (line : List ℕ) → r.waiting ≡ [] → 1 ≤ line_feeds line
    → CanGoOn 1 r d → Took d d' line → CanGoOn 0 r d'
owes_less_then r d d' line none some can took =
    let silent = ap line_feeds none in
    let less = can.1 in
    let room = can.2 in
    let owed = took.0 in
    let reads = took.2.1 in
    ((took.2.2 ∙ can.0.0, took.1), omega (arith, silent, less, some, owed), omega (arith, room, reads))

-- a byte that is no line feed leaves nothing more owed
pub byte_owes : (r : Reading) (d : Devices) (byte : ℕ) → (byte ≡ 10 → ⊥) → CanGoOn (feeds_of (Some byte)) r d
    → CanGoOn 0 r d
byte_owes r d byte other can =
    let no : (byte == 10) ≡ false = ne_eqb byte 10 other in
    let less = can.1 in
    (can.0, (rw no at less), can.2)

-- a byte that is no line feed leaves nothing more waiting
pub byte_silent : (r : Reading) (byte : ℕ) → (byte ≡ 10 → ⊥) → IsSilent (feeds_of (Some byte)) r → IsSilent 0 r
byte_silent r byte other silent =
    let no : (byte == 10) ≡ false = ne_eqb byte 10 other in rw no at silent

-- where nothing is held, nothing waits
pub silent_empty : (r : Reading) → r.bytes ≡ [] → IsSilent 0 r → r.waiting ≡ []
silent_empty r none (inl silent) = silent
silent_empty r none (inr fed) = let empty = ap line_feeds none in absurd (omega (arith, empty, fed))

pub calls_more : (a b c : Reading) (d e f : Devices) → Calls a b d e → Calls b c e f → Calls a c d f
calls_more a b c d e f first then = omega (arith, first, then)

-- nothing is read yet, and no reply is owed
pub ready_at_first : (r : Reading) (d : Devices) → r ≡ unread → IsWhole d → d.owed ≡ 0 → d.reads ≤ 2 ^ 62
    → CanGoOn 0 r d
ready_at_first r d is whole none few =
    let reads = ap (λ (x : Reading). x.reads) is in (whole, omega (arith, none), omega (arith, few, reads))
