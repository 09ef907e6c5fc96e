-- Where a test's command ends, and the tests of lines.
use Rattle.std.proofs.Common.{◌≡◌, ◌∙◌, inl, inr, ℕ, ◌+◌, ◌<◌, ◌≤◌, List, [], ◌∷◌, ◌++◌, length, take, drop}
use Rattle.std.proofs.Common.{refl, sym, ap, subst, codes, arith, Bool, true, false, eqb, map}
use Rattle.std.specs.Prelude.{◌||◌}
use Rattle.std.specs.List.{list_any}
use Rattle.std.proofs.lemmas.Bool.{eqb-true, eqb-false}
use Rattle.std.proofs.lemmas.List.{append_cancel_left, append_cancel_right, length-append, take-append-drop}
use Rattle.std.proofs.Math.Seq.{take-append_seam, drop-append_seam}
use Rattle.ll_rights.specs.declared.limits.TheConstants.{TREE_CLIENTS}
use Rattle.ll_seq.specs.declared.call.Call.{Call}
use Rattle.ll_session.specs.declared.client_call.ClientCall.{ClientCall}
use Rattle.ll_wire.specs.Grammar.{SpellsCommand, call_tokens, client_tokens, line_of}
use Rattle.ll_wire.specs.declared.read.TheConstants.{LINE_LIMIT}
use Rattle.ll_check.specs.Checks.{AreRead, Own, Reading, SaysNothing, SpellsAt, SpellsCall, SpellsPolicy}
use Rattle.ll_check.specs.Checks.{SpellsSection, SpellsTest}
use Rattle.ll_program.specs.Comments.{body_of, is_silent}
use Rattle.ll_check.specs.Checks.{TakesLine, has_section, is_at_head, is_name, is_section, placed, tests_of, with_own}
use Rattle.ll_check.specs.Checks.{with_section, with_test}
use Rattle.ll_check.specs.declared.check_text.ReadFile.{ReadFile}
use Rattle.ll_check.specs.Possible.{CanCome}
use Rattle.ll_check.specs.Wanted.{SpellsWanted}
use Rattle.ll_check.specs.declared.wanted.Wanted.{Wanted}
use Rattle.ll_check.specs.declared.check_text.Test.{Test}

-- a test that has something behind its command is found where that ends
pub found_there : (body command text : List ℕ) (test : Test) → SpellsCall command test.call
    → body ≡ command ++ (codes " = " ++ text) → SpellsWanted text test.wanted
    → (length command < length body) × SpellsAt body (length command) test
found_there body command text test is cut wants =
    let long : length body ≡ length command + length (codes " = " ++ text) =
    ap length cut ∙ length-append command (codes " = " ++ text) in
    let front : take (length command) body ≡ command =
    ap (take (length command)) cut ∙ take-append_seam command (codes " = " ++ text) in
    let back : drop (length command) body ≡ codes " = " ++ text =
    ap (drop (length command)) cut ∙ drop-append_seam command (codes " = " ++ text) in
    (omega (arith, long), (subst (λ (c : List ℕ). SpellsCall c test.call) (sym front) is, text, back, wants))

-- what is found at a place is a test
pub spelled_at : (body command rest text : List ℕ) (place : ℕ) (test : Test) → command ≡ take place body
    → rest ≡ drop place body → rest ≡ codes " = " ++ text → SpellsCall command test.call
    → SpellsWanted text test.wanted → SpellsTest body test
spelled_at body command rest text place test c r e is wants = inr (
  command,
  text,
  sym (take-append-drop place body) ∙ ap (λ (x : List ℕ). x ++ drop place body) (sym c)
      ∙ ap (λ (x : List ℕ). command ++ x) (sym r ∙ e),
  is,
  wants,
)

-- at this place neither
pub none_more : (P : ℕ → Test → Type 0) (n : ℕ) → ((k : ℕ) (test : Test) → k < n → P k test → ⊥)
    → ((test : Test) → P n test → ⊥) → (k : ℕ) (test : Test) → k < n + 1 → P k test → ⊥
none_more P n before here k test below is = go (eqb k n) refl
  where
    go : (b : Bool) → eqb k n ≡ b → ⊥
    go true e = here test (subst (λ (m : ℕ). P m test) (eqb-true k n e) is)
    go false e = let other = eqb-false k n e in before k test (omega (arith, below, other)) is

pub no_test : (body : List ℕ) → ((made : ClientCall) → SpellsCall body made → ⊥)
    → ((place : ℕ) (test : Test) → place < length body → SpellsAt body place test → ⊥) → (test : Test)
    → SpellsTest body test → ⊥
no_test body unlike none test (inl alone) = unlike test.call alone.0
no_test body unlike none test (inr followed) =
    let there = found_there body followed.0 followed.1 test followed.3 followed.2 followed.4 in
    none (length followed.0) test there.0 there.1

-- ---- lines, one after the other

-- one line more
pub one_line_more : (number : ℕ) (front : List (List ℕ)) (line : List ℕ) (at : ℕ) (start before after : Reading)
    → AreRead number front start before → at ≡ number + length front → TakesLine line at before after
    → AreRead number (front ++ line ∷ []) start after
one_line_more number [] line at start before after told place is =
    let here : at ≡ number = omega (arith, place) in (
      after,
      subst (λ (n : ℕ). TakesLine line n start after) here
          (subst (λ (r : Reading). TakesLine line at r after) told is),
      refl,
    )
one_line_more number (first ∷ front) line at start before after told place is = (
  told.0,
  told.1,
  one_line_more (number + 1) front line at told.0 before after told.2 (omega (arith, place)) is,
)

-- ---- what isn't found at a place

pub no_sign : (body rest : List ℕ) (place : ℕ) → rest ≡ drop place body
    → ((text : List ℕ) → rest ≡ codes " = " ++ text → ⊥) → (test : Test) → SpellsAt body place test → ⊥
no_sign body rest place e none test at = none at.1 (e ∙ at.2)

pub no_call_at : (body command : List ℕ) (place : ℕ) → command ≡ take place body
    → ((made : ClientCall) → SpellsCall command made → ⊥) → (test : Test) → SpellsAt body place test → ⊥
no_call_at body command place e none test at =
    none test.call (subst (λ (c : List ℕ). SpellsCall c test.call) (sym e) at.0)

pub no_wanted_at : (body rest text : List ℕ) (place : ℕ) → rest ≡ drop place body → rest ≡ codes " = " ++ text
    → ((wanted : Wanted) → SpellsWanted text wanted → ⊥) → (test : Test) → SpellsAt body place test → ⊥
no_wanted_at body rest text place e f none test at =
    none test.wanted (subst (λ (t : List ℕ). SpellsWanted t test.wanted)
    (append_cancel_left (codes " = ") at.1 text (sym at.2 ∙ sym e ∙ f)) at.3)

-- ---- what a line adds

pub silent_taken : (line body : List ℕ) (number : ℕ) (r : Reading) → body ≡ body_of line
    → true ≡ is_silent body → TakesLine line number r r
silent_taken line body number r e is = inl (sym (is ∙ ap is_silent e), refl)

pub test_taken : (line body : List ℕ) (number : ℕ) (before after : Reading) (test : Test) → body ≡ body_of line
    → SpellsTest body test × (test.line ≡ number) → CanCome test.call.call test.wanted
    → after ≡ with_test before test → TakesLine line number before after
test_taken line body number before after test e is can same =
    inr (inl (test, subst (λ (b : List ℕ). SpellsTest b test) e is.0, is.1, can, same))

pub section_taken : (line body name : List ℕ) (number : ℕ) (before after : Reading) → body ≡ body_of line
    → SpellsSection body name → has_section before name ≡ false → after ≡ with_section before name
    → TakesLine line number before after
section_taken line body name number before after e is new same =
    inr (inr (inl (name, subst (λ (b : List ℕ). SpellsSection b name) e is, new, same)))

pub own_taken : (line body file : List ℕ) (number : ℕ) (before after : Reading) (own : Own) → body ≡ body_of line
    → SpellsPolicy body file own.profile → own.line ≡ number → own.file ≡ placed before.last.name file
    → is_at_head before.last ≡ true → after ≡ with_own before own → TakesLine line number before after
own_taken line body file number before after own e is there path head same = inr (inr (inr (
  own,
  (file, subst (λ (b : List ℕ). SpellsPolicy b file own.profile) e is, there, path),
  head,
  same,
)))

pub says_nothing : (line body : List ℕ) (r : Reading) → body ≡ body_of line
    → false ≡ is_silent body
    → ((test : Test) → SpellsTest body test → ⊥) → ((name : List ℕ) → SpellsSection body name → ⊥)
    → ((file profile : List ℕ) → SpellsPolicy body file profile → ⊥) → SaysNothing line r
says_nothing line body r e silent none other third = (
  sym (silent ∙ ap is_silent e),
  inl (
    λ test is. none test (subst (λ (b : List ℕ). SpellsTest b test) (sym e) is),
    λ name is. other name (subst (λ (b : List ℕ). SpellsSection b name) (sym e) is),
    λ file profile is. third file profile (subst (λ (b : List ℕ). SpellsPolicy b file profile) (sym e) is),
  ),
)

pub says_vain : (line body : List ℕ) (r : Reading) (test : Test) → body ≡ body_of line
    → false ≡ is_silent body
    → SpellsTest body test → (CanCome test.call.call test.wanted → ⊥) → SaysNothing line r
says_vain line body r test e silent is vain = (
  sym (silent ∙ ap is_silent e),
  inr (inl (test, subst (λ (b : List ℕ). SpellsTest b test) e is, vain)),
)

pub says_twice : (line body name : List ℕ) (r : Reading) → body ≡ body_of line
    → false ≡ is_silent body
    → SpellsSection body name → has_section r name ≡ true → SaysNothing line r
says_twice line body name r e silent is twice = (
  sym (silent ∙ ap is_silent e),
  inr (inr (inl (name, subst (λ (b : List ℕ). SpellsSection b name) e is, twice))),
)

pub says_late : (line body file profile : List ℕ) (r : Reading) → body ≡ body_of line
    → false ≡ is_silent body
    → SpellsPolicy body file profile → is_at_head r.last ≡ false → SaysNothing line r
says_late line body file profile r e silent is late = (
  sym (silent ∙ ap is_silent e),
  inr (inr (inr (file, profile, subst (λ (b : List ℕ). SpellsPolicy b file profile) e is, late))),
)

-- ---- sections

pub no_section : (body : List ℕ) → ((rest : List ℕ) → body ≡ codes "[" ++ rest → ⊥) → (name : List ℕ)
    → SpellsSection body name → ⊥
no_section body none name is = none (name ++ codes "]") is.1

pub no_end : (body rest : List ℕ) → body ≡ codes "[" ++ rest
    → ((name : List ℕ) → rest ≡ name ++ codes "]" → ⊥) → (name : List ℕ) → SpellsSection body name → ⊥
no_end body rest cut none name is =
    none name (append_cancel_left (codes "[") rest (name ++ codes "]") (sym cut ∙ is.1))

pub no_name : (body rest found : List ℕ) → body ≡ codes "[" ++ rest → rest ≡ found ++ codes "]"
    → is_name found ≡ false → (name : List ℕ) → SpellsSection body name → ⊥
no_name body rest found cut end bad name is =
    let same : name ++ codes "]" ≡ found ++ codes "]" =
    append_cancel_left (codes "[") (name ++ codes "]") rest (sym is.1 ∙ cut) ∙ end in
    absurd (cc (sym is.0 ∙ ap is_name (append_cancel_right name found (codes "]") same) ∙ bad))

-- ---- calls

pub short_enough : (line : List ℕ) (client : ℕ) (call : Call) → SpellsCommand line client call
    → length (line_of (client_tokens client ++ call_tokens call)) ≤ LINE_LIMIT
short_enough line client call is = subst (λ (l : List ℕ). length l ≤ LINE_LIMIT) is.text is.short

pub spells_call : (text line : List ℕ) (made : ClientCall) → line ≡ text ++ 10 ∷ []
    → SpellsCommand line made.client made.call → SpellsCall text made
spells_call text line made e is = subst (λ (l : List ℕ). SpellsCommand l made.client made.call) e is

pub spells_no_call : (text line : List ℕ) → line ≡ text ++ 10 ∷ []
    → ((v : ℕ × Call) → SpellsCommand line v.0 v.1 × (v.0 ≤ TREE_CLIENTS) → ⊥) → (made : ClientCall)
    → SpellsCall text made → ⊥
spells_no_call text line e none made is =
    none (made.client, made.call)
    (subst (λ (l : List ℕ). SpellsCommand l made.client made.call) (sym e) is, is.is_client.1)
