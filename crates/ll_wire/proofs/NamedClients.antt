-- Which client a command names.
use Rattle.std.proofs.Common.{◌≡◌, ℕ, ◌≤◌, ◌⊎◌, Bool, true, false, List, [], ◌∷◌, ◌++◌, length, refl, ap, sym, ◌∙◌}
use Rattle.std.proofs.Common.{arith, inl, inr, Result, Ok, Err, length-append}
use Rattle.std.specs.Prelude.{◌==◌, if◌then◌else◌}
use Rattle.std.specs.Result.{MatchResult}
use Rattle.std.specs.Fmt.{decimal}
use Rattle.std.proofs.lemmas.Bool.{cases_eq, ne_eqb, false≢true}
use Rattle.std.proofs.lemmas.Fmt.{decimal_injective}
use Rattle.ll_rights.specs.declared.errno.Errno.{Errno}
use Rattle.ll_seq.specs.declared.call.Call.{Call}
use Rattle.ll_seq.specs.declared.call.Call.TheVariants as calls
use Rattle.ll_wire.specs.Grammar.{call_tokens, client_tokens}
use Rattle.ll_wire.specs.Parts.{ReadsCall, SpellsNumber, SpellsClient, NamesClient, SpellsCall, SpellsTokens}
use Rattle.ll_wire.specs.Reads.{ReadsBy, holds_text}
use Rattle.ll_wire.proofs.FirstTokens.{whole_reads}

of_other : (client : ℕ) → 2 ≤ client → client_tokens client ≡ (64 ∷ decimal client) ∷ []
of_other client h = ap (λ (b : Bool). if b then [] else (64 ∷ decimal client) ∷ []) (ne_eqb client 1 (λ e. omega arith))

pub not_named : (token : List ℕ) → ((rest : List ℕ) → token ≡ 64 ∷ rest → ⊥) → (client : ℕ) → SpellsClient token client
    → ⊥
not_named token none client is = none (decimal client) is.1

-- the number behind the sign is the client's
pub number_named : (token digits : List ℕ) (number client : ℕ) → token ≡ 64 ∷ digits → SpellsNumber digits number
    → SpellsClient token client → number ≡ client
number_named token digits number client starts n is =
    let same : decimal number ≡ decimal client = cc in
    decimal_injective number client n.0 (omega (arith, is.0.1)) same

-- where the first client is named, no other is
pub first_named : (token : List ℕ) (client other : ℕ) → SpellsClient token client → client ≡ 1 → NamesClient token other
    → ⊥
first_named token client other h one is =
    let texts : 64 ∷ decimal client ≡ 64 ∷ decimal other = sym h.1 ∙ is.2 in
    let numbers : decimal client ≡ decimal other = cc in
    omega (arith, one, is.0, decimal_injective client other (omega (arith, h.0.1)) (omega (arith, is.1)) numbers)

-- whether the first token starts as a client's name
abbrev pub starts_named : List (List ℕ) → Bool
starts_named [] = false
starts_named ([] ∷ tokens) = false
starts_named ((b ∷ bs) ∷ tokens) = b == 64

no_call_named : (call : Call) → starts_named (call_tokens call) ≡ false
no_call_named (calls.Make kind target) = refl
no_call_named (calls.Open mode target) = refl
no_call_named (calls.Read fd offset count) = refl
no_call_named (calls.Write fd offset bytes) = refl
no_call_named (calls.Ftruncate fd size) = refl
no_call_named (calls.Close fd) = refl
no_call_named (calls.Truncate target size) = refl
no_call_named (calls.ReadDir target) = refl
no_call_named (calls.Stat target) = refl
no_call_named (calls.Exec target) = refl
no_call_named (calls.Unlink target) = refl
no_call_named (calls.Rmdir target) = refl
no_call_named (calls.Rename old new) = refl
no_call_named (calls.RenameNoreplace old new) = refl
no_call_named (calls.Exchange old new) = refl
no_call_named (calls.Link old new) = refl
no_call_named (calls.Ruleset rights) = refl
no_call_named (calls.Allow number target rights) = refl
no_call_named (calls.Confine number) = refl
no_call_named calls.Spawn = refl
no_call_named calls.Connect = refl

-- a command's tokens by whether a client is named
by_client : (tokens : List (List ℕ)) (client : ℕ) (call : Call) → SpellsTokens tokens client call
    → ((client ≡ 1) × SpellsCall tokens call × (starts_named tokens ≡ false))
    ⊎ ((rest : List (List ℕ)) × (first : List ℕ) × (tokens ≡ first ∷ rest) × NamesClient first client
    × SpellsCall rest call)
by_client tokens client call h = elim (cases_eq client 1) [
  | inl one ↦ (
      let same : tokens ≡ call_tokens call = h.2 ∙ ap (λ (n : ℕ). client_tokens n ++ call_tokens call) one in
      inl (one, (h.1, same), ap starts_named same ∙ no_call_named call))
  | inr more ↦ (
      let other : 2 ≤ client = omega arith in
      inr (
        call_tokens call,
        64 ∷ decimal client,
        h.2
            ∙ ap (λ (t : List (List ℕ)). t ++ call_tokens call) (of_other client other),
        (other, h.0.1, refl),
        (h.1, refl),
      ))
]

-- ---- reading

-- what stands after a client's name
after_name : (tokens others : List (List ℕ)) (first : List ℕ) (client : ℕ) → tokens ≡ first ∷ others
    → NamesClient first client → (n : ℕ) (call : Call) → SpellsTokens tokens n call → SpellsCall others call
after_name tokens others first client parts name n call h = elim (by_client tokens n call h) [
  | inl unnamed ↦ (let named : starts_named tokens
      ≡ true = ap starts_named (parts ∙ ap (λ (t : List ℕ). t ∷ others) name.2) in
      absurd (false≢true (sym unnamed.2 ∙ named)))
  | inr named ↦ (named.4.0, (let same : others ≡ named.0 = cc in same ∙ named.4.1))
]

pub named_reads : (tokens others : List (List ℕ)) (first : List ℕ) (client : ℕ) (r : Result Call Errno)
    (s : Result (ℕ × Call) Errno) → tokens ≡ first ∷ others → NamesClient first client
    → MatchResult r (λ call. s ≡ Ok (client, call)) (λ e. s ≡ Err e) → ReadsCall others r
    → ReadsBy (λ (v : ℕ × Call). SpellsTokens tokens v.0 v.1) (λ v. holds_text v.1 ≡ true) s
named_reads tokens others first client r s parts name made h =
    whole_reads (SpellsCall others) (λ call. holds_text call ≡ true) (λ (v : ℕ × Call). SpellsTokens tokens v.0 v.1)
    (λ (v : ℕ × Call). holds_text v.1 ≡ true) (λ call. (client, call))
    (λ v is. (v.1, after_name tokens others first client parts name v.0 v.1 is))
    (λ call is. (
      (omega arith, name.1),
      is.0,
      parts ∙ ap (λ (t : List ℕ). t ∷ others) name.2
          ∙ ap (λ (ts : List (List ℕ)). (64 ∷ decimal client) ∷ ts) is.1
          ∙ ap (λ (ts : List (List ℕ)). ts ++ call_tokens call) (sym (of_other client name.0)),
    ))
    (λ call is takes. takes)
    r s made h

-- where the first token names no client, the first client calls
unnamed_call : (tokens others : List (List ℕ)) (first : List ℕ) → tokens ≡ first ∷ others
    → ((client : ℕ) → NamesClient first client → ⊥) → (n : ℕ) (call : Call) → SpellsTokens tokens n call
    → SpellsCall tokens call
unnamed_call tokens others first parts none n call h = elim (by_client tokens n call h) [
  | inl unnamed ↦ unnamed.1
  | inr named ↦ (let same : first ≡ named.1 = cc in absurd (none n (named.3.0, named.3.1, same ∙ named.3.2)))
]

pub unnamed_reads : (tokens others : List (List ℕ)) (first : List ℕ) (r : Result Call Errno)
    (s : Result (ℕ × Call) Errno) → tokens ≡ first ∷ others → ((client : ℕ) → NamesClient first client → ⊥)
    → MatchResult r (λ call. s ≡ Ok (1, call)) (λ e. s ≡ Err e) → ReadsCall tokens r
    → ReadsBy (λ (v : ℕ × Call). SpellsTokens tokens v.0 v.1) (λ v. holds_text v.1 ≡ true) s
unnamed_reads tokens others first r s parts none made h =
    whole_reads (SpellsCall tokens) (λ call. holds_text call ≡ true) (λ (v : ℕ × Call). SpellsTokens tokens v.0 v.1)
    (λ (v : ℕ × Call). holds_text v.1 ≡ true) (λ call. (1, call))
    (λ v is. (v.1, unnamed_call tokens others first parts none v.0 v.1 is))
    (λ call is. ((omega arith, omega arith), is.0, is.1))
    (λ call is takes. takes)
    r s made h

-- ---- clients that there are

-- the first token names the client
pub client_is : (tokens others : List (List ℕ)) (first : List ℕ) (client : ℕ) → tokens ≡ first ∷ others
    → NamesClient first client → (n : ℕ) (call : Call) → SpellsTokens tokens n call → n ≡ client
client_is tokens others first client parts name n call h = elim (by_client tokens n call h) [
  | inl unnamed ↦ (let named : starts_named tokens
      ≡ true = ap starts_named (parts ∙ ap (λ (t : List ℕ). t ∷ others) name.2) in
      absurd (false≢true (sym unnamed.2 ∙ named)))
  | inr named ↦ (
      let same : first ≡ named.1 = cc in
      let numbers : decimal n ≡ decimal client =
      (let texts : 64 ∷ decimal n ≡ 64 ∷ decimal client = sym named.3.2 ∙ sym same ∙ name.2 in cc) in
      decimal_injective n client (omega arith) (omega arith) numbers)
]

-- it names none
pub first_is : (tokens others : List (List ℕ)) (first : List ℕ) → tokens ≡ first ∷ others
    → ((client : ℕ) → NamesClient first client → ⊥) → (n : ℕ) (call : Call) → SpellsTokens tokens n call → n ≡ 1
first_is tokens others first parts none n call h = elim (by_client tokens n call h) [
  | inl unnamed ↦ unnamed.0
  | inr named ↦ (let same : first ≡ named.1 = cc in absurd (none n (named.3.0, named.3.1, same ∙ named.3.2)))
]

pub within : {V : Type 0} (P Q T : V → Type 0) (r : Result V Errno) → ReadsBy P T r → ((v : V) → P v → Q v)
    → ReadsBy (λ v. P v × Q v) T r
within P Q T (Ok v) h also = (h, also v h)
within P Q T (Err e) (inl h) also = inl (h.0, λ v is. h.1 v is.0)
within P Q T (Err e) (inr h) also = inr (h.0, h.1, (h.2, also h.1 h.2), h.3)

-- ---- counting

-- a call has one to four tokens
pub few_tokens : (call : Call) → (1 ≤ length (call_tokens call)) × (length (call_tokens call) ≤ 4)
few_tokens (calls.Make kind target) = (omega arith, omega arith)
few_tokens (calls.Open mode target) = (omega arith, omega arith)
few_tokens (calls.Read fd offset count) = (omega arith, omega arith)
few_tokens (calls.Write fd offset bytes) = (omega arith, omega arith)
few_tokens (calls.Ftruncate fd size) = (omega arith, omega arith)
few_tokens (calls.Close fd) = (omega arith, omega arith)
few_tokens (calls.Truncate target size) = (omega arith, omega arith)
few_tokens (calls.ReadDir target) = (omega arith, omega arith)
few_tokens (calls.Stat target) = (omega arith, omega arith)
few_tokens (calls.Exec target) = (omega arith, omega arith)
few_tokens (calls.Unlink target) = (omega arith, omega arith)
few_tokens (calls.Rmdir target) = (omega arith, omega arith)
few_tokens (calls.Rename old new) = (omega arith, omega arith)
few_tokens (calls.RenameNoreplace old new) = (omega arith, omega arith)
few_tokens (calls.Exchange old new) = (omega arith, omega arith)
few_tokens (calls.Link old new) = (omega arith, omega arith)
few_tokens (calls.Ruleset rights) = (omega arith, omega arith)
few_tokens (calls.Allow number target rights) = (omega arith, omega arith)
few_tokens (calls.Confine number) = (omega arith, omega arith)
few_tokens calls.Spawn = (omega arith, omega arith)
few_tokens calls.Connect = (omega arith, omega arith)

at_most_one : (client : ℕ) → length (client_tokens client) ≤ 1
at_most_one client = of (client == 1)
  where
    of : (b : Bool) → length (if b then [] else (64 ∷ decimal client) ∷ []) ≤ 1
    of true = omega arith
    of false = omega arith

-- with the client's name there are at most five
pub at_most_five : (client : ℕ) (call : Call)
    → (1 ≤ length (client_tokens client ++ call_tokens call)) × (length (client_tokens client ++ call_tokens call) ≤ 5)
at_most_five client call =
    let few = few_tokens call in
    let one = at_most_one client in
    let both = length-append (client_tokens client) (call_tokens call) in
    (omega arith, omega arith)

-- ---- one client

-- two commands that the same tokens spell are of one client, and their calls have the same tokens
pub same_client : (tokens : List (List ℕ)) (n m : ℕ) (call other : Call) → SpellsTokens tokens n call
    → SpellsTokens tokens m other
    → (n ≡ m) × (call_tokens call ≡ call_tokens other)
same_client tokens n m call other h k = elim (by_client tokens n call h) [
  | inl unnamed ↦ elim (by_client tokens m other k) [
    | inl neither ↦ (unnamed.0 ∙ sym neither.0, sym unnamed.1.1 ∙ neither.1.1)
    | inr named ↦ absurd (false≢true (sym unnamed.2
        ∙ ap starts_named (named.2 ∙ ap (λ (t : List ℕ). t ∷ named.0) named.3.2)))
  ]
  | inr named ↦ elim (by_client tokens m other k) [
    | inl unnamed ↦ absurd (false≢true (sym unnamed.2
        ∙ ap starts_named (named.2 ∙ ap (λ (t : List ℕ). t ∷ named.0) named.3.2)))
    | inr both ↦ (
        let firsts : 64 ∷ decimal n ≡ 64 ∷ decimal m = cc in
        let rests : named.0 ≡ both.0 = cc in
        let numbers : decimal n ≡ decimal m = cc in
        (decimal_injective n m (omega arith) (omega arith) numbers, sym named.4.1 ∙ rests ∙ both.4.1))
  ]
]
