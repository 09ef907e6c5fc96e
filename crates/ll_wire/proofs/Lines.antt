-- Lines and their tokens.
use Rattle.std.proofs.Common.{◌≡◌, ◌≢◌, ℕ, ◌<◌, ◌≤◌, true, List, [], ◌∷◌, ◌++◌, length, take, refl, ap, sym, ◌∙◌, arith}
use Rattle.std.proofs.Common.{Result, subst, length-append}
use Rattle.std.specs.Prelude.{◌==◌}
use Rattle.std.specs.List.{slice_split, AllByRecursion, join_with_byte}
use Rattle.std.specs.Str.{IsAscii, IsUtf8}
use Rattle.std.proofs.lemmas.List.{take_at}
use Rattle.std.proofs.lemmas.Str.{IsUtf8-from_ascii}
use Rattle.std.proofs.lemmas.List.Splits.{join_with_byte-slice_split}
use Rattle.ll_rights.specs.declared.errno.Errno.{Errno}
use Rattle.ll_seq.specs.declared.call.Call.{Call}
use Rattle.ll_wire.specs.Grammar.{client_tokens, call_tokens, SpellsCommand}
use Rattle.ll_wire.specs.Parts.{SpellsTokens}
use Rattle.ll_wire.specs.Reads.{ReadsBy, holds_text}
use Rattle.ll_wire.proofs.Tokens.{IsToken, command_is_tokens, cut_at_spaces, body_is_ascii}
use Rattle.ll_wire.proofs.FirstTokens.{whole_reads, same_err}
use Rattle.ll_wire.proofs.NamedClients.{at_most_five}

pub same_front : (xs ys : List ℕ) (a b : ℕ) → xs ++ a ∷ [] ≡ ys ++ b ∷ [] → xs ≡ ys
same_front xs ys a b e =
    let len : length xs ≡ length ys =
    omega (arith, ap length e, length-append xs (a ∷ []), length-append ys (b ∷ [])) in
    sym (take_at xs (a ∷ []) (length xs) refl) ∙ ap (take (length xs)) e ∙ take_at ys (b ∷ []) (length xs) (sym len)

pub utf8_front : (line front body : List ℕ) (last : ℕ) → line ≡ front ++ last ∷ [] → IsAscii body
    → line ≡ body ++ 10 ∷ [] → IsUtf8 front
utf8_front line front body last e ascii f =
    subst IsUtf8 (same_front body front 10 last (sym f ∙ e)) (IsUtf8-from_ascii body ascii)

pub no_body : (line : List ℕ) → ((body : List ℕ) → IsAscii body → line ≢ body ++ 10 ∷ []) → (client : ℕ) (call : Call)
    → SpellsCommand line client call → ⊥
no_body line none client call is =
    let tokens = client_tokens client ++ call_tokens call in
    none (join_with_byte 32 tokens) (body_is_ascii tokens (command_is_tokens client call is.is_client is.is_call))
    is.text

pub cut : (tokens : List (List ℕ)) → 1 ≤ length tokens → AllByRecursion IsToken tokens
    → slice_split (λ b. b == 32) (join_with_byte 32 tokens) ≡ tokens
cut [] some h = absurd (omega arith)
cut (token ∷ tokens) some h = cut_at_spaces token tokens h

-- the tokens of a line that spells a command are the command's
pub tokens_are : (line body : List ℕ) (client : ℕ) (call : Call) → line ≡ body ++ 10 ∷ []
    → SpellsCommand line client call
    → SpellsTokens (slice_split (λ b. b == 32) body) client call
tokens_are line body client call e is =
    let tokens = client_tokens client ++ call_tokens call in
    let same = same_front body (join_with_byte 32 tokens) 10 10 (sym e ∙ is.text) in
    let few = at_most_five client call in (
      is.is_client,
      is.is_call,
      ap (slice_split (λ b. b == 32)) same
          ∙ cut tokens few.0 (command_is_tokens client call is.is_client is.is_call),
    )

pub too_many : (line body : List ℕ) → line ≡ body ++ 10 ∷ [] → 5 < length (slice_split (λ b. b == 32) body)
    → (client : ℕ) (call : Call) → SpellsCommand line client call → ⊥
too_many line body e more client call is =
    omega (arith, ap length (tokens_are line body client call e is).2, (at_most_five client call).1)

spells : (line body : List ℕ) (tokens : List (List ℕ)) (client : ℕ) (call : Call) → length line ≤ 16384
    → line ≡ body ++ 10 ∷ [] → tokens ≡ slice_split (λ b. b == 32) body
    → SpellsTokens tokens client call → SpellsCommand line client call
spells line body tokens client call short e t is = record {
  is_client = is.0;
  is_call = is.1;
  short = short;
  text = e ∙ ap (λ (x : List ℕ). x ++ 10 ∷ []) (sym (join_with_byte-slice_split 32 body)
      ∙ ap (join_with_byte 32) (sym t ∙ is.2));
}

-- what is read from a line's tokens is read from the line
pub line_reads : (line body : List ℕ) (tokens : List (List ℕ)) (r : Result (ℕ × Call) Errno) → length line ≤ 16384
    → line ≡ body ++ 10 ∷ [] → tokens ≡ slice_split (λ b. b == 32) body
    → (clients : ℕ) → ReadsBy (λ (v : ℕ × Call). SpellsTokens tokens v.0 v.1 × (v.0 ≤ clients))
    (λ v. holds_text v.1 ≡ true) r
    → ReadsBy (λ (v : ℕ × Call). SpellsCommand line v.0 v.1 × (v.0 ≤ clients)) (λ v. holds_text v.1 ≡ true) r
line_reads line body tokens r short e t clients h =
    whole_reads (λ (v : ℕ × Call). SpellsTokens tokens v.0 v.1 × (v.0 ≤ clients))
    (λ (v : ℕ × Call). holds_text v.1 ≡ true)
    (λ (v : ℕ × Call). SpellsCommand line v.0 v.1 × (v.0 ≤ clients)) (λ (v : ℕ × Call). holds_text v.1 ≡ true) (λ v. v)
    (λ v is. let own = tokens_are line body v.0 v.1 e is.0 in (v, ((own.0, own.1, t ∙ own.2), is.1)))
    (λ v is. (spells line body tokens v.0 v.1 short e t is.0, is.1)) (λ v is takes. takes)
    r r (same_err r) h
