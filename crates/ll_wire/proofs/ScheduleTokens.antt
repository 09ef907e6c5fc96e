-- Lines of schedules: their tokens.
use Rattle.std.proofs.Common.{◌≡◌, ◌≢◌, ℕ, ◌<◌, ◌≤◌, true, false, List, [], ◌∷◌, ◌++◌, length, codes, Option, Some}
use Rattle.std.proofs.Common.{None, Result, Ok, Err, refl, ap, sym, ◌∙◌, subst, arith, length-append}
use Rattle.std.specs.Prelude.{IfSome, option_map, unwrap_or, if◌then◌else◌}
use Rattle.std.specs.Str.{bytes_eq, IsAscii}
use Rattle.std.specs.List.{AllByRecursion, join_with_byte}
use Rattle.std.specs.Fmt.{decimal}
use Rattle.std.specs.Result.{MatchResult}
use Rattle.std.proofs.lemmas.Bool.{false≢true}
use Rattle.std.proofs.lemmas.Fmt.{decimal_injective}
use Rattle.ll_rights.specs.declared.errno.Errno.{Errno}
use Rattle.ll_seq.specs.declared.call.Call.{Call}
use Rattle.ll_seq.specs.declared.call.Call.TheVariants.{Spawn}
use Rattle.ll_laws.specs.declared.step.Step.TheVariants.{Join, Begin, Descend, Fork, Commit, Restart, FdCommit}
use Rattle.ll_laws.specs.declared.step.Step.TheVariants.{ClientStep}
use Rattle.ll_wire.specs.Grammar.{call_tokens, IsCall, IsClient}
use Rattle.ll_wire.specs.Parts.{ReadsCall, SpellsCall, SpellsClient}
use Rattle.ll_wire.specs.Reads.{ReadsBy, holds_text}
use Rattle.ll_wire.specs.ScheduleLines.{form, client_in, call_in, name_tokens, line_tokens, IsScheduleLine}
use Rattle.ll_wire.specs.ScheduleLines.{SpellsScheduleLine, line_holds_text}
use Rattle.ll_wire.specs.ScheduleParts.{SpellsLineTokens, SpellsBehind}
use Rattle.ll_wire.specs.declared.schedule.ScheduleLine.{ScheduleLine}
use Rattle.ll_wire.specs.declared.schedule.ScheduleLine.TheVariants as lines
use Rattle.ll_wire.proofs.FirstTokens.{whole_reads, same_err}
use Rattle.ll_wire.proofs.Fronts.{parts, joined_parts}
use Rattle.ll_wire.proofs.Lines.{same_front, cut}
use Rattle.ll_wire.proofs.NamedClients.{starts_named, few_tokens}
use Rattle.ll_wire.proofs.Tokens.{IsToken, visible_is, number_token, all_append, call_is_tokens, body_is_ascii}
use Rattle.ll_wire.proofs.Unique.{same_call}

-- ---- a line by its form

-- the line of this word, client and call
abbrev line_by : List ℕ → ℕ → Call → ScheduleLine
line_by word client call =
    if bytes_eq word (codes "begin") then lines.Step (Begin client call)
    else if bytes_eq word (codes "descend") then lines.Step (Descend client)
    else if bytes_eq word (codes "fork") then lines.Step (Fork client)
    else if bytes_eq word (codes "commit") then lines.Step (Commit client)
    else if bytes_eq word (codes "restart") then lines.Step (Restart client)
    else if bytes_eq word (codes "fd") then lines.Step (FdCommit client call)
    else if bytes_eq word (codes "step") then lines.Step (ClientStep client call)
    else if bytes_eq word (codes "do") then lines.Do client call else lines.Step Join

line_again : (value : ScheduleLine)
    → line_by (form value).1 (unwrap_or (client_in value) 0) (unwrap_or (call_in value) Spawn) ≡ value
line_again (lines.Step Join) = refl
line_again (lines.Step (Begin client call)) = refl
line_again (lines.Step (Descend client)) = refl
line_again (lines.Step (Fork client)) = refl
line_again (lines.Step (Commit client)) = refl
line_again (lines.Step (Restart client)) = refl
line_again (lines.Step (FdCommit client call)) = refl
line_again (lines.Step (ClientStep client call)) = refl
line_again (lines.Do client call) = refl

-- lines of one form are one
same_form : (some other : ScheduleLine) → client_in some ≡ client_in other → (form some).1 ≡ (form other).1
    → call_in some ≡ call_in other → some ≡ other
same_form some other clients words calls =
    sym (line_again some) ∙ (λ i. line_by (words i) (unwrap_or (clients i) 0) (unwrap_or (calls i) Spawn))
    ∙ line_again other

abbrev Form : Type 0
Form = Option ℕ × List ℕ × Option Call

-- the tokens of the call, if there is one
abbrev made : Option Call → List (List ℕ)
made call = unwrap_or (option_map call_tokens call) []

-- it takes memory to be read
abbrev TakesText : ScheduleLine → Type 0
TakesText value = line_holds_text value ≡ true

-- ---- behind the client's name

-- the line of this word is that of a call
abbrev pub IsOfCall : List ℕ → (ℕ → Call → ScheduleLine) → Type 0
IsOfCall word make = (client : ℕ) (call : Call)
    → (form (make client call) ≡ (Some client, word, Some call)) × (line_by word client call ≡ make client call)

call_behind : (word : List ℕ) (make : ℕ → Call → ScheduleLine) → IsOfCall word make
    → (client : ℕ) (args : List (List ℕ)) (value : ScheduleLine)
    → SpellsBehind client (word ∷ args) value → (call : Call) × SpellsCall args call
call_behind word make is client args value h =
    let call : Call = unwrap_or (call_in value) Spawn in
    let number : ℕ = unwrap_or (client_in value) 0 in
    let words : word ≡ (form value).1 = cc in
    let same : value ≡ make number call =
    sym (line_again value) ∙ ap (λ w. line_by w number call) (sym words) ∙ (is number call).1 in
    let calls : call_in value ≡ Some call = ap call_in same ∙ ap (λ (t : Form). t.2) (is number call).0 in
    let rest : args ≡ made (call_in value) = cc in
    (call, (subst (λ o. IfSome o IsCall) calls h.1, rest ∙ ap made calls))

behind_call : (word : List ℕ) (make : ℕ → Call → ScheduleLine) → IsOfCall word make
    → (client : ℕ) (args : List (List ℕ)) (call : Call)
    → SpellsCall args call → SpellsBehind client (word ∷ args) (make client call)
behind_call word make is client args call h =
    let f = (is client call).0 in (
      ap (λ (t : Form). t.0) f,
      subst (λ o. IfSome o IsCall) (sym (ap (λ (t : Form). t.2) f)) h.0,
      ap (λ (ts : List (List ℕ)). word ∷ ts) h.1 ∙ sym (ap (λ (t : Form). t.1 ∷ made t.2) f),
    )

-- a line of a call, by the reader of the call
pub called_reads : (word : List ℕ) (make : ℕ → Call → ScheduleLine) → IsOfCall word make
    → (client : ℕ) (tokens args : List (List ℕ)) (r : Result Call Errno) (s : Result ScheduleLine Errno)
    → tokens ≡ word ∷ args → MatchResult r (λ call. s ≡ Ok (make client call)) (λ e. s ≡ Err e)
    → ReadsCall args r → ReadsBy (SpellsBehind client tokens) TakesText s
called_reads word make is client tokens args r s parts made' h =
    whole_reads (SpellsCall args) (λ call. holds_text call ≡ true) (SpellsBehind client tokens) TakesText (make client)
    (λ value k. call_behind word make is client args value (k.0, k.1, sym parts ∙ k.2))
    (λ call k. let b = behind_call word make is client args call k in (b.0, b.1, parts ∙ b.2))
    (λ call k takes. ap (λ (t : Form). unwrap_or (option_map holds_text t.2) false) (is client call).0 ∙ takes)
    r s made' h

-- ---- the client's name

unnamed_word : (value : ScheduleLine) (rest : List (List ℕ)) → starts_named ((form value).1 ∷ rest) ≡ false
unnamed_word (lines.Step Join) rest = refl
unnamed_word (lines.Step (Begin client call)) rest = refl
unnamed_word (lines.Step (Descend client)) rest = refl
unnamed_word (lines.Step (Fork client)) rest = refl
unnamed_word (lines.Step (Commit client)) rest = refl
unnamed_word (lines.Step (Restart client)) rest = refl
unnamed_word (lines.Step (FdCommit client call)) rest = refl
unnamed_word (lines.Step (ClientStep client call)) rest = refl
unnamed_word (lines.Do client call) rest = refl

-- where the first token names the client, the others are what stands behind the name
named : (first : List ℕ) (others us : List (List ℕ)) (client : ℕ) (name : Option ℕ)
    → SpellsClient first client → IfSome name IsClient → starts_named us ≡ false
    → first ∷ others ≡ name_tokens name ++ us → (name ≡ Some client) × (others ≡ us)
named first others us client None is h unnamed e =
    let names : starts_named (first ∷ others) ≡ true = ap (λ (t : List ℕ). starts_named (t ∷ others)) is.1 in
    absurd (false≢true (sym unnamed ∙ sym (ap starts_named e) ∙ names))
named first others us client (Some n) is h unnamed e =
    let firsts : first ≡ 64 ∷ decimal n = cc in
    let whole : 64 ∷ decimal n ≡ 64 ∷ decimal client = sym firsts ∙ is.1 in
    let numbers : decimal n ≡ decimal client = cc in
    (ap Some (decimal_injective n client (omega (arith, h.1)) (omega (arith, is.0.1)) numbers), cc)

-- a name and what stands behind it are told apart
same_names : (some other : Option ℕ) (us vs : List (List ℕ)) → IfSome some IsClient → IfSome other IsClient
    → starts_named us ≡ false → starts_named vs ≡ false → name_tokens some ++ us ≡ name_tokens other ++ vs
    → (some ≡ other) × (us ≡ vs)
same_names None None us vs h k a b e = (refl, e)
same_names None (Some m) us vs h k a b e =
    let both = named (64 ∷ decimal m) vs us m None (k, refl) h a (sym e) in (both.0, sym both.1)
same_names (Some n) other us vs h k a b e =
    let both = named (64 ∷ decimal n) us vs n other (h, refl) k b e in (sym both.0, both.1)

behind_is : (tokens others : List (List ℕ)) (first : List ℕ) (client : ℕ) → tokens ≡ first ∷ others
    → SpellsClient first client
    → (value : ScheduleLine) → SpellsLineTokens tokens value → SpellsBehind client others value
behind_is tokens others first client parts name value h =
    let tail = (form value).1 ∷ made (call_in value) in
    let unnamed = unnamed_word value (made (call_in value)) in
    let both = named first others tail client (client_in value) name h.0.0 unnamed (sym parts ∙ h.1) in
    (both.0, h.0.1, both.1)

line_is : (tokens others : List (List ℕ)) (first : List ℕ) (client : ℕ) → tokens ≡ first ∷ others
    → SpellsClient first client
    → (value : ScheduleLine) → SpellsBehind client others value → SpellsLineTokens tokens value
line_is tokens others first client parts name value h = (
  (subst (λ o. IfSome o IsClient) (sym h.0) name.0, h.1),
  parts ∙ (λ i. name.1 i ∷ h.2 i) ∙ ap (λ o. name_tokens o ++ (form value).1 ∷ made (call_in value)) (sym h.0),
)

-- the line's client, if it has one, is one of so many
abbrev Within : ℕ → ScheduleLine → Type 0
Within clients value = IfSome (client_in value) (λ client. client ≤ clients)

-- what is read behind the name of a client that there is
pub named_reads : (tokens others : List (List ℕ)) (first : List ℕ) (client clients : ℕ) (r : Result ScheduleLine Errno)
    → tokens ≡ first ∷ others → SpellsClient first client → client ≤ clients
    → ReadsBy (SpellsBehind client others) TakesText r
    → ReadsBy (λ (value : ScheduleLine). SpellsLineTokens tokens value × Within clients value) TakesText r
named_reads tokens others first client clients r parts name few h =
    whole_reads (SpellsBehind client others) TakesText
    (λ (value : ScheduleLine). SpellsLineTokens tokens value × Within clients value) TakesText (λ value. value)
    (λ value k. (value, behind_is tokens others first client parts name value k.0))
    (λ value k. (
      line_is tokens others first client parts name value k,
      subst (λ o. IfSome o (λ n. n ≤ clients)) (sym k.0) few,
    ))
    (λ value k takes. takes)
    r r (same_err r) h

-- no client of this number came
pub too_late : (tokens others : List (List ℕ)) (first : List ℕ) (client clients : ℕ) → tokens ≡ first ∷ others
    → SpellsClient first client → clients < client
    → (value : ScheduleLine) → SpellsLineTokens tokens value × Within clients value → ⊥
too_late tokens others first client clients parts name late value h =
    let same = (behind_is tokens others first client parts name value h.0).0 in
    let few = subst (λ o. IfSome o (λ n. n ≤ clients)) same h.1 in omega (arith, few)

-- neither a client's name nor a connect
pub no_name : (tokens others : List (List ℕ)) (first : List ℕ) → tokens ≡ first ∷ others
    → ((client : ℕ) → SpellsClient first client → ⊥) → tokens ≢ codes "connect" ∷ []
    → (value : ScheduleLine) → SpellsLineTokens tokens value → ⊥
no_name tokens others first parts none other (lines.Step Join) h = other h.1
no_name tokens others first parts none other value h =
    let whole : first ∷ others ≡ line_tokens value = sym parts ∙ h.1 in
    none (unwrap_or (client_in value) 0) (h.0.0, cc)

-- ---- tokens

word_token : (value : ScheduleLine) → IsToken (form value).1
word_token (lines.Step Join) = visible_is (codes "connect") refl
word_token (lines.Step (Begin client call)) = visible_is (codes "begin") refl
word_token (lines.Step (Descend client)) = visible_is (codes "descend") refl
word_token (lines.Step (Fork client)) = visible_is (codes "fork") refl
word_token (lines.Step (Commit client)) = visible_is (codes "commit") refl
word_token (lines.Step (Restart client)) = visible_is (codes "restart") refl
word_token (lines.Step (FdCommit client call)) = visible_is (codes "fd") refl
word_token (lines.Step (ClientStep client call)) = visible_is (codes "step") refl
word_token (lines.Do client call) = visible_is (codes "do") refl

name_is_tokens : (name : Option ℕ) → IfSome name IsClient → AllByRecursion IsToken (name_tokens name)
name_is_tokens None h = tt
name_is_tokens (Some client) h = (((omega arith, omega arith), number_token client (omega (arith, h.1))), tt)

made_is_tokens : (call : Option Call) → IfSome call IsCall → AllByRecursion IsToken (made call)
made_is_tokens None h = tt
made_is_tokens (Some call) h = call_is_tokens call h

line_is_tokens : (value : ScheduleLine) → IsScheduleLine value → AllByRecursion IsToken (line_tokens value)
line_is_tokens value h = all_append IsToken (name_tokens (client_in value)) ((form value).1 ∷ made (call_in value))
    (name_is_tokens (client_in value) h.0) (word_token value, made_is_tokens (call_in value) h.1)

few_names : (name : Option ℕ) → length (name_tokens name) ≤ 1
few_names None = omega arith
few_names (Some client) = omega arith

few_made : (call : Option Call) → length (made call) ≤ 4
few_made None = omega arith
few_made (Some call) = (few_tokens call).1

-- one to six tokens
at_most_six : (value : ScheduleLine) → (1 ≤ length (line_tokens value)) × (length (line_tokens value) ≤ 6)
at_most_six value =
    let name = few_names (client_in value) in
    let call = few_made (call_in value) in
    let all = length-append (name_tokens (client_in value)) ((form value).1 ∷ made (call_in value)) in
    (omega arith, omega arith)

-- ---- lines

pub no_line : (line : List ℕ) → ((body : List ℕ) → IsAscii body → line ≢ body ++ 10 ∷ [])
    → (value : ScheduleLine) → SpellsScheduleLine line value → ⊥
no_line line none value h =
    let tokens = line_tokens value in
    none (join_with_byte 32 tokens) (body_is_ascii tokens (line_is_tokens value h.is_line)) h.text

-- the tokens of a line that spells a value are the value's
line_parts : (line body : List ℕ) (value : ScheduleLine) → line ≡ body ++ 10 ∷ [] → SpellsScheduleLine line value
    → parts body ≡ line_tokens value
line_parts line body value e h =
    ap parts (same_front body (join_with_byte 32 (line_tokens value)) 10 10 (sym e ∙ h.text))
    ∙ cut (line_tokens value) (at_most_six value).0 (line_is_tokens value h.is_line)

pub too_many : (line body : List ℕ) → line ≡ body ++ 10 ∷ [] → 6 < length (parts body)
    → (value : ScheduleLine) → SpellsScheduleLine line value → ⊥
too_many line body e more value h =
    omega (arith, more, ap length (line_parts line body value e h), (at_most_six value).1)

-- what is read from a line's tokens is read from the line
pub line_reads : (line body : List ℕ) (tokens : List (List ℕ)) (clients : ℕ) (r : Result ScheduleLine Errno)
    → length line ≤ 16384 → line ≡ body ++ 10 ∷ [] → tokens ≡ parts body
    → ReadsBy (λ (value : ScheduleLine). SpellsLineTokens tokens value × Within clients value) TakesText r
    → ReadsBy (λ (value : ScheduleLine). SpellsScheduleLine line value × Within clients value) TakesText r
line_reads line body tokens clients r short e t h =
    whole_reads (λ (value : ScheduleLine). SpellsLineTokens tokens value × Within clients value) TakesText
    (λ (value : ScheduleLine). SpellsScheduleLine line value × Within clients value) TakesText (λ value. value)
    (λ value k. (value, ((k.0.is_line, t ∙ line_parts line body value e k.0), k.1)))
    (λ value k. (
      record {
        is_line = k.0.0;
        short = short;
        text = e ∙ ap (λ (x : List ℕ). x ++ 10 ∷ []) (joined_parts body (line_tokens value) (sym t ∙ k.0.1));
      },
      k.1,
    ))
    (λ value k takes. takes)
    r r (same_err r) h

-- ---- one value

same_made : (some other : Option Call) → IfSome some IsCall → IfSome other IsCall → made some ≡ made other
    → some ≡ other
same_made None None h k e = refl
same_made None (Some call) h k e = absurd (omega (arith, ap length e, (few_tokens call).0))
same_made (Some call) None h k e = absurd (omega (arith, ap length e, (few_tokens call).0))
same_made (Some call) (Some other) h k e = ap Some (same_call call other h k e)

pub spells_one_schedule_line : (line : List ℕ) (value other : ScheduleLine)
    → SpellsScheduleLine line value → SpellsScheduleLine line other → value ≡ other
spells_one_schedule_line line value other h k =
    let body = join_with_byte 32 (line_tokens value) in
    let same : line_tokens value ≡ line_tokens other =
    sym (line_parts line body value h.text h) ∙ line_parts line body other h.text k in
    let both = same_names (client_in value) (client_in other) _ _ h.is_line.0 k.is_line.0
    (unnamed_word value (made (call_in value))) (unnamed_word other (made (call_in other))) same in
    let words : (form value).1 ≡ (form other).1 = (let rests = both.1 in cc) in
    let rests : made (call_in value) ≡ made (call_in other) = (let behind = both.1 in cc) in
    same_form value other both.0 words (same_made (call_in value) (call_in other) h.is_line.1 k.is_line.1 rests)
