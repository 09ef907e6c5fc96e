-- What reading first words of a reply tells of them.
use Rattle.std.proofs.Common.{◌≡◌, ◌≢◌, ℕ, ◌<◌, ◌≤◌, true, false, List, [], ◌∷◌, ◌++◌, drop, length, map, take}
use Rattle.std.proofs.Common.{get_or, codes, Option, Some, None, Result, Ok, Err, Bor, ◌⊎◌, inl, inr, refl, ap, sym}
use Rattle.std.proofs.Common.{subst, ◌∙◌, arith}
use Rattle.std.specs.Prelude.{◌==◌, ⊤, IfSome, IfNone}
use Rattle.std.specs.Option.{MatchOption}
use Rattle.std.specs.Result.{MatchResult}
use Rattle.std.specs.List.{AllByRecursion, slice_split, join_with_byte}
use Rattle.std.specs.Fmt.{decimal}
use Rattle.std.specs.Str.{IsUtf8}
use Rattle.std.proofs.lemmas.Bool.{false≢true}
use Rattle.std.proofs.lemmas.Fmt.{decimal_injective}
use Rattle.std.proofs.lemmas.List.{append_cancel_left, get_or_append_left, get_or_default, take-append-drop, take_all}
use Rattle.std.proofs.lemmas.List.Splits.{join_with_byte-slice_split}
use Rattle.std.proofs.lemmas.Str.{IsUtf8-from_ascii}
use Rattle.ll_rights.specs.declared.errno.Errno.{Errno}
use Rattle.ll_rights.specs.Errno.{errno_number, errno_text}
use Rattle.ll_rights.specs.Kind.{kind_text}
use Rattle.ll_rights.specs.Right.{right_text}
use Rattle.ll_decide.specs.Denial.{cause_errno, place_text}
use Rattle.ll_decide.specs.declared.denial.Cause.{Cause}
use Rattle.ll_wire.specs.declared.first_words.FirstWords.{FirstWords}
use Rattle.ll_wire.specs.declared.first_words.FirstWords.TheVariants.{Done, Opened, Bytes, Wrote, Listed, Found}
use Rattle.ll_wire.specs.declared.first_words.FirstWords.TheVariants.{Created, Spawned, Refused, Denied}
use Rattle.ll_wire.specs.declared.first_words.StatusWords.{StatusWords}
use Rattle.ll_wire.specs.declared.first_words.StatusWords.TheVariants as status
use Rattle.ll_wire.specs.declared.first_words.RefusalWords.{RefusalWords}
use Rattle.ll_wire.specs.declared.first_words.RefusalWords.TheVariants as refusal
use Rattle.ll_wire.specs.declared.first_words.DenialWords.{DenialWords}
use Rattle.ll_wire.specs.declared.first_words.DenialWords.TheVariants as denial
use Rattle.ll_wire.specs.FirstWords.{SpellsDenialWords, SpellsFirst, SpellsFirstTokens, SpellsNumberWords}
use Rattle.ll_wire.specs.FirstWords.{SpellsRefusalWords, SpellsShortWords, SpellsStatusWords, bytes_told, denial_told}
use Rattle.ll_wire.specs.FirstWords.{first_told, first_tokens, holds_text, number_told, refusal_told, status_told}
use Rattle.ll_wire.specs.Parts.{Reads, SpellsData, SpellsNames, SpellsNumber}
use Rattle.ll_wire.specs.Reads.{ReadsBy, Finds}
use Rattle.ll_wire.proofs.FirstTokens.{first_is, whole_reads}
use Rattle.ll_wire.proofs.Lines.{cut}
use Rattle.ll_wire.proofs.NamesInOrder.{named}
use Rattle.ll_wire.proofs.OneReply.{errno_token, names_tokens, place_token, right_token}
use Rattle.ll_wire.proofs.ReadReplies.{begins, whole_finds}
use Rattle.ll_wire.proofs.Tokens.{IsToken, body_is_ascii, data_token, kind_token, number_token, visible_is}

-- ---- what is given behind a name

pub one : (args : List (Bor (List ℕ))) (d : Bor (List ℕ)) → length args ≡ 1
    → map (λ t. t.now) args ≡ (get_or args 0 d).now ∷ []
one (a ∷ []) d h = refl
one args d h = absurd (omega arith)

pub number_out : (args : List (List ℕ)) (word : List ℕ) (number : ℕ) → args ≡ word ∷ [] → SpellsNumber word number
    → (number < 3) ⊎ (23 < number) → (words : RefusalWords) → SpellsRefusalWords args words → ⊥
number_out args word number parts n fault refusal.Nothing h = let e = sym parts ∙ h.1 in absurd (cc)
number_out args word number parts n fault (refusal.Number given) h =
    let texts : decimal number ≡ decimal given = sym n.1 ∙ (let e = sym parts ∙ h.1 in cc) in
    let same : number ≡ given = decimal_injective number given n.0 (omega (arith, h.0.1)) texts in
    elim fault [ inl low ↦ omega (arith, same, h.0.0, low) | inr high ↦ omega (arith, same, h.0.1, high) ]
number_out args word number parts n fault (refusal.Whole errno) h = let e = sym parts ∙ h.1 in absurd (cc)

pub no_right_words : (args : List (List ℕ)) (word : List ℕ) (cause : Cause) → word ≡ get_or args 1 []
    → 2 ≤ length args → ((right : ℕ) → right < 15 → word ≢ right_text right) → (words : DenialWords)
    → SpellsDenialWords (errno_text (cause_errno cause) ∷ codes "layer" ∷ args) words → ⊥
no_right_words args word cause at some none denial.Nothing h = omega (arith, ap length h.1)
no_right_words args word cause at some none (denial.Cause given) h = omega (arith, ap length h.1)
no_right_words args word cause at some none (denial.Layer given) h = omega (arith, ap length h.1)
no_right_words args word cause at some none (denial.Number given layer) h = omega (arith, ap length h.1)
no_right_words args word cause at some none (denial.Right given layer right) h =
    none right h.0.1 (at ∙ ap (λ (tokens : List (List ℕ)). get_or tokens 3 []) h.1)
no_right_words args word cause at some none (denial.Whole d) h =
    none d.right h.0.1 (at ∙ ap (λ (tokens : List (List ℕ)). get_or tokens 3 []) h.1)

-- ---- names

-- the name of first words, and what follows it
abbrev first_name : FirstWords → List ℕ
first_name Done = codes "ok"
first_name (Opened number) = codes "fd"
first_name (Bytes bytes) = codes "data"
first_name (Wrote count) = codes "wrote"
first_name (Listed names) = codes "names"
first_name (Found words) = codes "stat"
first_name (Created number) = codes "ruleset"
first_name (Spawned number) = codes "client"
first_name (Refused words) = codes "refused"
first_name (Denied words) = codes "denied"

abbrev given : FirstWords → List (List ℕ)
given Done = []
given (Opened number) = (number_told number).1
given (Bytes bytes) = (bytes_told bytes).1
given (Wrote count) = (number_told count).1
given (Listed names) = names
given (Found words) = (status_told words).1
given (Created number) = (number_told number).1
given (Spawned number) = (number_told number).1
given (Refused words) = (refusal_told words).1
given (Denied words) = (denial_told words).1

name_first : (words : FirstWords) → first_tokens words ≡ first_name words ∷ given words
name_first Done = refl
name_first (Opened number) = refl
name_first (Bytes bytes) = refl
name_first (Wrote count) = refl
name_first (Listed names) = refl
name_first (Found words) = refl
name_first (Created number) = refl
name_first (Spawned number) = refl
name_first (Refused words) = refl
name_first (Denied words) = refl

two_bytes : (a b x y : ℕ) (name : List ℕ) (rest : List (List ℕ))
    → begins a b (join_with_byte 32 ((x ∷ y ∷ name) ∷ rest)) ≡ begins a b (x ∷ y ∷ name)
two_bytes a b x y name [] = refl
two_bytes a b x y name (token ∷ rest) = refl

starts_by : (a b : ℕ) (words : FirstWords)
    → begins a b (join_with_byte 32 (first_name words ∷ given words)) ≡ begins a b (first_name words)
starts_by a b Done = two_bytes a b 111 107 [] (given Done)
starts_by a b (Opened number) = two_bytes a b 102 100 [] (given (Opened number))
starts_by a b (Bytes bytes) = two_bytes a b 100 97 (codes "ta") (given (Bytes bytes))
starts_by a b (Wrote count) = two_bytes a b 119 114 (codes "ote") (given (Wrote count))
starts_by a b (Listed names) = two_bytes a b 110 97 (codes "mes") (given (Listed names))
starts_by a b (Found words) = two_bytes a b 115 116 (codes "at") (given (Found words))
starts_by a b (Created number) = two_bytes a b 114 117 (codes "leset") (given (Created number))
starts_by a b (Spawned number) = two_bytes a b 99 108 (codes "ient") (given (Spawned number))
starts_by a b (Refused words) = two_bytes a b 114 101 (codes "fused") (given (Refused words))
starts_by a b (Denied words) = two_bytes a b 100 101 (codes "nied") (given (Denied words))

starts : (a b : ℕ) (words : FirstWords)
    → begins a b (join_with_byte 32 (first_tokens words)) ≡ begins a b (first_name words)
starts a b words = ap (λ tokens. begins a b (join_with_byte 32 tokens)) (name_first words) ∙ starts_by a b words

-- ---- tokens

number_tokens : (number : Option ℕ) → (number_told number).0 → AllByRecursion IsToken (number_told number).1
number_tokens None h = tt
number_tokens (Some number) h = (number_token number h, tt)

bytes_tokens : (bytes : Option (List ℕ)) → (bytes_told bytes).0 → AllByRecursion IsToken (bytes_told bytes).1
bytes_tokens None h = tt
bytes_tokens (Some bytes) h = (data_token bytes h, tt)

status_tokens : (words : StatusWords) → (status_told words).0 → AllByRecursion IsToken (status_told words).1
status_tokens status.Nothing h = tt
status_tokens (status.Inode inode) h = (number_token inode h, tt)
status_tokens (status.Kind inode kind) h = (number_token inode h, (kind_token kind, tt))
status_tokens (status.Size inode kind size) h =
    (number_token inode h.0, (kind_token kind, (number_token size h.1, tt)))
status_tokens (status.Whole s) h =
    (number_token s.inode h.0, (kind_token s.kind, (number_token s.size h.1, (number_token s.links h.2, tt))))

refusal_tokens : (words : RefusalWords) → (refusal_told words).0 → AllByRecursion IsToken (refusal_told words).1
refusal_tokens refusal.Nothing h = tt
refusal_tokens (refusal.Number number) h = (number_token number (omega (arith, h.1)), tt)
refusal_tokens (refusal.Whole errno) h =
    (number_token (errno_number errno) (omega (arith, h.1)), (errno_token errno, tt))

denial_tokens : (words : DenialWords) → (denial_told words).0 → AllByRecursion IsToken (denial_told words).1
denial_tokens denial.Nothing h = tt
denial_tokens (denial.Cause cause) h = (errno_token (cause_errno cause), tt)
denial_tokens (denial.Layer cause) h = (errno_token (cause_errno cause), (visible_is (codes "layer") refl, tt))
denial_tokens (denial.Number cause layer) h =
    (errno_token (cause_errno cause), (visible_is (codes "layer") refl, (number_token layer h, tt)))
denial_tokens (denial.Right cause layer right) h = (
  errno_token (cause_errno cause),
  (visible_is (codes "layer") refl, (number_token layer h.0, (right_token right h.1, tt))),
)
denial_tokens (denial.Whole d) h = (
  errno_token (cause_errno d.cause),
  (
    visible_is (codes "layer") refl,
    (number_token d.layer h.0, (right_token d.right h.1, (place_token d.place, tt))),
  ),
)

pub words_are_tokens : (words : FirstWords) → (first_told words).0 → AllByRecursion IsToken (first_tokens words)
words_are_tokens Done h = (visible_is (codes "ok") refl, tt)
words_are_tokens (Opened number) h = (visible_is (codes "fd") refl, number_tokens number h)
words_are_tokens (Bytes bytes) h = (visible_is (codes "data") refl, bytes_tokens bytes h)
words_are_tokens (Wrote count) h = (visible_is (codes "wrote") refl, number_tokens count h)
words_are_tokens (Listed names) h = (visible_is (codes "names") refl, names_tokens names h.0)
words_are_tokens (Found words) h = (visible_is (codes "stat") refl, status_tokens words h)
words_are_tokens (Created number) h = (visible_is (codes "ruleset") refl, number_tokens number h)
words_are_tokens (Spawned number) h = (visible_is (codes "client") refl, number_tokens number h)
words_are_tokens (Refused words) h = (visible_is (codes "refused") refl, refusal_tokens words h)
words_are_tokens (Denied words) h = (visible_is (codes "denied") refl, denial_tokens words h)

-- what stands between the spaces are the words
cut_words : (body : List ℕ) (words : FirstWords) → SpellsFirst body words
    → slice_split (λ b. b == 32) body ≡ first_tokens words
cut_words body words h =
    let some = ap length (name_first words) in
    ap (slice_split (λ b. b == 32)) h.1
    ∙ cut (first_tokens words) (omega (arith, some)) (words_are_tokens words h.0)

pub spelled_is_utf8 : (text : List ℕ) (words : FirstWords) → SpellsFirst text words → IsUtf8 text
spelled_is_utf8 text words h = subst IsUtf8 (sym h.1)
    (IsUtf8-from_ascii _ (body_is_ascii (first_tokens words) (words_are_tokens words h.0)))

-- ---- words whose name is known

pub opened_words : (args : List (List ℕ)) (words : FirstWords) → SpellsFirstTokens (codes "fd" ∷ args) words
    → (number : Option ℕ) × SpellsNumberWords args number
opened_words args (Opened number) h = (number, (h.0, cc))
opened_words args words h = absurd (false≢true (sym (ap (first_is (codes "fd")) h.1)))

pub wrote_words : (args : List (List ℕ)) (words : FirstWords) → SpellsFirstTokens (codes "wrote" ∷ args) words
    → (count : Option ℕ) × SpellsNumberWords args count
wrote_words args (Wrote count) h = (count, (h.0, cc))
wrote_words args words h = absurd (false≢true (sym (ap (first_is (codes "wrote")) h.1)))

pub created_words : (args : List (List ℕ)) (words : FirstWords) → SpellsFirstTokens (codes "ruleset" ∷ args) words
    → (number : Option ℕ) × SpellsNumberWords args number
created_words args (Created number) h = (number, (h.0, cc))
created_words args words h = absurd (false≢true (sym (ap (first_is (codes "ruleset")) h.1)))

pub spawned_words : (args : List (List ℕ)) (words : FirstWords) → SpellsFirstTokens (codes "client" ∷ args) words
    → (number : Option ℕ) × SpellsNumberWords args number
spawned_words args (Spawned number) h = (number, (h.0, cc))
spawned_words args words h = absurd (false≢true (sym (ap (first_is (codes "client")) h.1)))

pub found_words : (args : List (List ℕ)) (words : FirstWords) → SpellsFirstTokens (codes "stat" ∷ args) words
    → (status : StatusWords) × SpellsStatusWords args status
found_words args (Found status) h = (status, (h.0, cc))
found_words args words h = absurd (false≢true (sym (ap (first_is (codes "stat")) h.1)))

pub refused_words : (args : List (List ℕ)) (words : FirstWords) → SpellsFirstTokens (codes "refused" ∷ args) words
    → (refusal : RefusalWords) × SpellsRefusalWords args refusal
refused_words args (Refused refusal) h = (refusal, (h.0, cc))
refused_words args words h = absurd (false≢true (sym (ap (first_is (codes "refused")) h.1)))

pub denied_words : (args : List (List ℕ)) (words : FirstWords) → SpellsFirstTokens (codes "denied" ∷ args) words
    → (denial : DenialWords) × SpellsDenialWords args denial
denied_words args (Denied denial) h = (denial, (h.0, cc))
denied_words args words h = absurd (false≢true (sym (ap (first_is (codes "denied")) h.1)))

pub words_find : {V : Type 0} (name : List ℕ) (make : V → FirstWords) (P : List (List ℕ) → V → Type 0)
    → ((args : List (List ℕ)) (words : FirstWords) → SpellsFirstTokens (name ∷ args) words → (v : V) × P args v)
    → ((args : List (List ℕ)) (v : V) → P args v → SpellsShortWords (name ∷ args) (make v))
    → (tokens args : List (List ℕ)) (r : Option V) (s : Option FirstWords) → tokens ≡ name ∷ args
    → MatchOption r (s ≡ None) (λ v. s ≡ Some (make v)) → Finds (P args) r → Finds (SpellsShortWords tokens) s
words_find {V} name make P is own tokens args r s parts made h =
    whole_finds (P args) (SpellsShortWords tokens) make
    (λ words k. is args words (k.0.0, sym parts ∙ k.0.1))
    (λ v k. subst (λ (t : List (List ℕ)). SpellsShortWords t (make v)) (sym parts) (own args v k))
    r s made h

-- a name with nothing behind it
pub name_finds : (name : List ℕ) (words : FirstWords) → SpellsShortWords (name ∷ []) words
    → ((args : List (List ℕ)) (w : FirstWords) → SpellsShortWords (name ∷ args) w → args ≡ [])
    → (tokens args : List (List ℕ)) (r : Option FirstWords) → tokens ≡ name ∷ args
    → IfSome r (λ it. (it ≡ words) × (args ≡ [])) → IfNone r (args ≢ []) → Finds (SpellsShortWords tokens) r
name_finds name words own alone tokens args (Some it) parts some none =
    subst (λ (w : FirstWords). SpellsShortWords tokens w) (sym some.0)
    (subst (λ (t : List (List ℕ)). SpellsShortWords t words)
    (sym (parts ∙ ap (λ (x : List (List ℕ)). name ∷ x) some.1)) own)
name_finds name words own alone tokens args None parts some none =
    λ w h. none (alone args w (subst (λ (t : List (List ℕ)). SpellsShortWords t w) parts h))

pub done_alone : (args : List (List ℕ)) (words : FirstWords) → SpellsShortWords (codes "ok" ∷ args) words → args ≡ []
done_alone args Done h = let e = h.0.1 in cc
done_alone args words h = absurd (false≢true (sym (ap (first_is (codes "ok")) h.0.1)))

pub data_alone : (args : List (List ℕ)) (words : FirstWords) → SpellsShortWords (codes "data" ∷ args) words
    → args ≡ []
data_alone args (Bytes None) h = let e = h.0.1 in cc
data_alone args (Bytes (Some bytes)) h = absurd (false≢true (sym h.1))
data_alone args words h = absurd (false≢true (sym (ap (first_is (codes "data")) h.0.1)))

-- ---- bodies

listed_body : (text : List ℕ) (words : FirstWords) → SpellsFirst (codes "names" ++ text) words
    → (names : List (List ℕ)) × SpellsNames text names
listed_body text (Listed names) h = (names, (h.0, append_cancel_left (codes "names") _ _ (h.1 ∙ named names)))
listed_body text words h = absurd (false≢true (sym (ap (begins 110 97) h.1 ∙ starts 110 97 words)))

data_body : (text : List ℕ) (words : FirstWords) → SpellsFirst (codes "data " ++ text) words
    → (bytes : List ℕ) × SpellsData text bytes
data_body text (Bytes (Some bytes)) h = (bytes, (h.0, append_cancel_left (codes "data ") _ _ h.1))
data_body text (Bytes None) h = let e = h.1 in absurd (cc)
data_body text words h = absurd (false≢true (sym (ap (begins 100 97) h.1 ∙ starts 100 97 words)))

pub listed_reads : (body text : List ℕ) (r : Result (List (List ℕ)) Errno) (s : Result FirstWords Errno)
    → body ≡ codes "names" ++ text → MatchResult r (λ names. s ≡ Ok (Listed names)) (λ e. s ≡ Err e)
    → Reads (SpellsNames text) r → ReadsBy (SpellsFirst body) (λ words. holds_text words ≡ true) s
listed_reads body text r s begun made h =
    whole_reads (SpellsNames text) (λ _. ⊤) (SpellsFirst body) (λ words. holds_text words ≡ true) Listed
    (λ words k. listed_body text words (k.0, sym begun ∙ k.1))
    (λ names k. (k.0, begun ∙ ap (λ (x : List ℕ). codes "names" ++ x) k.1 ∙ sym (named names)))
    (λ names k t. refl)
    r s made h

pub data_reads : (body text : List ℕ) (r : Result (List ℕ) Errno) (s : Result FirstWords Errno)
    → body ≡ codes "data " ++ text → MatchResult r (λ bytes. s ≡ Ok (Bytes (Some bytes))) (λ e. s ≡ Err e)
    → Reads (SpellsData text) r → ReadsBy (SpellsFirst body) (λ words. holds_text words ≡ true) s
data_reads body text r s begun made h =
    whole_reads (SpellsData text) (λ _. ⊤) (SpellsFirst body) (λ words. holds_text words ≡ true)
    (λ bytes. Bytes (Some bytes))
    (λ words k. data_body text words (k.0, sym begun ∙ k.1))
    (λ bytes k. (k.0, begun ∙ ap (λ (x : List ℕ). codes "data " ++ x) k.1))
    (λ bytes k t. refl)
    r s made h

no_text : (body : List ℕ) (words : FirstWords) → ((rest : List ℕ) → body ≢ codes "names" ++ rest)
    → ((rest : List ℕ) → body ≢ codes "data " ++ rest) → SpellsFirst body words → holds_text words ≡ false
no_text body (Bytes (Some bytes)) no_names no_data h = absurd (no_data _ h.1)
no_text body (Bytes None) no_names no_data h = refl
no_text body (Listed names) no_names no_data h = absurd (no_names _ (h.1 ∙ named names))
no_text body words no_names no_data h = refl

few_numbers : (number : Option ℕ) → length (number_told number).1 ≤ 1
few_numbers None = omega arith
few_numbers (Some number) = omega arith

few_of_status : (words : StatusWords) → length (status_told words).1 ≤ 4
few_of_status status.Nothing = omega arith
few_of_status (status.Inode inode) = omega arith
few_of_status (status.Kind inode kind) = omega arith
few_of_status (status.Size inode kind size) = omega arith
few_of_status (status.Whole s) = omega arith

few_of_refusal : (words : RefusalWords) → length (refusal_told words).1 ≤ 2
few_of_refusal refusal.Nothing = omega arith
few_of_refusal (refusal.Number number) = omega arith
few_of_refusal (refusal.Whole errno) = omega arith

few_of_denial : (words : DenialWords) → length (denial_told words).1 ≤ 5
few_of_denial denial.Nothing = omega arith
few_of_denial (denial.Cause cause) = omega arith
few_of_denial (denial.Layer cause) = omega arith
few_of_denial (denial.Number cause layer) = omega arith
few_of_denial (denial.Right cause layer right) = omega arith
few_of_denial (denial.Whole d) = omega arith

few : (words : FirstWords) → holds_text words ≡ false → length (first_tokens words) ≤ 6
few Done h = omega arith
few (Opened number) h = omega (arith, few_numbers number)
few (Bytes None) h = omega arith
few (Bytes (Some bytes)) h = absurd (false≢true (sym h))
few (Wrote count) h = omega (arith, few_numbers count)
few (Listed names) h = absurd (false≢true (sym h))
few (Found words) h = omega (arith, few_of_status words)
few (Created number) h = omega (arith, few_numbers number)
few (Spawned number) h = omega (arith, few_numbers number)
few (Refused words) h = omega (arith, few_of_refusal words)
few (Denied words) h = omega (arith, few_of_denial words)

pub too_many : (body : List ℕ) → ((rest : List ℕ) → body ≢ codes "names" ++ rest)
    → ((rest : List ℕ) → body ≢ codes "data " ++ rest) → 6 < length (slice_split (λ b. b == 32) body)
    → (words : FirstWords) → SpellsFirst body words → ⊥
too_many body no_names no_data more words h =
    omega (arith, ap length (cut_words body words h), few words (no_text body words no_names no_data h))

pub none_short : (body : List ℕ) (tokens : List (List ℕ)) → ((rest : List ℕ) → body ≢ codes "names" ++ rest)
    → ((rest : List ℕ) → body ≢ codes "data " ++ rest) → tokens ≡ slice_split (λ b. b == 32) body
    → ((words : FirstWords) → SpellsShortWords tokens words → ⊥) → (words : FirstWords) → SpellsFirst body words → ⊥
none_short body tokens no_names no_data t none words h =
    none words ((h.0, t ∙ cut_words body words h), no_text body words no_names no_data h)

pub short_spells : (body : List ℕ) (tokens : List (List ℕ)) (words : FirstWords)
    → tokens ≡ slice_split (λ b. b == 32) body → SpellsShortWords tokens words → SpellsFirst body words
short_spells body tokens words t h =
    (h.0.0, sym (join_with_byte-slice_split 32 body) ∙ ap (join_with_byte 32) (sym t ∙ h.0.1))

-- ---- names that come first

pub same_at : (front more names : List (List ℕ)) (i : ℕ) (a b : List ℕ) → names ≡ front ++ more → i < length front
    → a ≡ get_or front i a → b ≡ get_or names i b → a ≡ b
same_at front more names i a b is less at there =
    at ∙ get_or_default front i a b less ∙ sym (get_or_append_left front more b i less)
    ∙ ap (λ (l : List (List ℕ)). get_or l i b) (sym is) ∙ sym there

pub front_found : (front names : List (List ℕ)) (n : ℕ) → length front ≤ n → take n front ≡ take n names
    → (more : List (List ℕ)) × (names ≡ front ++ more)
front_found front names n all same = (
  drop n names,
  sym (take-append-drop n names) ∙ ap (λ (l : List (List ℕ)). l ++ drop n names) (sym same ∙ take_all n front all),
)
