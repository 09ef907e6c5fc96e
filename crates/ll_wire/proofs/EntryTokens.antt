-- Entries of histories: their tokens, and where a call ends.
use Rattle.std.proofs.Common.{◌≡◌, ◌≢◌, ℕ, ◌+◌, ◌<◌, ◌≤◌, Bool, true, false, ◌||◌, List, [], ◌∷◌, ◌++◌, length, map}
use Rattle.std.proofs.Common.{take, get_or, codes, Result, Ok, Err, Bor, inl, inr, refl, ap, sym, subst, ◌∙◌, arith}
use Rattle.std.proofs.Common.{length-append}
use Rattle.std.specs.Prelude.{◌==◌, if◌then◌else◌}
use Rattle.std.specs.Str.{bytes_eq, IsAscii}
use Rattle.std.specs.List.{AllByRecursion, join_with_byte}
use Rattle.std.specs.Fmt.{decimal}
use Rattle.std.specs.Result.{MatchResult}
use Rattle.std.proofs.lemmas.Bool.{false≢true}
use Rattle.std.proofs.lemmas.Fmt.{decimal_injective}
use Rattle.std.proofs.lemmas.List.{append_assoc, append_cancel_left, length-map, length-take-le}
use Rattle.std.proofs.lemmas.List.Splits.{slice_split_at}
use Rattle.std.proofs.lemmas.List.Elements.{All-from_recursion}
use Rattle.ll_rights.specs.declared.errno.Errno.{Errno}
use Rattle.ll_rights.specs.declared.errno.Errno.TheVariants.{NoMemory, BadLine}
use Rattle.ll_rights.specs.Errno.{errno_number}
use Rattle.ll_seq.specs.declared.call.Call.{Call}
use Rattle.ll_seq.specs.declared.call.Call.TheVariants as calls
use Rattle.ll_seq.specs.declared.reply.Reply.{Reply}
use Rattle.ll_seq.specs.declared.reply.Reply.TheVariants.{Refused}
use Rattle.ll_seq.specs.declared.reply.Entry.{Entry}
use Rattle.ll_wire.specs.Grammar.{line_of, call_tokens, IsCall, reply_tokens, IsReply}
use Rattle.ll_wire.specs.Parts.{SpellsNumber, SpellsReplyBody}
use Rattle.ll_wire.specs.Reads.{ReadsBy, holds_text, tells_text}
use Rattle.ll_wire.specs.Entries.{IsEntryCall, IsEntry, entry_tokens, entry_line, SpellsEntry, entry_holds_text}
use Rattle.ll_wire.specs.EntryParts.{SpellsEntryCall, SpellsEntryReply, SpellsAnswered, CutsAt, SpellsEntryBody}
use Rattle.ll_wire.proofs.FirstTokens.{first_is, whole_reads, same_err}
use Rattle.ll_wire.proofs.NamedClients.{few_tokens}
use Rattle.ll_wire.proofs.Fronts.{parts, joined_parts, same_ends}
use Rattle.ll_wire.proofs.Lines.{same_front, cut}
use Rattle.ll_wire.proofs.OneReply.{reply_is_tokens, some_tokens, cut_reply, same_reply}
use Rattle.ll_wire.proofs.Tokens.{IsToken, visible_is, number_token, all_append, call_is_tokens, body_is_ascii}
use Rattle.ll_wire.proofs.Unique.{same_call}

-- ---- how long a call is

abbrev among : List ℕ → List (List ℕ) → Bool
among name [] = false
among name (other ∷ names) = bytes_eq name other || among name names

-- how many tokens a call of this name has
abbrev count_of : List ℕ → ℕ
count_of name =
    if among name (codes "connect" ∷ codes "spawn" ∷ []) then 1
    else if among name (codes "make" ∷ codes "open" ∷ codes "ftruncate" ∷ codes "truncate" ∷ codes "rename"
    ∷ codes "rename_noreplace" ∷ codes "exchange" ∷ codes "link" ∷ []) then 3
    else if among name (codes "read" ∷ codes "write" ∷ codes "allow" ∷ []) then 4 else 2

abbrev first : List (List ℕ) → List ℕ
first [] = []
first (token ∷ tokens) = token

count_by_name : (call : Call) → count_of (first (call_tokens call)) ≡ length (call_tokens call)
count_by_name (calls.Make kind target) = refl
count_by_name (calls.Open mode target) = refl
count_by_name (calls.Read fd offset count) = refl
count_by_name (calls.Write fd offset bytes) = refl
count_by_name (calls.Ftruncate fd size) = refl
count_by_name (calls.Close fd) = refl
count_by_name (calls.Truncate target size) = refl
count_by_name (calls.ReadDir target) = refl
count_by_name (calls.Stat target) = refl
count_by_name (calls.Exec target) = refl
count_by_name (calls.Unlink target) = refl
count_by_name (calls.Rmdir target) = refl
count_by_name (calls.Rename old new) = refl
count_by_name (calls.RenameNoreplace old new) = refl
count_by_name (calls.Exchange old new) = refl
count_by_name (calls.Link old new) = refl
count_by_name (calls.Ruleset rights) = refl
count_by_name (calls.Allow number target rights) = refl
count_by_name (calls.Confine number) = refl
count_by_name calls.Spawn = refl
count_by_name calls.Connect = refl

first_append : (tokens others : List (List ℕ)) → 1 ≤ length tokens → first (tokens ++ others) ≡ first tokens
first_append [] others some = absurd (omega arith)
first_append (token ∷ tokens) others some = refl

-- calls with which one list starts are of one length
same_length : (some other : Call) (us vs : List (List ℕ)) → call_tokens some ++ us ≡ call_tokens other ++ vs
    → length (call_tokens some) ≡ length (call_tokens other)
same_length some other us vs e =
    let firsts = sym (first_append (call_tokens some) us (few_tokens some).0) ∙ ap first e
    ∙ first_append (call_tokens other) vs (few_tokens other).0 in
    sym (count_by_name some) ∙ ap count_of firsts ∙ count_by_name other

-- the name's call has as many tokens
pub named_length : (call : Call) (name : List ℕ) (args : List (List ℕ)) → call_tokens call ≡ name ∷ args
    → count_of name ≡ length (call_tokens call)
named_length call name args e = ap (λ (tokens : List (List ℕ)). count_of (first tokens)) (sym e) ∙ count_by_name call

-- ---- tokens

entry_call_is_tokens : (call : Call) → IsEntryCall call → AllByRecursion IsToken (call_tokens call)
entry_call_is_tokens call (inl is) = call_is_tokens call is
entry_call_is_tokens call (inr same) =
    subst (λ (c : Call). AllByRecursion IsToken (call_tokens c)) (sym same) (visible_is (codes "connect") refl, tt)

-- what stands behind the client
answered_tokens : (call : Call) (reply : Reply) → IsEntryCall call → IsReply reply
    → AllByRecursion IsToken (call_tokens call ++ codes "=" ∷ reply_tokens reply)
answered_tokens call reply h k =
    all_append IsToken (call_tokens call) (codes "=" ∷ reply_tokens reply) (entry_call_is_tokens call h)
    (visible_is (codes "=") refl, reply_is_tokens reply k)

answered_length : (call : Call) (reply : Reply)
    → length (call_tokens call ++ codes "=" ∷ reply_tokens reply)
    ≡ length (call_tokens call) + (1 + length (reply_tokens reply))
answered_length call reply = omega (arith, length-append (call_tokens call) (codes "=" ∷ reply_tokens reply))

pub answered_parts : (text : List ℕ) (call : Call) (reply : Reply) → SpellsAnswered text call reply
    → parts text ≡ call_tokens call ++ codes "=" ∷ reply_tokens reply
answered_parts text call reply h =
    ap parts h.2 ∙ cut (call_tokens call ++ codes "=" ∷ reply_tokens reply) (omega (arith, answered_length call reply))
    (answered_tokens call reply h.0 h.1.0)

entry_is_tokens : (e : Entry) → IsEntry e → AllByRecursion IsToken (entry_tokens e)
entry_is_tokens e h = (number_token e.client h.0, answered_tokens e.call e.reply h.1 h.2.0)

pub entry_parts : (body : List ℕ) (e : Entry) → SpellsEntryBody body e → parts body ≡ entry_tokens e
entry_parts body e h = ap parts h.1 ∙ cut (entry_tokens e) (omega arith) (entry_is_tokens e h.0)

-- ---- where a call ends

-- a text without a space
pub one_part : (text : List ℕ) → parts text ≡ text ∷ [] → (call : Call) (reply : Reply) → SpellsAnswered text call reply
    → ⊥
one_part text e call reply h =
    omega (
      arith,
      ap length e,
      ap length (answered_parts text call reply h),
      answered_length call reply,
      (few_tokens call).0,
      some_tokens reply,
    )

-- the call's length is known from the first token
pub length_is : (text name rest : List ℕ) (count : ℕ) → parts text ≡ name ∷ parts rest
    → ((call : Call) (args : List (List ℕ)) → call_tokens call ≡ name ∷ args → count ≡ length (call_tokens call))
    → (call : Call) (reply : Reply) → SpellsAnswered text call reply → count ≡ length (call_tokens call)
length_is text name rest count e counts call reply h = of (call_tokens call) refl
  where
    of : (tokens : List (List ℕ)) → call_tokens call ≡ tokens → count ≡ length (call_tokens call)
    of [] same = absurd (omega (arith, ap length same, (few_tokens call).0))
    of (token ∷ tokens) same =
        let whole : name ∷ parts rest ≡ token ∷ (tokens ++ codes "=" ∷ reply_tokens reply) =
        sym e ∙ answered_parts text call reply h
        ∙ ap (λ (ts : List (List ℕ)). ts ++ codes "=" ∷ reply_tokens reply) same in
        let names : token ≡ name = cc in
        counts call tokens (same ∙ ap (λ (t : List ℕ). t ∷ tokens) names)

pub front_length : (tokens : List (Bor (List ℕ))) (count len : ℕ) → count ≤ length tokens → count ≡ len
    → length (map (λ t. t.now) (take count tokens)) ≡ len
front_length tokens count len fits e =
    omega (arith, e, length-map (take count tokens) (λ t. t.now), length-take-le count tokens fits)

-- too few tokens for the call, the sign and a reply
pub no_front : (text : List ℕ) (count : ℕ) → length (parts text) ≤ count → (call : Call) (reply : Reply)
    → count ≡ length (call_tokens call) → SpellsAnswered text call reply → ⊥
no_front text count few call reply len h =
    omega (arith, few, len, ap length (answered_parts text call reply h), answered_length call reply)

two_tokens : (token : List ℕ) (tokens : List (List ℕ)) → 1 ≤ length tokens
    → join_with_byte 32 (token ∷ tokens) ≡ token ++ 32 ∷ join_with_byte 32 tokens
two_tokens token [] some = absurd (omega arith)
two_tokens token (next ∷ tokens) some = refl

-- the tokens before the rest are the call's, and the rest is the sign and the reply
ends : (text rest : List ℕ) (front : List (List ℕ)) (call : Call) (reply : Reply) → parts text ≡ front ++ parts rest
    → length front ≡ length (call_tokens call)
    → SpellsAnswered text call reply → (front ≡ call_tokens call)
    × (rest ≡ codes "= " ++ join_with_byte 32 (reply_tokens reply))
ends text rest front call reply e len h =
    let both = same_ends front (call_tokens call) (parts rest) (codes "=" ∷ reply_tokens reply) len (sym e
    ∙ answered_parts text call reply h) in (
      both.0,
      joined_parts rest (codes "=" ∷ reply_tokens reply) both.1
          ∙ two_tokens (codes "=") (reply_tokens reply) (some_tokens reply),
    )

pub no_sign : (text rest : List ℕ) (front : List (List ℕ)) → ((reply : List ℕ) → rest ≢ codes "= " ++ reply)
    → parts text ≡ front ++ parts rest
    → (call : Call) (reply : Reply) → length front ≡ length (call_tokens call) → SpellsAnswered text call reply → ⊥
no_sign text rest front none e call reply len h =
    none (join_with_byte 32 (reply_tokens reply)) (ends text rest front call reply e len h).1

pub cuts : (text rest body : List ℕ) (front : List (List ℕ)) → rest ≡ codes "= " ++ body
    → parts text ≡ front ++ parts rest
    → ((call : Call) (reply : Reply) → SpellsAnswered text call reply → length front ≡ length (call_tokens call))
    → CutsAt text front body
cuts text rest body front sign e len call reply = (there, back)
  where
    there : SpellsAnswered text call reply → SpellsEntryCall front call × SpellsEntryReply body reply
    there h =
        let both = ends text rest front call reply e (len call reply h) h in (
          (h.0, both.0),
          (
            h.1,
            append_cancel_left (codes "= ") body (join_with_byte 32 (reply_tokens reply)) (sym sign
                ∙ both.1),
          ),
        )

    back : SpellsEntryCall front call × SpellsEntryReply body reply → SpellsAnswered text call reply
    back h =
        let replies : parts body ≡ reply_tokens reply = ap parts h.1.1 ∙ cut_reply reply h.1.0.0 in
        let signs : parts rest ≡ codes "=" ∷ reply_tokens reply =
        ap parts sign ∙ slice_split_at (λ b. b == 32) (codes "=") 32 body
        (All-from_recursion (λ b. (b == 32) ≡ false) (codes "=") (refl, tt)) refl
        ∙ ap (λ (ts : List (List ℕ)). codes "=" ∷ ts) replies in (
          h.0.0,
          h.1.0,
          joined_parts text (call_tokens call ++ codes "=" ∷ reply_tokens reply) (e
              ∙ (λ i. h.0.1 i ++ signs i)),
        )

-- ---- reading

pub one_is : (tokens : List (Bor (List ℕ))) (d : Bor (List ℕ)) (name : List ℕ) → length tokens ≡ 1
    → (get_or tokens 0 d).now ≡ name → map (λ t. t.now) tokens ≡ name ∷ []
one_is (a ∷ []) d name h e = λ i. e i ∷ []
one_is tokens d name h e = absurd (omega arith)

-- a text spells one reply
same_text : (text : List ℕ) (some other : Reply) → SpellsReplyBody text some → SpellsReplyBody text other → some ≡ other
same_text text some other h k =
    same_reply some other h.0 k.0 (sym (cut_reply some h.0) ∙ ap parts (sym h.1 ∙ k.1) ∙ cut_reply other k.0)

-- a refusal that the tree doesn't give is no entry's reply
pub not_kept : (text : List ℕ) (errno : Errno) → SpellsReplyBody text (Refused errno) → 20 < errno_number errno
    → (reply : Reply) → SpellsEntryReply text reply → ⊥
not_kept text errno h more reply k =
    omega (arith, more, k.0.1 errno (same_text text reply (Refused errno) (k.0.0, k.1) h))

or_right : (a b : Bool) → b ≡ true → (a || b) ≡ true
or_right true b e = refl
or_right false b e = e

or_left : (a b : Bool) → a ≡ true → (a || b) ≡ true
or_left true b e = refl
or_left false b e = absurd (false≢true e)

-- the tokens spell the call, and the text the reply
abbrev pub SpellsBoth : List (List ℕ) → List ℕ → Call × Reply → Type 0
SpellsBoth tokens text v = SpellsEntryCall tokens v.0 × SpellsEntryReply text v.1

abbrev pub holds : Call × Reply → Type 0
holds v = (holds_text v.0 || tells_text v.1) ≡ true

pub both_read : (tokens : List (List ℕ)) (text : List ℕ) (call : Call) (r : Result Reply Errno)
    (s : Result (Call × Reply) Errno) → MatchResult r (λ reply. s ≡ Ok (call, reply)) (λ e. s ≡ Err e)
    → SpellsEntryCall tokens call → ReadsBy (SpellsEntryReply text) (λ reply. tells_text reply ≡ true) r
    → ReadsBy (SpellsBoth tokens text) holds s
both_read tokens text call r s made h k =
    whole_reads (SpellsEntryReply text) (λ reply. tells_text reply ≡ true) (SpellsBoth tokens text) holds
    (λ reply. (call, reply))
    (λ v is. (v.1, is.1)) (λ reply is. (h, is)) (λ reply is takes. or_right (holds_text call) (tells_text reply) takes)
    r s made k

pub no_reply : (tokens : List (List ℕ)) (text : List ℕ)
    → ReadsBy (SpellsEntryReply text) (λ reply. tells_text reply ≡ true) (Err BadLine) → (v : Call × Reply)
    → SpellsBoth tokens text v → ⊥
no_reply tokens text (inl h) v is = h.1 v.1 is.1
no_reply tokens text (inr h) v is = absurd (not_starved h.0)
  where
    not_starved : BadLine ≡ NoMemory → ⊥
    not_starved e = cc

pub call_fails : (tokens : List (List ℕ)) (text : List ℕ) (e : Errno) (r : Result Reply Errno) → r ≢ Err BadLine
    → ReadsBy (SpellsEntryCall tokens) (λ call. holds_text call ≡ true) (Err e)
    → ReadsBy (SpellsEntryReply text) (λ reply. tells_text reply ≡ true) r
    → ReadsBy (SpellsBoth tokens text) holds (Err e)
call_fails tokens text e r other (inl h) k = inl (h.0, λ v is. h.1 v.0 is.0)
call_fails tokens text e (Ok reply) other (inr h) k =
    inr (h.0, (h.1, reply), (h.2, k), or_left (holds_text h.1) (tells_text reply) h.3)
call_fails tokens text e (Err d) other (inr h) (inl k) = absurd (other (ap (λ (x : Errno). Err x) k.0))
call_fails tokens text e (Err d) other (inr h) (inr k) =
    inr (h.0, (h.1, k.1), (h.2, k.2), or_left (holds_text h.1) (tells_text k.1) h.3)

pub cut_reads : (text : List ℕ) (tokens : List (List ℕ)) (rest : List ℕ) (r : Result (Call × Reply) Errno)
    → CutsAt text tokens rest → ReadsBy (SpellsBoth tokens rest) holds r
    → ReadsBy (λ (v : Call × Reply). SpellsAnswered text v.0 v.1) holds r
cut_reads text tokens rest r at h =
    whole_reads (SpellsBoth tokens rest) holds (λ (v : Call × Reply). SpellsAnswered text v.0 v.1) holds (λ v. v)
    (λ v is. (v, (at v.0 v.1).0 is)) (λ v is. (at v.0 v.1).1 is) (λ v is takes. takes)
    r r (same_err r) h

-- ---- bodies

pub short_body : (body : List ℕ) → parts body ≡ body ∷ [] → (e : Entry) → SpellsEntryBody body e → ⊥
short_body body one e h = omega (arith, ap length one, ap length (entry_parts body e h), answered_length e.call e.reply)

pub no_client : (body token text : List ℕ) → parts body ≡ token ∷ parts text → ((n : ℕ) → SpellsNumber token n → ⊥)
    → (e : Entry) → SpellsEntryBody body e → ⊥
no_client body token text cuts none e h =
    let whole : token ∷ parts text ≡ decimal e.client ∷ (call_tokens e.call ++ codes "=" ∷ reply_tokens e.reply) =
    sym cuts ∙ entry_parts body e h in
    none e.client (h.0.0, cc)

pub entry_reads : (body token text : List ℕ) (client : ℕ) (r : Result (Call × Reply) Errno) (s : Result Entry Errno)
    → parts body ≡ token ∷ parts text → SpellsNumber token client
    → MatchResult r (λ v. s ≡ Ok (record { client = client; call = v.0; reply = v.1 })) (λ e. s ≡ Err e)
    → ReadsBy (λ (v : Call × Reply). SpellsAnswered text v.0 v.1) holds r
    → ReadsBy (SpellsEntryBody body) (λ e. entry_holds_text e ≡ true) s
entry_reads body token text client r s cuts n made h =
    whole_reads (λ (v : Call × Reply). SpellsAnswered text v.0 v.1) holds (SpellsEntryBody body)
    (λ (e : Entry). entry_holds_text e ≡ true) (λ v. record { client = client; call = v.0; reply = v.1 })
    (λ e is. ((e.call, e.reply), behind e is))
    (λ v is. ((n.0, is.0, is.1), joined_parts body _ (cuts ∙ (λ i. n.1 i ∷ answered_parts text v.0 v.1 is i))))
    (λ v is takes. takes)
    r s made h
  where
    behind : (e : Entry) → SpellsEntryBody body e → SpellsAnswered text e.call e.reply
    behind e is =
        let whole : token ∷ parts text ≡ decimal e.client ∷ (call_tokens e.call ++ codes "=" ∷ reply_tokens e.reply) =
        sym cuts ∙ entry_parts body e is in
        let same : parts text ≡ call_tokens e.call ++ codes "=" ∷ reply_tokens e.reply = cc in
        (is.0.1, is.0.2, joined_parts text (call_tokens e.call ++ codes "=" ∷ reply_tokens e.reply) same)

-- ---- lines

pub no_entry : (line : List ℕ) → ((body : List ℕ) → IsAscii body → line ≢ body ++ 10 ∷ []) → (e : Entry)
    → SpellsEntry line e → ⊥
no_entry line none e h = none (join_with_byte 32 (entry_tokens e))
    (body_is_ascii (entry_tokens e) (entry_is_tokens e h.is_entry)) h.text

body_of_line : (line body : List ℕ) (e : Entry) → line ≡ body ++ 10 ∷ [] → SpellsEntry line e → SpellsEntryBody body e
body_of_line line body e ends h =
    (h.is_entry, same_front body (join_with_byte 32 (entry_tokens e)) 10 10 (sym ends ∙ h.text))

pub line_reads : (line body : List ℕ) (r : Result Entry Errno) → length line ≤ 300000 → line ≡ body ++ 10 ∷ []
    → ReadsBy (SpellsEntryBody body) (λ e. entry_holds_text e ≡ true) r
    → ReadsBy (SpellsEntry line) (λ e. entry_holds_text e ≡ true) r
line_reads line body r short ends h =
    whole_reads (SpellsEntryBody body) (λ (e : Entry). entry_holds_text e ≡ true) (SpellsEntry line)
    (λ (e : Entry). entry_holds_text e ≡ true) (λ e. e)
    (λ e is. (e, body_of_line line body e ends is))
    (λ e is. record { is_entry = is.0; short = short; text = ends ∙ ap (λ (x : List ℕ). x ++ 10 ∷ []) is.1 })
    (λ e is takes. takes)
    r r (same_err r) h

-- ---- writing

join_append : (xs ys : List (List ℕ)) → 1 ≤ length xs → 1 ≤ length ys
    → join_with_byte 32 (xs ++ ys) ≡ join_with_byte 32 xs ++ 32 ∷ join_with_byte 32 ys
join_append [] ys h k = absurd (omega arith)
join_append (x ∷ []) ys h k = two_tokens x ys k
join_append (x ∷ y ∷ xs) ys h k =
    ap (λ (t : List ℕ). x ++ 32 ∷ t) (join_append (y ∷ xs) ys (omega arith) k)
    ∙ sym (append_assoc x (32 ∷ join_with_byte 32 (y ∷ xs)) (32 ∷ join_with_byte 32 ys))

-- a reply is written by itself, and then put behind a word
pub reply_behind : (word : List ℕ) (reply : Reply) (body text : List ℕ) → body ≡ join_with_byte 32 (reply_tokens reply)
    → text ≡ line_of (word ∷ body ∷ []) → text ≡ line_of (word ∷ reply_tokens reply)
reply_behind word reply body text e h =
    let whole = ap (λ (t : List ℕ). word ++ 32 ∷ t) e
    ∙ sym (two_tokens word (reply_tokens reply) (some_tokens reply)) in
    h ∙ ap (λ (x : List ℕ). x ++ 10 ∷ []) whole

-- the same of a client's name and a call
pub call_behind : (client : ℕ) (call : Call) (name body text : List ℕ) → name ≡ 64 ∷ decimal client
    → body ≡ join_with_byte 32 (call_tokens call)
    → text ≡ line_of (name ∷ body ∷ []) → text ≡ line_of ((64 ∷ decimal client) ∷ call_tokens call)
call_behind client call name body text n e h =
    let whole = (λ i. n i ++ 32 ∷ e i)
    ∙ sym (two_tokens (64 ∷ decimal client) (call_tokens call) (few_tokens call).0) in
    h ∙ ap (λ (x : List ℕ). x ++ 10 ∷ []) whole

-- the call and the reply are written by themselves, and then joined
pub entry_is : (e : Entry) (client call reply text : List ℕ) → client ≡ decimal e.client
    → call ≡ join_with_byte 32 (call_tokens e.call) → reply ≡ join_with_byte 32 (reply_tokens e.reply)
    → text ≡ line_of (client ∷ call ∷ codes "=" ∷ reply ∷ []) → text ≡ entry_line e
entry_is e client call reply text n c r h =
    let rest = ap (λ (t : List ℕ). codes "=" ++ 32 ∷ t) r
    ∙ sym (two_tokens (codes "=") (reply_tokens e.reply) (some_tokens e.reply)) in
    let behind = (λ i. c i ++ 32 ∷ rest i)
    ∙ sym (join_append (call_tokens e.call) (codes "=" ∷ reply_tokens e.reply) (few_tokens e.call).0 (omega arith))
    in
    let whole = (λ i. n i ++ 32 ∷ behind i)
    ∙ sym (two_tokens (decimal e.client) (call_tokens e.call ++ codes "=" ∷ reply_tokens e.reply)
    (omega (arith, answered_length e.call e.reply))) in
    h ∙ ap (λ (x : List ℕ). x ++ 10 ∷ []) whole

-- ---- one entry

not_connect : (call : Call) → IsCall call → call_tokens call ≡ codes "connect" ∷ [] → ⊥
not_connect calls.Connect h e = h
not_connect call h e = false≢true (ap (first_is (codes "connect")) e)

same_entry_call : (some other : Call) → IsEntryCall some → IsEntryCall other → call_tokens some ≡ call_tokens other
    → some ≡ other
same_entry_call some other (inl h) (inl k) e = same_call some other h k e
same_entry_call some other (inl h) (inr k) e = absurd (not_connect some h (e ∙ ap call_tokens k))
same_entry_call some other (inr h) (inl k) e = absurd (not_connect other k (sym e ∙ ap call_tokens h))
same_entry_call some other (inr h) (inr k) e = h ∙ sym k

pub spells_one_entry : (line : List ℕ) (entry other : Entry) → SpellsEntry line entry → SpellsEntry line other
    → entry ≡ other
spells_one_entry line entry other h k =
    let body = join_with_byte 32 (entry_tokens entry) in
    let same : entry_tokens entry ≡ entry_tokens other =
    sym (entry_parts body entry (h.is_entry, refl))
    ∙ entry_parts body other (body_of_line line body other h.text k) in
    let numbers : decimal entry.client ≡ decimal other.client = cc in
    let rests : call_tokens entry.call ++ codes "=" ∷ reply_tokens entry.reply ≡ call_tokens other.call ++ codes "="
    ∷ reply_tokens other.reply = cc in
    let both = same_ends (call_tokens entry.call) (call_tokens other.call) (codes "=" ∷ reply_tokens entry.reply)
    (codes "=" ∷ reply_tokens other.reply) (same_length entry.call other.call _ _ rests) rests in
    let texts : reply_tokens entry.reply ≡ reply_tokens other.reply = (let signs = both.1 in cc) in
    let clients = decimal_injective entry.client other.client h.is_entry.0 k.is_entry.0 numbers in
    let called = same_entry_call entry.call other.call h.is_entry.1 k.is_entry.1 both.0 in
    let replies = same_reply entry.reply other.reply h.is_entry.2.0 k.is_entry.2.0 texts in
    λ i. record { client = clients i; call = called i; reply = replies i }
