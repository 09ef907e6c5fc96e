-- What reading a reply's parts tells of the reply.
use Rattle.std.proofs.Common.{◌≡◌, ◌≢◌, ℕ, ◌^◌, ◌<◌, ◌≤◌, Bool, true, false, ◌&&◌, List, [], ◌∷◌, ◌++◌, length, map}
use Rattle.std.proofs.Common.{get_or, codes, Option, Some, None, Result, Ok, Err, Bor, ◌⊎◌, inl, inr, refl, ap, sym}
use Rattle.std.proofs.Common.{subst, ◌∙◌, arith}
use Rattle.std.specs.Prelude.{◌==◌, ⊤}
use Rattle.std.specs.Option.{MatchOption, IsSomeAnd}
use Rattle.std.specs.Result.{MatchResult}
use Rattle.std.specs.List.{slice_split, join_with_byte}
use Rattle.std.specs.Fmt.{decimal}
use Rattle.std.specs.Str.{IsAscii}
use Rattle.std.specs.Str.Pattern.{StripsPrefix, FindsTextPrefix}
use Rattle.std.proofs.lemmas.Bool.{false≢true}
use Rattle.std.proofs.lemmas.Fmt.{decimal_injective}
use Rattle.std.proofs.lemmas.List.{append_cancel_left}
use Rattle.std.proofs.lemmas.List.Splits.{join_with_byte-slice_split}
use Rattle.ll_rights.specs.declared.errno.Errno.{Errno}
use Rattle.ll_rights.specs.Errno.{errno_number, errno_text}
use Rattle.ll_rights.specs.Kind.{kind_text}
use Rattle.ll_rights.specs.Right.{right_text}
use Rattle.ll_decide.specs.Denial.{cause_errno, place_text}
use Rattle.ll_decide.specs.declared.denial.Denial.{Denial}
use Rattle.ll_decide.specs.declared.denial.Place.{Place}
use Rattle.ll_seq.specs.declared.reply.Reply.{Reply}
use Rattle.ll_seq.specs.declared.reply.Status.{Status}
use Rattle.ll_seq.specs.declared.reply.Reply.TheVariants.{Done, Opened, Bytes, Wrote, Listed, Found, Created, Spawned}
use Rattle.ll_seq.specs.declared.reply.Reply.TheVariants.{Refused, Denied}
use Rattle.ll_wire.specs.Grammar.{reply_tokens, SpellsReply}
use Rattle.ll_wire.specs.Parts.{Reads, SpellsNumber, SpellsData, SpellsNames, SpellsOneNumber, SpellsReplyTokens}
use Rattle.ll_wire.specs.Parts.{SpellsReplyBody}
use Rattle.ll_wire.specs.Reads.{ReadsBy, Finds, tells_text}
use Rattle.ll_wire.proofs.FirstTokens.{whole_reads, same_err}
use Rattle.ll_wire.proofs.Lines.{same_front}
use Rattle.ll_wire.proofs.NamesInOrder.{named}
use Rattle.ll_wire.proofs.OneReply.{IsOfNumber, same_errno, reply_is_tokens, cut_reply}
use Rattle.ll_wire.proofs.Tokens.{body_is_ascii}

-- where a part is found, the whole that is made of it is
pub whole_finds : {V W : Type 0} (P : V → Type 0) (Q : W → Type 0) (make : V → W) → ((w : W) → Q w → (v : V) × P v)
    → ((v : V) → P v → Q (make v))
    → (r : Option V) (s : Option W) → MatchOption r (s ≡ None) (λ v. s ≡ Some (make v)) → Finds P r → Finds Q s
whole_finds P Q make part whole None s e h = rw e (λ w is. let v = part w is in h v.0 v.1)
whole_finds P Q make part whole (Some v) s e h = rw e (whole v h)

-- an option is mapped by a constructor
pub mapped_some : {V W : Type 0} (make : V → W) (r : Option V) (s : Option W)
    → MatchOption r (s ≡ None) (λ v. IsSomeAnd s (λ w. w ≡ make v))
    → MatchOption r (s ≡ None) (λ v. s ≡ Some (make v))
mapped_some make None s h = h
mapped_some make (Some v) (Some w) h = ap Some h
mapped_some make (Some v) None h = absurd h

-- a reply that takes no memory to be read
abbrev pub SpellsShort : List (List ℕ) → Reply → Type 0
SpellsShort tokens reply = SpellsReplyTokens tokens reply × (tells_text reply ≡ false)

pub number_finds : (name : List ℕ) (make : ℕ → Reply) → IsOfNumber name make
    → ((number : ℕ) → number < 2 ^ 64 → SpellsShort (name ∷ decimal number ∷ []) (make number))
    → (tokens args : List (List ℕ)) (r : Option ℕ) (s : Option Reply) → tokens ≡ name ∷ args
    → MatchOption r (s ≡ None) (λ number. s ≡ Some (make number))
    → Finds (SpellsOneNumber args) r → Finds (SpellsShort tokens) s
number_finds name make is own tokens args r s parts made h =
    whole_finds (SpellsOneNumber args) (SpellsShort tokens) make
    (λ reply k. let o = is args reply (k.0.0, sym parts ∙ k.0.1) in (o.0, (o.1, o.2)))
    (λ number k. let spelled = own number k.0
    in ((spelled.0.0, parts ∙ ap (λ (x : List (List ℕ)). name ∷ x) k.1 ∙ spelled.0.1), spelled.1))
    r s made h

pub value_finds : {V : Type 0} (name : List ℕ) (make : V → Reply)
    → ((args : List (List ℕ)) (reply : Reply) → SpellsReplyTokens (name ∷ args) reply → (v : V) × (reply ≡ make v))
    → ((v : V) → tells_text (make v) ≡ false) → (tokens args : List (List ℕ)) (r : Option V) (s : Option Reply)
    → tokens ≡ name ∷ args
    → MatchOption r (s ≡ None) (λ v. s ≡ Some (make v)) → Finds (λ v. SpellsReplyTokens (name ∷ args) (make v)) r
    → Finds (SpellsShort tokens) s
value_finds {V} name make is short tokens args r s parts made h =
    whole_finds (λ (v : V). SpellsReplyTokens (name ∷ args) (make v)) (SpellsShort tokens) make
    (λ reply k. let own : SpellsReplyTokens (name ∷ args) reply = (k.0.0, sym parts ∙ k.0.1)
    in let o = is args reply own in (o.0, subst (SpellsReplyTokens (name ∷ args)) o.1 own))
    (λ v k. ((k.0, parts ∙ k.1), short v))
    r s made h

-- ---- bodies

-- behind the text that a text starts with
pub stripped : (front body rest : List ℕ) → StripsPrefix (FindsTextPrefix front) body rest → body ≡ front ++ rest
stripped front body rest h = h.1.1 ∙ ap (λ (x : List ℕ). front ++ x) (sym h.2)

-- whether the text begins with the two bytes
abbrev pub begins : ℕ → ℕ → List ℕ → Bool
begins a b [] = false
begins a b (x ∷ []) = false
begins a b (x ∷ y ∷ text) = (x == a) && (y == b)

listed_body : (text : List ℕ) (reply : Reply) → SpellsReplyBody (codes "names" ++ text) reply → (names : List (List ℕ))
    × SpellsNames text names × (reply ≡ Listed names)
listed_body text (Listed names) h = (names, (h.0, append_cancel_left (codes "names") _ _ (h.1 ∙ named names)), refl)
listed_body text reply h = absurd (false≢true (sym (ap (begins 110 97) h.1)))

data_body : (text : List ℕ) (reply : Reply) → SpellsReplyBody (codes "data " ++ text) reply → (bytes : List ℕ)
    × SpellsData text bytes × (reply ≡ Bytes bytes)
data_body text (Bytes bytes) h = (bytes, (h.0, append_cancel_left (codes "data ") _ _ h.1), refl)
data_body text (Listed names) h = absurd (false≢true (sym (ap (begins 100 97) (h.1 ∙ named names))))
data_body text reply h = absurd (false≢true (sym (ap (begins 100 97) h.1)))

pub listed_reads : (body text : List ℕ) (r : Result (List (List ℕ)) Errno) (s : Result Reply Errno)
    → body ≡ codes "names" ++ text → MatchResult r (λ names. s ≡ Ok (Listed names)) (λ e. s ≡ Err e)
    → Reads (SpellsNames text) r → ReadsBy (SpellsReplyBody body) (λ reply. tells_text reply ≡ true) s
listed_reads body text r s starts made h =
    whole_reads (SpellsNames text) (λ _. ⊤) (SpellsReplyBody body) (λ reply. tells_text reply ≡ true) Listed
    (λ reply k. let o = listed_body text reply (k.0, sym starts ∙ k.1) in (o.0, o.1))
    (λ names k. (k.0, starts ∙ ap (λ (x : List ℕ). codes "names" ++ x) k.1 ∙ sym (named names)))
    (λ names k t. refl)
    r s made h

pub data_reads : (body text : List ℕ) (r : Result (List ℕ) Errno) (s : Result Reply Errno)
    → body ≡ codes "data " ++ text → MatchResult r (λ bytes. s ≡ Ok (Bytes bytes)) (λ e. s ≡ Err e)
    → Reads (SpellsData text) r → ReadsBy (SpellsReplyBody body) (λ reply. tells_text reply ≡ true) s
data_reads body text r s starts made h =
    whole_reads (SpellsData text) (λ _. ⊤) (SpellsReplyBody body) (λ reply. tells_text reply ≡ true) Bytes
    (λ reply k. let o = data_body text reply (k.0, sym starts ∙ k.1) in (o.0, o.1))
    (λ bytes k. (k.0, starts ∙ ap (λ (x : List ℕ). codes "data " ++ x) k.1))
    (λ bytes k t. refl)
    r s made h

no_text : (body : List ℕ) (reply : Reply) → ((rest : List ℕ) → body ≢ codes "names" ++ rest)
    → ((rest : List ℕ) → body ≢ codes "data " ++ rest) → SpellsReplyBody body reply → tells_text reply ≡ false
no_text body Done no_names no_data h = refl
no_text body (Opened number) no_names no_data h = refl
no_text body (Bytes bytes) no_names no_data h = absurd (no_data _ h.1)
no_text body (Wrote count) no_names no_data h = refl
no_text body (Listed names) no_names no_data h = absurd (no_names _ (h.1 ∙ named names))
no_text body (Found s) no_names no_data h = refl
no_text body (Created number) no_names no_data h = refl
no_text body (Spawned number) no_names no_data h = refl
no_text body (Refused errno) no_names no_data h = refl
no_text body (Denied d) no_names no_data h = refl

few : (reply : Reply) → tells_text reply ≡ false → length (reply_tokens reply) ≤ 6
few Done h = omega arith
few (Opened number) h = omega arith
few (Bytes bytes) h = absurd (false≢true (sym h))
few (Wrote count) h = omega arith
few (Listed names) h = absurd (false≢true (sym h))
few (Found s) h = omega arith
few (Created number) h = omega arith
few (Spawned number) h = omega arith
few (Refused errno) h = omega arith
few (Denied d) h = omega arith

-- what stands between the spaces are the reply's tokens
tokens_of : (body : List ℕ) (reply : Reply) → SpellsReplyBody body reply
    → slice_split (λ b. b == 32) body ≡ reply_tokens reply
tokens_of body reply h = ap (slice_split (λ b. b == 32)) h.1 ∙ cut_reply reply h.0

pub too_many : (body : List ℕ) → ((rest : List ℕ) → body ≢ codes "names" ++ rest)
    → ((rest : List ℕ) → body ≢ codes "data " ++ rest) → 6 < length (slice_split (λ b. b == 32) body)
    → (reply : Reply) → SpellsReplyBody body reply → ⊥
too_many body no_names no_data more reply h =
    omega (arith, ap length (tokens_of body reply h), few reply (no_text body reply no_names no_data h))

pub none_short : (body : List ℕ) (tokens : List (List ℕ)) → ((rest : List ℕ) → body ≢ codes "names" ++ rest)
    → ((rest : List ℕ) → body ≢ codes "data " ++ rest) → tokens ≡ slice_split (λ b. b == 32) body
    → ((reply : Reply) → SpellsShort tokens reply → ⊥) → (reply : Reply) → SpellsReplyBody body reply → ⊥
none_short body tokens no_names no_data t none reply h =
    none reply ((h.0, t ∙ tokens_of body reply h), no_text body reply no_names no_data h)

pub short_spells : (body : List ℕ) (tokens : List (List ℕ)) (reply : Reply) → tokens ≡ slice_split (λ b. b == 32) body
    → SpellsShort tokens reply → SpellsReplyBody body reply
short_spells body tokens reply t h =
    (h.0.0, sym (join_with_byte-slice_split 32 body) ∙ ap (join_with_byte 32) (sym t ∙ h.0.1))

-- ---- lines

pub no_reply : (line : List ℕ) → ((body : List ℕ) → IsAscii body → line ≢ body ++ 10 ∷ []) → (reply : Reply)
    → SpellsReply line reply → ⊥
no_reply line none reply h = none (join_with_byte 32 (reply_tokens reply))
    (body_is_ascii (reply_tokens reply) (reply_is_tokens reply h.0)) h.1

pub line_reads : (line body : List ℕ) (r : Result Reply Errno) → line ≡ body ++ 10 ∷ []
    → ReadsBy (SpellsReplyBody body) (λ reply. tells_text reply ≡ true) r
    → ReadsBy (SpellsReply line) (λ reply. tells_text reply ≡ true) r
line_reads line body r e h = whole_reads (SpellsReplyBody body) (λ reply. tells_text reply ≡ true) (SpellsReply line)
    (λ reply. tells_text reply ≡ true) (λ reply. reply)
    (λ reply k. (reply, (k.0, same_front body (join_with_byte 32 (reply_tokens reply)) 10 10 (sym e ∙ k.1))))
    (λ reply k. (k.0, e ∙ ap (λ (x : List ℕ). x ++ 10 ∷ []) k.1)) (λ reply k t. t)
    r r (same_err r) h

-- ---- refusals and denials

pub refused_fails : (args : List (List ℕ)) (word name : List ℕ) (number : ℕ) (errno : Errno) → args ≡ word ∷ name ∷ []
    → SpellsNumber word number → name ≡ errno_text errno
    → (number ≢ errno_number errno) ⊎ (number < 3) ⊎ (23 < number) → (v : Errno)
    → SpellsReplyTokens (codes "refused" ∷ args) (Refused v) → ⊥
refused_fails args word name number errno parts n text fault v h =
    let words : word ∷ name ∷ [] ≡ decimal (errno_number v) ∷ errno_text v ∷ [] = sym parts ∙ cc in
    let numbers : number ≡ errno_number v = decimal_injective number (errno_number v) n.0 (omega (arith, h.0.1)) cc in
    let same : errno_number errno ≡ errno_number v = ap errno_number (same_errno errno v cc) in
    elim fault [
      | inl other ↦ other (numbers ∙ sym same)
      | inr (inl low) ↦ omega (arith, h.0.0)
      | inr (inr high) ↦ omega (arith, h.0.1)
    ]

pub no_right : (args : List (List ℕ)) (word : List ℕ) → word ≡ get_or args 3 []
    → ((right : ℕ) → right < 15 → word ≢ right_text right)
    → (d : Denial) → SpellsReplyTokens (codes "denied" ∷ args) (Denied d) → ⊥
no_right args word at none d h = none d.right h.0.1 (at ∙ ap (λ (tokens : List (List ℕ)). get_or tokens 4 []) h.1)

pub no_place : (args : List (List ℕ)) (word : List ℕ) → word ≡ get_or args 4 []
    → ((place : Place) → word ≢ place_text place)
    → (d : Denial) → SpellsReplyTokens (codes "denied" ∷ args) (Denied d) → ⊥
no_place args word at none d h = none d.place (at ∙ ap (λ (tokens : List (List ℕ)). get_or tokens 5 []) h.1)

pub four : (args : List (Bor (List ℕ))) (d : Bor (List ℕ)) → length args ≡ 4
    → map (λ t. t.now) args ≡ (get_or args 0 d).now ∷ (get_or args 1 d).now ∷ (get_or args 2 d).now
    ∷ (get_or args 3 d).now ∷ []
four (a ∷ b ∷ c ∷ e ∷ []) d h = refl
four args d h = absurd (omega arith)

pub found : (args : List (List ℕ)) (inode kind size links : List ℕ) (s : Status)
    → args ≡ inode ∷ kind ∷ size ∷ links ∷ []
    → SpellsNumber inode s.inode → kind ≡ kind_text s.kind → SpellsNumber size s.size → SpellsNumber links s.links
    → SpellsReplyTokens (codes "stat" ∷ args) (Found s)
found args inode kind size links s parts i k n l = (
  (i.0, n.0, l.0),
  ap (λ (tokens : List (List ℕ)). codes "stat" ∷ tokens) (parts
      ∙ (λ j. i.1 j ∷ k j ∷ n.1 j ∷ l.1 j ∷ [])),
)

pub five : (args : List (Bor (List ℕ))) (d : Bor (List ℕ)) → length args ≡ 5
    → map (λ t. t.now) args ≡ (get_or args 0 d).now ∷ (get_or args 1 d).now ∷ (get_or args 2 d).now
    ∷ (get_or args 3 d).now ∷ (get_or args 4 d).now ∷ []
five (a ∷ b ∷ c ∷ e ∷ f ∷ []) d h = refl
five args d h = absurd (omega arith)

pub denied : (args : List (List ℕ)) (errno word layer right place : List ℕ) (d : Denial)
    → args ≡ errno ∷ word ∷ layer ∷ right ∷ place ∷ []
    → errno ≡ errno_text (cause_errno d.cause) → word ≡ codes "layer" → SpellsNumber layer d.layer → d.right < 15
    → right ≡ right_text d.right → place ≡ place_text d.place
    → SpellsReplyTokens (codes "denied" ∷ args) (Denied d)
denied args errno word layer right place d parts e w n known r p = (
  (n.0, known),
  ap (λ (tokens : List (List ℕ)). codes "denied" ∷ tokens) (parts
      ∙ (λ i. e i ∷ w i ∷ n.1 i ∷ r i ∷ p i ∷ [])),
)
