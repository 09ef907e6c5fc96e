-- A line spells one reply.
use Rattle.std.proofs.Common.{◌≡◌, ◌≢◌, ℕ, ◌^◌, ◌<◌, ◌≤◌, true, List, [], ◌∷◌, length, codes, refl, ap, sym, subst, ◌∙◌}
use Rattle.std.proofs.Common.{arith}
use Rattle.std.specs.Prelude.{◌==◌, if◌then◌else◌, slice_index_or}
use Rattle.std.specs.Str.{bytes_eq}
use Rattle.std.specs.List.{AllByRecursion, join_with_byte, position_or_len, slice_split}
use Rattle.std.specs.Fmt.{decimal}
use Rattle.std.proofs.lemmas.Bool.{agree_below_at, false≢true}
use Rattle.std.proofs.lemmas.Fmt.{decimal_injective}
use Rattle.ll_rights.specs.declared.errno.Errno.{Errno}
use Rattle.ll_rights.specs.declared.errno.Errno.TheVariants as errnos
use Rattle.ll_rights.specs.Errno.{errno_number, errno_text}
use Rattle.ll_rights.specs.Kind.{kind_text}
use Rattle.ll_rights.specs.Right.{right_text}
use Rattle.ll_path.specs.Name.{IsName}
use Rattle.ll_path.specs.Word.{IsVisible}
use Rattle.ll_decide.specs.Denial.{cause_errno, place_text}
use Rattle.ll_decide.specs.declared.denial.Cause.{Cause}
use Rattle.ll_decide.specs.declared.denial.Cause.TheVariants as causes
use Rattle.ll_decide.specs.declared.denial.Place.{Place}
use Rattle.ll_decide.specs.declared.denial.Place.TheVariants as places
use Rattle.ll_decide.specs.declared.denial.Denial.{Denial}
use Rattle.ll_seq.specs.Listed.{IsData, AreListed}
use Rattle.ll_seq.specs.declared.reply.Status.{Status}
use Rattle.ll_seq.specs.declared.reply.Reply.{Reply}
use Rattle.ll_seq.specs.declared.reply.Reply.TheVariants.{Done, Opened, Bytes, Wrote, Listed, Found, Created, Spawned}
use Rattle.ll_seq.specs.declared.reply.Reply.TheVariants.{Refused, Denied}
use Rattle.ll_wire.specs.Grammar.{data_text, reply_tokens, IsReply, SpellsReply}
use Rattle.ll_wire.specs.Parts.{SpellsReplyTokens}
use Rattle.ll_wire.proofs.Tokens.{IsToken, visible, visible_is, number_token, kind_token, data_token}
use Rattle.ll_wire.proofs.FirstTokens.{first_is}
use Rattle.ll_wire.proofs.Digits.{same_data}
use Rattle.ll_wire.proofs.Lines.{same_front, cut}
use Rattle.ll_wire.proofs.Rights.{same_right}
use Rattle.ll_wire.proofs.Unique.{same_kind}

-- ---- the tokens of a reply

errno_visible : (errno : Errno) → visible (errno_text errno) ≡ true
errno_visible errnos.EACCES = refl
errno_visible errnos.EXDEV = refl
errno_visible errnos.ENOENT = refl
errno_visible errnos.EEXIST = refl
errno_visible errnos.ENOTDIR = refl
errno_visible errnos.EISDIR = refl
errno_visible errnos.ENOTEMPTY = refl
errno_visible errnos.EINVAL = refl
errno_visible errnos.EPERM = refl
errno_visible errnos.EBUSY = refl
errno_visible errnos.EBADF = refl
errno_visible errnos.EMFILE = refl
errno_visible errnos.ENOSPC = refl
errno_visible errnos.EMLINK = refl
errno_visible errnos.ENAMETOOLONG = refl
errno_visible errnos.EFBIG = refl
errno_visible errnos.ELOOP = refl
errno_visible errnos.ENXIO = refl
errno_visible errnos.E2BIG = refl
errno_visible errnos.ENOMSG = refl
errno_visible errnos.HistoryFull = refl
errno_visible errnos.NoMemory = refl
errno_visible errnos.BadLine = refl
errno_visible errnos.Stale = refl

pub errno_token : (errno : Errno) → IsToken (errno_text errno)
errno_token errno = visible_is (errno_text errno) (errno_visible errno)

pub right_token : (right : ℕ) → right < 15 → IsToken (right_text right)
right_token right known = visible_is (right_text right)
    (agree_below_at (λ k. visible (right_text k)) (λ _. true) 15 right refl known)

pub place_token : (place : Place) → IsToken (place_text place)
place_token places.At = visible_is (codes "at") refl
place_token places.Old = visible_is (codes "old") refl
place_token places.New = visible_is (codes "new") refl

bytes_token : (name : List ℕ) → AllByRecursion (λ b. IsVisible b × (b ≢ 47)) name → IsToken name
bytes_token [] h = tt
bytes_token (b ∷ name) h = (h.0.0, bytes_token name h.1)

pub names_tokens : (names : List (List ℕ)) → AllByRecursion IsName names → AllByRecursion IsToken names
names_tokens [] h = tt
names_tokens (name ∷ names) h = (bytes_token name h.0.2, names_tokens names h.1)

pub reply_is_tokens : (reply : Reply) → IsReply reply → AllByRecursion IsToken (reply_tokens reply)
reply_is_tokens Done h = (visible_is (codes "ok") refl, tt)
reply_is_tokens (Opened number) h = (visible_is (codes "fd") refl, (number_token number h, tt))
reply_is_tokens (Bytes bytes) h = (visible_is (codes "data") refl, (data_token bytes h, tt))
reply_is_tokens (Wrote count) h = (visible_is (codes "wrote") refl, (number_token count h, tt))
reply_is_tokens (Listed names) h = (visible_is (codes "names") refl, names_tokens names h.0)
reply_is_tokens (Found s) h = (
  visible_is (codes "stat") refl,
  (number_token s.inode h.0, (kind_token s.kind, (number_token s.size h.1, (number_token s.links h.2, tt)))),
)
reply_is_tokens (Created number) h = (visible_is (codes "ruleset") refl, (number_token number h, tt))
reply_is_tokens (Spawned number) h = (visible_is (codes "client") refl, (number_token number h, tt))
reply_is_tokens (Refused errno) h = (
  visible_is (codes "refused") refl,
  (number_token (errno_number errno) (omega (arith, h.1)), (errno_token errno, tt)),
)
reply_is_tokens (Denied d) h = (
  visible_is (codes "denied") refl,
  (
    errno_token (cause_errno d.cause),
    (
      visible_is (codes "layer") refl,
      (number_token d.layer h.0, (right_token d.right h.1, (place_token d.place, tt))),
    ),
  ),
)

-- ---- each word

abbrev all_errnos : List Errno
all_errnos = errnos.EACCES ∷ errnos.EXDEV ∷ errnos.ENOENT ∷ errnos.EEXIST ∷ errnos.ENOTDIR ∷ errnos.EISDIR
    ∷ errnos.ENOTEMPTY ∷ errnos.EINVAL ∷ errnos.EPERM ∷ errnos.EBUSY ∷ errnos.EBADF ∷ errnos.EMFILE ∷ errnos.ENOSPC
    ∷ errnos.EMLINK ∷ errnos.ENAMETOOLONG ∷ errnos.EFBIG ∷ errnos.ELOOP ∷ errnos.ENXIO ∷ errnos.E2BIG ∷ errnos.ENOMSG
    ∷ errnos.HistoryFull ∷ errnos.NoMemory ∷ errnos.BadLine ∷ errnos.Stale ∷ []

errno_of : List ℕ → Errno
errno_of text = slice_index_or all_errnos (position_or_len (λ errno. bytes_eq (errno_text errno) text) all_errnos)
    errnos.Stale

errno_of_text : (errno : Errno) → errno_of (errno_text errno) ≡ errno
unfolding errno_of
errno_of_text errnos.EACCES = refl
errno_of_text errnos.EXDEV = refl
errno_of_text errnos.ENOENT = refl
errno_of_text errnos.EEXIST = refl
errno_of_text errnos.ENOTDIR = refl
errno_of_text errnos.EISDIR = refl
errno_of_text errnos.ENOTEMPTY = refl
errno_of_text errnos.EINVAL = refl
errno_of_text errnos.EPERM = refl
errno_of_text errnos.EBUSY = refl
errno_of_text errnos.EBADF = refl
errno_of_text errnos.EMFILE = refl
errno_of_text errnos.ENOSPC = refl
errno_of_text errnos.EMLINK = refl
errno_of_text errnos.ENAMETOOLONG = refl
errno_of_text errnos.EFBIG = refl
errno_of_text errnos.ELOOP = refl
errno_of_text errnos.ENXIO = refl
errno_of_text errnos.E2BIG = refl
errno_of_text errnos.ENOMSG = refl
errno_of_text errnos.HistoryFull = refl
errno_of_text errnos.NoMemory = refl
errno_of_text errnos.BadLine = refl
errno_of_text errnos.Stale = refl

pub same_errno : (some other : Errno) → errno_text some ≡ errno_text other → some ≡ other
same_errno some other e = sym (errno_of_text some) ∙ ap errno_of e ∙ errno_of_text other

abbrev cause_of : List ℕ → Cause
cause_of text = if bytes_eq text (codes "EACCES") then causes.EACCES else causes.EXDEV

cause_of_text : (cause : Cause) → cause_of (errno_text (cause_errno cause)) ≡ cause
cause_of_text causes.EACCES = refl
cause_of_text causes.EXDEV = refl

same_cause : (some other : Cause) → errno_text (cause_errno some) ≡ errno_text (cause_errno other) → some ≡ other
same_cause some other e = sym (cause_of_text some) ∙ ap cause_of e ∙ cause_of_text other

abbrev place_of : List ℕ → Place
place_of text = if bytes_eq text (codes "at") then places.At else if bytes_eq text (codes "old") then places.Old else
    places.New

place_of_text : (place : Place) → place_of (place_text place) ≡ place
place_of_text places.At = refl
place_of_text places.Old = refl
place_of_text places.New = refl

same_place : (some other : Place) → place_text some ≡ place_text other → some ≡ other
same_place some other e = sym (place_of_text some) ∙ ap place_of e ∙ place_of_text other

-- ---- what a reply is whose first token is known

pub done_is : (args : List (List ℕ)) (reply : Reply) → SpellsReplyTokens (codes "ok" ∷ args) reply → (args ≡ [])
    × (reply ≡ Done)
done_is args Done h = (cc, refl)
done_is args reply h = absurd (false≢true (sym (ap (first_is (codes "ok")) h.1)))

-- the reply of this name is that of a number alone
abbrev pub IsOfNumber : List ℕ → (ℕ → Reply) → Type 0
IsOfNumber name make = (args : List (List ℕ)) (reply : Reply) → SpellsReplyTokens (name ∷ args) reply
    → (number : ℕ) × (number < 2 ^ 64) × (args ≡ decimal number ∷ []) × (reply ≡ make number)

pub opened_is : IsOfNumber (codes "fd") Opened
opened_is args (Opened number) h = (number, h.0, cc, refl)
opened_is args reply h = absurd (false≢true (sym (ap (first_is (codes "fd")) h.1)))

pub wrote_is : IsOfNumber (codes "wrote") Wrote
wrote_is args (Wrote number) h = (number, h.0, cc, refl)
wrote_is args reply h = absurd (false≢true (sym (ap (first_is (codes "wrote")) h.1)))

pub created_is : IsOfNumber (codes "ruleset") Created
created_is args (Created number) h = (number, h.0, cc, refl)
created_is args reply h = absurd (false≢true (sym (ap (first_is (codes "ruleset")) h.1)))

pub spawned_is : IsOfNumber (codes "client") Spawned
spawned_is args (Spawned number) h = (number, h.0, cc, refl)
spawned_is args reply h = absurd (false≢true (sym (ap (first_is (codes "client")) h.1)))

pub bytes_is : (args : List (List ℕ)) (reply : Reply) → SpellsReplyTokens (codes "data" ∷ args) reply
    → (bytes : List ℕ) × IsData bytes × (args ≡ data_text bytes ∷ []) × (reply ≡ Bytes bytes)
bytes_is args (Bytes bytes) h = (bytes, h.0, cc, refl)
bytes_is args reply h = absurd (false≢true (sym (ap (first_is (codes "data")) h.1)))

pub listed_is : (args : List (List ℕ)) (reply : Reply) → SpellsReplyTokens (codes "names" ∷ args) reply → AreListed args
    × (reply ≡ Listed args)
listed_is args (Listed names) h = let same : names ≡ args = cc in (subst AreListed same h.0, ap Listed same)
listed_is args reply h = absurd (false≢true (sym (ap (first_is (codes "names")) h.1)))

pub found_is : (args : List (List ℕ)) (reply : Reply) → SpellsReplyTokens (codes "stat" ∷ args) reply
    → (s : Status) × IsReply (Found s)
    × (args ≡ decimal s.inode ∷ kind_text s.kind ∷ decimal s.size ∷ decimal s.links ∷ []) × (reply ≡ Found s)
found_is args (Found s) h = (s, h.0, cc, refl)
found_is args reply h = absurd (false≢true (sym (ap (first_is (codes "stat")) h.1)))

pub refused_is : (args : List (List ℕ)) (reply : Reply) → SpellsReplyTokens (codes "refused" ∷ args) reply
    → (errno : Errno) × IsReply (Refused errno) × (args ≡ decimal (errno_number errno) ∷ errno_text errno ∷ [])
    × (reply ≡ Refused errno)
refused_is args (Refused errno) h = (errno, h.0, cc, refl)
refused_is args reply h = absurd (false≢true (sym (ap (first_is (codes "refused")) h.1)))

pub denied_is : (args : List (List ℕ)) (reply : Reply) → SpellsReplyTokens (codes "denied" ∷ args) reply
    → (d : Denial) × IsReply (Denied d)
    × (args ≡ errno_text (cause_errno d.cause) ∷ codes "layer" ∷ decimal d.layer ∷ right_text d.right
    ∷ place_text d.place ∷ []) × (reply ≡ Denied d)
denied_is args (Denied d) h = (d, h.0, cc, refl)
denied_is args reply h = absurd (false≢true (sym (ap (first_is (codes "denied")) h.1)))

-- ---- replies

same_number_by : (name : List ℕ) (make : ℕ → Reply) → IsOfNumber name make → (number : ℕ) (other : Reply)
    → number < 2 ^ 64 → IsReply other
    → name ∷ decimal number ∷ [] ≡ reply_tokens other → make number ≡ other
same_number_by name make is number other h k e =
    let o = is (decimal number ∷ []) other (k, e) in
    ap make (decimal_injective number o.0 h o.1 cc) ∙ sym o.3

pub same_reply : (some other : Reply) → IsReply some → IsReply other → reply_tokens some ≡ reply_tokens other
    → some ≡ other
same_reply Done other h k e = sym (done_is [] other (k, e)).1
same_reply (Opened number) other h k e = same_number_by (codes "fd") Opened opened_is number other h k e
same_reply (Bytes bytes) other h k e =
    let o = bytes_is (data_text bytes ∷ []) other (k, e) in
    ap Bytes (same_data bytes o.0 h o.1 cc) ∙ sym o.3
same_reply (Wrote count) other h k e = same_number_by (codes "wrote") Wrote wrote_is count other h k e
same_reply (Listed names) other h k e = sym (listed_is names other (k, e)).1
same_reply (Found s) other h k e =
    let o = found_is (decimal s.inode ∷ kind_text s.kind ∷ decimal s.size ∷ decimal s.links ∷ []) other (k, e) in
    let inodes = decimal_injective s.inode o.0.inode h.0 o.1.0 cc in
    let kinds = same_kind s.kind o.0.kind cc in
    let sizes = decimal_injective s.size o.0.size h.1 o.1.1 cc in
    let counts = decimal_injective s.links o.0.links h.2 o.1.2 cc in
    (λ i. Found (record { inode = inodes i; kind = kinds i; size = sizes i; links = counts i })) ∙ sym o.3
same_reply (Created number) other h k e = same_number_by (codes "ruleset") Created created_is number other h k e
same_reply (Spawned number) other h k e = same_number_by (codes "client") Spawned spawned_is number other h k e
same_reply (Refused errno) other h k e =
    let o = refused_is (decimal (errno_number errno) ∷ errno_text errno ∷ []) other (k, e) in
    ap Refused (same_errno errno o.0 cc) ∙ sym o.3
same_reply (Denied d) other h k e =
    let o = denied_is (errno_text (cause_errno d.cause) ∷ codes "layer" ∷ decimal d.layer ∷ right_text d.right
    ∷ place_text d.place ∷ []) other (k, e) in
    let reasons = same_cause d.cause o.0.cause cc in
    let layers = decimal_injective d.layer o.0.layer h.0 o.1.0 cc in
    let rights = same_right d.right o.0.right h.1 o.1.1 cc in
    let stands = same_place d.place o.0.place cc in
    (λ i. Denied (record { cause = reasons i; layer = layers i; right = rights i; place = stands i })) ∙ sym o.3

pub some_tokens : (reply : Reply) → 1 ≤ length (reply_tokens reply)
some_tokens Done = omega arith
some_tokens (Opened number) = omega arith
some_tokens (Bytes bytes) = omega arith
some_tokens (Wrote count) = omega arith
some_tokens (Listed names) = omega arith
some_tokens (Found s) = omega arith
some_tokens (Created number) = omega arith
some_tokens (Spawned number) = omega arith
some_tokens (Refused errno) = omega arith
some_tokens (Denied d) = omega arith

pub cut_reply : (reply : Reply) → IsReply reply
    → slice_split (λ b. b == 32) (join_with_byte 32 (reply_tokens reply)) ≡ reply_tokens reply
cut_reply reply h = cut (reply_tokens reply) (some_tokens reply) (reply_is_tokens reply h)

pub spells_one_reply : (line : List ℕ) (reply other : Reply) → SpellsReply line reply → SpellsReply line other
    → reply ≡ other
spells_one_reply line reply other h k =
    let same = same_front (join_with_byte 32 (reply_tokens reply)) (join_with_byte 32 (reply_tokens other)) 10 10
    (sym h.1 ∙ k.1) in
    same_reply reply other h.0 k.0 (sym (cut_reply reply h.0) ∙ ap (slice_split (λ b. b == 32)) same
    ∙ cut_reply other k.0)
