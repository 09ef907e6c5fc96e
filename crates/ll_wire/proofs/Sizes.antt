-- How long the line of an entry is at most.
use Rattle.std.proofs.Common.{◌≡◌, ℕ, ◌+◌, ◌*◌, ◌^◌, ◌<◌, ◌≤◌, Bool, true, false, leb, List, [], ◌∷◌, ◌++◌, length}
use Rattle.std.proofs.Common.{codes, inl, inr, refl, sym, subst, arith, length-append}
use Rattle.std.specs.List.{AllByRecursion, join_with_byte}
use Rattle.std.specs.Fmt.{decimal}
use Rattle.std.specs.Char.{digit_char}
use Rattle.std.specs.Int.Digits.{digits_of}
use Rattle.std.proofs.lemmas.Bool.{leb-true, cases_lt, cases_Bool, agree_below_at}
use Rattle.std.proofs.lemmas.Fmt.{length-decimal-le}
use Rattle.std.proofs.lemmas.Int.Digits.{length-digits_of-le}
use Rattle.std.proofs.lemmas.List.{length-map}
use Rattle.hex.specs.Hex.{lower_digits}
use Rattle.hex.proofs.HexLemmas.{length-encode_with}
use Rattle.ll_rights.specs.declared.kind.Kind.{Kind}
use Rattle.ll_rights.specs.declared.kind.Kind.TheVariants as kinds
use Rattle.ll_rights.specs.declared.errno.Errno.{Errno}
use Rattle.ll_rights.specs.declared.errno.Errno.TheVariants as errnos
use Rattle.ll_rights.specs.Access.{holds, names_among, set_names, access_text}
use Rattle.ll_rights.specs.Errno.{errno_number, errno_text}
use Rattle.ll_rights.specs.Kind.{kind_text}
use Rattle.ll_rights.specs.Right.{right_text, all_rights}
use Rattle.ll_rights.proofs.RightNames.{names_yes, names_no, names_end, text_none, text_names, text_number}
use Rattle.ll_path.specs.Name.{IsName}
use Rattle.ll_decide.specs.Denial.{cause_errno, place_text}
use Rattle.ll_decide.specs.declared.denial.Place.{Place}
use Rattle.ll_decide.specs.declared.denial.Place.TheVariants as places
use Rattle.ll_seq.specs.declared.call.AccessMode.{AccessMode}
use Rattle.ll_seq.specs.declared.call.AccessMode.TheVariants as ways
use Rattle.ll_seq.specs.declared.call.Creation.{Creation}
use Rattle.ll_seq.specs.declared.call.Creation.TheVariants.{Never, IfMissing, Exclusive}
use Rattle.ll_seq.specs.declared.call.Mode.{Mode}
use Rattle.ll_seq.specs.declared.call.Call.{Call}
use Rattle.ll_seq.specs.declared.call.Call.TheVariants as calls
use Rattle.ll_seq.specs.declared.reply.Reply.{Reply}
use Rattle.ll_seq.specs.declared.reply.Reply.TheVariants.{Done, Opened, Bytes, Wrote, Listed, Found, Created, Spawned}
use Rattle.ll_seq.specs.declared.reply.Reply.TheVariants.{Refused, Denied}
use Rattle.ll_seq.specs.declared.reply.Entry.{Entry}
use Rattle.ll_seq.specs.Listed.{IsData}
use Rattle.ll_wire.specs.Grammar.{way_text, truncate_text, creation_text, mode_text, data_text, call_tokens, IsCall}
use Rattle.ll_wire.specs.Grammar.{reply_tokens, IsReply}
use Rattle.ll_wire.specs.Entries.{IsEntryCall, IsEntry, entry_tokens, entry_line, SpellsEntry}

-- the bytes of the tokens, and one more for each
abbrev size : List (List ℕ) → ℕ
size [] = 0
size (token ∷ tokens) = length token + 1 + size tokens

size_append : (xs ys : List (List ℕ)) → size (xs ++ ys) ≡ size xs + size ys
size_append [] ys = omega arith
size_append (x ∷ xs) ys = omega (arith, size_append xs ys)

joined_size : (c : ℕ) (tokens : List (List ℕ)) → length (join_with_byte c tokens) ≤ size tokens
joined_size c [] = omega arith
joined_size c (x ∷ []) = omega arith
joined_size c (x ∷ y ∷ tokens) =
    omega (arith, length-append x (c ∷ join_with_byte c (y ∷ tokens)), joined_size c (y ∷ tokens))

-- ---- words

number_size : (n : ℕ) → n < 2 ^ 64 → length (decimal n) ≤ 20
number_size n h = length-decimal-le 20 n (omega arith) (omega (arith, h)) h

data_size : (bytes : List ℕ) → IsData bytes → length (data_text bytes) ≤ 8192
data_size [] h = omega arith
data_size (b ∷ bytes) h =
    let len : length (data_text (b ∷ bytes)) ≡ 2 * length (b ∷ bytes) = length-encode_with lower_digits (b ∷ bytes) in
    let short : length (b ∷ bytes) ≤ 4096 = h.1 in
    omega (arith, len, short)

kind_size : (kind : Kind) → length (kind_text kind) ≤ 5
kind_size kinds.Reg = omega arith
kind_size kinds.Dir = omega arith
kind_size kinds.Sym = omega arith
kind_size kinds.Fifo = omega arith
kind_size kinds.Sock = omega arith
kind_size kinds.Char = omega arith
kind_size kinds.Block = omega arith

way_size : (way : AccessMode) → length (way_text way) ≤ 2
way_size ways.Read = omega arith
way_size ways.Write = omega arith
way_size ways.ReadWrite = omega arith

truncate_size : (truncate : Bool) → length (truncate_text truncate) ≤ 1
truncate_size true = omega arith
truncate_size false = omega arith

creation_size : (creation : Creation) → length (creation_text creation) ≤ 2
creation_size Never = omega arith
creation_size IfMissing = omega arith
creation_size Exclusive = omega arith

mode_size : (mode : Mode) → length (mode_text mode) ≤ 5
mode_size mode = omega (
  arith,
  length-append (way_text mode.access ++ truncate_text mode.truncate) (creation_text mode.creation),
  length-append (way_text mode.access) (truncate_text mode.truncate),
  way_size mode.access,
  truncate_size mode.truncate,
  creation_size mode.creation,
)

abbrev names_size : List ℕ → ℕ
names_size [] = 0
names_size (right ∷ rights) = length (right_text right) + 1 + names_size rights

among_size : (rights : List ℕ) (set : ℕ) → size (names_among rights set) ≤ names_size rights
among_size [] set = rw (names_end set) (omega arith)
among_size (right ∷ rights) set = elim (cases_Bool (holds set right)) [
  | inl there ↦ rw (names_yes right rights set there) (omega (arith, among_size rights set))
  | inr missing ↦ rw (names_no right rights set missing) (omega (arith, among_size rights set))
]

few_rights : names_size all_rights ≤ 300
few_rights = leb-true _ _ refl

rights_size : (set : ℕ) → set < 2 ^ 64 → length (access_text set) ≤ 300
rights_size set h = elim (cases_lt 0 set) [
  | inr le ↦ (let none : set ≡ 0 = omega arith in rw (none, text_none) (omega arith))
  | inl some ↦ elim (cases_lt set 32768) [
    | inl known ↦ rw (text_names set some known)
        (omega (arith, joined_size 44 (set_names set), among_size all_rights set, few_rights))
    | inr unknown ↦ rw (text_number set unknown)
        (omega (arith, length-map (digits_of 16 set) digit_char, length-digits_of-le 16 16 set (omega arith) h))
  ]
]

errno_short : (errno : Errno) → leb (length (errno_text errno)) 12 ≡ true
errno_short errnos.EACCES = refl
errno_short errnos.EXDEV = refl
errno_short errnos.ENOENT = refl
errno_short errnos.EEXIST = refl
errno_short errnos.ENOTDIR = refl
errno_short errnos.EISDIR = refl
errno_short errnos.ENOTEMPTY = refl
errno_short errnos.EINVAL = refl
errno_short errnos.EPERM = refl
errno_short errnos.EBUSY = refl
errno_short errnos.EBADF = refl
errno_short errnos.EMFILE = refl
errno_short errnos.ENOSPC = refl
errno_short errnos.EMLINK = refl
errno_short errnos.ENAMETOOLONG = refl
errno_short errnos.EFBIG = refl
errno_short errnos.ELOOP = refl
errno_short errnos.ENXIO = refl
errno_short errnos.E2BIG = refl
errno_short errnos.ENOMSG = refl
errno_short errnos.HistoryFull = refl
errno_short errnos.NoMemory = refl
errno_short errnos.BadLine = refl
errno_short errnos.Stale = refl

errno_size : (errno : Errno) → length (errno_text errno) ≤ 12
errno_size errno = leb-true _ _ (errno_short errno)

right_size : (right : ℕ) → right < 15 → length (right_text right) ≤ 20
right_size right known = leb-true _ _
    (agree_below_at (λ k. leb (length (right_text k)) 20) (λ _. true) 15 right refl known)

place_size : (place : Place) → length (place_text place) ≤ 3
place_size places.At = omega arith
place_size places.Old = omega arith
place_size places.New = omega arith

names_bytes : (names : List (List ℕ)) → AllByRecursion IsName names → size names ≤ 256 * length names
names_bytes [] h = omega arith
names_bytes (name ∷ names) h = (let short : length name ≤ 255 = h.0.1 in omega (arith, short, names_bytes names h.1))

-- ---- calls and replies

call_size : (call : Call) → IsCall call → size (call_tokens call) ≤ 17000
call_size (calls.Make kind target) h = omega (arith, kind_size kind, h.0.1)
call_size (calls.Open mode target) h = omega (arith, mode_size mode, h.0.1)
call_size (calls.Read fd offset count) h =
    omega (arith, number_size fd h.0, number_size offset h.1, number_size count h.2)
call_size (calls.Write fd offset bytes) h =
    omega (arith, number_size fd h.0, number_size offset h.1, data_size bytes h.2)
call_size (calls.Ftruncate fd len) h = omega (arith, number_size fd h.0, number_size len h.1)
call_size (calls.Close fd) h = omega (arith, number_size fd h)
call_size (calls.Truncate target len) h = omega (arith, h.0.0.1, number_size len h.1)
call_size (calls.ReadDir target) h = omega (arith, h.0.1)
call_size (calls.Stat target) h = omega (arith, h.0.1)
call_size (calls.Exec target) h = omega (arith, h.0.1)
call_size (calls.Unlink target) h = omega (arith, h.0.1)
call_size (calls.Rmdir target) h = omega (arith, h.0.1)
call_size (calls.Rename old new) h = omega (arith, h.0.0.1, h.1.0.1)
call_size (calls.RenameNoreplace old new) h = omega (arith, h.0.0.1, h.1.0.1)
call_size (calls.Exchange old new) h = omega (arith, h.0.0.1, h.1.0.1)
call_size (calls.Link old new) h = omega (arith, h.0.0.1, h.1.0.1)
call_size (calls.Ruleset rights) h = omega (arith, rights_size rights.0 h)
call_size (calls.Allow number target rights) h =
    omega (arith, number_size number h.0, h.1.0.1, rights_size rights.0 h.2)
call_size (calls.Confine number) h = omega (arith, number_size number h)
call_size calls.Spawn h = omega arith
call_size calls.Connect h = absurd h

entry_call_size : (call : Call) → IsEntryCall call → size (call_tokens call) ≤ 17000
entry_call_size call (inl is) = call_size call is
entry_call_size call (inr same) = subst (λ (c : Call). size (call_tokens c) ≤ 17000) (sym same) (leb-true _ _ refl)

reply_size : (reply : Reply) → IsReply reply → ((names : List (List ℕ)) → reply ≡ Listed names → length names ≤ 1024)
    → size (reply_tokens reply) ≤ 262200
reply_size Done h few = omega arith
reply_size (Opened number) h few = omega (arith, number_size number h)
reply_size (Bytes bytes) h few = omega (arith, data_size bytes h)
reply_size (Wrote count) h few = omega (arith, number_size count h)
reply_size (Listed names) h few = omega (arith, names_bytes names h.0, few names refl)
reply_size (Found s) h few = omega
    (arith, number_size s.inode h.0, kind_size s.kind, number_size s.size h.1, number_size s.links h.2)
reply_size (Created number) h few = omega (arith, number_size number h)
reply_size (Spawned number) h few = omega (arith, number_size number h)
reply_size (Refused errno) h few =
    omega (arith, number_size (errno_number errno) (omega (arith, h.1)), errno_size errno)
reply_size (Denied d) h few =
    omega (arith, errno_size (cause_errno d.cause), number_size d.layer h.0, right_size d.right h.1, place_size d.place)

pub entries_fit : (e : Entry) → IsEntry e → ((names : List (List ℕ)) → e.reply ≡ Listed names → length names ≤ 1024)
    → SpellsEntry (entry_line e) e
entries_fit e h few = record {
  is_entry = h;
  short = omega (
    arith,
    length-append (join_with_byte 32 (entry_tokens e)) (10 ∷ []),
    joined_size 32 (entry_tokens e),
    size_append (call_tokens e.call) (codes "=" ∷ reply_tokens e.reply),
    number_size e.client h.0,
    entry_call_size e.call h.1,
    reply_size e.reply h.2.0 few,
  );
  text = refl;
}
