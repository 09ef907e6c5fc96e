-- What calls on descriptors are answered.
use Rattle.std.specs.Prelude.{◌≡◌, ◌≢◌, ℕ, ◌<◌, ◌≤◌, ◌==◌, Bool, true, false, cond, not, List, [], ◌∷◌, ◌++◌, map}
use Rattle.std.specs.Prelude.{length, take, drop, Option, Some, None, is_none, option_map, option_and_then}
use Rattle.std.specs.Prelude.{option_to_list, slice_get, nat_lt, Result, IfOk, OnErr, refl}
use Rattle.std.specs.Option.{option_map_or}
use Rattle.std.specs.Cmp.{nat_cmp_total}
use Rattle.std.specs.FinMap.{nat_cmp-IsAntisymmetric}
use Rattle.std.specs.declared.alloc.AllocError.{AllocError}
use Rattle.std.proofs.Common.{ap, sym, subst, ◌∙◌, inl, inr}
use Rattle.std.proofs.lemmas.Bool.{lt-ltb, le-ltb}
use Rattle.std.proofs.lemmas.Result.{IfOk-weaker}
use Rattle.ll_rights.specs.declared.errno.Errno.{Errno}
use Rattle.ll_rights.specs.declared.errno.Errno.TheVariants.{EBADF, EFBIG, EINVAL, NoMemory}
use Rattle.ll_rights.specs.declared.limits.TheConstants.{DATA_BYTES}
use Rattle.ll_rights.specs.Errno.{refuse}
use Rattle.ll_rights.specs.Right as right
use Rattle.ll_rights.specs.MapCodes.{same_list_map}
use Rattle.ll_rights.specs.Map.{get, has, insert, remove}
use Rattle.ll_rights.proofs.Maps.{insert_cases, same_map}
use Rattle.ll_decide.specs.declared.denial.Cause.TheVariants.{EACCES}
use Rattle.ll_decide.specs.declared.denial.Denial.{Denial}
use Rattle.ll_decide.specs.declared.denial.Place.TheVariants.{At}
use Rattle.ll_seq.specs.declared.call.Call.{Call}
use Rattle.ll_seq.specs.declared.call.Call.TheVariants.{Read, Write, Ftruncate, Close}
use Rattle.ll_seq.specs.declared.client.ClientRecord.{ClientRecord}
use Rattle.ll_seq.specs.declared.client.Descriptor.{Descriptor}
use Rattle.ll_seq.specs.declared.node.Node.{Node}
use Rattle.ll_seq.specs.declared.reply.Reply.{Reply}
use Rattle.ll_seq.specs.declared.reply.Reply.TheVariants.{Bytes, Done, Denied, Refused, Wrote}
use Rattle.ll_seq.specs.Effects.{let_go, overwritten, resized, with_bytes, with_client, written}
use Rattle.ll_seq.specs.Fails.{Fails}
use Rattle.ll_seq.specs.State.{State, bytes_of}
use Rattle.ll_seq.specs.Step.{step, refusals, first_or, client_of}
use Rattle.ll_node.specs.Refusals.{write_refusals, len_refusals}
use Rattle.ll_node.specs.Slot as slots
use Rattle.ll_laws.proofs.ClientChanges.{inode_at_is}
use Rattle.ll_laws.proofs.Gain.{done_of}
use Rattle.ll_laws.specs.World.{descriptor_of, is_on_descriptor}
use Rattle.ll_journal.specs.Files.{ComesOn, IsFreeOn, on_file}
use Rattle.ll_journal.specs.declared.files.BytesCall.TheVariants as onto
use Rattle.ll_journal.specs.declared.files.FileCall.{FileCall}
use Rattle.ll_journal.specs.declared.files.FileCall.TheVariants as file
use Rattle.ll_journal.proofs.OwnAnswers.{nothing_denied}
use Rattle.ll_journal.proofs.Starved.{if_err, one_refusal, only_memory, when_err}

-- the bytes that a file has already change nothing
pub bytes_kept : (s : State) (inode : ℕ) → with_bytes s inode (bytes_of s inode) ≡ s
bytes_kept s inode = by (get s.nodes inode) refl
  where
    by : (o : Option Node) → get s.nodes inode ≡ o
        → option_map_or (λ (n : Node). record s
        { nodes = insert s.nodes inode (record n { bytes = option_map_or (λ (m : Node). m.bytes) o [] }) }) o s ≡ s
    by None is = refl
    by (Some n) is = ap (λ m. record s { nodes = m })
        (same_list_map _ _ (same_map nat_cmp_total nat_cmp-IsAntisymmetric (insert s.nodes inode n) s.nodes (λ q.
        elim (insert_cases nat_cmp_total nat_cmp-IsAntisymmetric s.nodes inode n q) [
          | inl a ↦ a.1 ∙ sym (ap (get s.nodes) a.0 ∙ is)
          | inr a ↦ a.1
        ])))

written_bytes : (s : State) (inode offset : ℕ) (put : List ℕ)
    → written s inode offset put ≡ with_bytes s inode (slots.written (bytes_of s inode) offset put)
written_bytes s inode offset put =
    elim (length put == 0) as (λ b. cond b s (with_bytes s inode (overwritten (bytes_of s inode) offset put))
    ≡ with_bytes s inode (cond b (bytes_of s inode) (overwritten (bytes_of s inode) offset put))) [
      | true ↦ sym (bytes_kept s inode)
      | false ↦ refl
    ]

-- ---- stages

-- what refuses a call by its numbers, by policy and by limits
abbrev in_stages : List Errno → List Denial → List Errno → List Reply
in_stages n d l = (((((map Refused n ++ []) ++ []) ++ []) ++ map Denied d) ++ []) ++ map Refused l

first_refused : (s : State) (l : List Errno) (e : Errno) (o : Reply × State) → slice_get l 0 ≡ Some e
    → first_or s (map Refused l) o ≡ (Refused e, s)
first_refused s [] e o h = absurd (cc h)
first_refused s (x ∷ l) e o h = let same : x ≡ e = (cc h) in ap (λ (z : Errno). (Refused z, s)) same

abbrev denial_of : ℕ → Denial
denial_of layer = record { cause = EACCES; layer = layer; right = right.truncate; place = At }

-- what an opening has kept of policy
abbrev kept_denials : Option ℕ → List Denial
kept_denials kept = option_to_list (option_map denial_of kept)

module _ (file : Descriptor) (bytes : List ℕ) (s : State) (number fresh fd : ℕ)
    (there : get (client_of s number).descriptors fd ≡ Some file) (holds : bytes_of s file.inode ≡ bytes) where
  abbrev caller : ClientRecord
  caller = client_of s number

  abbrev done_by : Call → Reply × State
  done_by call = done_of s number caller call fresh

  same_bytes : with_bytes s file.inode bytes ≡ s
  same_bytes = ap (with_bytes s file.inode) (sym holds) ∙ bytes_kept s file.inode

  step_by : (call : Call) (rs : List Reply) → refusals s caller call ≡ rs
      → step s number call fresh ≡ first_or s rs (done_by call)
  step_by call rs is = ap (λ rs. first_or s rs (done_by call)) is

  -- the reply keeps the state
  keeps : (call : Call) (reply : Reply) → step s number call fresh ≡ (reply, s)
      → step s number call fresh ≡ (reply, with_bytes s file.inode bytes)
  keeps call reply is = is ∙ ap (λ (z : State). (reply, z)) (sym same_bytes)

  fails_so : (call : Call) (l : List Errno) (e : Errno) → refusals s caller call ≡ map Refused l → Fails l e
      → e ≢ NoMemory → step s number call fresh ≡ (Refused e, with_bytes s file.inode bytes)
  fails_so call l e is (inl first) told =
      keeps call (Refused e) (step_by call (map Refused l) is ∙ first_refused s l e (done_by call) first)
  fails_so call l e is (inr starved) told = absurd (told starved.0)

  module _ (offset count : ℕ) where
    read_stages : (long reads : Bool) → nat_lt DATA_BYTES count ≡ long → file.reads ≡ reads
        → refusals s caller (Read fd offset count) ≡ in_stages (refuse long EINVAL ++ refuse (not reads) EBADF) [] []
    read_stages long reads a b =
        (λ i. in_stages (refuse (a i) EINVAL
        ++ (refuse (is_none (there i)) EBADF
        ++ refuse (not (option_map_or (λ (d : Descriptor). d.reads) (there i) true)) EBADF))
        (nothing_denied s caller.domain i) [])
        ∙ ap (λ c. in_stages (refuse long EINVAL ++ refuse (not c) EBADF) [] []) b

    read_too_long : nat_lt DATA_BYTES count ≡ true
        → step s number (Read fd offset count) fresh ≡ (Refused EINVAL, with_bytes s file.inode bytes)
    read_too_long a = keeps (Read fd offset count) (Refused EINVAL)
        (step_by (Read fd offset count) _ (read_stages true file.reads a refl))

    read_refused : nat_lt DATA_BYTES count ≡ false → file.reads ≡ false
        → step s number (Read fd offset count) fresh ≡ (Refused EBADF, with_bytes s file.inode bytes)
    read_refused a b = keeps (Read fd offset count) (Refused EBADF)
        (step_by (Read fd offset count) _ (read_stages false false a b))

    read_done : nat_lt DATA_BYTES count ≡ false → file.reads ≡ true → (got : List ℕ)
        → got ≡ take count (drop offset bytes)
        → step s number (Read fd offset count) fresh ≡ (Bytes got, with_bytes s file.inode bytes)
    read_done a b got is = keeps (Read fd offset count) (Bytes got)
        (step_by (Read fd offset count) _ (read_stages false true a b)
        ∙ ap (λ (z : List ℕ). (Bytes z, s))
        (ap (λ inode. take count (drop offset (bytes_of s inode))) (inode_at_is caller fd file there)
        ∙ ap (λ held. take count (drop offset held)) holds ∙ sym is))

  module _ (offset : ℕ) (put : List ℕ) where
    write_stages : (writes : Bool) → file.writes ≡ writes
        → refusals s caller (Write fd offset put) ≡ in_stages (refuse (not writes) EBADF) [] (write_refusals offset put)
    write_stages writes b =
        (λ i. in_stages (refuse (is_none (there i)) EBADF
        ++ refuse (not (option_map_or (λ (d : Descriptor). d.writes) (there i) true)) EBADF)
        (nothing_denied s caller.domain i) (write_refusals offset put))
        ∙ ap (λ c. in_stages (refuse (not c) EBADF) [] (write_refusals offset put)) b

    write_refused : file.writes ≡ false
        → step s number (Write fd offset put) fresh ≡ (Refused EBADF, with_bytes s file.inode bytes)
    write_refused b = keeps (Write fd offset put) (Refused EBADF)
        (step_by (Write fd offset put) _ (write_stages false b))

    write_fails : file.writes ≡ true → (e : Errno) → Fails (write_refusals offset put) e → e ≢ NoMemory
        → step s number (Write fd offset put) fresh ≡ (Refused e, with_bytes s file.inode bytes)
    write_fails b e = fails_so (Write fd offset put) (write_refusals offset put) e (write_stages true b)

    write_done : file.writes ≡ true → write_refusals offset put ≡ [] → (n : ℕ) (after : List ℕ) → n ≡ length put
        → after ≡ slots.written bytes offset put
        → step s number (Write fd offset put) fresh ≡ (Wrote n, with_bytes s file.inode after)
    write_done b free n after len is =
        step_by (Write fd offset put) _ (write_stages true b ∙ ap (map Refused) free)
        ∙ (λ i. (
          Wrote (sym len i),
          (ap (λ inode. written s inode offset put) (inode_at_is caller fd file there)
              ∙ written_bytes s file.inode offset put
              ∙ ap (λ held. with_bytes s file.inode (slots.written held offset put)) holds
              ∙ ap (with_bytes s file.inode) (sym is)) i,
        ))

  module _ (size : ℕ) where
    resize_stages : (writes : Bool) (kept : Option ℕ) → file.writes ≡ writes → file.kept ≡ kept
        → refusals s caller (Ftruncate fd size)
        ≡ in_stages (refuse (not writes) EINVAL) (kept_denials kept) (len_refusals size)
    resize_stages writes kept a b =
        (λ i. in_stages (refuse (is_none (there i)) EBADF
        ++ refuse (not (option_map_or (λ (d : Descriptor). d.writes) (there i) true)) EINVAL)
        (kept_denials (option_and_then (λ (d : Descriptor). d.kept) (there i))) (len_refusals size))
        ∙ (λ i. in_stages (refuse (not (a i)) EINVAL) (kept_denials (b i)) (len_refusals size))

    resize_refused : file.writes ≡ false
        → step s number (Ftruncate fd size) fresh ≡ (Refused EINVAL, with_bytes s file.inode bytes)
    resize_refused a = keeps (Ftruncate fd size) (Refused EINVAL)
        (step_by (Ftruncate fd size) _ (resize_stages false file.kept a refl))

    resize_denied : file.writes ≡ true → (layer : ℕ) → file.kept ≡ Some layer
        → step s number (Ftruncate fd size) fresh ≡ (Denied (denial_of layer), with_bytes s file.inode bytes)
    resize_denied a layer b = keeps (Ftruncate fd size) (Denied (denial_of layer))
        (step_by (Ftruncate fd size) _ (resize_stages true (Some layer) a b))

    resize_fails : file.writes ≡ true → file.kept ≡ None → (e : Errno) → Fails (len_refusals size) e → e ≢ NoMemory
        → step s number (Ftruncate fd size) fresh ≡ (Refused e, with_bytes s file.inode bytes)
    resize_fails a b e = fails_so (Ftruncate fd size) (len_refusals size) e (resize_stages true None a b)

    resize_done : file.writes ≡ true → file.kept ≡ None → len_refusals size ≡ [] → (after : List ℕ)
        → after ≡ resized bytes size → step s number (Ftruncate fd size) fresh ≡ (Done, with_bytes s file.inode after)
    resize_done a b free after is =
        step_by (Ftruncate fd size) _ (resize_stages true None a b ∙ ap (map Refused) free)
        ∙ ap (λ (z : State). (Done, z))
        (ap (λ inode. with_bytes s inode (resized (bytes_of s inode) size)) (inode_at_is caller fd file there)
        ∙ ap (λ held. with_bytes s file.inode (resized held size)) holds
        ∙ ap (with_bytes s file.inode) (sym is))

-- ---- which step makes the call

pub on_descriptor : (c : ClientRecord) (call : Call) (fd : ℕ) (asked : FileCall) → call ≡ on_file asked fd
    → is_on_descriptor c call ≡ has c.descriptors fd
on_descriptor c call fd asked is = ap (is_on_descriptor c) is ∙ by asked
  where
    by : (asked : FileCall) → is_on_descriptor c (on_file asked fd) ≡ has c.descriptors fd
    by file.Close = refl
    by (file.OnBytes (onto.Read offset count)) = refl
    by (file.OnBytes (onto.Write offset bytes)) = refl
    by (file.OnBytes (onto.Resize size)) = refl

pub on_none : (c : ClientRecord) (call : Call) → descriptor_of call ≡ None → is_on_descriptor c call ≡ false
on_none c call is = ap (λ o. option_map_or (has c.descriptors) o false) is

-- ---- closing

pub closed : (s : State) (number fresh fd : ℕ) (file : Descriptor) → get (client_of s number).descriptors fd ≡ Some file
    → step s number (Close fd) fresh
    ≡ (
      Done,
      let_go (with_client s number
          (record (client_of s number) { descriptors = remove (client_of s number).descriptors fd })) file.inode,
    )
closed s number fresh fd file there =
    ap (λ rs. first_or s rs (done_of s number (client_of s number) (Close fd) fresh))
    (λ i. in_stages (refuse (is_none (there i)) EBADF) (nothing_denied s (client_of s number).domain i) [])
    ∙ ap (λ inode. (
      Done,
      let_go (with_client s number
          (record (client_of s number) { descriptors = remove (client_of s number).descriptors fd })) inode,
    ))
    (inode_at_is (client_of s number) fd file there)

-- ---- as the code finds it

abbrev IsRefusal : Errno → Reply → Type 0
IsRefusal e reply = (e ≢ NoMemory) × (reply ≡ Refused e)

module _ (file : Descriptor) (bytes : List ℕ) where
  pub comes_too_long : (offset count : ℕ) → DATA_BYTES < count
      → ComesOn file (λ fd. Read fd offset count) bytes (Refused EINVAL) bytes
  comes_too_long offset count a s number fresh fd there holds =
      read_too_long file bytes s number fresh fd there holds offset count (lt-ltb DATA_BYTES count a)

  pub comes_unreadable : (offset count : ℕ) → count ≤ DATA_BYTES → file.reads ≡ false
      → ComesOn file (λ fd. Read fd offset count) bytes (Refused EBADF) bytes
  comes_unreadable offset count a b s number fresh fd there holds =
      read_refused file bytes s number fresh fd there holds offset count (le-ltb DATA_BYTES count a) b

  pub comes_read : (offset count : ℕ) (got : List ℕ) → count ≤ DATA_BYTES → file.reads ≡ true
      → got ≡ take count (drop offset bytes) → ComesOn file (λ fd. Read fd offset count) bytes (Bytes got) bytes
  comes_read offset count got a b is s number fresh fd there holds =
      read_done file bytes s number fresh fd there holds offset count (le-ltb DATA_BYTES count a) b got is

  pub comes_unwritable : (offset : ℕ) (put : List ℕ) → file.writes ≡ false
      → ComesOn file (λ fd. Write fd offset put) bytes (Refused EBADF) bytes
  comes_unwritable offset put b s number fresh fd there holds =
      write_refused file bytes s number fresh fd there holds offset put b

  pub comes_not_written : (offset : ℕ) (put given after : List ℕ) (e : Errno) (result : Result Reply AllocError)
      → file.writes ≡ true → given ≡ put → Fails (write_refusals offset given) e → after ≡ bytes
      → IfOk result (IsRefusal e)
      → IfOk result (λ reply. ComesOn file (λ fd. Write fd offset put) bytes reply after)
  comes_not_written offset put given after e result b same fails kept told =
      IfOk-weaker result _ _ (λ reply tells s number fresh fd there holds.
      write_fails file bytes s number fresh fd there holds offset put b e
      (subst (λ p. Fails (write_refusals offset p) e) same fails) tells.0
      ∙ (λ i. (sym tells.1 i, with_bytes s file.inode (sym kept i)))) told

  pub comes_written : (offset : ℕ) (put given after : List ℕ) (n : ℕ) → file.writes ≡ true → given ≡ put
      → write_refusals offset given ≡ [] → n ≡ length put → after ≡ slots.written bytes offset given
      → ComesOn file (λ fd. Write fd offset put) bytes (Wrote n) after
  comes_written offset put given after n b same free len is s number fresh fd there holds =
      write_done file bytes s number fresh fd there holds offset put b (ap (write_refusals offset) (sym same) ∙ free) n
      after len (is ∙ ap (slots.written bytes offset) same)

  pub comes_unsized : (size : ℕ) → file.writes ≡ false
      → ComesOn file (λ fd. Ftruncate fd size) bytes (Refused EINVAL) bytes
  comes_unsized size a s number fresh fd there holds = resize_refused file bytes s number fresh fd there holds size a

  pub comes_denied : (size layer : ℕ) → file.writes ≡ true → file.kept ≡ Some layer
      → ComesOn file (λ fd. Ftruncate fd size) bytes (Denied (denial_of layer)) bytes
  comes_denied size layer a b s number fresh fd there holds =
      resize_denied file bytes s number fresh fd there holds size a layer b

  pub comes_not_resized : (size : ℕ) (after : List ℕ) (e : Errno) (result : Result Reply AllocError)
      → file.writes ≡ true → file.kept ≡ None → Fails (len_refusals size) e → after ≡ bytes → IfOk result (IsRefusal e)
      → IfOk result (λ reply. ComesOn file (λ fd. Ftruncate fd size) bytes reply after)
  comes_not_resized size after e result a b fails kept told =
      IfOk-weaker result _ _ (λ reply tells s number fresh fd there holds.
      resize_fails file bytes s number fresh fd there holds size a b e fails tells.0
      ∙ (λ i. (sym tells.1 i, with_bytes s file.inode (sym kept i)))) told

  pub comes_resized : (size : ℕ) (after : List ℕ) → file.writes ≡ true → file.kept ≡ None → len_refusals size ≡ []
      → after ≡ resized bytes size → ComesOn file (λ fd. Ftruncate fd size) bytes Done after
  comes_resized size after a b free is s number fresh fd there holds =
      resize_done file bytes s number fresh fd there holds size a b free after is

-- ---- where memory ran out, nothing refuses the call

module _ (file : Descriptor) where
  pub free_to_read : (offset count : ℕ) (result : Result Reply AllocError) → count ≤ DATA_BYTES → file.reads ≡ true
      → OnErr result (IsFreeOn file (λ fd. Read fd offset count))
  free_to_read offset count result a b =
      if_err result (λ s number fd there. read_stages file (bytes_of s file.inode) s number 0 fd there refl offset count
      false true (le-ltb DATA_BYTES count a) b)

  pub free_to_write : (offset : ℕ) (put given : List ℕ) (e : Errno) (result : Result Reply AllocError)
      → file.writes ≡ true → given ≡ put → Fails (write_refusals offset given) e → OnErr result (e ≡ NoMemory)
      → OnErr result (IsFreeOn file (λ fd. Write fd offset put))
  free_to_write offset put given e result b same fails out = when_err result (λ none s number fd there.
      write_stages file (bytes_of s file.inode) s number 0 fd there refl offset put true b
      ∙ ap (map Refused) (only_memory (write_refusals offset put) (one_refusal _ EFBIG (λ x. cc x)) e none
      (subst (λ p. Fails (write_refusals offset p) e) same fails))) out

  pub free_to_resize : (size : ℕ) (e : Errno) (result : Result Reply AllocError) → file.writes ≡ true → file.kept ≡ None
      → Fails (len_refusals size) e → OnErr result (e ≡ NoMemory)
      → OnErr result (IsFreeOn file (λ fd. Ftruncate fd size))
  free_to_resize size e result a b fails out = when_err result (λ none s number fd there.
      resize_stages file (bytes_of s file.inode) s number 0 fd there refl size true None a b
      ∙ ap (map Refused) (only_memory (len_refusals size) (one_refusal _ EFBIG (λ x. cc x)) e none fails)) out
