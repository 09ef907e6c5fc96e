-- What a step answers, whatever the call: what it refuses keeps the state, and no reply is want of memory.
use Rattle.std.specs.Prelude.{◌≡◌, ◌≢◌, ℕ, ◌+◌, ◌≤◌, Bool, true, false, not, ◌||◌, List, [], ◌∷◌, ◌++◌, map, length}
use Rattle.std.specs.Prelude.{Option, Some, None, is_some, is_none, nat_le, nat_lt, nat_eq, ◌==◌, ◌&&◌, codes}
use Rattle.std.specs.Prelude.{slice_get, ⊤, refl}
use Rattle.std.specs.List.{AllByRecursion, list_any, starts_with, flat_map}
use Rattle.std.specs.Option.{option_map_or}
use Rattle.std.proofs.Common.{ap, sym, subst, inl, inr, arith}
use Rattle.ll_rights.specs.declared.kind.Kind.{Kind}
use Rattle.ll_rights.specs.declared.kind.Kind.TheVariants.{Reg, Dir, Sym, Fifo, Sock, Char, Block}
use Rattle.ll_rights.specs.declared.errno.Errno.{Errno}
use Rattle.ll_rights.specs.declared.errno.Errno.TheVariants.{NoMemory, ENOENT, EEXIST, ENOTDIR, EISDIR, ENOTEMPTY}
use Rattle.ll_rights.specs.declared.errno.Errno.TheVariants.{EINVAL, EFBIG, EBUSY, EBADF, EMFILE, EMLINK, ENOSPC, EPERM}
use Rattle.ll_rights.specs.declared.errno.Errno.TheVariants.{ENAMETOOLONG, E2BIG, ENOMSG}
use Rattle.ll_rights.specs.declared.limits.TheConstants.{DATA_BYTES, RULESET_INODES, DOMAIN_LAYERS, CLIENT_RULESETS}
use Rattle.ll_rights.specs.declared.limits.TheConstants.{TREE_CLIENTS}
use Rattle.ll_rights.specs.Errno.{refuse, errno_number}
use Rattle.ll_rights.specs.Map.{get, has, len}
use Rattle.ll_rights.specs.Access.{is_within, known_set, file_set}
use Rattle.ll_rights.specs.Kind.{is_dir}
use Rattle.ll_path.specs.Path as paths
use Rattle.ll_path.specs.Path.{Path}
use Rattle.ll_path.specs.declared.target.Target.{Target}
use Rattle.ll_path.specs.declared.target.Target.TheVariants.{Good, Bad}
use Rattle.ll_decide.specs.declared.denial.Denial.{Denial}
use Rattle.ll_decide.specs.Verdict.{when}
use Rattle.ll_seq.specs.declared.client.ClientRecord.{ClientRecord}
use Rattle.ll_seq.specs.declared.client.Descriptor.{Descriptor}
use Rattle.ll_seq.specs.declared.call.Call.{Call}
use Rattle.ll_seq.specs.declared.call.Call.TheVariants.{Make, Open, Read, Write, Ftruncate, Close, Truncate, ReadDir}
use Rattle.ll_seq.specs.declared.call.Call.TheVariants.{Stat, Exec, Unlink, Rmdir, Rename, RenameNoreplace, Exchange}
use Rattle.ll_seq.specs.declared.call.Call.TheVariants.{Link, Ruleset, Allow, Confine, Spawn, Connect}
use Rattle.ll_seq.specs.declared.reply.Reply.{Reply}
use Rattle.ll_seq.specs.declared.reply.Reply.TheVariants.{Done, Opened, Bytes, Wrote, Listed, Found, Created, Spawned}
use Rattle.ll_seq.specs.declared.reply.Reply.TheVariants.{Refused, Denied}
use Rattle.ll_seq.specs.State.{State, child, root}
use Rattle.ll_seq.specs.Call.{creates, is_exclusive, path_of, targets, first_path, second_path}
use Rattle.ll_seq.specs.Tree.{named, inode_of, directory_of, kind_or_file, kind_at}
use Rattle.ll_seq.specs.Asked.{call_denials}
use Rattle.ll_seq.specs.Stages.{bad_text, text_refusals, number_refusals, relation_refusals, walk_refusals, in_the_way}
use Rattle.ll_seq.specs.Stages.{kind_of_child, no_directory, way_to, missing, present, without, no_space, lying}
use Rattle.ll_seq.specs.Stages.{replace_refusals, crowds, has_many_names, has_names, is_too_long, ruleset_at}
use Rattle.ll_seq.specs.Stages.{is_crowded, lowest_free}
use Rattle.ll_seq.specs.CallParts.{existence_refusals, kind_refusals, limit_refusals, not_to_open, not_to_truncate}
use Rattle.ll_seq.specs.CallParts.{done}
use Rattle.ll_seq.specs.Step.{step, first_or, refusals, client_of, IsAnswer}
use Rattle.ll_seq.proofs.Results.{wants_memory}

-- ---- refusals

abbrev pub Fine : Errno → Type 0
Fine e = (3 ≤ errno_number e) × (errno_number e ≤ 20)

abbrev AllFine : List Errno → Type 0
AllFine errs = AllByRecursion Fine errs

joined : (xs ys : List Errno) → AllFine xs → AllFine ys → AllFine (xs ++ ys)
joined [] ys h k = k
joined (x ∷ xs) ys h k = (h.0, joined xs ys h.1 k)

if_refused : (b : Bool) (e : Errno) → Fine e → AllFine (refuse b e)
if_refused true e fine = (fine, tt)
if_refused false e fine = tt

three : (a b c : Bool) (x y z : Errno) → Fine x → Fine y → Fine z → AllFine (refuse a x ++ refuse b y ++ refuse c z)
three a b c x y z f g h = joined (refuse a x ++ refuse b y) (refuse c z)
    (joined (refuse a x) (refuse b y) (if_refused a x f) (if_refused b y g)) (if_refused c z h)

when_fine : (b : Bool) (errs : List Errno) → AllFine errs → AllFine (when b errs)
when_fine true errs h = h
when_fine false errs h = tt

first_fine : (errs : List Errno) (e : Errno) → AllFine errs → slice_get errs 0 ≡ Some e → Fine e
first_fine [] e h is = absurd cc
first_fine (x ∷ errs) e h is = let same : x ≡ e = cc in subst Fine same h.0

five : (a b c d e : Bool) → AllFine
    (refuse a ENAMETOOLONG ++ refuse b EINVAL ++ refuse c EINVAL ++ refuse d ENAMETOOLONG ++ refuse e ENAMETOOLONG)
five a b c d e =
    joined (refuse a ENAMETOOLONG ++ refuse b EINVAL ++ refuse c EINVAL ++ refuse d ENAMETOOLONG)
    (refuse e ENAMETOOLONG)
    (joined (refuse a ENAMETOOLONG ++ refuse b EINVAL ++ refuse c EINVAL) (refuse d ENAMETOOLONG)
    (joined (refuse a ENAMETOOLONG ++ refuse b EINVAL) (refuse c EINVAL)
    (joined (refuse a ENAMETOOLONG) (refuse b EINVAL) (if_refused a ENAMETOOLONG (omega arith, omega arith))
    (if_refused b EINVAL (omega arith, omega arith)))
    (if_refused c EINVAL (omega arith, omega arith)))
    (if_refused d ENAMETOOLONG (omega arith, omega arith)))
    (if_refused e ENAMETOOLONG (omega arith, omega arith))

word_fine : (text : List ℕ) → AllFine (paths.path_refusals text)
word_fine text =
    five (nat_lt 4095 (length text)) (not (starts_with nat_eq text (codes "/")))
    (list_any paths.is_no_name (paths.path_of_text text)) (list_any paths.is_long_name (paths.path_of_text text))
    (nat_lt 64 (length (paths.path_of_text text)))

target_fine : (t : Target) → AllFine (bad_text t)
target_fine (Good p) = tt
target_fine (Bad word) = (first_fine (paths.path_refusals word.word) word.errno (word_fine word.word) word.refused, tt)

step_fine : (k : Option Kind) → AllFine (no_directory k)
step_fine None = ((omega arith, omega arith), tt)
step_fine (Some Dir) = tt
step_fine (Some Sym) = ((omega arith, omega arith), tt)
step_fine (Some Reg) = ((omega arith, omega arith), tt)
step_fine (Some Fifo) = ((omega arith, omega arith), tt)
step_fine (Some Sock) = ((omega arith, omega arith), tt)
step_fine (Some Char) = ((omega arith, omega arith), tt)
step_fine (Some Block) = ((omega arith, omega arith), tt)

onward_fine : (f : ℕ → List Errno) (o : Option ℕ) → ((i : ℕ) → AllFine (f i)) → AllFine (option_map_or f o [])
onward_fine f None h = tt
onward_fine f (Some i) h = h i

way_fine : (s : State) (p : Path) (inode : ℕ) → AllFine (in_the_way s p inode)
way_fine s [] inode = tt
way_fine s (name ∷ p) inode =
    joined (no_directory (kind_of_child s (child s inode name)))
    (option_map_or (in_the_way s p) (child s inode name) []) (step_fine (kind_of_child s (child s inode name)))
    (onward_fine (in_the_way s p) (child s inode name) (λ i. way_fine s p i))

open_fine : (k : Kind) → AllFine (not_to_open k)
open_fine Reg = tt
open_fine Dir = ((omega arith, omega arith), tt)
open_fine Sym = ((omega arith, omega arith), tt)
open_fine Fifo = ((omega arith, omega arith), tt)
open_fine Sock = ((omega arith, omega arith), tt)
open_fine Char = ((omega arith, omega arith), tt)
open_fine Block = ((omega arith, omega arith), tt)

truncate_fine : (k : Kind) → AllFine (not_to_truncate k)
truncate_fine Reg = tt
truncate_fine Dir = ((omega arith, omega arith), tt)
truncate_fine Sym = ((omega arith, omega arith), tt)
truncate_fine Fifo = ((omega arith, omega arith), tt)
truncate_fine Sock = ((omega arith, omega arith), tt)
truncate_fine Char = ((omega arith, omega arith), tt)
truncate_fine Block = ((omega arith, omega arith), tt)

-- ---- replies

-- what a step answers: no want of memory
abbrev pub Settles : Reply → Type 0
Settles (Refused errno) = Fine errno
Settles _ = ⊤

abbrev pub is_spawned : Reply → Bool
is_spawned (Spawned number) = true
is_spawned _ = false

-- what a refusal answers
abbrev pub Refuses : Reply → Type 0
Refuses r = Settles r × (is_spawned r ≡ false)

abbrev pub AllRefuse : List Reply → Type 0
AllRefuse replies = AllByRecursion Refuses replies

together : (xs ys : List Reply) → AllRefuse xs → AllRefuse ys → AllRefuse (xs ++ ys)
together [] ys h k = k
together (x ∷ xs) ys h k = (h.0, together xs ys h.1 k)

refused_all : (errs : List Errno) → AllFine errs → AllRefuse (map Refused errs)
refused_all [] h = tt
refused_all (e ∷ errs) h = ((h.0, refl), refused_all errs h.1)

denied_all : (ds : List Denial) → AllRefuse (map Denied ds)
denied_all [] = tt
denied_all (d ∷ ds) = ((tt, refl), denied_all ds)

-- a refusal, which keeps the state, or what is done
pub refused_or : (P : Reply → State → Type 0) (s : State) (xs : List Reply) (o : Reply × State) → AllRefuse xs
    → ((r : Reply) → Refuses r → P r s) → P o.0 o.1 → P (first_or s xs o).0 (first_or s xs o).1
refused_or P s [] o h refused does = does
refused_or P s (x ∷ xs) o h refused does = refused x h.0

all_stages : (t n r w e : List Errno) (d : List Denial) (k l : List Errno) → AllFine t → AllFine n → AllFine r
    → AllFine w → AllFine e → AllFine k → AllFine l
    → AllRefuse (map Refused t ++ map Refused n ++ map Refused r ++ map Refused w ++ map Refused e ++ map Denied d
    ++ map Refused k ++ map Refused l)
all_stages t n r w e d k l ht hn hr hw he hk hl =
    let a2 = together (map Refused t) (map Refused n) (refused_all t ht) (refused_all n hn) in
    let a3 = together (map Refused t ++ map Refused n) (map Refused r) a2 (refused_all r hr) in
    let a4 = together (map Refused t ++ map Refused n ++ map Refused r) (map Refused w) a3 (refused_all w hw) in
    let a5 = together (map Refused t ++ map Refused n ++ map Refused r ++ map Refused w) (map Refused e) a4
    (refused_all e he) in
    let a6 = together (map Refused t ++ map Refused n ++ map Refused r ++ map Refused w ++ map Refused e) (map Denied d)
    a5 (denied_all d) in
    let a7 = together (map Refused t ++ map Refused n ++ map Refused r ++ map Refused w ++ map Refused e
    ++ map Denied d) (map Refused k) a6 (refused_all k hk) in
    together (map Refused t ++ map Refused n ++ map Refused r ++ map Refused w ++ map Refused e ++ map Denied d
    ++ map Refused k) (map Refused l) a7 (refused_all l hl)

each_fine : (f : Target → List Errno) → ((t : Target) → AllFine (f t)) → (ts : List Target) → AllFine (flat_map f ts)
each_fine f h [] = tt
each_fine f h (t ∷ ts) = joined (f t) (flat_map f ts) (h t) (each_fine f h ts)

text_fine : (call : Call) → AllFine (text_refusals call)
text_fine call = each_fine bad_text target_fine (targets call)

without_fine : (c : ClientRecord) (fd : ℕ) (allows : Descriptor → Bool) (e : Errno) → Fine e
    → AllFine (without c fd allows e)
without_fine c fd allows e fine =
    joined (refuse (is_none (get c.descriptors fd)) EBADF)
    (refuse (not (option_map_or allows (get c.descriptors fd) true)) e)
    (if_refused (is_none (get c.descriptors fd)) EBADF (omega arith, omega arith))
    (if_refused (not (option_map_or allows (get c.descriptors fd) true)) e fine)

number_fine : (c : ClientRecord) (call : Call) → AllFine (number_refusals c call)
number_fine c (Make kind t) = tt
number_fine c (Open mode t) = tt
number_fine c (Read fd offset count) =
    joined (refuse (nat_lt DATA_BYTES count) EINVAL) (without c fd (λ d. d.reads) EBADF)
    (if_refused (nat_lt DATA_BYTES count) EINVAL (omega arith, omega arith))
    (without_fine c fd (λ d. d.reads) EBADF (omega arith, omega arith))
number_fine c (Write fd offset bytes) = without_fine c fd (λ d. d.writes) EBADF (omega arith, omega arith)
number_fine c (Ftruncate fd size) = without_fine c fd (λ d. d.writes) EINVAL (omega arith, omega arith)
number_fine c (Close fd) = if_refused (is_none (get c.descriptors fd)) EBADF (omega arith, omega arith)
number_fine c (Truncate t size) = tt
number_fine c (ReadDir t) = tt
number_fine c (Stat t) = tt
number_fine c (Exec t) = tt
number_fine c (Unlink t) = tt
number_fine c (Rmdir t) = tt
number_fine c (Rename o n) = tt
number_fine c (RenameNoreplace o n) = tt
number_fine c (Exchange o n) = tt
number_fine c (Link o n) = tt
number_fine c (Ruleset rights) = tt
number_fine c (Allow rs t rights) = if_refused (is_none (slice_get c.rulesets rs)) EBADF (omega arith, omega arith)
number_fine c (Confine rs) = if_refused (is_none (slice_get c.rulesets rs)) EBADF (omega arith, omega arith)
number_fine c Spawn = tt
number_fine c Connect = tt

lying_fine : (o n : Path) (above : Errno) → Fine above → AllFine (lying o n above)
lying_fine o n above fine = three (paths.is_root o || paths.is_root n) (paths.is_beneath o n) (paths.is_beneath n o)
    EBUSY EINVAL above (omega arith, omega arith) (omega arith, omega arith) fine

relation_fine : (call : Call) (at new : Path) → AllFine (relation_refusals call at new)
relation_fine (Make kind t) at new = if_refused (paths.is_root at) EBUSY (omega arith, omega arith)
relation_fine (Open mode t) at new = tt
relation_fine (Read fd offset count) at new = tt
relation_fine (Write fd offset bytes) at new = tt
relation_fine (Ftruncate fd size) at new = tt
relation_fine (Close fd) at new = tt
relation_fine (Truncate t size) at new = tt
relation_fine (ReadDir t) at new = tt
relation_fine (Stat t) at new = tt
relation_fine (Exec t) at new = tt
relation_fine (Unlink t) at new = if_refused (paths.is_root at) EBUSY (omega arith, omega arith)
relation_fine (Rmdir t) at new = if_refused (paths.is_root at) EBUSY (omega arith, omega arith)
relation_fine (Rename o n) at new = lying_fine at new ENOTEMPTY (omega arith, omega arith)
relation_fine (RenameNoreplace o n) at new = lying_fine at new EEXIST (omega arith, omega arith)
relation_fine (Exchange o n) at new = lying_fine at new EINVAL (omega arith, omega arith)
relation_fine (Link o n) at new = lying_fine at new EEXIST (omega arith, omega arith)
relation_fine (Ruleset rights) at new = tt
relation_fine (Allow rs t rights) at new = tt
relation_fine (Confine rs) at new = tt
relation_fine Spawn at new = tt
relation_fine Connect at new = tt

walk_fine : (s : State) (call : Call) → AllFine (walk_refusals s call)
walk_fine s call = each_fine (way_to s) (λ t. way_fine s (paths.parent (path_of t)) root) (targets call)

missing_fine : (s : State) (path : Path) → AllFine (missing s path)
missing_fine s path = if_refused (is_none (named s path)) ENOENT (omega arith, omega arith)

present_fine : (s : State) (path : Path) → AllFine (present s path)
present_fine s path = if_refused (is_some (named s path)) EEXIST (omega arith, omega arith)

existence_fine : (s : State) (call : Call) (at new : Path) → AllFine (existence_refusals s call at new)
existence_fine s (Make kind t) at new = present_fine s at
existence_fine s (Open mode t) at new =
    joined (when (not (creates mode.creation)) (missing s at)) (when (is_exclusive mode.creation) (present s at))
    (when_fine (not (creates mode.creation)) (missing s at) (missing_fine s at))
    (when_fine (is_exclusive mode.creation) (present s at) (present_fine s at))
existence_fine s (Read fd offset count) at new = tt
existence_fine s (Write fd offset bytes) at new = tt
existence_fine s (Ftruncate fd size) at new = tt
existence_fine s (Close fd) at new = tt
existence_fine s (Truncate t size) at new = missing_fine s at
existence_fine s (ReadDir t) at new = missing_fine s at
existence_fine s (Stat t) at new = missing_fine s at
existence_fine s (Exec t) at new = missing_fine s at
existence_fine s (Unlink t) at new = missing_fine s at
existence_fine s (Rmdir t) at new = missing_fine s at
existence_fine s (Rename o n) at new = missing_fine s at
existence_fine s (RenameNoreplace o n) at new =
    joined (missing s at) (present s new) (missing_fine s at) (present_fine s new)
existence_fine s (Exchange o n) at new = joined (missing s at) (missing s new) (missing_fine s at) (missing_fine s new)
existence_fine s (Link o n) at new = joined (missing s at) (present s new) (missing_fine s at) (present_fine s new)
existence_fine s (Ruleset rights) at new = tt
existence_fine s (Allow rs t rights) at new = missing_fine s at
existence_fine s (Confine rs) at new = tt
existence_fine s Spawn at new = tt
existence_fine s Connect at new = tt

create_fine : (a b : Bool) → AllFine (refuse a EINVAL ++ refuse b ENOMSG)
create_fine a b = joined (refuse a EINVAL) (refuse b ENOMSG) (if_refused a EINVAL (omega arith, omega arith))
    (if_refused b ENOMSG (omega arith, omega arith))

replace_fine : (s : State) (inode replaced : ℕ) → AllFine (replace_refusals s inode replaced)
replace_fine s inode replaced = when_fine (not (inode == replaced)) _
    (three (is_dir (kind_or_file s replaced) && not (is_dir (kind_or_file s inode)))
    (is_dir (kind_or_file s inode) && not (is_dir (kind_or_file s replaced)))
    (is_dir (kind_or_file s replaced) && has_names s replaced) EISDIR ENOTDIR ENOTEMPTY (omega arith, omega arith)
    (omega arith, omega arith) (omega arith, omega arith))

kind_fine : (s : State) (c : ClientRecord) (call : Call) (at new : Path) → AllFine (kind_refusals s c call at new)
kind_fine s c (Make kind t) at new = tt
kind_fine s c (Open mode t) at new =
    when_fine (is_some (named s at)) (not_to_open (kind_at s at)) (open_fine (kind_at s at))
kind_fine s c (Read fd offset count) at new = tt
kind_fine s c (Write fd offset bytes) at new = tt
kind_fine s c (Ftruncate fd size) at new = tt
kind_fine s c (Close fd) at new = tt
kind_fine s c (Truncate t size) at new = truncate_fine (kind_at s at)
kind_fine s c (ReadDir t) at new = if_refused (not (is_dir (kind_at s at))) ENOTDIR (omega arith, omega arith)
kind_fine s c (Stat t) at new = tt
kind_fine s c (Exec t) at new = open_fine (kind_at s at)
kind_fine s c (Unlink t) at new = if_refused (is_dir (kind_at s at)) EISDIR (omega arith, omega arith)
kind_fine s c (Rmdir t) at new =
    joined (refuse (not (is_dir (kind_at s at))) ENOTDIR) (refuse (has_names s (inode_of s at)) ENOTEMPTY)
    (if_refused (not (is_dir (kind_at s at))) ENOTDIR (omega arith, omega arith))
    (if_refused (has_names s (inode_of s at)) ENOTEMPTY (omega arith, omega arith))
kind_fine s c (Rename o n) at new =
    onward_fine (replace_refusals s (inode_of s at)) (named s new) (replace_fine s (inode_of s at))
kind_fine s c (RenameNoreplace o n) at new = tt
kind_fine s c (Exchange o n) at new = tt
kind_fine s c (Link o n) at new = if_refused (is_dir (kind_at s at)) EPERM (omega arith, omega arith)
kind_fine s c (Ruleset rights) at new = create_fine (not (is_within rights.0 (known_set s.rules.abi))) (rights.0 == 0)
kind_fine s c (Allow rs t rights) at new =
    three (rights.0 == 0) (not (is_within rights.0 (ruleset_at c rs).handled))
    (not (is_dir (kind_at s at)) && not (is_within rights.0 file_set)) ENOMSG EINVAL EINVAL
    (omega arith, omega arith) (omega arith, omega arith) (omega arith, omega arith)
kind_fine s c (Confine rs) at new = tt
kind_fine s c Spawn at new = tt
kind_fine s c Connect at new = tt

space_fine : (s : State) (directory : ℕ) → AllFine (no_space s directory)
space_fine s directory = if_refused (is_crowded s directory || nat_le s.room (len s.nodes)) ENOSPC
    (omega arith, omega arith)

crowds_fine : (s : State) (old new : Path) → AllFine (crowds s old new)
crowds_fine s old new = if_refused
    (is_none (named s new) && not (directory_of s old == directory_of s new) && is_crowded s (directory_of s new))
    ENOSPC (omega arith, omega arith)

limit_fine : (s : State) (c : ClientRecord) (call : Call) (at new : Path) → AllFine (limit_refusals s c call at new)
limit_fine s c (Make kind t) at new = space_fine s (directory_of s at)
limit_fine s c (Open mode t) at new =
    joined (refuse (is_none (lowest_free c.descriptors)) EMFILE)
    (when (is_none (named s at)) (no_space s (directory_of s at)))
    (if_refused (is_none (lowest_free c.descriptors)) EMFILE (omega arith, omega arith))
    (when_fine (is_none (named s at)) (no_space s (directory_of s at)) (space_fine s (directory_of s at)))
limit_fine s c (Read fd offset count) at new = tt
limit_fine s c (Write fd offset bytes) at new =
    if_refused (nat_lt 0 (length bytes) && is_too_long (offset + length bytes)) EFBIG (omega arith, omega arith)
limit_fine s c (Ftruncate fd size) at new = if_refused (is_too_long size) EFBIG (omega arith, omega arith)
limit_fine s c (Close fd) at new = tt
limit_fine s c (Truncate t size) at new = if_refused (is_too_long size) EFBIG (omega arith, omega arith)
limit_fine s c (ReadDir t) at new = tt
limit_fine s c (Stat t) at new = tt
limit_fine s c (Exec t) at new = tt
limit_fine s c (Unlink t) at new = tt
limit_fine s c (Rmdir t) at new = tt
limit_fine s c (Rename o n) at new = crowds_fine s at new
limit_fine s c (RenameNoreplace o n) at new = crowds_fine s at new
limit_fine s c (Exchange o n) at new = tt
limit_fine s c (Link o n) at new =
    joined (refuse (has_many_names s (inode_of s at)) EMLINK) (refuse (is_crowded s (directory_of s new)) ENOSPC)
    (if_refused (has_many_names s (inode_of s at)) EMLINK (omega arith, omega arith))
    (if_refused (is_crowded s (directory_of s new)) ENOSPC (omega arith, omega arith))
limit_fine s c (Ruleset rights) at new =
    if_refused (nat_le CLIENT_RULESETS (length c.rulesets)) EMFILE (omega arith, omega arith)
limit_fine s c (Allow rs t rights) at new =
    if_refused (nat_le RULESET_INODES (len (ruleset_at c rs).rules)
    && not (has (ruleset_at c rs).rules (inode_of s at))) E2BIG (omega arith, omega arith)
limit_fine s c (Confine rs) at new =
    if_refused (nat_le DOMAIN_LAYERS (length c.domain)) E2BIG (omega arith, omega arith)
limit_fine s c Spawn at new = if_refused (nat_le TREE_CLIENTS (len s.clients)) EMFILE (omega arith, omega arith)
limit_fine s c Connect at new = if_refused (nat_le TREE_CLIENTS (len s.clients)) EMFILE (omega arith, omega arith)

all_refusals : (s : State) (c : ClientRecord) (call : Call) → AllRefuse (refusals s c call)
all_refusals s c call =
    let at = first_path call in
    let new = second_path call in
    all_stages (text_refusals call) (number_refusals c call) (relation_refusals call at new) (walk_refusals s call)
    (existence_refusals s call at new) (call_denials s c call) (kind_refusals s c call at new)
    (limit_refusals s c call at new)
    (text_fine call) (number_fine c call) (relation_fine call at new) (walk_fine s call) (existence_fine s call at new)
    (kind_fine s c call at new) (limit_fine s c call at new)

module _ (s : State) (number : ℕ) (call : Call) (fresh : ℕ) where
  pub all_refuse : AllRefuse (refusals s (client_of s number) call)
  all_refuse = all_refusals s (client_of s number) call

  abbrev pub done_now : Reply × State
  done_now = done s number (client_of s number) call (first_path call) (second_path call) fresh

done_settles : (s : State) (number : ℕ) (c : ClientRecord) (call : Call) (at new : Path) (fresh : ℕ)
    → Settles (done s number c call at new fresh).0
done_settles s number c (Make kind t) at new fresh = tt
done_settles s number c (Open mode t) at new fresh = tt
done_settles s number c (Read fd offset count) at new fresh = tt
done_settles s number c (Write fd offset bytes) at new fresh = tt
done_settles s number c (Ftruncate fd size) at new fresh = tt
done_settles s number c (Close fd) at new fresh = tt
done_settles s number c (Truncate t size) at new fresh = tt
done_settles s number c (ReadDir t) at new fresh = tt
done_settles s number c (Stat t) at new fresh = tt
done_settles s number c (Exec t) at new fresh = tt
done_settles s number c (Unlink t) at new fresh = tt
done_settles s number c (Rmdir t) at new fresh = tt
done_settles s number c (Rename o n) at new fresh = tt
done_settles s number c (RenameNoreplace o n) at new fresh = tt
done_settles s number c (Exchange o n) at new fresh = tt
done_settles s number c (Link o n) at new fresh = tt
done_settles s number c (Ruleset rights) at new fresh = tt
done_settles s number c (Allow rs t rights) at new fresh = tt
done_settles s number c (Confine rs) at new fresh = tt
done_settles s number c Spawn at new fresh = tt
done_settles s number c Connect at new fresh = tt

pub step-settles : (s : State) (number : ℕ) (call : Call) (fresh : ℕ) → Settles (step s number call fresh).0
step-settles s number call fresh =
    refused_or (λ r z. Settles r) s (refusals s (client_of s number) call) (done_now s number call fresh)
    (all_refuse s number call fresh) (λ r refuses. refuses.0)
    (done_settles s number (client_of s number) call (first_path call) (second_path call) fresh)

-- What is answered is the step's reply or want of memory, and what its types keep of it holds
pub answered : (s : State) (number : ℕ) (call : Call) (fresh : ℕ) (r : Reply)
    → (((errno : Errno) → r ≢ Refused errno) → IsAnswer r) → (r ≢ Refused NoMemory → r ≡ (step s number call fresh).0)
    → IsAnswer r
answered s number call fresh (Refused errno) by_type is = elim (wants_memory errno) [
  | inl memory ↦ inr memory
  | inr other ↦ inl (subst Settles (sym (is (λ e. other (cc e)))) (step-settles s number call fresh))
]
answered s number call fresh Done by_type is = tt
answered s number call fresh (Opened n) by_type is = tt
answered s number call fresh (Bytes bytes) by_type is = by_type (λ errno e. cc e)
answered s number call fresh (Wrote n) by_type is = tt
answered s number call fresh (Listed names) by_type is = by_type (λ errno e. cc e)
answered s number call fresh (Found status) by_type is = tt
answered s number call fresh (Created n) by_type is = tt
answered s number call fresh (Spawned n) by_type is = tt
answered s number call fresh (Denied d) by_type is = tt

-- ---- want of memory or a step

not_starved : (r : Reply) → Settles r → r ≢ Refused NoMemory
not_starved Done h e = absurd cc
not_starved (Opened n) h e = absurd cc
not_starved (Bytes bytes) h e = absurd cc
not_starved (Wrote n) h e = absurd cc
not_starved (Listed names) h e = absurd cc
not_starved (Found status) h e = absurd cc
not_starved (Created n) h e = absurd cc
not_starved (Spawned n) h e = absurd cc
not_starved (Denied d) h e = absurd cc
not_starved (Refused errno) h e =
    (let same : errno ≡ NoMemory = cc in let number = ap errno_number same in omega (arith, h.1))

pub step-not_starved : (s : State) (number : ℕ) (call : Call) (fresh : ℕ)
    → (step s number call fresh).0 ≢ Refused NoMemory
step-not_starved s number call fresh = not_starved (step s number call fresh).0 (step-settles s number call fresh)
