-- What a call is whose first token is known.
use Rattle.std.proofs.Common.{◌≡◌, ℕ, ◌^◌, ◌-◌, ◌<◌, ◌≤◌, Bool, true, false, List, [], ◌∷◌, length, map, take, drop}
use Rattle.std.proofs.Common.{get_or, codes, Result, Ok, Err, Bor, inl, inr, refl, ap, sym, ◌∙◌, subst, arith}
use Rattle.std.specs.Prelude.{⊤}
use Rattle.std.specs.Result.{MatchResult, IsOkAnd}
use Rattle.std.specs.Str.{bytes_eq}
use Rattle.std.specs.Fmt.{decimal}
use Rattle.std.proofs.lemmas.Bool.{false≢true}
use Rattle.std.proofs.lemmas.List.{take_all}
use Rattle.ll_rights.specs.declared.errno.Errno.{Errno}
use Rattle.ll_rights.specs.declared.kind.Kind.{Kind}
use Rattle.ll_rights.specs.declared.access.Access.{Access}
use Rattle.ll_rights.specs.Kind.{kind_text}
use Rattle.ll_rights.specs.Access.{access_text}
use Rattle.ll_path.specs.declared.target.Target.{Target}
use Rattle.ll_path.specs.Word.{IsWord}
use Rattle.ll_path.specs.Target.{target_text}
use Rattle.ll_seq.specs.declared.call.Mode.{Mode}
use Rattle.ll_seq.specs.declared.call.Call.{Call}
use Rattle.ll_seq.specs.declared.call.Call.TheVariants.{Make, Open, Read, Write, Ftruncate, Close, Truncate, ReadDir}
use Rattle.ll_seq.specs.declared.call.Call.TheVariants.{Stat, Exec, Unlink, Rmdir, Rename, RenameNoreplace, Exchange}
use Rattle.ll_seq.specs.declared.call.Call.TheVariants.{Link, Ruleset, Allow, Confine, Spawn}
use Rattle.ll_seq.specs.Listed.{IsData}
use Rattle.ll_wire.specs.Grammar.{mode_text, SpellsTarget, data_text}
use Rattle.ll_wire.specs.Parts.{Reads, ReadsCall, SpellsOneTarget, SpellsTwoTargets, SpellsCall, SpellsNumber}
use Rattle.ll_wire.specs.Parts.{SpellsRights, SpellsData}
use Rattle.ll_wire.specs.Reads.{ReadsBy, holds_text}
use Rattle.ll_wire.proofs.Targets.{text_is, own_text, some_target}

-- whether the first token is the name
abbrev pub first_is : List ℕ → List (List ℕ) → Bool
first_is name [] = false
first_is name (token ∷ tokens) = bytes_eq name token

pub make_is : (args : List (List ℕ)) (call : Call) → SpellsCall (codes "make" ∷ args) call
    → (kind : Kind) × (target : Target) × SpellsTarget (target_text target) target
    × (args ≡ kind_text kind ∷ target_text target ∷ []) × (call ≡ Make kind target)
make_is args (Make kind target) h = (kind, target, h.0, cc, refl)
make_is args call h = absurd (false≢true (sym (ap (first_is (codes "make")) h.1)))

pub open_is : (args : List (List ℕ)) (call : Call) → SpellsCall (codes "open" ∷ args) call
    → (mode : Mode) × (target : Target) × SpellsTarget (target_text target) target
    × (args ≡ mode_text mode ∷ target_text target ∷ []) × (call ≡ Open mode target)
open_is args (Open mode target) h = (mode, target, h.0, cc, refl)
open_is args call h = absurd (false≢true (sym (ap (first_is (codes "open")) h.1)))

pub read_is : (args : List (List ℕ)) (call : Call) → SpellsCall (codes "read" ∷ args) call
    → (fd : ℕ) × (offset : ℕ) × (count : ℕ) × (fd < 2 ^ 64) × (offset < 2 ^ 64) × (count < 2 ^ 64)
    × (args ≡ decimal fd ∷ decimal offset ∷ decimal count ∷ []) × (call ≡ Read fd offset count)
read_is args (Read fd offset count) h = (fd, offset, count, h.0.0, h.0.1, h.0.2, cc, refl)
read_is args call h = absurd (false≢true (sym (ap (first_is (codes "read")) h.1)))

pub write_is : (args : List (List ℕ)) (call : Call) → SpellsCall (codes "write" ∷ args) call
    → (fd : ℕ) × (offset : ℕ) × (bytes : List ℕ) × (fd < 2 ^ 64) × (offset < 2 ^ 64) × IsData bytes
    × (args ≡ decimal fd ∷ decimal offset ∷ data_text bytes ∷ []) × (call ≡ Write fd offset bytes)
write_is args (Write fd offset bytes) h = (fd, offset, bytes, h.0.0, h.0.1, h.0.2, cc, refl)
write_is args call h = absurd (false≢true (sym (ap (first_is (codes "write")) h.1)))

pub ftruncate_is : (args : List (List ℕ)) (call : Call) → SpellsCall (codes "ftruncate" ∷ args) call
    → (fd : ℕ) × (size : ℕ) × (fd < 2 ^ 64) × (size < 2 ^ 64) × (args ≡ decimal fd ∷ decimal size ∷ [])
    × (call ≡ Ftruncate fd size)
ftruncate_is args (Ftruncate fd size) h = (fd, size, h.0.0, h.0.1, cc, refl)
ftruncate_is args call h = absurd (false≢true (sym (ap (first_is (codes "ftruncate")) h.1)))

pub close_is : (args : List (List ℕ)) (call : Call) → SpellsCall (codes "close" ∷ args) call
    → (fd : ℕ) × (fd < 2 ^ 64) × (args ≡ decimal fd ∷ []) × (call ≡ Close fd)
close_is args (Close fd) h = (fd, h.0, cc, refl)
close_is args call h = absurd (false≢true (sym (ap (first_is (codes "close")) h.1)))

pub truncate_is : (args : List (List ℕ)) (call : Call) → SpellsCall (codes "truncate" ∷ args) call
    → (target : Target) × (size : ℕ) × SpellsTarget (target_text target) target × (size < 2 ^ 64)
    × (args ≡ target_text target ∷ decimal size ∷ []) × (call ≡ Truncate target size)
truncate_is args (Truncate target size) h = (target, size, h.0.0, h.0.1, cc, refl)
truncate_is args call h = absurd (false≢true (sym (ap (first_is (codes "truncate")) h.1)))

-- the call of this name is that of a target alone
abbrev pub IsOfTarget : List ℕ → (Target → Call) → Type 0
IsOfTarget name make = (args : List (List ℕ)) (call : Call) → SpellsCall (name ∷ args) call → (target : Target)
    × SpellsOneTarget args target × (call ≡ make target)

pub list_is : IsOfTarget (codes "list") ReadDir
list_is args (ReadDir target) h = (target, (h.0, cc), refl)
list_is args call h = absurd (false≢true (sym (ap (first_is (codes "list")) h.1)))

pub stat_is : IsOfTarget (codes "stat") Stat
stat_is args (Stat target) h = (target, (h.0, cc), refl)
stat_is args call h = absurd (false≢true (sym (ap (first_is (codes "stat")) h.1)))

pub exec_is : IsOfTarget (codes "exec") Exec
exec_is args (Exec target) h = (target, (h.0, cc), refl)
exec_is args call h = absurd (false≢true (sym (ap (first_is (codes "exec")) h.1)))

pub unlink_is : IsOfTarget (codes "unlink") Unlink
unlink_is args (Unlink target) h = (target, (h.0, cc), refl)
unlink_is args call h = absurd (false≢true (sym (ap (first_is (codes "unlink")) h.1)))

pub rmdir_is : IsOfTarget (codes "rmdir") Rmdir
rmdir_is args (Rmdir target) h = (target, (h.0, cc), refl)
rmdir_is args call h = absurd (false≢true (sym (ap (first_is (codes "rmdir")) h.1)))

-- the call of this name is that of two targets
abbrev pub IsOfTargets : List ℕ → (Target × Target → Call) → Type 0
IsOfTargets name make = (args : List (List ℕ)) (call : Call) → SpellsCall (name ∷ args) call
    → (targets : Target × Target) × SpellsTwoTargets args targets × (call ≡ make targets)

pub rename_is : IsOfTargets (codes "rename") (λ targets. Rename targets.0 targets.1)
rename_is args (Rename old new) h = ((old, new), (h.0.0, h.0.1, cc), refl)
rename_is args call h = absurd (false≢true (sym (ap (first_is (codes "rename")) h.1)))

pub rename_noreplace_is : IsOfTargets (codes "rename_noreplace") (λ targets. RenameNoreplace targets.0 targets.1)
rename_noreplace_is args (RenameNoreplace old new) h = ((old, new), (h.0.0, h.0.1, cc), refl)
rename_noreplace_is args call h = absurd (false≢true (sym (ap (first_is (codes "rename_noreplace")) h.1)))

pub exchange_is : IsOfTargets (codes "exchange") (λ targets. Exchange targets.0 targets.1)
exchange_is args (Exchange old new) h = ((old, new), (h.0.0, h.0.1, cc), refl)
exchange_is args call h = absurd (false≢true (sym (ap (first_is (codes "exchange")) h.1)))

pub link_is : IsOfTargets (codes "link") (λ targets. Link targets.0 targets.1)
link_is args (Link old new) h = ((old, new), (h.0.0, h.0.1, cc), refl)
link_is args call h = absurd (false≢true (sym (ap (first_is (codes "link")) h.1)))

pub ruleset_is : (args : List (List ℕ)) (call : Call) → SpellsCall (codes "ruleset" ∷ args) call
    → (rights : Access) × (args ≡ access_text rights.0 ∷ []) × (call ≡ Ruleset rights)
ruleset_is args (Ruleset rights) h = (rights, cc, refl)
ruleset_is args call h = absurd (false≢true (sym (ap (first_is (codes "ruleset")) h.1)))

pub allow_is : (args : List (List ℕ)) (call : Call) → SpellsCall (codes "allow" ∷ args) call
    → (number : ℕ) × (target : Target) × (rights : Access) × (number < 2 ^ 64)
    × SpellsTarget (target_text target) target
    × (args ≡ decimal number ∷ target_text target ∷ access_text rights.0 ∷ []) × (call ≡ Allow number target rights)
allow_is args (Allow number target rights) h = (number, target, rights, h.0.0, h.0.1, cc, refl)
allow_is args call h = absurd (false≢true (sym (ap (first_is (codes "allow")) h.1)))

pub confine_is : (args : List (List ℕ)) (call : Call) → SpellsCall (codes "confine" ∷ args) call
    → (number : ℕ) × (number < 2 ^ 64) × (args ≡ decimal number ∷ []) × (call ≡ Confine number)
confine_is args (Confine number) h = (number, h.0, cc, refl)
confine_is args call h = absurd (false≢true (sym (ap (first_is (codes "confine")) h.1)))

pub spawn_is : (args : List (List ℕ)) (call : Call) → SpellsCall (codes "spawn" ∷ args) call → (args ≡ [])
    × (call ≡ Spawn)
spawn_is args Spawn h = (cc, refl)
spawn_is args call h = absurd (false≢true (sym (ap (first_is (codes "spawn")) h.1)))

-- where the first token is the name, the tokens are it and the others
pub parted : (name : List ℕ) (tokens : List (Bor (List ℕ))) (d : Bor (List ℕ)) → 1 ≤ length tokens
    → (get_or tokens 0 d).now ≡ name
    → map (λ t. t.now) tokens ≡ name ∷ map (λ t. t.now) (take (length tokens - 1) (drop 1 tokens))
parted name [] d some e = absurd (omega arith)
parted name (token ∷ tokens) d some e =
    let all : length tokens ≤ length (token ∷ tokens) - 1 = omega arith in
    λ i. e i ∷ map (λ t. t.now) (sym (take_all (length (token ∷ tokens) - 1) tokens all) i)

-- a result is mapped by a constructor
pub mapped : {V W : Type 0} (make : V → W) (r : Result V Errno) (s : Result W Errno)
    → MatchResult r (λ v. IsOkAnd s (λ w. w ≡ make v)) (λ e. s ≡ Err e)
    → MatchResult r (λ v. s ≡ Ok (make v)) (λ e. s ≡ Err e)
mapped make (Ok v) (Ok w) h = ap Ok h
mapped make (Ok v) (Err e) h = absurd h
mapped make (Err e) s h = h

-- where a part can't be read, the whole can't, for the same reason
fails : {V W : Type 0} (P : V → Type 0) (Q U : W → Type 0) (e : Errno) → ((w : W) → Q w → (v : V) × P v)
    → ((v : V) → P v → (w : W) × Q w × U w) → Reads P (Err e) → ReadsBy Q U (Err e)
fails P Q U e part whole (inl h) = inl (h.0, λ w is. let v = part w is in h.1 v.0 v.1)
fails P Q U e part whole (inr h) = let w = whole h.1 h.2 in inr (h.0, w.0, w.1, w.2)

-- where a part is read, the whole that is made of it is
pub whole_reads : {V W : Type 0} (P T : V → Type 0) (Q U : W → Type 0) (make : V → W) → ((w : W) → Q w → (v : V) × P v)
    → ((v : V) → P v → Q (make v)) → ((v : V) → P v → T v → U (make v))
    → (r : Result V Errno) (s : Result W Errno) → MatchResult r (λ v. s ≡ Ok (make v)) (λ e. s ≡ Err e) → ReadsBy P T r
    → ReadsBy Q U s
whole_reads P T Q U make part whole takes (Ok v) s e h = rw e (whole v h)
whole_reads P T Q U make part whole takes (Err d) s e (inl h) =
    rw e (inl (h.0, λ w is. let v = part w is in h.1 v.0 v.1))
whole_reads P T Q U make part whole takes (Err d) s e (inr h) =
    rw e (inr (h.0, make h.1, whole h.1 h.2, takes h.1 h.2 h.3))

pub same_err : {V : Type 0} (r : Result V Errno) → MatchResult r (λ v. r ≡ Ok v) (λ e. r ≡ Err e)
same_err (Ok v) = refl
same_err (Err e) = refl

pub one_reads : (args : List (List ℕ)) (path : List ℕ) (r : Result Target Errno) → args ≡ path ∷ []
    → Reads (SpellsTarget path) r → Reads (SpellsOneTarget args) r
one_reads args path r parts h =
    whole_reads (SpellsTarget path) (λ _. ⊤) (SpellsOneTarget args) (λ _. ⊤) (λ target. target)
    (λ target is. let same : target_text target ≡ path = cc
    in (target, subst (λ (w : List ℕ). SpellsTarget w target) same is.0))
    (λ target is. let same = text_is path target is in (own_text path target is, cc)) (λ target is takes. tt)
    r r (same_err r) h

-- a call of one target, by the reader of its target
pub call_reads : (name : List ℕ) (make : Target → Call) → IsOfTarget name make
    → ((target : Target) → SpellsTarget (target_text target) target
    → SpellsCall (name ∷ target_text target ∷ []) (make target))
    → ((target : Target) → holds_text (make target) ≡ true)
    → (tokens args : List (List ℕ)) (r : Result Target Errno) (s : Result Call Errno) → tokens ≡ name ∷ args
    → MatchResult r (λ target. s ≡ Ok (make target)) (λ e. s ≡ Err e)
    → Reads (SpellsOneTarget args) r → ReadsCall tokens s
call_reads name make is own holds tokens args r s parts m h =
    whole_reads (SpellsOneTarget args) (λ _. ⊤) (SpellsCall tokens) (λ call. holds_text call ≡ true) make
    (λ call k. let o = is args call (k.0, sym parts ∙ k.1) in (o.0, o.1))
    (λ target k. let spelled = own target k.0
    in (spelled.0, parts ∙ ap (λ (x : List (List ℕ)). name ∷ x) k.1 ∙ spelled.1))
    (λ target k takes. holds target)
    r s m h

-- where one of two words can't be read, neither can both
pub first_fails : (args : List (List ℕ)) (first second : List ℕ) (e : Errno) → args ≡ first ∷ second ∷ []
    → IsWord second
    → Reads (SpellsTarget first) (Err e) → Reads (SpellsTwoTargets args) (Err e)
first_fails args first second e parts word = fails (SpellsTarget first) (SpellsTwoTargets args) (λ _. ⊤) e
    (λ targets is. let same : target_text targets.0 ≡ first = cc
    in (targets.0, subst (λ (w : List ℕ). SpellsTarget w targets.0) same is.0))
    (λ target is. let same = text_is first target is in let other = some_target second
    in let same_other = text_is second other.0 (word, other.1) in
    ((target, other.0), (own_text first target is, own_text second other.0 (word, other.1), cc), tt))

pub second_fails : (args : List (List ℕ)) (first second : List ℕ) (one : Target) (e : Errno)
    → args ≡ first ∷ second ∷ [] → SpellsTarget first one
    → Reads (SpellsTarget second) (Err e) → Reads (SpellsTwoTargets args) (Err e)
second_fails args first second one e parts h = fails (SpellsTarget second) (SpellsTwoTargets args) (λ _. ⊤) e
    (λ targets is. let same : target_text targets.1 ≡ second = cc
    in (targets.1, subst (λ (w : List ℕ). SpellsTarget w targets.1) same is.1))
    (λ target is. let same = text_is second target is in let same_one = text_is first one h in
    ((one, target), (own_text first one h, own_text second target is, cc), tt))

pub both_read : (args : List (List ℕ)) (first second : List ℕ) (one two : Target) → args ≡ first ∷ second ∷ []
    → SpellsTarget first one → SpellsTarget second two → SpellsTwoTargets args (one, two)
both_read args first second one two parts h k =
    let same_one = text_is first one h in let same_two = text_is second two k in
    (own_text first one h, own_text second two k, cc)

-- a call of two targets, by the reader of them
pub pair_reads : (name : List ℕ) (make : Target × Target → Call) → IsOfTargets name make
    → ((targets : Target × Target) → SpellsTarget (target_text targets.0) targets.0
    → SpellsTarget (target_text targets.1) targets.1
    → SpellsCall (name ∷ target_text targets.0 ∷ target_text targets.1 ∷ []) (make targets))
    → ((targets : Target × Target) → holds_text (make targets) ≡ true)
    → (tokens args : List (List ℕ)) (r : Result (Target × Target) Errno) (s : Result Call Errno)
    → tokens ≡ name ∷ args → MatchResult r (λ targets. s ≡ Ok (make targets)) (λ e. s ≡ Err e)
    → Reads (SpellsTwoTargets args) r → ReadsCall tokens s
pair_reads name make is own holds tokens args r s parts m h =
    whole_reads (SpellsTwoTargets args) (λ _. ⊤) (SpellsCall tokens) (λ call. holds_text call ≡ true) make
    (λ call k. let o = is args call (k.0, sym parts ∙ k.1) in (o.0, o.1))
    (λ targets k. let spelled = own targets k.0 k.1
    in (spelled.0, parts ∙ ap (λ (x : List (List ℕ)). name ∷ x) k.2 ∙ spelled.1))
    (λ targets k takes. holds targets)
    r s m h

pub make_fails : (args : List (List ℕ)) (kind : Kind) (path : List ℕ) (e : Errno) → args ≡ kind_text kind ∷ path ∷ []
    → Reads (SpellsTarget path) (Err e) → ReadsCall (codes "make" ∷ args) (Err e)
make_fails args kind path e parts =
    fails (SpellsTarget path) (SpellsCall (codes "make" ∷ args)) (λ call. holds_text call ≡ true) e
    (λ call is. let m = make_is args call is in let same : target_text m.1 ≡ path = cc
    in (m.1, subst (λ (w : List ℕ). SpellsTarget w m.1) same m.2))
    (λ target is. let same = text_is path target is in (Make kind target, (own_text path target is, cc), refl))

pub open_fails : (args : List (List ℕ)) (mode : Mode) (path : List ℕ) (e : Errno) → args ≡ mode_text mode ∷ path ∷ []
    → Reads (SpellsTarget path) (Err e) → ReadsCall (codes "open" ∷ args) (Err e)
open_fails args mode path e parts =
    fails (SpellsTarget path) (SpellsCall (codes "open" ∷ args)) (λ call. holds_text call ≡ true) e
    (λ call is. let m = open_is args call is in let same : target_text m.1 ≡ path = cc
    in (m.1, subst (λ (w : List ℕ). SpellsTarget w m.1) same m.2))
    (λ target is. let same = text_is path target is in (Open mode target, (own_text path target is, cc), refl))

pub truncate_fails : (args : List (List ℕ)) (path size_word : List ℕ) (size : ℕ) (e : Errno)
    → args ≡ path ∷ size_word ∷ []
    → SpellsNumber size_word size → Reads (SpellsTarget path) (Err e) → ReadsCall (codes "truncate" ∷ args) (Err e)
truncate_fails args path size_word size e parts n =
    fails (SpellsTarget path) (SpellsCall (codes "truncate" ∷ args)) (λ call. holds_text call ≡ true) e
    (λ call is. let m = truncate_is args call is in let same : target_text m.0 ≡ path = cc
    in (m.0, subst (λ (w : List ℕ). SpellsTarget w m.0) same m.2))
    (λ target is. let same = text_is path target is
    in (Truncate target size, ((own_text path target is, n.0), cc), refl))

pub allow_fails : (args : List (List ℕ)) (ruleset_word path rights_word : List ℕ) (number : ℕ) (rights : Access)
    (e : Errno) → args ≡ ruleset_word ∷ path ∷ rights_word ∷ []
    → SpellsNumber ruleset_word number → SpellsRights rights_word rights → Reads (SpellsTarget path) (Err e)
    → ReadsCall (codes "allow" ∷ args) (Err e)
allow_fails args ruleset_word path rights_word number rights e parts n r =
    fails (SpellsTarget path) (SpellsCall (codes "allow" ∷ args)) (λ call. holds_text call ≡ true) e
    (λ call is. let m = allow_is args call is in let same : target_text m.1 ≡ path = cc
    in (m.1, subst (λ (w : List ℕ). SpellsTarget w m.1) same m.4))
    (λ target is. let same = text_is path target is
    in (Allow number target rights, ((n.0, own_text path target is, r.0), cc), refl))

pub write_fails : (args : List (List ℕ)) (fd_word offset_word word : List ℕ) (fd offset : ℕ) (e : Errno)
    → args ≡ fd_word ∷ offset_word ∷ word ∷ []
    → SpellsNumber fd_word fd → SpellsNumber offset_word offset → Reads (SpellsData word) (Err e)
    → ReadsCall (codes "write" ∷ args) (Err e)
write_fails args fd_word offset_word word fd offset e parts f o =
    fails (SpellsData word) (SpellsCall (codes "write" ∷ args)) (λ call. holds_text call ≡ true) e
    (λ call is. let m = write_is args call is in (m.2, (m.5, cc)))
    (λ bytes is. (Write fd offset bytes, ((f.0, o.0, is.0), cc), refl))
