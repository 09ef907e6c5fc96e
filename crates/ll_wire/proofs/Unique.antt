-- A line spells one command.
use Rattle.std.proofs.Common.{◌≡◌, ℕ, Bool, true, false, List, [], ◌∷◌, ◌++◌, codes, refl, ap, sym, ◌∙◌, subst}
use Rattle.std.specs.Prelude.{◌==◌, if◌then◌else◌}
use Rattle.std.specs.Str.{bytes_eq}
use Rattle.std.specs.List.{join_with_byte}
use Rattle.std.specs.Fmt.{decimal}
use Rattle.std.proofs.lemmas.Fmt.{decimal_injective}
use Rattle.std.proofs.lemmas.List.{append_assoc, append_cancel_left}
use Rattle.ll_rights.specs.declared.access.Access.{Access}
use Rattle.ll_rights.specs.declared.kind.Kind.{Kind}
use Rattle.ll_rights.specs.declared.kind.Kind.TheVariants.{Reg, Dir, Sym, Fifo, Sock, Char, Block}
use Rattle.ll_rights.specs.Access.{access_text}
use Rattle.ll_rights.specs.Kind.{kind_text}
use Rattle.ll_path.specs.declared.target.Target.{Target}
use Rattle.ll_path.specs.Target.{target_text}
use Rattle.ll_path.proofs.TargetLemmas.{target_unique}
use Rattle.ll_seq.specs.declared.call.AccessMode.{AccessMode}
use Rattle.ll_seq.specs.declared.call.AccessMode.TheVariants.{Read, Write, ReadWrite}
use Rattle.ll_seq.specs.declared.call.Creation.{Creation}
use Rattle.ll_seq.specs.declared.call.Creation.TheVariants.{Never, IfMissing, Exclusive}
use Rattle.ll_seq.specs.declared.call.Mode.{Mode}
use Rattle.ll_seq.specs.declared.call.Call.{Call}
use Rattle.ll_seq.specs.declared.call.Call.TheVariants as calls
use Rattle.ll_wire.specs.Grammar.{way_text, truncate_text, creation_text, mode_text, SpellsTarget, data_text}
use Rattle.ll_wire.specs.Grammar.{client_tokens, call_tokens, IsCall, SpellsCommand}
use Rattle.ll_wire.proofs.Rights.{same_set}
use Rattle.ll_wire.proofs.FirstTokens.{IsOfTarget, make_is, open_is, read_is, write_is, ftruncate_is, close_is}
use Rattle.ll_wire.proofs.FirstTokens.{truncate_is, list_is, stat_is, exec_is, unlink_is, rmdir_is, IsOfTargets}
use Rattle.ll_wire.proofs.FirstTokens.{rename_is, rename_noreplace_is, exchange_is, link_is, ruleset_is, allow_is}
use Rattle.ll_wire.proofs.FirstTokens.{confine_is, spawn_is}
use Rattle.ll_wire.proofs.NamedClients.{same_client}
use Rattle.ll_wire.proofs.Digits.{same_data}
use Rattle.ll_wire.proofs.Lines.{tokens_are}

-- ---- each word

abbrev kind_of : List ℕ → Kind
kind_of text = if bytes_eq text (codes "reg") then Reg else if bytes_eq text (codes "dir") then Dir else if bytes_eq
    text (codes "sym") then Sym
    else if bytes_eq text (codes "fifo") then Fifo else if bytes_eq text (codes "sock") then Sock else if bytes_eq text
    (codes "char") then Char else Block

kind_of_text : (kind : Kind) → kind_of (kind_text kind) ≡ kind
kind_of_text Reg = refl
kind_of_text Dir = refl
kind_of_text Sym = refl
kind_of_text Fifo = refl
kind_of_text Sock = refl
kind_of_text Char = refl
kind_of_text Block = refl

pub same_kind : (some other : Kind) → kind_text some ≡ kind_text other → some ≡ other
same_kind some other e = sym (kind_of_text some) ∙ ap kind_of e ∙ kind_of_text other

abbrev starts_with_w : List ℕ → Bool
starts_with_w [] = false
starts_with_w (b ∷ bs) = b == 119

abbrev way_of : List ℕ → AccessMode
way_of [] = Read
way_of (b ∷ bs) = if b == 119 then Write else if starts_with_w bs then ReadWrite else Read

-- the letters after the ways don't start with w, so they are no part of the ways
way_of_text : (way : AccessMode) (letters : List ℕ) → starts_with_w letters ≡ false
    → way_of (way_text way ++ letters) ≡ way
way_of_text Read letters e = rw e refl
way_of_text Write letters e = refl
way_of_text ReadWrite letters e = refl

-- what stands behind the ways
abbrev letters : Mode → List ℕ
letters mode = truncate_text mode.truncate ++ creation_text mode.creation

no_w : (truncate : Bool) (creation : Creation)
    → starts_with_w (truncate_text truncate ++ creation_text creation) ≡ false
no_w true creation = refl
no_w false Never = refl
no_w false IfMissing = refl
no_w false Exclusive = refl

abbrev starts_with_t : List ℕ → Bool
starts_with_t [] = false
starts_with_t (b ∷ bs) = b == 116

has_t : (truncate : Bool) (creation : Creation)
    → starts_with_t (truncate_text truncate ++ creation_text creation) ≡ truncate
has_t true creation = refl
has_t false Never = refl
has_t false IfMissing = refl
has_t false Exclusive = refl

abbrev creation_of : List ℕ → Creation
creation_of [] = Never
creation_of (b ∷ []) = IfMissing
creation_of (b ∷ c ∷ bs) = Exclusive

creation_of_text : (creation : Creation) → creation_of (creation_text creation) ≡ creation
creation_of_text Never = refl
creation_of_text IfMissing = refl
creation_of_text Exclusive = refl

same_creation : (some other : Creation) → creation_text some ≡ creation_text other → some ≡ other
same_creation some other e = sym (creation_of_text some) ∙ ap creation_of e ∙ creation_of_text other

same_letters : (some other : Mode) → letters some ≡ letters other → (some.truncate ≡ other.truncate)
    × (some.creation ≡ other.creation)
same_letters some other e =
    let truncates = sym (has_t some.truncate some.creation) ∙ ap starts_with_t e
    ∙ has_t other.truncate other.creation in
    let front = ap (λ truncate. truncate_text truncate ++ creation_text some.creation) (sym truncates) in (
      truncates,
      same_creation some.creation other.creation
          (append_cancel_left (truncate_text other.truncate) _ _ (front ∙ e)),
    )

in_two : (mode : Mode) → mode_text mode ≡ way_text mode.access ++ letters mode
in_two mode = append_assoc (way_text mode.access) (truncate_text mode.truncate) (creation_text mode.creation)

same_mode : (some other : Mode) → mode_text some ≡ mode_text other → some ≡ other
same_mode some other e =
    let both = sym (in_two some) ∙ e ∙ in_two other in
    let ways = sym (way_of_text some.access _ (no_w some.truncate some.creation)) ∙ ap way_of both
    ∙ way_of_text other.access _ (no_w other.truncate other.creation) in
    let front = ap (λ way. way_text way ++ letters some) (sym ways) in
    let rest = same_letters some other (append_cancel_left (way_text other.access) _ _ (front ∙ both)) in
    λ i. record { access = ways i; truncate = rest.0 i; creation = rest.1 i }

same_target : (some other : Target) → SpellsTarget (target_text some) some → SpellsTarget (target_text other) other
    → target_text some ≡ target_text other → some ≡ other
same_target some other h k e =
    target_unique (target_text other) some other (subst (λ (text : List ℕ). SpellsTarget text some) e h).1 k.1

same_rights : (some other : Access) → access_text some.0 ≡ access_text other.0 → some ≡ other
same_rights some other e = let same = same_set some.0 other.0 e in λ i. record { 0 = same i }

-- ---- calls and commands

-- a call of one target alone
same_by : (name : List ℕ) (make : Target → Call) → IsOfTarget name make → (target : Target) (other : Call)
    → SpellsTarget (target_text target) target → IsCall other
    → name ∷ target_text target ∷ [] ≡ call_tokens other → make target ≡ other
same_by name make is target other h k e =
    let o = is (target_text target ∷ []) other (k, e) in
    ap make (same_target target o.0 h o.1.0 cc) ∙ sym o.2

-- a call of two targets
same_pair_by : (name : List ℕ) (make : Target × Target → Call) → IsOfTargets name make
    → (old new : Target) (other : Call)
    → SpellsTarget (target_text old) old → SpellsTarget (target_text new) new → IsCall other
    → name ∷ target_text old ∷ target_text new ∷ [] ≡ call_tokens other → make (old, new) ≡ other
same_pair_by name make is old new other h g k e =
    let o = is (target_text old ∷ target_text new ∷ []) other (k, e) in
    let olds = same_target old o.0.0 h o.1.0 cc in
    let news = same_target new o.0.1 g o.1.1 cc in
    (λ i. make (olds i, news i)) ∙ sym o.2

pub same_call : (some other : Call) → IsCall some → IsCall other → call_tokens some ≡ call_tokens other → some ≡ other
same_call (calls.Make kind target) other h k e =
    let o = make_is (kind_text kind ∷ target_text target ∷ []) other (k, e) in
    let kinds = same_kind kind o.0 cc in
    let targets = same_target target o.1 h o.2 cc in
    (λ i. calls.Make (kinds i) (targets i)) ∙ sym o.4
same_call (calls.Open mode target) other h k e =
    let o = open_is (mode_text mode ∷ target_text target ∷ []) other (k, e) in
    let modes = same_mode mode o.0 cc in
    let targets = same_target target o.1 h o.2 cc in
    (λ i. calls.Open (modes i) (targets i)) ∙ sym o.4
same_call (calls.Read fd offset count) other h k e =
    let o = read_is (decimal fd ∷ decimal offset ∷ decimal count ∷ []) other (k, e) in
    let fds = decimal_injective fd o.0 h.0 o.3 cc in
    let offsets = decimal_injective offset o.1 h.1 o.4 cc in
    let counts = decimal_injective count o.2 h.2 o.5 cc in
    (λ i. calls.Read (fds i) (offsets i) (counts i)) ∙ sym o.7
same_call (calls.Write fd offset bytes) other h k e =
    let o = write_is (decimal fd ∷ decimal offset ∷ data_text bytes ∷ []) other (k, e) in
    let fds = decimal_injective fd o.0 h.0 o.3 cc in
    let offsets = decimal_injective offset o.1 h.1 o.4 cc in
    let datas = same_data bytes o.2 h.2 o.5 cc in
    (λ i. calls.Write (fds i) (offsets i) (datas i)) ∙ sym o.7
same_call (calls.Ftruncate fd size) other h k e =
    let o = ftruncate_is (decimal fd ∷ decimal size ∷ []) other (k, e) in
    let fds = decimal_injective fd o.0 h.0 o.2 cc in
    let sizes = decimal_injective size o.1 h.1 o.3 cc in
    (λ i. calls.Ftruncate (fds i) (sizes i)) ∙ sym o.5
same_call (calls.Close fd) other h k e =
    let o = close_is (decimal fd ∷ []) other (k, e) in
    let fds = decimal_injective fd o.0 h o.1 cc in
    ap calls.Close fds ∙ sym o.3
same_call (calls.Truncate target size) other h k e =
    let o = truncate_is (target_text target ∷ decimal size ∷ []) other (k, e) in
    let targets = same_target target o.0 h.0 o.2 cc in
    let sizes = decimal_injective size o.1 h.1 o.3 cc in
    (λ i. calls.Truncate (targets i) (sizes i)) ∙ sym o.5
same_call (calls.ReadDir target) other h k e = same_by (codes "list") calls.ReadDir list_is target other h k e
same_call (calls.Stat target) other h k e = same_by (codes "stat") calls.Stat stat_is target other h k e
same_call (calls.Exec target) other h k e = same_by (codes "exec") calls.Exec exec_is target other h k e
same_call (calls.Unlink target) other h k e = same_by (codes "unlink") calls.Unlink unlink_is target other h k e
same_call (calls.Rmdir target) other h k e = same_by (codes "rmdir") calls.Rmdir rmdir_is target other h k e
same_call (calls.Rename old new) other h k e =
    same_pair_by (codes "rename") (λ targets. calls.Rename targets.0 targets.1) rename_is old new other h.0 h.1 k e
same_call (calls.RenameNoreplace old new) other h k e =
    same_pair_by (codes "rename_noreplace") (λ targets. calls.RenameNoreplace targets.0 targets.1) rename_noreplace_is
    old new other h.0 h.1 k e
same_call (calls.Exchange old new) other h k e =
    same_pair_by (codes "exchange") (λ targets. calls.Exchange targets.0 targets.1) exchange_is old new other h.0 h.1 k
    e
same_call (calls.Link old new) other h k e =
    same_pair_by (codes "link") (λ targets. calls.Link targets.0 targets.1) link_is old new other h.0 h.1 k e
same_call (calls.Ruleset rights) other h k e =
    let o = ruleset_is (access_text rights.0 ∷ []) other (k, e) in
    let sets = same_rights rights o.0 cc in
    ap calls.Ruleset sets ∙ sym o.2
same_call (calls.Allow number target rights) other h k e =
    let o = allow_is (decimal number ∷ target_text target ∷ access_text rights.0 ∷ []) other (k, e) in
    let numbers = decimal_injective number o.0 h.0 o.3 cc in
    let targets = same_target target o.1 h.1 o.4 cc in
    let sets = same_rights rights o.2 cc in
    (λ i. calls.Allow (numbers i) (targets i) (sets i)) ∙ sym o.6
same_call (calls.Confine number) other h k e =
    let o = confine_is (decimal number ∷ []) other (k, e) in
    let numbers = decimal_injective number o.0 h o.1 cc in
    ap calls.Confine numbers ∙ sym o.3
same_call calls.Spawn other h k e = sym (spawn_is [] other (k, e)).1
same_call calls.Connect other h k e = absurd h

pub spells_one : (line : List ℕ) (n m : ℕ) (call other : Call) → SpellsCommand line n call → SpellsCommand line m other
    → (n ≡ m) × (call ≡ other)
spells_one line n m call other h k =
    let body = join_with_byte 32 (client_tokens n ++ call_tokens call) in
    let own = tokens_are line body n call h.text h in
    let one = same_client _ n m call other own (tokens_are line body m other h.text k) in
    (one.0, same_call call other h.is_call k.is_call one.1)
