-- What refuses a call apart from policy is the same in both runs.
use Rattle.std.specs.Prelude.{◌≡◌, ⊤, ◌++◌, length, is_none, nat_le, nat_lt}
use Rattle.std.specs.Prelude.{refl}
use Rattle.std.specs.Ordering.{nat_cmp}
use Rattle.std.proofs.Common.{ap, ◌∙◌}
use Rattle.ll_rights.specs.declared.errno.Errno.TheVariants.{EBADF, EINVAL, EMFILE}
use Rattle.ll_rights.specs.declared.limits.TheConstants.{DATA_BYTES, CLIENT_RULESETS, TREE_CLIENTS}
use Rattle.ll_rights.specs.Errno.{refuse}
use Rattle.ll_rights.specs.Map.{Map, len}
use Rattle.ll_rules.specs.Rules.{layer_limit, rule_limit, rule_refusals}
use Rattle.ll_decide.specs.Verdict.{when}
use Rattle.ll_seq.specs.declared.call.Call.{Call}
use Rattle.ll_seq.specs.declared.call.Call.TheVariants.{Make, Open, Read, Write, Ftruncate, Close, Truncate, ReadDir}
use Rattle.ll_seq.specs.declared.call.Call.TheVariants.{Stat, Exec, Unlink, Rmdir, Rename, RenameNoreplace, Exchange}
use Rattle.ll_seq.specs.declared.call.Call.TheVariants.{Link, Ruleset, Allow, Confine, Spawn, Connect}
use Rattle.ll_seq.specs.declared.client.ClientRecord.{ClientRecord}
use Rattle.ll_seq.specs.declared.client.Descriptor.{Descriptor}
use Rattle.ll_seq.specs.Call.{first_path, path_of, second_path}
use Rattle.ll_seq.specs.CallParts.{existence_refusals, kind_refusals, limit_refusals}
use Rattle.ll_seq.specs.Passed.{after_policy, before_policy}
use Rattle.ll_seq.specs.Stages.{no_space, number_refusals, relation_refusals, text_refusals, walk_refusals}
use Rattle.ll_seq.specs.State.{State}
use Rattle.ll_seq.specs.Tree.{directory_of, inode_of, kind_at, named}
use Rattle.ll_learn.proofs.AlikeRecords.{AreAlike, lowest_same, no_ruleset_same, none_same, ruleset_same, without_same}
use Rattle.ll_learn.proofs.Twins.{with_all}

numbers_same : (c d : ClientRecord) → AreAlike c d → (call : Call) → number_refusals d call ≡ number_refusals c call
numbers_same c d a (Make kind t) = refl
numbers_same c d a (Open mode t) = refl
numbers_same c d a (Read fd offset size) = ap (λ es. refuse (nat_lt DATA_BYTES size) EINVAL ++ es)
    (without_same c d a fd (λ (e : Descriptor). e.reads) EBADF)
numbers_same c d a (Write fd offset bytes) = without_same c d a fd (λ (e : Descriptor). e.writes) EBADF
numbers_same c d a (Ftruncate fd size) = without_same c d a fd (λ (e : Descriptor). e.writes) EINVAL
numbers_same c d a (Close fd) = ap (λ b. refuse b EBADF) (none_same c d a fd)
numbers_same c d a (Truncate t size) = refl
numbers_same c d a (ReadDir t) = refl
numbers_same c d a (Stat t) = refl
numbers_same c d a (Exec t) = refl
numbers_same c d a (Unlink t) = refl
numbers_same c d a (Rmdir t) = refl
numbers_same c d a (Rename o n) = refl
numbers_same c d a (RenameNoreplace o n) = refl
numbers_same c d a (Exchange o n) = refl
numbers_same c d a (Link o n) = refl
numbers_same c d a (Ruleset rights) = refl
numbers_same c d a (Allow rs t rights) = no_ruleset_same c d a rs
numbers_same c d a (Confine rs) = no_ruleset_same c d a rs
numbers_same c d a Spawn = refl
numbers_same c d a Connect = refl

existence_same : (s : State) (m : Map nat_cmp ClientRecord) (call : Call)
    → existence_refusals (with_all s m) call (first_path call) (second_path call)
    ≡ existence_refusals s call (first_path call) (second_path call)
existence_same s m (Make kind t) = refl
existence_same s m (Open mode t) = refl
existence_same s m (Read fd offset size) = refl
existence_same s m (Write fd offset bytes) = refl
existence_same s m (Ftruncate fd size) = refl
existence_same s m (Close fd) = refl
existence_same s m (Truncate t size) = refl
existence_same s m (ReadDir t) = refl
existence_same s m (Stat t) = refl
existence_same s m (Exec t) = refl
existence_same s m (Unlink t) = refl
existence_same s m (Rmdir t) = refl
existence_same s m (Rename o n) = refl
existence_same s m (RenameNoreplace o n) = refl
existence_same s m (Exchange o n) = refl
existence_same s m (Link o n) = refl
existence_same s m (Ruleset rights) = refl
existence_same s m (Allow rs t rights) = refl
existence_same s m (Confine rs) = refl
existence_same s m Spawn = refl
existence_same s m Connect = refl

pub before_same : (s : State) (m : Map nat_cmp ClientRecord) (c d : ClientRecord) → AreAlike c d → (call : Call)
    → before_policy (with_all s m) d call ≡ before_policy s c call
before_same s m c d a call =
    ap (λ es. text_refusals call ++ (es ++ (relation_refusals call (first_path call) (second_path call)
    ++ (walk_refusals s call ++ existence_refusals (with_all s m) call (first_path call) (second_path call)))))
    (numbers_same c d a call)
    ∙ ap (λ es. text_refusals call ++ (number_refusals c call
    ++ (relation_refusals call (first_path call) (second_path call) ++ (walk_refusals s call ++ es))))
    (existence_same s m call)

-- the limit of layers, if it is asked for, is the same
abbrev pub IsLimited : Call → ClientRecord → ClientRecord → Type 0
IsLimited (Confine number) c d = layer_limit d.domain ≡ layer_limit c.domain
IsLimited call c d = ⊤

kinds_same : (s : State) (m : Map nat_cmp ClientRecord) (c d : ClientRecord) → AreAlike c d → (call : Call)
    → kind_refusals (with_all s m) d call (first_path call) (second_path call)
    ≡ kind_refusals s c call (first_path call) (second_path call)
kinds_same s m c d a (Make kind t) = refl
kinds_same s m c d a (Open mode t) = refl
kinds_same s m c d a (Read fd offset size) = refl
kinds_same s m c d a (Write fd offset bytes) = refl
kinds_same s m c d a (Ftruncate fd size) = refl
kinds_same s m c d a (Close fd) = refl
kinds_same s m c d a (Truncate t size) = refl
kinds_same s m c d a (ReadDir t) = refl
kinds_same s m c d a (Stat t) = refl
kinds_same s m c d a (Exec t) = refl
kinds_same s m c d a (Unlink t) = refl
kinds_same s m c d a (Rmdir t) = refl
kinds_same s m c d a (Rename o n) = refl
kinds_same s m c d a (RenameNoreplace o n) = refl
kinds_same s m c d a (Exchange o n) = refl
kinds_same s m c d a (Link o n) = refl
kinds_same s m c d a (Ruleset rights) = refl
kinds_same s m c d a (Allow rs t rights) =
    ap (λ r. rule_refusals r (kind_at s (path_of t)) rights.0) (ruleset_same c d a rs)
kinds_same s m c d a (Confine rs) = refl
kinds_same s m c d a Spawn = refl
kinds_same s m c d a Connect = refl

limits_same : (s : State) (m : Map nat_cmp ClientRecord) → len m ≡ len s.clients → (c d : ClientRecord) → AreAlike c d
    → (call : Call) → IsLimited call c d
    → limit_refusals (with_all s m) d call (first_path call) (second_path call)
    ≡ limit_refusals s c call (first_path call) (second_path call)
limits_same s m count c d a (Make kind t) h = refl
limits_same s m count c d a (Open mode t) h = ap (λ o. refuse (is_none o) EMFILE
    ++ when (is_none (named s (path_of t))) (no_space s (directory_of s (path_of t)))) (lowest_same c d a)
limits_same s m count c d a (Read fd offset size) h = refl
limits_same s m count c d a (Write fd offset bytes) h = refl
limits_same s m count c d a (Ftruncate fd size) h = refl
limits_same s m count c d a (Close fd) h = refl
limits_same s m count c d a (Truncate t size) h = refl
limits_same s m count c d a (ReadDir t) h = refl
limits_same s m count c d a (Stat t) h = refl
limits_same s m count c d a (Exec t) h = refl
limits_same s m count c d a (Unlink t) h = refl
limits_same s m count c d a (Rmdir t) h = refl
limits_same s m count c d a (Rename o n) h = refl
limits_same s m count c d a (RenameNoreplace o n) h = refl
limits_same s m count c d a (Exchange o n) h = refl
limits_same s m count c d a (Link o n) h = refl
limits_same s m count c d a (Ruleset rights) h =
    ap (λ rs. refuse (nat_le CLIENT_RULESETS (length rs)) EMFILE) a.rulesets
limits_same s m count c d a (Allow rs t rights) h =
    ap (λ r. rule_limit r (inode_of s (path_of t))) (ruleset_same c d a rs)
limits_same s m count c d a (Confine rs) h = h
limits_same s m count c d a Spawn h = ap (λ k. refuse (nat_le TREE_CLIENTS k) EMFILE) count
limits_same s m count c d a Connect h = ap (λ k. refuse (nat_le TREE_CLIENTS k) EMFILE) count

pub after_same : (s : State) (m : Map nat_cmp ClientRecord) → len m ≡ len s.clients → (c d : ClientRecord)
    → AreAlike c d → (call : Call) → IsLimited call c d
    → after_policy (with_all s m) d call ≡ after_policy s c call
after_same s m count c d a call h =
    (λ i. kinds_same s m c d a call i ++ limits_same s m count c d a call h i)
