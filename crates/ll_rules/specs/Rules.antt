-- How rulesets are created, extended and enforced. landlock_create_ruleset(2), landlock_add_rule(2),
-- landlock_restrict_self(2)
use Rattle.std.specs.Prelude.{ℕ, not, ◌&&◌, ◌==◌, List, ◌++◌, length, nat_le, unwrap_or, bit_or}
use Rattle.ll_rights.specs.declared.kind.Kind.{Kind}
use Rattle.ll_rights.specs.declared.errno.Errno.{Errno}
use Rattle.ll_rights.specs.declared.errno.Errno.TheVariants.{EINVAL, ENOMSG, E2BIG}
use Rattle.ll_rights.specs.declared.limits.TheConstants.{RULESET_INODES, DOMAIN_LAYERS}
use Rattle.ll_rights.specs.Errno.{refuse}
use Rattle.ll_rights.specs.Access.{known_set, file_set, is_within}
use Rattle.ll_rights.specs.Kind.{is_dir}
use Rattle.ll_rights.specs.Map.{empty, get, has, insert, len}
use Rattle.ll_rules.specs.Layer.{Layer}

-- Why creation is refused; the first reason is reported. Each level knows some rights: landlock.rst, "Landlock ABI
-- versions"
abbrev pub create_refusals : ℕ → ℕ → List Errno
create_refusals abi handled = refuse (not (is_within handled (known_set abi))) EINVAL ++ refuse (handled == 0) ENOMSG

abbrev pub new_ruleset : ℕ → Layer
new_ruleset handled = record { handled = handled; rules = empty }

-- why a rule with these rights on a node of this kind is refused
abbrev pub rule_refusals : Layer → Kind → ℕ → List Errno
rule_refusals ruleset' kind rights =
    refuse (rights == 0) ENOMSG
    ++ refuse (not (is_within rights ruleset'.handled)) EINVAL
    ++ refuse (not (is_dir kind) && not (is_within rights file_set)) EINVAL

-- the limit of rules in one ruleset. own
abbrev pub rule_limit : Layer → ℕ → List Errno
rule_limit ruleset' inode = refuse (nat_le RULESET_INODES (len ruleset'.rules) && not (has ruleset'.rules inode)) E2BIG

-- adds a rule; two rules on one inode allow the union
abbrev pub with_rule : Layer → ℕ → ℕ → Layer
with_rule ruleset' inode rights = record ruleset'
    { rules = insert ruleset'.rules inode (bit_or (unwrap_or (get ruleset'.rules inode) 0) rights) }

-- the limit of layers. landlock.rst, "Ruleset layers"
abbrev pub layer_limit : List Layer → List Errno
layer_limit domain = refuse (nat_le DOMAIN_LAYERS (length domain)) E2BIG
