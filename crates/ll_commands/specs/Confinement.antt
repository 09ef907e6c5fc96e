-- What is exported of a policy. own
use Rattle.std.specs.Prelude.{bytes_eq, ◌==◌, ◌&&◌, not, ℕ, Bool, true, false, List, [], ◌∷◌, Option, Some, None, codes}
use Rattle.std.specs.Prelude.{if◌then◌else◌, length, nat_le}
use Rattle.std.specs.List.{list_all}
use Rattle.ll_rights.specs.declared.errno.Errno.{Errno}
use Rattle.ll_rights.specs.declared.kind.Kind.{Kind}
use Rattle.ll_rights.specs.declared.kind.Kind.TheVariants.{Dir}
use Rattle.ll_rights.specs.declared.limits.TheConstants.{DOMAIN_LAYERS, RULESET_INODES}
use Rattle.ll_rules.specs.Layer as rulesets
use Rattle.ll_rules.specs.Rules.{create_refusals, new_ruleset, rule_refusals}
use Rattle.ll_path.specs.Path.{path_text}
use Rattle.ll_path.specs.declared.target.Target.TheVariants.{Good}
use Rattle.ll_seq.specs.declared.call.Call.{Call}
use Rattle.ll_seq.specs.declared.call.Call.TheVariants.{Make}
use Rattle.ll_policy.specs.declared.profile.Rule.{Rule}
use Rattle.ll_policy.specs.declared.profile.Layer.{Layer}
use Rattle.ll_commands.specs.declared.confinement.Confinement.{Confinement}

-- the kind of the node that the call creates at this path
abbrev pub made_at : List ℕ → Call → Option Kind
made_at path (Make kind (Good made)) = if bytes_eq (path_text made) path then Some kind else None
made_at path call = None

abbrev pub first_of : Option Kind → Option Kind → Option Kind
first_of (Some kind) later = Some kind
first_of None later = later

-- the kind of the first node that a call creates at this path
abbrev pub kind_among : List ℕ → List Call → Option Kind
kind_among path [] = None
kind_among path (call ∷ calls) = first_of (made_at path call) (kind_among path calls)

-- the root is a directory, which no call creates
abbrev pub kind_at : List Call → List ℕ → Option Kind
kind_at calls path = if bytes_eq path (codes "/") then Some Dir else kind_among path calls

-- for none of these reasons
abbrev pub is_free : List Errno → Bool
is_free [] = true
is_free (errno ∷ errnos) = false

-- the ruleset takes a rule with these rights on the node, if there is one
abbrev pub takes_rule : rulesets.Layer → ℕ → Option Kind → Bool
takes_rule made rights None = false
takes_rule made rights (Some kind) = is_free (rule_refusals made kind rights)

-- the policy creates a node at the rule's path, on which the ruleset takes the rule
abbrev pub is_sound_rule : List Call → rulesets.Layer → Rule → Bool
is_sound_rule opening made rule = takes_rule made rule.rights.0 (kind_at opening rule.path)

-- at the policy's level there is a ruleset for the layer, which takes each rule. There are no more than a ruleset has
abbrev pub is_sound_layer : ℕ → List Call → Layer → Bool
is_sound_layer abi opening layer = is_free (create_refusals abi layer.handled.0)
    && (nat_le (length layer.rules.items) RULESET_INODES
    && list_all (is_sound_rule opening (new_ruleset layer.handled.0)) layer.rules.items)

-- there is a layer, there are no more than a client has, and the tree takes each of them
abbrev pub is_enforceable : Confinement → Bool
is_enforceable c = not (length c.layers.now == 0) && (nat_le (length c.layers.now) DOMAIN_LAYERS
    && list_all (is_sound_layer c.abi c.opening.now) c.layers.now)
