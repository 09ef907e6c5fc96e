-- The calls of what a policy stores of its document. (Support of the crate's own functions)
use Rattle.std.specs.Prelude.{◌≡◌, ◌≤◌, pos, codes, ℕ, ◌+◌, Option, Some, None, String, List, [], ◌∷◌, ◌++◌, map}
use Rattle.std.specs.Prelude.{flat_map, string_bytes}
use Rattle.std.specs.Borrow.{Bor}
use Rattle.std.specs.BTreeMap.{BTreeMap}
use Rattle.std.specs.declared.alloc.Global.{Global}
use Rattle.toml.specs.declared.value.Value.{Value}
use Rattle.toml.specs.Data.{Members}
use Rattle.toml.specs.View.{table_view, items_view}
use Rattle.ll_seq.specs.declared.call.Call.{Call}
use Rattle.ll_seq.specs.declared.call.Call.TheVariants.{Ruleset, Allow, Confine}
use Rattle.ll_policy.specs.declared.node.Node.{Node}
use Rattle.ll_policy.specs.declared.profile.Rule.{Rule}
use Rattle.ll_policy.specs.declared.profile.Layer.{Layer}
use Rattle.ll_policy.specs.declared.profile.Profile.{Profile}
use Rattle.ll_policy.specs.Table.{named_tables, tables_of, tables_at, named_tables_at}
use Rattle.ll_policy.specs.Plan.{level_of}
use Rattle.ll_policy.specs.declared.policy.Top.{Top}
use Rattle.ll_policy.specs.Calls.{path_to, node_calls}

-- the tables in a table, if there is one
abbrev pub named_in : Option (Bor (BTreeMap (String Global) Value)) → List (List ℕ × Members)
named_in None = []
named_in (Some t) = named_tables (table_view t.now)

abbrev pub calls_of_node : Node → List Call
calls_of_node node = node_calls node.kind node.path node.bytes.items

abbrev pub call_of_rule : ℕ → Rule → Call
call_of_rule number rule = Allow number (path_to rule.path) rule.rights

abbrev pub calls_of_layer : ℕ → Layer → List Call
calls_of_layer number layer = Ruleset layer.handled ∷ map (call_of_rule number) layer.rules.items ++ Confine number ∷ []

-- the layers' rulesets are numbered starting with this
abbrev pub calls_of_layers : ℕ → List Layer → List Call
calls_of_layers number [] = []
calls_of_layers number (layer ∷ layers) = calls_of_layer number layer ++ calls_of_layers (number + 1) layers

abbrev pub opening_of : List Node → List Call
opening_of nodes = flat_map calls_of_node nodes

-- a profile's name and calls
abbrev pub named_calls : Profile → List ℕ × List Call
named_calls profile = (string_bytes profile.name, calls_of_layers 0 profile.layers.items)

-- the keys of the document's top table
pub record IsTop (t : Members) (top : Top) : Type 0 where
  pub abi : pos top.abi ≡ level_of t
  pub first : 1 ≤ top.abi
  pub last : top.abi ≤ 3
  pub nodes : tables_of (items_view top.nodes.now) ≡ tables_at (codes "node") t
  pub profiles : named_in top.profiles ≡ named_tables_at (codes "profile") t
