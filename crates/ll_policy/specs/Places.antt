-- Where the faults of a policy's document are. own
use Rattle.std.specs.Prelude.{ℕ, List, ◌++◌, map, flat_map, codes}
use Rattle.std.specs.List.{enumerate_from}
use Rattle.toml.specs.Data.{Members}
use Rattle.ll_policy.specs.declared.fault.PolicyFault.{PolicyFault}
use Rattle.ll_policy.specs.declared.place.Place.{Place}
use Rattle.ll_policy.specs.declared.place.Place.TheVariants.{Document, Node, Profile, Layer, Rule}
use Rattle.ll_policy.specs.declared.place.PlacedFault.{PlacedFault}
use Rattle.ll_policy.specs.Faults.{node_faults, rule_faults, own_layer_faults, own_profile_faults, top_faults}
use Rattle.ll_policy.specs.Table.{tables_at, named_tables_at}

-- a table of a document: a profile has a name, and those of an array have numbers from 1
pub data Site : Type 0 where
  document : Site
  node : ℕ → Site
  profile : (name : List ℕ) → Site
  layer : (name : List ℕ) → ℕ → Site
  rule : (name : List ℕ) → (of : ℕ) → ℕ → Site

abbrev pub site_of : Place → Site
site_of Document = document
site_of (Node number) = node number
site_of (Profile name) = profile name.now
site_of (Layer name number) = layer name.now number
site_of (Rule name of number) = rule name.now of number

abbrev pub placed : PlacedFault → Site × PolicyFault
placed found = (site_of found.place, found.fault)

-- these faults are all in this table
abbrev pub at : Site → List PolicyFault → List (Site × PolicyFault)
at site faults = map (λ fault. (site, fault)) faults

abbrev pub in_node : ℕ × Members → List (Site × PolicyFault)
in_node (number, t) = at (node number) (node_faults t)

abbrev pub in_rule : List ℕ → ℕ → ℕ × Members → List (Site × PolicyFault)
in_rule name of (number, t) = at (rule name of number) (rule_faults t)

abbrev pub in_layer : List ℕ → ℕ × Members → List (Site × PolicyFault)
in_layer name (number, t) =
    at (layer name number) (own_layer_faults t)
    ++ flat_map (in_rule name number) (enumerate_from 1 (tables_at (codes "rule") t))

abbrev pub in_profile : List ℕ × Members → List (Site × PolicyFault)
in_profile (name, t) =
    at (profile name) (own_profile_faults (name, t))
    ++ flat_map (in_layer name) (enumerate_from 1 (tables_at (codes "layer") t))

-- the faults of a document, each with its table
abbrev pub placed_faults : Members → List (Site × PolicyFault)
placed_faults t =
    at document (top_faults t)
    ++ flat_map in_node (enumerate_from 1 (tables_at (codes "node") t))
    ++ flat_map in_profile (named_tables_at (codes "profile") t)
