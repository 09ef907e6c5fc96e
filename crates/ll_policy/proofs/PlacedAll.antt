-- The faults of a document, with their tables and without.
use Rattle.std.proofs.Common.{◌≡◌, ◌+◌, ◌++◌, ◌∙◌, ℕ, List, [], ◌∷◌, ap, codes, map, refl}
use Rattle.std.specs.Prelude.{flat_map}
use Rattle.std.specs.List.{enumerate_from}
use Rattle.std.proofs.lemmas.List.{map-append}
use Rattle.toml.specs.Data.{Members}
use Rattle.ll_policy.specs.declared.fault.PolicyFault.{PolicyFault}
use Rattle.ll_policy.specs.declared.place.PlacedFault.{PlacedFault}
use Rattle.ll_policy.specs.Faults.{layer_faults, node_faults, own_layer_faults, own_profile_faults, policy_faults}
use Rattle.ll_policy.specs.Faults.{profile_faults, rule_faults, top_faults}
use Rattle.ll_policy.specs.Places.{Site, at, document, in_layer, in_node, in_profile, in_rule, layer, node, placed}
use Rattle.ll_policy.specs.Places.{placed_faults, profile, rule}
use Rattle.ll_policy.specs.Table.{named_tables_at, tables_at}

abbrev Placed : Type 0
Placed = Site × PolicyFault

abbrev alone : List Placed → List PolicyFault
alone found = map (λ one. one.1) found

pub alone_placed : (found : List PlacedFault) → map (λ one. one.fault) found ≡ alone (map placed found)
alone_placed [] = refl
alone_placed (one ∷ found) = ap (λ faults. one.fault ∷ faults) (alone_placed found)

alone_at : (site : Site) (faults : List PolicyFault) → alone (at site faults) ≡ faults
alone_at site [] = refl
alone_at site (fault ∷ faults) = ap (λ rest. fault ∷ rest) (alone_at site faults)

joined : (ones others : List Placed) (faults more : List PolicyFault) → alone ones ≡ faults → alone others ≡ more
    → alone (ones ++ others) ≡ faults ++ more
joined ones others faults more first rest =
    map-append (λ (one : Placed). one.1) ones others ∙ (λ i. first i ++ rest i)

each : (inside : ℕ × Members → List Placed) (faults_of : Members → List PolicyFault)
    → ((number : ℕ) (t : Members) → alone (inside (number, t)) ≡ faults_of t) → (number : ℕ) (ts : List Members)
    → alone (flat_map inside (enumerate_from number ts)) ≡ flat_map faults_of ts
each inside faults_of same number [] = refl
each inside faults_of same number (t ∷ ts) =
    joined (inside (number, t)) (flat_map inside (enumerate_from (number + 1) ts)) (faults_of t) (flat_map faults_of ts)
    (same number t) (each inside faults_of same (number + 1) ts)

in_layers : (name : List ℕ) (number : ℕ) (t : Members) → alone (in_layer name (number, t)) ≡ layer_faults t
in_layers name number t =
    joined (at (layer name number) (own_layer_faults t))
    (flat_map (in_rule name number) (enumerate_from 1 (tables_at (codes "rule") t))) (own_layer_faults t)
    (flat_map rule_faults (tables_at (codes "rule") t)) (alone_at (layer name number) (own_layer_faults t))
    (each (in_rule name number) rule_faults (λ k rules. alone_at (rule name number k) (rule_faults rules)) 1
    (tables_at (codes "rule") t))

in_profiles : (ts : List (List ℕ × Members)) → alone (flat_map in_profile ts) ≡ flat_map profile_faults ts
in_profiles [] = refl
in_profiles ((name, t) ∷ ts) =
    joined (in_profile (name, t)) (flat_map in_profile ts) (profile_faults (name, t)) (flat_map profile_faults ts)
    (joined (at (profile name) (own_profile_faults (name, t)))
    (flat_map (in_layer name) (enumerate_from 1 (tables_at (codes "layer") t))) (own_profile_faults (name, t))
    (flat_map layer_faults (tables_at (codes "layer") t)) (alone_at (profile name) (own_profile_faults (name, t)))
    (each (in_layer name) layer_faults (in_layers name) 1 (tables_at (codes "layer") t)))
    (in_profiles ts)

pub all_alone : (t : Members) → alone (placed_faults t) ≡ policy_faults t
all_alone t =
    joined (at document (top_faults t) ++ flat_map in_node (enumerate_from 1 (tables_at (codes "node") t)))
    (flat_map in_profile (named_tables_at (codes "profile") t))
    (top_faults t ++ flat_map node_faults (tables_at (codes "node") t))
    (flat_map profile_faults (named_tables_at (codes "profile") t))
    (joined (at document (top_faults t)) (flat_map in_node (enumerate_from 1 (tables_at (codes "node") t)))
    (top_faults t) (flat_map node_faults (tables_at (codes "node") t)) (alone_at document (top_faults t))
    (each in_node node_faults (λ number nodes. alone_at (node number) (node_faults nodes)) 1
    (tables_at (codes "node") t)))
    (in_profiles (named_tables_at (codes "profile") t))

pub alone_are : (found : List PlacedFault) (t : Members) → map placed found ≡ placed_faults t
    → map (λ one. one.fault) found ≡ policy_faults t
alone_are found t is = alone_placed found ∙ ap alone is ∙ all_alone t
