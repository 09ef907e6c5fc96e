-- No call of a policy is a connect.
use Rattle.std.proofs.Common.{◌≡◌, ℕ, ◌+◌, false, refl, map, List, [], ◌∷◌, ◌++◌}
use Rattle.std.specs.List.{AllByRecursion, range_with_len}
use Rattle.std.specs.Prelude.{length, ◌/◌}
use Rattle.ll_seq.specs.declared.call.Call.{Call}
use Rattle.ll_seq.specs.declared.call.Call.TheVariants.{Close, Confine}
use Rattle.ll_seq.specs.History.{is_connect}
use Rattle.ll_policy.specs.declared.node.Node.{Node}
use Rattle.ll_policy.specs.declared.profile.Rule.{Rule}
use Rattle.ll_policy.specs.declared.profile.Layer.{Layer}
use Rattle.ll_policy.specs.Calls.{fill, write_of, writes}
use Rattle.ll_policy.specs.KeptCalls.{calls_of_node, opening_of, call_of_rule, calls_of_layer, calls_of_layers}

abbrev pub Others : List Call → Type 0
Others = AllByRecursion (λ call. is_connect call ≡ false)

joined : (xs ys : List Call) → Others xs → Others ys → Others (xs ++ ys)
joined [] ys a b = b
joined (x ∷ xs) ys a b = (a.0, joined xs ys a.1 b)

writing : (bytes pieces : List ℕ) → Others (map (write_of bytes) pieces)
writing bytes [] = tt
writing bytes (piece ∷ pieces) = (refl, writing bytes pieces)

filling : (path bytes : List ℕ) → Others (fill path bytes)
filling path [] = tt
filling path (b ∷ bytes) = (
  refl,
  joined (writes (b ∷ bytes)) (Close 0 ∷ [])
      (writing (b ∷ bytes) (range_with_len 0 ((length (b ∷ bytes) + 4095) / 4096))) (refl, tt),
)

pub opens : (nodes : List Node) → Others (opening_of nodes)
opens [] = tt
opens (node ∷ nodes) = joined (calls_of_node node) (opening_of nodes) (refl, filling node.path node.bytes.items)
    (opens nodes)

ruling : (number : ℕ) (rules : List Rule) → Others (map (call_of_rule number) rules)
ruling number [] = tt
ruling number (rule ∷ rules) = (refl, ruling number rules)

pub layers_add : (number : ℕ) (layers : List Layer) → Others (calls_of_layers number layers)
layers_add number [] = tt
layers_add number (layer ∷ layers) =
    let rules : Others (map (call_of_rule number) layer.rules.items ++ Confine number ∷ []) =
    joined (map (call_of_rule number) layer.rules.items) (Confine number ∷ []) (ruling number layer.rules.items)
    (refl, tt) in
    joined (calls_of_layer number layer) (calls_of_layers (number + 1) layers) (refl, rules)
    (layers_add (number + 1) layers)
