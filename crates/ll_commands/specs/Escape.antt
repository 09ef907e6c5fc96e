-- Paths of rules that two programs would take for different files. own
use Rattle.std.specs.Prelude.{ℕ, Bool, true, false, ◌&&◌, ◌||◌, ◌==◌, List, [], ◌∷◌, nat_le, Option, Some, None}
use Rattle.std.specs.List.{list_any}
use Rattle.ll_policy.specs.declared.profile.Rule.{Rule}
use Rattle.ll_policy.specs.declared.profile.Layer.{Layer}
use Rattle.ll_program.specs.declared.export.Form.{Form}
use Rattle.ll_program.specs.declared.export.Form.TheVariants.{C, Json}

-- 0 to 9, A to F
abbrev pub is_digit : ℕ → Bool
is_digit b = (nat_le 48 b && nat_le b 57) || (nat_le 65 b && nat_le b 70)

-- % (37) and two digits come first, by which `landtree-sandbox convert` spells a byte that no name of a policy has
abbrev pub begins_escape : List ℕ → Bool
begins_escape (sign ∷ high ∷ low ∷ rest) = (sign == 37) && (is_digit high && is_digit low)
begins_escape _ = false

-- they come somewhere
abbrev pub has_escape : List ℕ → Bool
has_escape [] = false
has_escape (b ∷ rest) = begins_escape (b ∷ rest) || has_escape rest

abbrev pub is_escaped : Rule → Bool
is_escaped rule = has_escape rule.path

abbrev pub has_escaped : Layer → Bool
has_escaped layer = list_any is_escaped layer.rules.items

-- The form is a C program, which takes an escape in a rule's path as it is. `landtree-sandbox exec`, which gets the
-- JSON, takes it for the byte
abbrev pub are_escaped : Option Form → List Layer → Bool
are_escaped (Some C) layers = list_any has_escaped layers
are_escaped (Some Json) layers = false
are_escaped None layers = false
