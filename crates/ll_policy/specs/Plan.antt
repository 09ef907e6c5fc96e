-- What a policy means. own
use Rattle.std.specs.Prelude.{◌≡◌, ℕ, ℤ, Bool, pos, List, [], ◌∷◌, Option, Some, None, codes, unwrap_or, if◌then◌else◌}
use Rattle.toml.specs.Data.{Members}
use Rattle.ll_seq.specs.declared.call.Call.{Call}
use Rattle.ll_policy.specs.Table.{integer_at, tables_at, named_tables_at}
use Rattle.ll_policy.specs.Faults.{is_two}
use Rattle.ll_policy.specs.Calls.{Joined, IsNode, IsProfile}

-- the ABI level, the calls that a first client makes, and the calls of a client of each profile, by the profile's name
pub record Plan : Type 0 where
  pub abi : ℕ
  pub opening : List Call
  pub profiles : List (List ℕ × List Call)

-- the items of one list are related to those of the other, in order
abbrev pub Each : {A B : Type 0} → (A → B → Type 0) → List A → List B → Type 0
Each R [] [] = Unit {0}
Each R (x ∷ xs) (y ∷ ys) = R x y × Each R xs ys
Each R _ _ = ⊥

-- the level in a document of version 2; version 1 means level 3
abbrev pub level_by : Bool → Members → ℤ
level_by two t = if two then unwrap_or (integer_at (codes "abi") t) (pos 3) else pos 3

abbrev pub level_of : Members → ℤ
level_of t = level_by (is_two (integer_at (codes "version") t)) t

-- the plan of a document's table
pub record IsPlan (t : Members) (plan : Plan) : Type 0 where
  pub abi : pos plan.abi ≡ level_of t
  pub opening : Joined IsNode (tables_at (codes "node") t) plan.opening
  pub profiles : Each IsProfile (named_tables_at (codes "profile") t) plan.profiles

-- the plan of a document that was read as TOML
abbrev pub IsPlanOf : Option Members → Plan → Type 0
IsPlanOf None plan = ⊥
IsPlanOf (Some t) plan = IsPlan t plan
