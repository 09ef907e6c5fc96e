-- What blocks a walk at its ends. own
use Rattle.std.specs.Prelude.{◌≡◌, ℕ, ◌==◌, ◌&&◌, Bool, true, false, Option, Some, None, option_map, if◌then◌else◌}
use Rattle.std.specs.Option.{option_map_or}
use Rattle.std.specs.List.{list_any}
use Rattle.std.specs.Ordering.{nat_cmp}
use Rattle.ll_rights.specs.Map.{Map, get}
use Rattle.ll_path.specs.Path.{Path}
use Rattle.ll_seq.specs.declared.found.Spot.{Spot}
use Rattle.ll_seq.specs.declared.found.There.{There}
use Rattle.ll_seq.specs.declared.call.Call.{Call}
use Rattle.ll_seq.specs.declared.facts.Fact.{Fact}
use Rattle.ll_seq.specs.Call.{first_path, second_path}
use Rattle.ll_node.specs.declared.held.Held.{Held}
use Rattle.ll_laws.specs.Walk.{Walk, Leg, at_ends, is_in}
use Rattle.ll_laws.specs.World.{World, is_marked_by_other, last_node, last_nodes, shown}
use Rattle.ll_laws.specs.Commits.{first_end, second_end}
use Rattle.ll_journal.specs.Book.{Book, inode_in}
use Rattle.ll_journal.specs.Checks.{is_marked_at, spot_at}

-- The client's walk is at its ends. Another client's walk is in the node in this slot, which one of the call's paths
-- leads to. So the walk isn't answered yet
pub record IsInWay (b : Book) (number : ℕ) (slot : ℕ) : Type 0 where
  pub walk : Walk
  pub is : get b.world.walks number ≡ Some walk
  pub ends : at_ends walk.call walk.at ≡ true
  pub named : is_in (last_nodes (shown b.world) walk.call) (inode_in b slot) ≡ true
  pub marked : is_marked_by_other b.world number (inode_in b slot) ≡ true

-- no other client's walk is in the node at the end of the path
abbrev pub IsLeft : World → ℕ → Path → Type 0
IsLeft w number path = list_any (is_marked_by_other w number) (last_node (shown w) path) ≡ false

-- If the client's walk goes on and is at its ends: no other walk is in the node of a path whose leg ends in the slot's
-- directory
abbrev pub IsFreeFrom : Book → ℕ → ℕ → Type 0
IsFreeFrom b number slot =
    (walk : Walk) → get b.world.walks number ≡ Some walk → walk.stale ≡ false → at_ends walk.call walk.at ≡ true
    → (leg : Leg) → leg.here ≡ inode_in b slot
    → (first_end walk.at ≡ Some leg → IsLeft b.world number (first_path walk.call))
    × (second_end walk.at ≡ Some leg → IsLeft b.world number (second_path walk.call))

-- ---- How it is found. No public contract cites this

-- the node of the path's last name, if the path's leg ends in the held directory and the node is marked
abbrev pub node_at_end : (ℕ → Bool) → Option ℕ → Held → Path → Spot → Option ℕ
node_at_end marked end held path spot =
    if option_map_or (λ here. here == held.inode) end false && is_marked_at marked path spot
    then option_map (λ (there : There). there.inode) spot.there
    else None

-- for both paths, the first one's before the second's
abbrev pub node_in_way : (ℕ → Bool) → Map nat_cmp Fact → Option ℕ → Option ℕ → Held → Call → Option ℕ
node_in_way marked facts first second held call =
    option_map_or (λ node. Some node)
    (node_at_end marked first held (first_path call) (spot_at facts held (first_path call)))
    (node_at_end marked second held (second_path call) (spot_at facts held (second_path call)))
