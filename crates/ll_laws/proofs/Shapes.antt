-- Names for what the steps make of a world.
use Rattle.std.specs.Prelude.{ℕ, ◌+◌, Bool, true, false, not, ◌||◌, ◌==◌, List, [], ◌∷◌, ◌++◌, Option, Some, None}
use Rattle.std.specs.Prelude.{option_and_then, if◌then◌else◌}
use Rattle.std.specs.Option.{option_map_or}
use Rattle.ll_rights.specs.Kind.{is_dir}
use Rattle.ll_rights.specs.Map.{get, insert}
use Rattle.ll_rules.specs.Layer.{Layer, restricts, has_rule}
use Rattle.ll_seq.specs.declared.call.Call.{Call}
use Rattle.ll_seq.specs.declared.call.Call.TheVariants as call
use Rattle.ll_seq.specs.declared.reply.Reply.{Reply}
use Rattle.ll_seq.specs.State.{State}
use Rattle.ll_seq.specs.Tree.{kind_or_file}
use Rattle.ll_laws.specs.Walk.{Walk, Leg, Mask, Above, Down, is_in, rights_where, trunk_path, first_leg, with_turn}
use Rattle.ll_laws.specs.Walk.{is_blocked}
use Rattle.ll_laws.specs.World.{World, Outcome, Replied, shown, domain_of, takes_gate, next_number, answered}
use Rattle.ll_laws.specs.World.{with_walk, without_walk, map_values, overtaken, moved_by, joined}

-- ---- Walks

abbrev pub first_mask : Layer → Mask
first_mask layer = rights_where (λ right. not (restricts layer right))

abbrev pub mask_below : Layer → Mask → ℕ → Mask
mask_below layer mask inode = rights_where (λ right. is_in mask right || has_rule layer right inode)

abbrev pub if_directory : State → ℕ → Option ℕ
if_directory s inode = if is_dir (kind_or_file s inode) then Some inode else None

-- the leg's next name names no directory
abbrev pub leg_is_blocked : State → Leg → Bool
leg_is_blocked s leg = is_blocked s leg.here leg.ahead

-- ---- Worlds

-- nobody else holds the gate
abbrev pub may_hold : World → ℕ → Bool
may_hold w number = option_map_or (λ holder. holder == number) w.gate true

abbrev pub with_entry : World → ℕ → Call → Reply → World
with_entry w number call reply =
    record w { history = w.history ++ record { client = number; call = call; reply = reply } ∷ [] }

abbrev pub with_stale : List ℕ → World → World
with_stale moved w = record w { walks = map_values (overtaken moved) w.walks }

-- ---- Steps

abbrev pub join : World → Outcome × World
join w = let r = answered w (next_number w) call.Connect in joined w r.0 r.1

abbrev pub begun : World → ℕ → Call → World
begun w number call = record w {
  walks = insert w.walks number (record { call = call; starts = 1; stale = false; at = Above });
  gate = if takes_gate call then Some number else w.gate;
}

abbrev pub entered : World → ℕ → Walk → World
entered w number walk = record w {
  walks = insert w.walks number (record walk { at = Down (first_leg (domain_of w number) (trunk_path walk.call)) });
  gate = if walk.starts == 4 then Some number else w.gate;
}

abbrev pub stood : World → ℕ → Walk → Leg → World
stood w number walk leg = with_walk w number (record walk { at = with_turn walk.at leg })

abbrev pub committed : World → ℕ → Walk → Outcome × World
committed w number walk =
    let r = answered (without_walk w number) number walk.call in
    (Replied r.0, with_stale (moved_by (shown w) walk.call r.0) r.1)

abbrev pub restarted : World → ℕ → Walk → World
restarted w number walk = with_walk w number (record walk { starts = walk.starts + 1; stale = false; at = Above })

abbrev pub replied : World → ℕ → Call → Outcome × World
replied w number call = let r = answered w number call in (Replied r.0, r.1)

abbrev pub walking : World → ℕ → (World → ℕ → Walk → Option (Outcome × World)) → Option (Outcome × World)
walking w number f = option_and_then (f w number) (get w.walks number)
