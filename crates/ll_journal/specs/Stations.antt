-- Where a client's walk is, and which name it takes next. own
use Rattle.std.specs.Prelude.{◌≡◌, ℕ, ◌-◌, [], length, Option, Some, option_map, slice_get, if◌then◌else◌}
use Rattle.std.specs.Option.{option_map_or}
use Rattle.ll_rights.specs.Map.{get}
use Rattle.ll_path.specs.Path.{Path, is_root}
use Rattle.ll_seq.specs.declared.call.Call.{Call}
use Rattle.ll_seq.specs.Call.{first_path, second_path}
use Rattle.ll_seq.specs.State.{Name}
use Rattle.ll_laws.specs.Walk as walk
use Rattle.ll_laws.specs.Walk.{Walk, Leg, has_two_paths}
use Rattle.ll_laws.specs.World.{World}
use Rattle.ll_node.specs.declared.held.Held.{Held}
use Rattle.ll_journal.specs.declared.onward.NextName.{NextName}
use Rattle.ll_journal.specs.declared.position.Position.{Position}
use Rattle.ll_journal.specs.declared.position.Position.TheVariants.{Above, Down, Split}
use Rattle.ll_journal.specs.declared.position.Stand.{Stand}
use Rattle.ll_journal.specs.declared.stage.Turn.{Turn}
use Rattle.ll_journal.specs.declared.stage.Turn.TheVariants as turns
use Rattle.ll_journal.specs.declared.station.Station.{Station}
use Rattle.ll_journal.specs.declared.station.Station.TheVariants as station

-- by the names ahead
abbrev pub station_at : Call → walk.Position → Station
station_at call walk.Above = station.Above
station_at call (walk.Down trunk) =
    if is_root trunk.ahead then if has_two_paths call then station.Fork else station.End else station.Trunk
station_at call (walk.Split trunk old new) =
    if is_root old.ahead then if is_root new.ahead then station.End else station.Second else station.First

abbrev pub station_of : Option Walk → Station
station_of walk =
    option_map_or (λ (w : Walk). if w.stale then station.Stale else station_at w.call w.at) walk station.Idle

abbrev pub station_in : World → ℕ → Station
station_in w number = station_of (get w.walks number)

-- where the walk is while this leg has names ahead
abbrev pub station_on : Turn → Station
station_on turns.No = station.Above
station_on turns.Trunk = station.Trunk
station_on turns.First = station.First
station_on turns.Second = station.Second

-- the path that the leg takes its names from
abbrev pub path_by : Turn → Call → Path
path_by turns.No call = []
path_by turns.Second call = second_path call
path_by other call = first_path call

-- this name of the call has this inode in the held directory
abbrev pub Names : Call → Held → NextName → ℕ → Type 0
Names call held next inode =
    (name : Name) × (slice_get (path_by next.turn call) next.depth ≡ Some name)
    × (get held.node.names name ≡ Some inode)

-- the call of the client's walk under way
abbrev pub call_of : World → ℕ → Option Call
call_of w number = option_map (λ (v : Walk). v.call) (get w.walks number)

-- the names that led the leg are those below the root
abbrev pub stand_of : Leg → Stand
stand_of leg = record { inode = leg.here; depth = length leg.chain - 1 }

abbrev pub position_at : walk.Position → Position
position_at walk.Above = Above
position_at (walk.Down trunk) = Down (stand_of trunk)
position_at (walk.Split trunk old new) = Split (stand_of trunk) (stand_of old) (stand_of new)

-- of a walk that is under way
abbrev pub position_in : World → ℕ → Option Position
position_in w number = option_map (λ (v : Walk). position_at v.at) (get w.walks number)
