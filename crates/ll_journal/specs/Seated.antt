-- What a client's seat means. No public contract cites it. own
use Rattle.std.specs.Prelude.{◌≡◌, ℕ, Bool, ◌+◌, ◌-◌, ◌<◌, ◌≤◌, ◌==◌, List, [], ◌∷◌, map, length, take, drop, slice_get}
use Rattle.std.specs.Prelude.{slice_index_or, false, Option, Some, None, option_map, option_and_then, unwrap_or}
use Rattle.std.specs.Prelude.{if◌then◌else◌, IfSome, vec_capacity, ⊤}
use Rattle.std.specs.Option.{option_map_or}
use Rattle.ll_rights.specs.declared.limits.TheConstants.{PATH_NAMES}
use Rattle.ll_path.specs.Path.{Path, parent}
use Rattle.ll_path.specs.Place.{IsPlace}
use Rattle.ll_decide.specs.Masks.{AreMasks}
use Rattle.ll_rules.specs.Layer.{Layer, grants_on}
use Rattle.ll_seq.specs.declared.call.Call.{Call}
use Rattle.ll_seq.specs.Call.{first_path, second_path}
use Rattle.ll_seq.specs.State.{Name}
use Rattle.ll_laws.specs.Walk.{Leg, Position, Above, Down, Split, Mask, Walk, rights_where, trunk_path, leg_below}
use Rattle.ll_laws.specs.Walk.{turn, with_turn, at_ends, first_leg, forked}
use Rattle.ll_laws.specs.Commits.{first_end, second_end}
use Rattle.ll_journal.specs.declared.leg.Ahead.{Ahead}
use Rattle.ll_journal.specs.declared.leg.Leg as kept
use Rattle.ll_journal.specs.declared.leg.Legs.{Legs}
use Rattle.ll_journal.specs.declared.stage.Stage.{Stage}
use Rattle.ll_journal.specs.declared.stage.Stage.TheVariants as stage
use Rattle.ll_journal.specs.declared.stage.Turn.{Turn}
use Rattle.ll_journal.specs.declared.stage.Turn.TheVariants as turns
use Rattle.ll_journal.specs.declared.seat.Seat.TheInside.{Inside}
use Rattle.ll_journal.specs.Book as book

-- the rights that each layer grants on the chain
abbrev pub granted : List Layer → List ℕ → List Mask
granted domain chain = map (λ layer. rights_where (grants_on layer chain)) domain

-- the number of names that lead to the last inode of the chain
abbrev pub depth_of : List ℕ → ℕ
depth_of chain = length chain - 1

abbrev pub last_of : List ℕ → ℕ
last_of chain = slice_index_or chain (length chain - 1) 0

abbrev pub leg_of : List Layer → Path → List ℕ → Leg
leg_of domain path chain = record {
  walked = take (depth_of chain) path;
  ahead = drop (depth_of chain) path;
  chain = chain;
  here = last_of chain;
  masks = granted domain chain;
}

abbrev pub position_at : Stage → Inside → Call → Position
position_at stage.Above seat call = Above
position_at stage.Down seat call = Down (leg_of seat.client.domain (trunk_path call) seat.trunk.chain.items)
position_at stage.Split seat call =
    Split (leg_of seat.client.domain (trunk_path call) seat.trunk.chain.items)
    (leg_of seat.client.domain (parent (first_path call)) seat.first.chain.items)
    (leg_of seat.client.domain (parent (second_path call)) seat.second.chain.items)

abbrev pub seat_of : Inside → book.Seat
seat_of seat = record {
  client = seat.client;
  spare = seat.spare;
  walk = option_map (λ call. record {
    call = call;
    starts = seat.starts;
    stale = seat.is_stale;
    at = position_at seat.stage seat call;
  }) seat.call;
}

-- The names ahead, after this many names of the path were taken: where the next name begins, and how many the path has
pub record IsAhead (path : Path) (taken : ℕ) (ahead : Ahead) : Type 0 where
  pub place : IsPlace path ahead.place
  pub depth : ahead.place.depth ≡ taken
  pub len : ahead.len ≡ length path

-- a leg somewhere on the path, whose masks are its chain's
pub record Fits (domain : List Layer) (path : Path) (leg : kept.Leg) : Type 0 where
  pub some : 0 < length leg.chain.items
  pub masks : AreMasks leg.masks domain leg.chain.items
  pub ahead : IsAhead path (depth_of leg.chain.items) leg.ahead

-- the three legs past the fork do so
pub record FitSplit (seat : Inside) (call : Call) : Type 0 where
  pub trunk : Fits seat.client.domain (trunk_path call) seat.trunk
  pub first : Fits seat.client.domain (parent (first_path call)) seat.first
  pub second : Fits seat.client.domain (parent (second_path call)) seat.second

abbrev pub FitAt : Stage → Inside → Call → Type 0
FitAt stage.Above seat call = ⊤
FitAt stage.Down seat call = Fits seat.client.domain (trunk_path call) seat.trunk
FitAt stage.Split seat call = FitSplit seat call

-- a chain is at most as long as a path
abbrev pub AreShort : Call → Type 0
AreShort call = (length (first_path call) ≤ PATH_NAMES) × (length (second_path call) ≤ PATH_NAMES)

-- there is room for the longest chain
abbrev pub IsRoomy : kept.Leg → Type 0
IsRoomy leg = PATH_NAMES ≤ vec_capacity leg.chain

-- the leg has taken this chain
pub record StandsAt (domain : List Layer) (inodes : List ℕ) (leg : kept.Leg) : Type 0 where
  pub chain : leg.chain.items ≡ inodes
  pub masks : AreMasks leg.masks domain inodes
  pub roomy : IsRoomy leg

pub record AreRoomy (legs : Legs) : Type 0 where
  pub trunk : IsRoomy legs.trunk
  pub first : IsRoomy legs.first
  pub second : IsRoomy legs.second

pub record IsSeat (seat : Inside) : Type 0 where
  pub trunk : IsRoomy seat.trunk
  pub first : IsRoomy seat.first
  pub second : IsRoomy seat.second
  pub short : IfSome seat.call AreShort
  pub fit : IfSome seat.call (FitAt seat.stage seat)

-- ---- What a walk does in its seat

abbrev pub none_left : Ahead → Bool
none_left ahead = ahead.place.depth == ahead.len

-- the next name of a leg on this path
abbrev pub name_on : Path → Ahead → Option Name
name_on path ahead = if none_left ahead then None else slice_get path ahead.place.depth

-- which leg is in turn, depending on whether the first path's is at its end
abbrev pub turn_at : Stage → Bool → Turn
turn_at stage.Above is_first_ended = turns.No
turn_at stage.Down is_first_ended = turns.Trunk
turn_at stage.Split is_first_ended = if is_first_ended then turns.Second else turns.First

-- the next name of the leg in turn
abbrev pub next_of : Position → Option Name
next_of at = option_and_then (λ (leg : Leg). slice_get leg.ahead 0) (turn at)

abbrev pub next_in : book.Seat → Option Name
next_in seat = option_and_then (λ (walk : Walk). next_of walk.at) seat.walk

-- the directory where the leg in turn is
abbrev pub here_in : book.Seat → Option ℕ
here_in seat = option_and_then (λ (walk : Walk). option_map (λ (leg : Leg). leg.here) (turn walk.at)) seat.walk

abbrev pub entered : List Layer → Walk → Walk
entered domain walk = record walk { at = Down (first_leg domain (trunk_path walk.call)) }

-- the leg in this directory, after it took the first of these names
abbrev pub lower : List Layer → ℕ → Leg → Path → Leg
lower domain inode leg [] = leg
lower domain inode leg (name ∷ rest) = leg_below domain leg name rest inode

-- the walk after its leg in turn took its next name
abbrev pub gone_down : List Layer → ℕ → Walk → Walk
gone_down domain inode walk =
    option_map_or (λ (leg : Leg). record walk { at = with_turn walk.at (lower domain inode leg leg.ahead) })
    (turn walk.at) walk

abbrev pub split : Walk → Walk
split walk = record walk { at = unwrap_or (forked walk.call walk.at) walk.at }

abbrev pub again : Walk → Walk
again walk = record walk { starts = walk.starts + 1; stale = false; at = Above }

-- ---- What a commit needs to know of a seat

-- the call whose walk is under way
abbrev pub call_in : book.Seat → Option Call
call_in seat = option_map (λ (walk : Walk). walk.call) seat.walk

-- each branch of the walk is at its end
abbrev pub is_at_ends : book.Seat → Bool
is_at_ends seat = option_map_or (λ (walk : Walk). at_ends walk.call walk.at) seat.walk false

-- where the legs of the call's first path and second path are
abbrev pub first_here_in : book.Seat → Option ℕ
first_here_in seat =
    option_and_then (λ (walk : Walk). option_map (λ (leg : Leg). leg.here) (first_end walk.at)) seat.walk

abbrev pub second_here_in : book.Seat → Option ℕ
second_here_in seat =
    option_and_then (λ (walk : Walk). option_map (λ (leg : Leg). leg.here) (second_end walk.at)) seat.walk
