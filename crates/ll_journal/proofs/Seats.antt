-- What a walk's moves make of its seat.
use Rattle.std.specs.Prelude.{◌≡◌, ℕ, zero, suc, ◌+◌, ◌-◌, ◌<◌, ◌≤◌, true, false, cond, List, [], ◌∷◌, ◌++◌}
use Rattle.std.specs.Prelude.{length, Option, Some, None, option_map, option_and_then}
use Rattle.std.specs.Prelude.{slice_get, slice_index_or, take, drop, IsSome, IfSome, refl, ⊤}
use Rattle.std.specs.Option.{option_map_or}
use Rattle.std.proofs.Common.{sym, subst, ap, ◌∙◌, arith, length-append, append_assoc}
use Rattle.ll_rules.specs.Layer.{Layer}
use Rattle.ll_decide.specs.Masks.{AreMasks}
use Rattle.ll_path.specs.Path.{Path, parent, is_root}
use Rattle.ll_seq.specs.declared.call.Call.{Call}
use Rattle.ll_seq.specs.Call.{first_path, second_path}
use Rattle.ll_seq.specs.State.{Name, root}
use Rattle.ll_laws.specs.Walk.{Leg, Position, Down, Split, Walk, trunk_path, first_leg, masks_below, turn, with_turn}
use Rattle.ll_laws.proofs.CarriedMasks.{masks_above, masks_down}
use Rattle.ll_laws.proofs.Ways.{common_left}
use Rattle.ll_path.specs.Place.{IsPlace}
use Rattle.ll_journal.specs.declared.leg.Leg as kept
use Rattle.ll_journal.specs.declared.stage.Stage.{Stage}
use Rattle.ll_journal.specs.declared.stage.Stage.TheVariants as stage
use Rattle.ll_journal.specs.declared.stage.Turn.{Turn}
use Rattle.ll_journal.specs.declared.stage.Turn.TheVariants as turns
use Rattle.ll_journal.specs.declared.seat.Seat.TheInside.{Inside}
use Rattle.ll_journal.specs.declared.station.Station.TheVariants as station
use Rattle.ll_journal.specs.Book as book
use Rattle.ll_journal.specs.Stations.{station_at, station_of}
use Rattle.ll_journal.specs.Stations.{path_by}
use Rattle.ll_journal.specs.Seated.{granted, depth_of, last_of, leg_of, position_at, seat_of, Fits, FitSplit, FitAt}
use Rattle.ll_journal.specs.Seated.{AreShort, StandsAt, none_left, name_on, turn_at, next_in, here_in, entered}
use Rattle.ll_journal.specs.Seated.{lower, gone_down, split}
use Rattle.ll_journal.proofs.Ahead.{common_less, parent_begins, longer, shorter, get_longer, ended, name_is}

-- ---- what is kept, by the stage

pub trunk_fits : (seat : Inside) (call : Call) → seat.call ≡ Some call → seat.stage ≡ stage.Down
    → IfSome seat.call (FitAt seat.stage seat) → Fits seat.client.domain (trunk_path call) seat.trunk
trunk_fits seat call is down fit =
    subst (λ n. FitAt n seat call) down (subst (λ (o : Option Call). IfSome o (FitAt seat.stage seat)) is fit)

pub split_fits : (seat : Inside) (call : Call) → seat.call ≡ Some call → seat.stage ≡ stage.Split
    → IfSome seat.call (FitAt seat.stage seat) → FitSplit seat call
split_fits seat call is split fit =
    subst (λ n. FitAt n seat call) split (subst (λ (o : Option Call). IfSome o (FitAt seat.stage seat)) is fit)

-- ---- the root

first_masks : (domain : List Layer) → granted domain (root ∷ []) ≡ (first_leg domain []).masks
first_masks domain = sym (ap (λ ms. masks_below domain ms root) (masks_above domain) ∙ masks_down domain [] root)

leg_at_root : (domain : List Layer) (path : Path) → leg_of domain path (root ∷ []) ≡ first_leg domain path
leg_at_root domain path = ap (λ ms. record { walked = []; ahead = path; chain = root ∷ []; here = root; masks = ms })
    (first_masks domain)

pub entered_is : (seat : Inside) (trunk : kept.Leg) → StandsAt seat.client.domain (root ∷ []) trunk
    → seat_of (record seat { stage = stage.Down; trunk = trunk })
    ≡ record (seat_of seat) { walk = option_map (entered seat.client.domain) (seat_of seat).walk }
entered_is seat trunk at = by seat.call
  where
    leg : (call : Call) → leg_of seat.client.domain (trunk_path call) trunk.chain.items
        ≡ first_leg seat.client.domain (trunk_path call)
    leg call = ap (leg_of seat.client.domain (trunk_path call)) at.chain
        ∙ leg_at_root seat.client.domain (trunk_path call)

    by : (o : Option Call) → seat_of (record seat { call = o; stage = stage.Down; trunk = trunk })
        ≡ record (seat_of (record seat { call = o }))
        { walk = option_map (entered seat.client.domain) (seat_of (record seat { call = o })).walk }
    by None = refl
    by (Some call) = ap (λ (l : Leg).
        record {
          client = seat.client;
          spare = seat.spare;
          walk = Some (record { call = call; starts = seat.starts; stale = seat.is_stale; at = Down l });
        }) (leg call)

-- ---- one name further

cut_at : (path : Path) (d : ℕ) (name : Name) → slice_get path d ≡ Some name → (drop d path ≡ name ∷ drop (suc d) path)
    × (take (suc d) path ≡ take d path ++ name ∷ []) × (d < length path)
cut_at [] d name e = absurd (cc e)
cut_at (x ∷ path) zero name e = let same : x ≡ name = (cc e) in
    (ap (λ y. y ∷ path) same, ap (λ y. y ∷ []) same, omega arith)
cut_at (x ∷ path) (suc d) name e = let rest = cut_at path d name e in
    (rest.0, ap (λ p. x ∷ p) rest.1, let lt = rest.2 in omega arith)

last_pushed : (chain : List ℕ) (x : ℕ) → slice_index_or (chain ++ x ∷ []) (length chain) 0 ≡ x
last_pushed [] x = refl
last_pushed (y ∷ chain) x = last_pushed chain x

leg_down : (domain : List Layer) (path : Path) (chain : List ℕ) (inode : ℕ) (name : Name) → 0 < length chain
    → slice_get path (depth_of chain) ≡ Some name
    → leg_of domain path (chain ++ inode ∷ [])
    ≡ lower domain inode (leg_of domain path chain) (drop (depth_of chain) path)
leg_down domain path chain inode name some e =
    let cut = cut_at path (depth_of chain) name e in
    let long : length (chain ++ inode ∷ []) ≡ length chain + 1 = length-append chain (inode ∷ []) in
    let depth : depth_of (chain ++ inode ∷ []) ≡ suc (depth_of chain) = omega (arith, long) in
    let end : length (chain ++ inode ∷ []) - 1 ≡ length chain = omega (arith, long) in
    let here : last_of (chain ++ inode ∷ []) ≡ inode =
    ap (λ k. slice_index_or (chain ++ inode ∷ []) k 0) end ∙ last_pushed chain inode in
    let walked : take (depth_of (chain ++ inode ∷ [])) path ≡ take (depth_of chain) path ++ name ∷ [] =
    ap (λ k. take k path) depth ∙ cut.1 in
    let ahead : drop (depth_of (chain ++ inode ∷ [])) path ≡ drop (suc (depth_of chain)) path =
    ap (λ k. drop k path) depth in
    let masks : granted domain (chain ++ inode ∷ []) ≡ masks_below domain (granted domain chain) inode =
    sym (masks_down domain chain inode) in
    (λ i. record { walked = walked i; ahead = ahead i; chain = chain ++ inode ∷ []; here = here i; masks = masks i })
    ∙ ap (lower domain inode (leg_of domain path chain)) (sym cut.0)

-- ---- the leg in turn

-- as the walk of the model has it
abbrev turn_now : Stage → Call → List ℕ → Turn
turn_now now call first = turn_at now (is_root (drop (depth_of first) (parent (first_path call))))

-- by the names that are kept of the first path's leg
turn_kept : (now : Stage) (seat : Inside) (call : Call) → FitAt now seat call
    → turn_at now (none_left seat.first.ahead) ≡ turn_now now call seat.first.chain.items
turn_kept stage.Above seat call fit = refl
turn_kept stage.Down seat call fit = refl
turn_kept stage.Split seat call fit =
    ap (turn_at stage.Split) (ended (parent (first_path call)) (depth_of seat.first.chain.items) seat.first.ahead
    fit.first.ahead)

next_ahead : (path : Path) (d : ℕ) → slice_get (drop d path) 0 ≡ slice_get path d
next_ahead [] zero = refl
next_ahead [] (suc d) = refl
next_ahead (x ∷ path) zero = refl
next_ahead (x ∷ path) (suc d) = next_ahead path d

-- what the leg of the seat's walk has
abbrev pub path_in : Turn → Call → Path
path_in turns.No call = []
path_in turns.Trunk call = trunk_path call
path_in turns.First call = parent (first_path call)
path_in turns.Second call = parent (second_path call)

abbrev pub kept_in : Turn → Inside → kept.Leg
kept_in turns.No seat = seat.trunk
kept_in turns.Trunk seat = seat.trunk
kept_in turns.First seat = seat.first
kept_in turns.Second seat = seat.second

abbrev pub chain_in : Turn → Inside → List ℕ
chain_in t seat = (kept_in t seat).chain.items

abbrev pub leg_in : Turn → Inside → Call → Option Leg
leg_in turns.No seat call = None
leg_in turns.Trunk seat call = Some (leg_of seat.client.domain (trunk_path call) seat.trunk.chain.items)
leg_in turns.First seat call = Some (leg_of seat.client.domain (parent (first_path call)) seat.first.chain.items)
leg_in turns.Second seat call = Some (leg_of seat.client.domain (parent (second_path call)) seat.second.chain.items)

turn_is : (now : Stage) (seat : Inside) (call : Call)
    → turn (position_at now seat call) ≡ leg_in (turn_now now call seat.first.chain.items) seat call
turn_is stage.Above seat call = refl
turn_is stage.Down seat call = refl
turn_is stage.Split seat call =
    elim (is_root (drop (depth_of seat.first.chain.items) (parent (first_path call)))) as
    (λ b. Some (cond b (leg_of seat.client.domain (parent (second_path call)) seat.second.chain.items)
    (leg_of seat.client.domain (parent (first_path call)) seat.first.chain.items))
    ≡ leg_in (cond b turns.Second turns.First) seat call) [
      | true ↦ refl
      | false ↦ refl
    ]

-- what is kept of the leg in turn
abbrev FitTurn : Turn → Inside → Call → Type 0
FitTurn turns.No seat call = ⊤
FitTurn turns.Trunk seat call = Fits seat.client.domain (trunk_path call) seat.trunk
FitTurn turns.First seat call = Fits seat.client.domain (parent (first_path call)) seat.first
FitTurn turns.Second seat call = Fits seat.client.domain (parent (second_path call)) seat.second

fit_turn : (now : Stage) (seat : Inside) (call : Call) → FitAt now seat call
    → FitTurn (turn_now now call seat.first.chain.items) seat call
fit_turn stage.Above seat call fit = tt
fit_turn stage.Down seat call fit = fit
fit_turn stage.Split seat call fit =
    elim (is_root (drop (depth_of seat.first.chain.items) (parent (first_path call)))) as
    (λ b. FitTurn (cond b turns.Second turns.First) seat call) [
      | true ↦ fit.second
      | false ↦ fit.first
    ]

way_begins : (t : Turn) (call : Call) → (more : Path) × (path_in t call ++ more ≡ path_by t call)
way_begins turns.No call = ([], refl)
way_begins turns.Trunk call =
    let way = common_left (parent (first_path call)) (parent (second_path call)) in
    let rest = parent_begins (first_path call) in
    (way.0 ++ rest.0, sym (append_assoc (trunk_path call) way.0 rest.0) ∙ ap (λ (p : Path). p ++ rest.0) way.1 ∙ rest.1)
way_begins turns.First call = parent_begins (first_path call)
way_begins turns.Second call = parent_begins (second_path call)

module _ (seat : Inside) (call : Call) (is : seat.call ≡ Some call) (t : Turn)
    (found : t ≡ turn_at seat.stage (none_left seat.first.ahead)) (fit : IfSome seat.call (FitAt seat.stage seat)) where
  fit_here : FitAt seat.stage seat call
  fit_here = subst (λ (o : Option Call). IfSome o (FitAt seat.stage seat)) is fit

  found_now : t ≡ turn_now seat.stage call seat.first.chain.items
  found_now = found ∙ turn_kept seat.stage seat call fit_here

  in_turn : turn (position_at seat.stage seat call) ≡ leg_in t seat call
  in_turn = turn_is seat.stage seat call ∙ ap (λ u. leg_in u seat call) (sym found_now)

  fits : FitTurn t seat call
  fits = subst (λ u. FitTurn u seat call) (sym found_now) (fit_turn seat.stage seat call fit_here)

  pub next_is : next_in (seat_of seat) ≡ option_and_then (λ (leg : Leg). slice_get leg.ahead 0) (leg_in t seat call)
  next_is = ap (λ (o : Option Call). next_in
      (record (seat_of seat) {
        walk = option_map
            (λ k. record { call = k; starts = seat.starts; stale = seat.is_stale; at = position_at seat.stage seat k })
            o;
      }))
      is
      ∙ ap (option_and_then (λ (leg : Leg). slice_get leg.ahead 0)) in_turn

  pub here_is : here_in (seat_of seat) ≡ option_map (λ (leg : Leg). leg.here) (leg_in t seat call)
  here_is = ap (λ (o : Option Call). here_in
      (record (seat_of seat) {
        walk = option_map
            (λ k. record { call = k; starts = seat.starts; stale = seat.is_stale; at = position_at seat.stage seat k })
            o;
      }))
      is
      ∙ ap (option_map (λ (leg : Leg). leg.here)) in_turn

  module _ (there : IsSome (leg_in t seat call)) where
    pub fits_there : Fits seat.client.domain (path_in t call) (kept_in t seat)
    fits_there = by t fits there
      where
        by : (u : Turn) → FitTurn u seat call → IsSome (leg_in u seat call)
            → Fits seat.client.domain (path_in u call) (kept_in u seat)
        by turns.No f e = absurd (cc e)
        by turns.Trunk f e = f
        by turns.First f e = f
        by turns.Second f e = f

    pub leg_is : leg_in t seat call ≡ Some (leg_of seat.client.domain (path_in t call) (chain_in t seat))
    leg_is = by t there
      where
        by : (u : Turn) → IsSome (leg_in u seat call)
            → leg_in u seat call ≡ Some (leg_of seat.client.domain (path_in u call) (chain_in u seat))
        by turns.No e = absurd (cc e)
        by turns.Trunk e = refl
        by turns.First e = refl
        by turns.Second e = refl

    pub place_is : IsPlace (path_by t call) (kept_in t seat).ahead.place
    place_is = let way = way_begins t call in
        longer (path_in t call) way.0 (path_by t call) (kept_in t seat).ahead.place way.1 fits_there.ahead.place

    pub name_there : name_on (path_by t call) (kept_in t seat).ahead ≡ next_in (seat_of seat)
    name_there =
        let way = way_begins t call in
        name_is (path_in t call) way.0 (path_by t call) (depth_of (chain_in t seat)) (kept_in t seat).ahead way.1
        fits_there.ahead
        ∙ sym (next_is ∙ ap (option_and_then (λ (leg : Leg). slice_get leg.ahead 0)) leg_is
        ∙ next_ahead (path_in t call) (depth_of (chain_in t seat)))

-- ---- the leg in turn goes down

some_name : (o : Option Name) → IsSome o → (name : Name) × (o ≡ Some name)
some_name None e = absurd (cc e)
some_name (Some name) e = (name, refl)

-- the seat with another leg in its place
abbrev pub put : Turn → Inside → kept.Leg → Inside
put turns.No seat leg = seat
put turns.Trunk seat leg = record seat { trunk = leg }
put turns.First seat leg = record seat { first = leg }
put turns.Second seat leg = record seat { second = leg }

with_leg : (now : Stage) (seat : Inside) (call : Call) (leg : kept.Leg) → let t =
    turn_now now call seat.first.chain.items in
    with_turn (position_at now seat call) (leg_of seat.client.domain (path_in t call) leg.chain.items)
    ≡ position_at now (put t seat leg) call
with_leg stage.Above seat call leg = refl
with_leg stage.Down seat call leg = refl
with_leg stage.Split seat call leg =
    let old = leg_of seat.client.domain (parent (first_path call)) seat.first.chain.items in
    let new = leg_of seat.client.domain (parent (second_path call)) seat.second.chain.items in
    let trunk = leg_of seat.client.domain (trunk_path call) seat.trunk.chain.items in
    elim (is_root (drop (depth_of seat.first.chain.items) (parent (first_path call)))) as
    (λ b. cond b (Split trunk old
    (leg_of seat.client.domain (path_in (cond b turns.Second turns.First) call) leg.chain.items))
    (Split trunk (leg_of seat.client.domain (path_in (cond b turns.Second turns.First) call) leg.chain.items) new)
    ≡ position_at stage.Split (put (cond b turns.Second turns.First) seat leg) call) [
      | true ↦ refl
      | false ↦ refl
    ]

parent_less : (p : Path) (most : ℕ) → length p ≤ suc most → length (parent p) ≤ most
parent_less [] most le = omega arith
parent_less (x ∷ []) most le = omega arith
parent_less (x ∷ y ∷ p) zero le = absurd (omega arith)
parent_less (x ∷ y ∷ p) (suc most) le = let rest = parent_less (y ∷ p) most (omega arith) in omega arith

pub short_path : (call : Call) → AreShort call → (t : Turn) → length (path_in t call) ≤ 63
short_path call short turns.No = omega arith
short_path call short turns.Trunk = let a = parent_less (first_path call) 63 short.0 in let b =
    common_less (parent (first_path call)) (parent (second_path call)) in omega arith
short_path call short turns.First = parent_less (first_path call) 63 short.0
short_path call short turns.Second = parent_less (second_path call) 63 short.1

-- and what is kept of it
fit_put : (now : Stage) (seat : Inside) (call : Call) (leg : kept.Leg) → let t =
    turn_now now call seat.first.chain.items in
    FitAt now seat call → Fits seat.client.domain (path_in t call) leg → FitAt now (put t seat leg) call
fit_put stage.Above seat call leg fit new = tt
fit_put stage.Down seat call leg fit new = new
fit_put stage.Split seat call leg fit new =
    elim (is_root (drop (depth_of seat.first.chain.items) (parent (first_path call)))) as
    (λ b. Fits seat.client.domain (path_in (cond b turns.Second turns.First) call) leg
    → FitAt stage.Split (put (cond b turns.Second turns.First) seat leg) call) [
      | true ↦ λ f. record { trunk = fit.trunk; first = fit.first; second = f }
      | false ↦ λ f. record { trunk = fit.trunk; first = f; second = fit.second }
    ] new

module _ (seat : Inside) (call : Call) (is : seat.call ≡ Some call) (t : Turn)
    (found : t ≡ turn_at seat.stage (none_left seat.first.ahead))
    (fit : IfSome seat.call (FitAt seat.stage seat)) (short : IfSome seat.call AreShort)
    (next : IsSome (next_in (seat_of seat))) where
  one : IsSome (option_and_then (λ (leg : Leg). slice_get leg.ahead 0) (leg_in t seat call))
  one = subst (λ (o : Option Name). IsSome o) (next_is seat call is t found fit) next

  there : IsSome (leg_in t seat call)
  there = by (leg_in t seat call) one
    where
      by : (o : Option Leg) → IsSome (option_and_then (λ (leg : Leg). slice_get leg.ahead 0) o) → IsSome o
      by None e = absurd (cc e)
      by (Some leg) e = refl

  fits_now : Fits seat.client.domain (path_in t call) (kept_in t seat)
  fits_now = fits_there seat call is t found fit there

  name : (name : Name) × (slice_get (path_in t call) (depth_of (chain_in t seat)) ≡ Some name)
  name =
      let n = some_name (slice_get (drop (depth_of (chain_in t seat)) (path_in t call)) 0)
      (subst (λ (o : Option Leg). IsSome (option_and_then (λ (leg : Leg). slice_get leg.ahead 0) o))
      (leg_is seat call is t found fit there) one) in
      (n.0, sym (next_ahead (path_in t call) (depth_of (chain_in t seat))) ∙ n.1)

  some : 0 < length (chain_in t seat)
  some = fits_now.some

  within : depth_of (chain_in t seat) < length (path_in t call)
  within = (cut_at (path_in t call) (depth_of (chain_in t seat)) name.0 name.1).2

  pub room_left : length (chain_in t seat) < 64
  room_left =
      let lt = within in
      let le = short_path call (subst (λ (o : Option Call). IfSome o AreShort) is short) t in
      let s = some in
      omega arith

  pub place_now : IsPlace (path_by t call) (kept_in t seat).ahead.place
  place_now = place_is seat call is t found fit there

  pub name_now : IsSome (slice_get (path_by t call) (kept_in t seat).ahead.place.depth)
  name_now =
      let way = way_begins t call in
      let lt = subst (λ (k : ℕ). k < length (path_in t call)) (sym fits_now.ahead.depth) within in
      subst (λ (o : Option Name). IsSome o)
      (sym (get_longer (path_in t call) way.0 (path_by t call) (kept_in t seat).ahead.place.depth way.1 lt
      ∙ ap (slice_get (path_in t call)) fits_now.ahead.depth ∙ name.1)) refl

  module _ (inode : ℕ) (leg : kept.Leg) (stands : StandsAt seat.client.domain (chain_in t seat ++ inode ∷ []) leg)
      (place : IsPlace (path_by t call) leg.ahead.place)
      (depth : leg.ahead.place.depth ≡ (kept_in t seat).ahead.place.depth + 1)
      (len : leg.ahead.len ≡ (kept_in t seat).ahead.len) where
    fits_below : Fits seat.client.domain (path_in t call) leg
    fits_below =
        let way = way_begins t call in
        let long : length leg.chain.items ≡ length (chain_in t seat) + 1 =
        ap length stands.chain ∙ length-append (chain_in t seat) (inode ∷ []) in
        let old : (kept_in t seat).ahead.place.depth ≡ depth_of (chain_in t seat) = fits_now.ahead.depth in
        let lt = within in
        let s = some in
        record {
          some = omega (arith, long);
          masks = subst (AreMasks leg.masks seat.client.domain) (sym stands.chain) stands.masks;
          ahead = record {
            place = shorter (path_in t call) way.0 (path_by t call) leg.ahead.place way.1
                (omega (arith, depth, old, lt)) place;
            depth = omega (arith, depth, old, long, s);
            len = len ∙ fits_now.ahead.len;
          };
        }

    pub fit_below : IfSome seat.call (FitAt seat.stage (put t seat leg))
    fit_below =
        let turned = found_now seat call is t found fit in
        subst (λ (o : Option Call). IfSome o (FitAt seat.stage (put t seat leg))) (sym is)
        (subst (λ u. FitAt seat.stage (put u seat leg) call) (sym turned)
        (fit_put seat.stage seat call leg (fit_here seat call is t found fit)
        (subst (λ u. Fits seat.client.domain (path_in u call) leg) turned fits_below)))

  module _ (inode : ℕ) (leg : kept.Leg) (at : leg.chain.items ≡ chain_in t seat ++ inode ∷ []) where
    abbrev old_leg : Leg
    old_leg = leg_of seat.client.domain (path_in t call) (chain_in t seat)

    new_leg : lower seat.client.domain inode old_leg old_leg.ahead
        ≡ leg_of seat.client.domain (path_in t call) leg.chain.items
    new_leg = sym (leg_down seat.client.domain (path_in t call) (chain_in t seat) inode name.0 some name.1)
        ∙ ap (leg_of seat.client.domain (path_in t call)) (sym at)

    abbrev walk_at : Position → Walk
    walk_at p = record { call = call; starts = seat.starts; stale = seat.is_stale; at = p }

    new_walk : gone_down seat.client.domain inode (walk_at (position_at seat.stage seat call))
        ≡ walk_at (position_at seat.stage (put t seat leg) call)
    new_walk =
        ap (λ (o : Option Leg). option_map_or
        (λ (l : Leg). walk_at (with_turn (position_at seat.stage seat call)
        (lower seat.client.domain inode l l.ahead))) o (walk_at (position_at seat.stage seat call)))
        (in_turn seat call is t found fit ∙ leg_is seat call is t found fit there)
        ∙ ap (λ (l : Leg). walk_at (with_turn (position_at seat.stage seat call) l)) new_leg
        ∙ ap (λ u. walk_at (with_turn (position_at seat.stage seat call)
        (leg_of seat.client.domain (path_in u call) leg.chain.items))) (found_now seat call is t found fit)
        ∙ ap walk_at (with_leg seat.stage seat call leg)
        ∙ ap (λ u. walk_at (position_at seat.stage (put u seat leg) call)) (sym (found_now seat call is t found fit))

    abbrev seat_with : Option Walk → book.Seat
    seat_with walk = record { client = seat.client; spare = seat.spare; walk = walk }

    pub went_down : seat_with (option_map
        (λ k. record {
          call = k;
          starts = seat.starts;
          stale = seat.is_stale;
          at = position_at seat.stage (put t seat leg) k;
        }) seat.call)
        ≡ record (seat_of seat) { walk = option_map (gone_down seat.client.domain inode) (seat_of seat).walk }
    went_down =
        ap (λ (o : Option Call). seat_with
        (option_map (λ k. record {
          call = k;
          starts = seat.starts;
          stale = seat.is_stale;
          at = position_at seat.stage (put t seat leg) k;
        }) o)) is
        ∙ ap (λ (w : Walk). seat_with (Some w)) (sym new_walk)
        ∙ ap (λ (o : Option Call). seat_with
        (option_map (gone_down seat.client.domain inode)
        (option_map (λ k. record {
          call = k;
          starts = seat.starts;
          stale = seat.is_stale;
          at = position_at seat.stage seat k;
        }) o))) (sym is)

-- ---- where the walk is

module _ (seat : Inside) (call : Call) (is : seat.call ≡ Some call) (fresh : seat.is_stale ≡ false) where
  -- by the stage
  pub station_is : (now : Stage) → seat.stage ≡ now
      → station_of (seat_of seat).walk ≡ station_at call (position_at now seat call)
  station_is now e =
      ap (λ (o : Option Call). station_of
      (option_map (λ k. record {
        call = k;
        starts = seat.starts;
        stale = seat.is_stale;
        at = position_at seat.stage seat k;
      }) o)) is
      ∙ ap (λ b. cond b station.Stale (station_at call (position_at seat.stage seat call))) fresh
      ∙ ap (λ n. station_at call (position_at n seat call)) e
