-- What the fork makes of a walk's seat.
use Rattle.std.specs.Prelude.{◌≡◌, ℕ, ◌<◌, ◌≤◌, Bool, true, false, cond, List, [], ◌∷◌, ◌++◌}
use Rattle.std.specs.Prelude.{length, Option, Some, None, is_some, unwrap_or, ◌&&◌, option_map}
use Rattle.std.specs.Prelude.{take, drop, IfSome, refl}
use Rattle.std.specs.Option.{option_map_or}
use Rattle.std.proofs.Common.{sym, subst, ap, ◌∙◌, arith}
use Rattle.ll_decide.specs.Masks.{AreMasks}
use Rattle.ll_path.specs.Path.{Path, parent, is_root}
use Rattle.ll_seq.specs.declared.call.Call.{Call}
use Rattle.ll_seq.specs.Call.{first_path, second_path}
use Rattle.ll_laws.specs.Walk.{Leg, Position, Down, Split, Walk, trunk_path}
use Rattle.ll_laws.specs.Walk.{has_two_paths, forked, toward}
use Rattle.ll_laws.proofs.Ways.{common_left, common_right}
use Rattle.ll_path.specs.Place.{IsPlace}
use Rattle.ll_journal.specs.declared.leg.Ahead.{Ahead}
use Rattle.ll_journal.specs.declared.leg.Leg as kept
use Rattle.ll_journal.specs.declared.stage.Stage.{Stage}
use Rattle.ll_journal.specs.declared.stage.Stage.TheVariants as stage
use Rattle.ll_journal.specs.declared.stage.Turn.TheVariants as turns
use Rattle.ll_journal.specs.declared.seat.Seat.TheInside.{Inside}
use Rattle.ll_journal.specs.Book as book
use Rattle.ll_journal.specs.Seated.{granted, depth_of, last_of, leg_of, position_at, seat_of, Fits, FitSplit, FitAt}
use Rattle.ll_journal.specs.Seated.{AreShort, none_left}
use Rattle.ll_journal.specs.Seated.{split}
use Rattle.ll_journal.proofs.Ahead.{longer, ended, all_gone}
use Rattle.ll_journal.proofs.Seats.{short_path, trunk_fits}

take_whole : (path more : Path) → take (length path) (path ++ more) ≡ path
take_whole [] more = refl
take_whole (x ∷ path) more = ap (λ p. x ∷ p) (take_whole path more)

take_all : (path : Path) → take (length path) path ≡ path
take_all [] = refl
take_all (x ∷ path) = ap (λ p. x ∷ p) (take_all path)

forked_is : (call : Call) (trunk : Leg) → (has_two_paths call && is_root trunk.ahead) ≡ true
    → forked call (Down trunk) ≡ Some (Split trunk (toward trunk (first_path call)) (toward trunk (second_path call)))
forked_is call trunk e = ap (λ b. cond b
    (Some (Split trunk (toward trunk (first_path call)) (toward trunk (second_path call)))) None) e

module _ (seat : Inside) (call : Call) (is : seat.call ≡ Some call) (fit : IfSome seat.call (FitAt seat.stage seat))
    (short : IfSome seat.call AreShort)
    (may : option_map_or (λ (walk : Walk). is_some (forked walk.call walk.at)) (seat_of seat).walk false ≡ true) where
  abbrev trunk_leg : Leg
  trunk_leg = leg_of seat.client.domain (trunk_path call) seat.trunk.chain.items

  fit_now : FitAt seat.stage seat call
  fit_now = subst (λ (o : Option Call). IfSome o (FitAt seat.stage seat)) is fit

  may_now : is_some (forked call (position_at seat.stage seat call)) ≡ true
  may_now = sym (ap (λ (o : Option Call). option_map_or (λ (walk : Walk). is_some (forked walk.call walk.at))
      (option_map (λ k. record {
        call = k;
        starts = seat.starts;
        stale = seat.is_stale;
        at = position_at seat.stage seat k;
      }) o) false) is) ∙ may

  -- it is on its one branch
  pub is_down : (seat.stage ≡ stage.Down) × (Fits seat.client.domain (trunk_path call) seat.trunk)
      × ((has_two_paths call && is_root trunk_leg.ahead) ≡ true)
  is_down = by seat.stage fit_now may_now
    where
      by : (now : Stage) → FitAt now seat call → is_some (forked call (position_at now seat call)) ≡ true
          → (now ≡ stage.Down) × (Fits seat.client.domain (trunk_path call) seat.trunk)
          × ((has_two_paths call && is_root trunk_leg.ahead) ≡ true)
      by stage.Above f m = absurd (cc m)
      by stage.Down f m = (
        refl,
        f,
        elim (has_two_paths call && is_root trunk_leg.ahead) as
            (λ b. is_some (cond b (Some (Split trunk_leg (toward trunk_leg (first_path call))
            (toward trunk_leg (second_path call)))) None) ≡ true → b ≡ true)
            [ true ↦ λ e. refl | false ↦ λ e. absurd (cc e) ] m,
      )
      by stage.Split f m = absurd (cc m)

  abbrev chain : List ℕ
  chain = seat.trunk.chain.items

  at_end : depth_of chain ≡ length (trunk_path call)
  at_end = all_gone (trunk_path call) (depth_of chain) seat.trunk.ahead is_down.1.ahead
      (both_true (has_two_paths call) _ is_down.2)
    where
      both_true : (a b : Bool) → (a && b) ≡ true → b ≡ true
      both_true true b e = e
      both_true false b e = absurd (cc e)

  pub trunk_short : length chain ≤ 64
  trunk_short = let some = is_down.1.some in let end = at_end in let le =
      short_path call (subst (λ (o : Option Call). IfSome o AreShort) is short) turns.Trunk in omega arith

  -- one more leg, where the trunk stands
  one_leg : (target : Path) → (more : Path) × (trunk_path call ++ more ≡ parent target)
      → leg_of seat.client.domain (parent target) chain ≡ toward trunk_leg target
  one_leg target rest =
      let walked : take (depth_of chain) (parent target) ≡ take (depth_of chain) (trunk_path call) =
      ap (λ p. take (depth_of chain) p) (sym rest.1) ∙ ap (λ d. take d (trunk_path call ++ rest.0)) at_end
      ∙ take_whole (trunk_path call) rest.0
      ∙ sym (ap (λ d. take d (trunk_path call)) at_end ∙ take_all (trunk_path call)) in
      let deep : depth_of chain ≡ length (take (depth_of chain) (trunk_path call)) =
      at_end ∙ sym (ap length (ap (λ d. take d (trunk_path call)) at_end ∙ take_all (trunk_path call))) in
      λ i. record {
        walked = walked i;
        ahead = drop (deep i) (parent target);
        chain = chain;
        here = last_of chain;
        masks = granted seat.client.domain chain;
      }

  -- such a leg on the way to the parent of one of the paths
  pub record Follows (way : Path) (leg : kept.Leg) : Type 0 where
    pub chain_is : leg.chain.items ≡ chain
    pub masks_are : leg.masks ≡ seat.trunk.masks
    pub ahead_is : leg.ahead ≡ record seat.trunk.ahead { len = length way }

  follows_fits : (way : Path) (leg : kept.Leg) → (more : Path) × (trunk_path call ++ more ≡ way) → Follows way leg
      → Fits seat.client.domain way leg
  follows_fits way leg rest at =
      let f = is_down.1 in
      record {
        some = subst (λ (c : List ℕ). 0 < length c) (sym at.chain_is) f.some;
        masks = subst (λ m. AreMasks m seat.client.domain leg.chain.items) (sym at.masks_are)
            (subst (AreMasks seat.trunk.masks seat.client.domain) (sym at.chain_is) f.masks);
        ahead = record {
          place = subst (λ (a : Ahead). IsPlace way a.place) (sym at.ahead_is)
              (longer (trunk_path call) rest.0 way seat.trunk.ahead.place rest.1 f.ahead.place);
          depth = ap (λ (a : Ahead). a.place.depth) at.ahead_is ∙ f.ahead.depth ∙ ap depth_of (sym at.chain_is);
          len = ap (λ (a : Ahead). a.len) at.ahead_is;
        };
      }

  abbrev split_seat : kept.Leg → kept.Leg → Inside
  split_seat first second = record seat { stage = stage.Split; first = first; second = second }

  pub fits_split : (first second : kept.Leg) → Follows (parent (first_path call)) first
      → Follows (parent (second_path call)) second → IfSome seat.call (FitSplit (split_seat first second))
  fits_split first second c d =
      subst (λ (o : Option Call). IfSome o (FitSplit (split_seat first second))) (sym is) (record {
        trunk = is_down.1;
        first = follows_fits (parent (first_path call)) first
            (common_left (parent (first_path call)) (parent (second_path call))) c;
        second = follows_fits (parent (second_path call)) second
            (common_right (parent (first_path call)) (parent (second_path call))) d;
      })

  pub split_is : (first second : kept.Leg) → first.chain.items ≡ chain → second.chain.items ≡ chain
      → seat_of (split_seat first second) ≡ record (seat_of seat) { walk = option_map split (seat_of seat).walk }
  split_is first second c d =
      ap (λ (o : Option Call). seat_with
      (option_map (λ k. record {
        call = k;
        starts = seat.starts;
        stale = seat.is_stale;
        at = position_at stage.Split (split_seat first second) k;
      }) o)) is
      ∙ ap (λ (p : Position). seat_with (Some (walk_at p))) (position ∙ sym after)
      ∙ ap (λ (o : Option Call). seat_with
      (option_map split (option_map
      (λ k. record { call = k; starts = seat.starts; stale = seat.is_stale; at = position_at seat.stage seat k })
      o))) (sym is)
    where
      seat_with : Option Walk → book.Seat
      seat_with walk = record { client = seat.client; spare = seat.spare; walk = walk }

      walk_at : Position → Walk
      walk_at p = record { call = call; starts = seat.starts; stale = seat.is_stale; at = p }

      target : Position
      target = Split trunk_leg (toward trunk_leg (first_path call)) (toward trunk_leg (second_path call))

      position : position_at stage.Split (split_seat first second) call ≡ target
      position =
          ap (λ l. Split trunk_leg l (leg_of seat.client.domain (parent (second_path call)) second.chain.items))
          (ap (leg_of seat.client.domain (parent (first_path call))) c
          ∙ one_leg (first_path call) (common_left (parent (first_path call)) (parent (second_path call))))
          ∙ ap (λ l. Split trunk_leg (toward trunk_leg (first_path call)) l)
          (ap (leg_of seat.client.domain (parent (second_path call))) d
          ∙ one_leg (second_path call) (common_right (parent (first_path call)) (parent (second_path call))))

      after : unwrap_or (forked call (position_at seat.stage seat call)) (position_at seat.stage seat call) ≡ target
      after =
          ap (λ n. unwrap_or (forked call (position_at n seat call)) (position_at n seat call)) is_down.0
          ∙ ap (λ (o : Option Position). unwrap_or o (Down trunk_leg)) (forked_is call trunk_leg is_down.2)

pub may_fork_is : (seat : Inside) (call : Call) → seat.call ≡ Some call → seat.stage ≡ stage.Down
    → has_two_paths call ≡ true → IfSome seat.call (FitAt seat.stage seat)
    → none_left seat.trunk.ahead ≡ option_map_or (λ (walk : Walk). is_some (forked walk.call walk.at))
    (seat_of seat).walk false
may_fork_is seat call is down two fit =
    ended (trunk_path call) (depth_of seat.trunk.chain.items) seat.trunk.ahead (trunk_fits seat call is down fit).ahead
    ∙ sym (ap (λ (o : Option Call). option_map_or (λ (walk : Walk). is_some (forked walk.call walk.at))
    (option_map (λ k. record {
      call = k;
      starts = seat.starts;
      stale = seat.is_stale;
      at = position_at seat.stage seat k;
    }) o) false) is
    ∙ ap (λ n. is_some (forked call (position_at n seat call))) down
    ∙ ap (λ b. is_some (cond (b && is_root trunk.ahead)
    (Some (Split trunk (toward trunk (first_path call)) (toward trunk (second_path call)))) None)) two
    ∙ by (is_root trunk.ahead))
  where
    trunk : Leg
    trunk = leg_of seat.client.domain (trunk_path call) seat.trunk.chain.items

    by : (b : Bool) → is_some (cond b
        (Some (Split trunk (toward trunk (first_path call)) (toward trunk (second_path call)))) None) ≡ b
    by true = refl
    by false = refl
