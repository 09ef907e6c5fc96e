-- A walk goes from one directory to the next.
use Rattle.std.specs.Prelude.{◌≡◌, ◌≢◌, ℕ, suc, Bool, true, false, cond, not, ◌||◌, ◌==◌, List, [], ◌∷◌, Option}
use Rattle.std.specs.Prelude.{Some, None, is_none, is_some, IsSome, option_map, option_and_then, unwrap_or, slice_get}
use Rattle.std.specs.Prelude.{refl}
use Rattle.std.specs.List.{list_any}
use Rattle.std.specs.Option.{option_map_or}
use Rattle.std.proofs.Common.{sym, subst, ap, ◌∙◌}
use Rattle.std.proofs.lemmas.Bool.{eqb-true, eq-eqb}
use Rattle.ll_rights.specs.declared.kind.Kind.{Kind}
use Rattle.ll_rights.specs.declared.kind.Kind.TheVariants.{Dir, Reg}
use Rattle.ll_rights.specs.Kind.{is_dir}
use Rattle.ll_rights.specs.Map.{get, has, insert}
use Rattle.ll_path.specs.Path.{Path, is_root}
use Rattle.ll_node.specs.Slot.{Slot}
use Rattle.ll_rules.specs.Layer.{Layer}
use Rattle.ll_seq.specs.declared.facts.Fact.{Fact}
use Rattle.ll_seq.specs.State.{Name, State, child, kind_of}
use Rattle.ll_seq.specs.Tree.{kind_or_file}
use Rattle.ll_laws.proofs.Chains.{same_Some}
use Rattle.ll_seq.proofs.Counted.{kind_counted}
use Rattle.ll_laws.specs.Walk.{Walk, Leg, Position, Above, Down, Split, marks, legs, is_above, turn, with_turn}
use Rattle.ll_laws.specs.Walk.{further, further_by, leg_below}
use Rattle.ll_laws.specs.Walks.{IsRight, AreRight}
use Rattle.ll_laws.specs.World as world
use Rattle.ll_laws.specs.World.{World, Outcome, Stands, advance, shown, domain_of, descend, stand, enter, is_marked}
use Rattle.ll_laws.specs.declared.step.Step.TheVariants.{Descend}
use Rattle.ll_laws.specs.Sound.{IsSound}
use Rattle.ll_laws.proofs.Shapes.{if_directory, stood}
use Rattle.ll_node.specs.declared.held.Held.{Held}
use Rattle.ll_journal.specs.declared.journal.Journal.TheInside.{Inside}
use Rattle.ll_journal.specs.declared.check_step.StepCheck.{StepCheck}
use Rattle.ll_journal.specs.declared.check_step.StepCheck.TheVariants.{NotNow, Astray, Go}
use Rattle.ll_journal.specs.Book.{Seat, Book, Spares, inode_in, slot_of, has_mark, mark_of}
use Rattle.ll_node.specs.Accounts.{names_map}
use Rattle.ll_journal.specs.Kept.{IsKept, world_of, book_of}
use Rattle.ll_journal.specs.Checks.{check_descend, look_from, check_next, check_into, is_directory}
use Rattle.ll_journal.specs.Seated.{gone_down, lower, next_in}
use Rattle.ll_journal.specs.Steps.{IsAstrayBelow, is_going, leg_in_turn}
use Rattle.ll_node.proofs.NameMaps.{get-names_map}
use Rattle.ll_journal.proofs.MarkOf.{AreClients, are_clients, has_mark_of, mark_put, mark_put_gone, turn_leaves}
use Rattle.ll_journal.proofs.LentAfter.{inode_is, held_is, unmarked_is, lent_after, spares_moved, one_slot}
use Rattle.ll_journal.proofs.Starts.{changed_world, sound_after}
use Rattle.ll_journal.proofs.RootDescents.{walk_here, domain_here, known_here, world_put}

-- ---- the leg in turn

turn_right : (s : State) (domain : List Layer) (at : Position) (leg : Leg) → AreRight s domain at → turn at ≡ Some leg
    → IsRight s domain leg
turn_right s domain Above leg r e = absurd (cc e)
turn_right s domain (Down trunk) leg r e = subst (IsRight s domain) (same_Some trunk leg e) r
turn_right s domain (Split trunk old new) leg r e =
    elim (is_root old.ahead) as (λ b. Some (cond b new old) ≡ Some leg → IsRight s domain leg) [
      | true ↦ λ f. subst (IsRight s domain) (same_Some new leg f) r.2
      | false ↦ λ f. subst (IsRight s domain) (same_Some old leg f) r.1
    ] e

turn_below : (at : Position) (leg : Leg) → turn at ≡ Some leg → is_above at ≡ false
turn_below Above leg e = absurd (cc e)
turn_below (Down trunk) leg e = refl
turn_below (Split trunk old new) leg e = refl

abbrev stands_in : Position → ℕ → Bool
stands_in at i = list_any (λ (leg : Leg). leg.here == i) (legs at)

here_first : (a : Bool) (b : Bool) → a ≡ true → (a || b) ≡ true
here_first true b e = refl
here_first false b e = absurd (cc e)

here_then : (a : Bool) (b : Bool) → b ≡ true → (a || b) ≡ true
here_then true b e = refl
here_then false b e = e

-- the walk stands where its leg in turn does
pub turn_stands : (at : Position) (leg : Leg) → turn at ≡ Some leg → stands_in at leg.here ≡ true
turn_stands Above leg e = absurd (cc e)
turn_stands (Down trunk) leg e =
    here_first _ false (eq-eqb trunk.here leg.here (ap (λ (l : Leg). l.here) (same_Some trunk leg e)))
turn_stands (Split trunk old new) leg e =
    elim (is_root old.ahead) as (λ b. Some (cond b new old) ≡ Some leg
    → stands_in (Split trunk old new) leg.here ≡ true) [
      | true ↦ λ f. here_then (trunk.here == leg.here) _
          (here_then (old.here == leg.here) _
          (here_first _ false (eq-eqb new.here leg.here (ap (λ (l : Leg). l.here) (same_Some new leg f)))))
      | false ↦ λ f. here_then (trunk.here == leg.here) _
          (here_first _ _ (eq-eqb old.here leg.here (ap (λ (l : Leg). l.here) (same_Some old leg f))))
    ] e

next_stands : (at : Position) (leg next : Leg) → turn at ≡ Some leg → stands_in (with_turn at next) next.here ≡ true
next_stands Above leg next e = absurd (cc e)
next_stands (Down trunk) leg next e = here_first _ false (eq-eqb next.here next.here refl)
next_stands (Split trunk old new) leg next e =
    elim (is_root old.ahead) as
    (λ b. stands_in (cond b (Split trunk old next) (Split trunk next new)) next.here ≡ true) [
      | true ↦ here_then (trunk.here == next.here) _
          (here_then (old.here == next.here) _ (here_first _ false (eq-eqb next.here next.here refl)))
      | false ↦ here_then (trunk.here == next.here) _ (here_first _ _ (eq-eqb next.here next.here refl))
    ]

-- ---- a node that lives is in a slot

pub living_placed : (j : Inside) → IsKept j → (i : ℕ) (kind : Kind) → kind_of (shown (world_of j)) i ≡ Some kind
    → (slot : ℕ) × (get j.table.places i ≡ Some slot)
living_placed j h i kind e = by (get j.table.places i) (h.table.living i ∙ node)
  where
    node : has (shown (world_of j)).nodes i ≡ true
    node = elim (get (shown (world_of j)).nodes i) as (λ o. option_map (λ n. n.kind) o ≡ Some kind → is_some o ≡ true)
        [ None ↦ λ f. absurd (cc f) | Some n ↦ λ f. refl ] e

    by : (o : Option ℕ) → is_some o ≡ true → (slot : ℕ) × (o ≡ Some slot)
    by None f = absurd (cc f)
    by (Some slot) f = (slot, refl)

pub living_one : (j : Inside) → IsKept j → (i : ℕ) (kind : Kind) → kind_of (shown (world_of j)) i ≡ Some kind → i ≢ 0
living_one j h i kind e = let slot = living_placed j h i kind e in (h.table.placed.there i slot.0 slot.1).1

pub directory_fact : (j : Inside) → IsKept j → (i : ℕ)
    → is_directory j.table.facts i ≡ is_dir (kind_or_file (shown (world_of j)) i)
directory_fact j h i =
    by (get j.table.facts i)
    ∙ ap (λ o. is_dir (unwrap_or o Reg)) (kind_counted (shown (world_of j)) j.table.facts h.table.facts i)
  where
    by : (o : Option Fact) → option_map_or (λ (fact : Fact). is_dir fact.kind) o false
        ≡ is_dir (unwrap_or (option_map (λ (fact : Fact). fact.kind) o) Reg)
    by None = refl
    by (Some fact) = refl

pub directory_kind : (s : State) (i : ℕ) → is_dir (kind_or_file s i) ≡ true → (kind : Kind) × (kind_of s i ≡ Some kind)
directory_kind s i e = elim (kind_of s i) as (λ o. is_dir (unwrap_or o Reg) ≡ true → (kind : Kind) × (o ≡ Some kind))
    [ None ↦ λ f. absurd (cc f) | Some kind ↦ λ f. (kind, refl) ] e

-- ---- whether it may go down

-- a walk that may
pub record GoesDown (j : Inside) (number : ℕ) (seat : Seat) (from to : Held) : Type 0 where
  pub walk : Walk
  pub is : seat.walk ≡ Some walk
  pub leg : Leg
  pub in_turn : turn walk.at ≡ Some leg
  pub name : Name
  pub rest : Path
  pub ahead : leg.ahead ≡ name ∷ rest
  pub from_here : from.inode ≡ leg.here
  pub some_from : from.inode ≢ 0
  pub some_to : to.inode ≢ 0
  pub step : advance (world_of j) (Descend number)
      ≡ (
        Stands to.inode,
        stood (world_of j) number walk
            (leg_below (domain_of (world_of j) number) leg name rest to.inode),
      )

module _ (j : Inside) (h : IsKept j) (number place : ℕ) (seat : Seat) (at : slice_get j.seats.items place ≡ Some seat)
    (numbered : number ≡ suc place)
    (k l : ℕ) (from to : Held) (lent_from : from ≡ slot_of (book_of j) k) (lent_to : to ≡ slot_of (book_of j) l) where
  abbrev w : World
  w = world_of j

  abbrev s : State
  s = shown w

  abbrev domain : List Layer
  domain = domain_of w number

  abbrev answer : Option (Outcome × World) → Outcome × World
  answer o = unwrap_or o (world.NotNow, w)

  -- what is found
  abbrev Seen : StepCheck → Type 0
  Seen NotNow = advance w (Descend number) ≡ (world.NotNow, w)
  Seen Astray = IsAstrayBelow (book_of j) number k l
  Seen Go = GoesDown j number seat from to

  found : (o : Option Walk) → seat.walk ≡ o → advance w (Descend number) ≡ answer (option_and_then (descend w number) o)
  found o e = ap (λ (v : Option Walk). answer (option_and_then (descend w number) v))
      (walk_here j h number place seat at numbered ∙ e)

  module _ (walk : Walk) (is : seat.walk ≡ Some walk) where
    abbrev below : Option Leg → Option (Outcome × World)
    below o = option_and_then (stand w number walk) o

    stale_now : walk.stale ≡ true → Seen NotNow
    stale_now e = found (Some walk) is
        ∙ ap (λ b. answer (cond b None
        (cond (is_above walk.at) (enter w number walk) (below (option_and_then (further s domain) (turn walk.at)))))) e

    module _ (fresh : walk.stale ≡ false) where
      going : is_going w number ≡ true
      going = ap (λ (o : Option Walk). option_map_or (λ (v : Walk). not v.stale) o false)
          (walk_here j h number place seat at numbered ∙ is) ∙ ap not fresh

      astray_above : turn walk.at ≡ None → Seen Astray
      astray_above e = (
        going,
        λ leg turned here. absurd
            (cc (sym turned ∙ ap (option_and_then (λ (v : Walk). turn v.at))
            (walk_here j h number place seat at numbered
            ∙ is) ∙ e)),
      )

      module _ (leg : Leg) (turned : turn walk.at ≡ Some leg) where
        stepped : (o : Option Leg) → further s domain leg ≡ o → advance w (Descend number) ≡ answer (below o)
        stepped o e =
            found (Some walk) is
            ∙ ap (λ b. answer (cond b None
            (cond (is_above walk.at) (enter w number walk)
            (below (option_and_then (further s domain) (turn walk.at)))))) fresh
            ∙ ap (λ b. answer (cond b (enter w number walk)
            (below (option_and_then (further s domain) (turn walk.at))))) (turn_below walk.at leg turned)
            ∙ ap (λ (t : Option Leg). answer (below (option_and_then (further s domain) t))) turned
            ∙ ap (λ o. answer (below o)) e

        same_leg : (other : Leg) → leg_in_turn w number ≡ Some other → leg ≡ other
        same_leg other e = same_Some leg other
            (sym (ap (option_and_then (λ (v : Walk). turn v.at)) (walk_here j h number place seat at numbered ∙ is)
            ∙ turned) ∙ e)

        astray_here : (from.inode == leg.here) ≡ false → Seen Astray
        astray_here e = (
          going,
          λ other turned' here.
              absurd (cc (sym e ∙ eq-eqb from.inode leg.here (inode_is (book_of j) k from lent_from ∙ here
              ∙ ap (λ (v : Leg). v.here) (sym (same_leg other turned'))))),
        )

        right : IsRight s domain leg
        right = turn_right s domain walk.at leg
            ((h.sound.valid number walk (walk_here j h number place seat at numbered ∙ is)).1 fresh) turned

        module _ (here : (from.inode == leg.here) ≡ true) where
          from_here : from.inode ≡ leg.here
          from_here = eqb-true from.inode leg.here here

          some_from : from.inode ≢ 0
          some_from z = living_one j h leg.here Dir right.directory (sym from_here ∙ z)

          pub looked_up : (name : Name) → get from.node.names name ≡ child s leg.here name
          looked_up name =
              ap (λ (v : Held). get v.node.names name) (held_is (book_of j) k from lent_from some_from)
              ∙ ap (λ i. get (names_map s i) name) from_here
              ∙ get-names_map s leg.here name

          module _ (name : Name) (rest : Path) (ahead : leg.ahead ≡ name ∷ rest) where
            pub one_more : (o : Option ℕ) → child s leg.here name ≡ o
                → further s domain leg ≡ option_map (leg_below domain leg name rest)
                (option_and_then (if_directory s) o)
            one_more o e = ap (further_by s domain leg) ahead
                ∙ ap (λ o. option_map (leg_below domain leg name rest) (option_and_then (if_directory s) o)) e

            module _ (i : ℕ) (named : child s leg.here name ≡ Some i) where
              abbrev next : Leg
              next = leg_below domain leg name rest i

              pub if_dir : (b : Bool) → is_directory j.table.facts i ≡ b
                  → further s domain leg ≡ option_map (leg_below domain leg name rest) (cond b (Some i) None)
              if_dir b e = one_more (Some i) named
                  ∙ ap (λ b. option_map (leg_below domain leg name rest) (cond b (Some i) None))
                  (sym (directory_fact j h i) ∙ e)

              module _ (dir : is_directory j.table.facts i ≡ true) where
                astray_there : (to.inode == i) ≡ false → Seen Astray
                astray_there e = (
                  going,
                  λ other turned' here'. (
                    next,
                    ap (further s domain) (sym (same_leg other turned')) ∙ if_dir true dir,
                    λ there. cc (sym e ∙ eq-eqb to.inode i (inode_is (book_of j) l to lent_to ∙ there)),
                  ),
                )

                module _ (there : (to.inode == i) ≡ true) where
                  to_there : to.inode ≡ i
                  to_there = eqb-true to.inode i there

                  some_to : to.inode ≢ 0
                  some_to z = let kind = directory_kind s i (sym (directory_fact j h i) ∙ dir) in
                      living_one j h i kind.0 kind.1 (sym to_there ∙ z)

                  free : is_none to.node.mark ≡ not (is_marked w i)
                  free = unmarked_is (book_of j) l to lent_to some_to (known_here j h number place seat at numbered)
                      ∙ ap (λ i. not (is_marked w i)) to_there

                  standing : (b : Bool) → is_none to.node.mark ≡ b
                      → advance w (Descend number) ≡ answer (cond b (Some (Stands i, stood w number walk next)) None)
                  standing b e = stepped (Some next) (if_dir true dir)
                      ∙ ap (λ b. answer (cond b (Some (Stands i, stood w number walk next)) None)) (sym free ∙ e)

                  goes : is_none to.node.mark ≡ true → GoesDown j number seat from to
                  goes e = record {
                    walk = walk;
                    is = is;
                    leg = leg;
                    in_turn = turned;
                    name = name;
                    rest = rest;
                    ahead = ahead;
                    from_here = from_here;
                    some_from = some_from;
                    some_to = some_to;
                    step = standing true e ∙ ap (λ i.
                        (Stands i, stood w number walk (leg_below domain leg name rest i))) (sym to_there);
                  }

                  seen_mark : Seen (cond (is_none to.node.mark) Go NotNow)
                  seen_mark = elim (is_none to.node.mark) as (λ b. is_none to.node.mark ≡ b → Seen (cond b Go NotNow))
                      [ true ↦ goes | false ↦ standing false ] refl

                seen_there : Seen (cond (not (to.inode == i)) Astray (cond (is_none to.node.mark) Go NotNow))
                seen_there = elim (to.inode == i) as (λ b. (to.inode == i) ≡ b
                    → Seen (cond (not b) Astray (cond (is_none to.node.mark) Go NotNow))) [
                      | true ↦ seen_mark
                      | false ↦
                          astray_there
                    ] refl

              seen_inode : Seen (check_into j.table.facts (Some i) to)
              seen_inode = elim (is_directory j.table.facts i) as (λ b. is_directory j.table.facts i ≡ b
                  → Seen (cond (not b) NotNow (cond (not (to.inode == i)) Astray
                  (cond (is_none to.node.mark) Go NotNow)))) [
                    | true ↦ seen_there
                    | false ↦ λ e. stepped None (if_dir false e)
                  ] refl

            seen_child : Seen (check_into j.table.facts (child s leg.here name) to)
            seen_child = elim (child s leg.here name) as (λ o. child s leg.here name ≡ o
                → Seen (check_into j.table.facts o to)) [
                  | None ↦ λ e. stepped None (one_more None e)
                  | Some i ↦ λ e. seen_inode i e
                ] refl

          seen_name : Seen (check_next j.table.facts (slice_get leg.ahead 0) from to)
          seen_name = elim leg.ahead as (λ p. leg.ahead ≡ p → Seen (check_next j.table.facts (slice_get p 0) from to)) [
            | [] ↦ λ e. stepped None (ap (further_by s domain leg) e)
            | name ∷ rest ↦ λ e. subst (λ o. Seen (check_into j.table.facts o to)) (sym (looked_up name))
                (seen_child name rest e)
          ] refl

        seen_here : Seen (look_from j.table.facts (Some leg.here) (slice_get leg.ahead 0) from to)
        seen_here = elim (from.inode == leg.here) as (λ b. (from.inode == leg.here) ≡ b
            → Seen (cond b (check_next j.table.facts (slice_get leg.ahead 0) from to) Astray)) [
              | true ↦
                  seen_name
              | false ↦ astray_here
            ] refl

      seen_turn : Seen (look_from j.table.facts (option_map (λ (v : Leg). v.here) (turn walk.at))
          (option_and_then (λ (v : Leg). slice_get v.ahead 0) (turn walk.at)) from to)
      seen_turn = elim (turn walk.at) as (λ t. turn walk.at ≡ t
          → Seen (look_from j.table.facts (option_map (λ (v : Leg). v.here) t)
          (option_and_then (λ (v : Leg). slice_get v.ahead 0) t) from to)) [
            | None ↦ astray_above
            | Some leg ↦ λ e. seen_here leg e
          ] refl

    seen_walk : Seen (check_descend j.table.facts (record seat { walk = Some walk }) from to)
    seen_walk = elim walk.stale as (λ b. walk.stale ≡ b
        → Seen (cond (not (not b)) NotNow
        (look_from j.table.facts (option_map (λ (v : Leg). v.here) (turn walk.at))
        (option_and_then (λ (v : Leg). slice_get v.ahead 0) (turn walk.at)) from to))) [
          | true ↦ stale_now
          | false ↦ seen_turn
        ] refl

  seen : Seen (check_descend j.table.facts seat from to)
  seen =
      elim seat.walk as (λ o. seat.walk ≡ o → Seen (check_descend j.table.facts (record seat { walk = o }) from to)) [
        | None ↦ λ e. found None e
        | Some walk ↦ seen_walk walk
      ] refl

  pub down_not_now : check_descend j.table.facts seat from to ≡ NotNow → advance w (Descend number) ≡ (world.NotNow, w)
  down_not_now e = subst Seen e seen

  pub down_astray : check_descend j.table.facts seat from to ≡ Astray → IsAstrayBelow (book_of j) number k l
  down_astray e = subst Seen e seen

  pub down_goes : check_descend j.table.facts seat from to ≡ Go → GoesDown j number seat from to
  down_goes e = subst Seen e seen

  -- ---- when it goes

  module _ (go : GoesDown j number seat from to) where
    pub has_next : IsSome (next_in seat)
    has_next = subst (λ (o : Option Name). IsSome o)
        (sym (ap (λ (o : Option Walk). next_in (record seat { walk = o })) go.is
        ∙ ap (option_and_then (λ (v : Leg). slice_get v.ahead 0)) go.in_turn ∙ ap (λ p. slice_get p 0) go.ahead)) refl

    module _ (new : Seat) (new_is : new
        ≡ record seat { walk = option_map (gone_down seat.client.domain to.inode) seat.walk }) where
      abbrev next_leg : Leg
      next_leg = leg_below domain go.leg go.name go.rest to.inode

      abbrev low : Walk
      low = record go.walk { at = with_turn go.walk.at next_leg }

      gone : gone_down seat.client.domain to.inode go.walk ≡ low
      gone =
          ap (λ (t : Option Leg). option_map_or
          (λ (v : Leg). record go.walk { at = with_turn go.walk.at (lower seat.client.domain to.inode v v.ahead) })
          t go.walk) go.in_turn
          ∙ ap (λ p. record go.walk { at = with_turn go.walk.at (lower seat.client.domain to.inode go.leg p) }) go.ahead
          ∙ ap (λ d. record go.walk { at = with_turn go.walk.at (leg_below d go.leg go.name go.rest to.inode) })
          (sym (domain_here j h number place seat at numbered))

      new_walk : new.walk ≡ Some low
      new_walk = ap (λ (v : Seat). v.walk) new_is ∙ ap (option_map (gone_down seat.client.domain to.inode)) go.is
          ∙ ap (λ (v : Walk). Some v) gone

      abbrev after : World
      after = changed_world j place new j.gate

      put : after ≡ record w { walks = insert w.walks number low; gate = j.gate }
      put = world_put j h number place seat at numbered new low j.gate new_walk

      puts : after.walks ≡ insert w.walks number low
      puts = ap (λ (v : World). v.walks) put

      pub down_does : advance w (Descend number) ≡ (Stands to.inode, after)
      down_does = go.step ∙ ap (λ v. (Stands to.inode, v)) (sym put)

      pub down_sound : IsSound after
      down_sound = sound_after j after (Descend number) (Stands to.inode) h down_does

      known_then : AreClients after
      known_then = are_clients after down_sound

      had : (i : ℕ) → has_mark w i number ≡ marks go.walk i
      had i = has_mark_of w i number go.walk (walk_here j h number place seat at numbered ∙ go.is)

      pub down_to : (node : Slot) → node ≡ record to.node { mark = Some number }
          → record { inode = to.inode; node = node } ≡ slot_of (record (book_of j) { world = after }) l
      down_to node is =
          lent_after (book_of j) after.walks j.gate l to node lent_to go.some_to
          (is ∙ ap (λ m. record to.node { mark = m })
          (sym (mark_put w after number low puts to.inode known_then down_sound.apart
          (next_stands go.walk.at go.leg next_leg go.in_turn))))

      left_mark : (b : Bool) → marks low from.inode ≡ b → cond b (Some number) None ≡ mark_of after from.inode
      left_mark true e = sym (mark_put w after number low puts from.inode known_then down_sound.apart e)
      left_mark false e = sym (mark_put_gone w after number low puts from.inode h.sound.apart (had from.inode
          ∙ ap (marks go.walk) go.from_here ∙ turn_stands go.walk.at go.leg go.in_turn) e)

      pub down_from : (mark : Option ℕ) (node : Slot)
          → mark ≡ cond (option_map_or (λ (v : Walk). marks v from.inode) new.walk false) (Some number) None
          → node ≡ record from.node { mark = mark }
          → record { inode = from.inode; node = node } ≡ slot_of (record (book_of j) { world = after }) k
      down_from mark node marked is =
          lent_after (book_of j) after.walks j.gate k from node lent_from go.some_from
          (is ∙ ap (λ m. record from.node { mark = m }) (marked
          ∙ ap (λ (o : Option Walk). cond (option_map_or (λ (v : Walk). marks v from.inode) o false) (Some number)
          None) new_walk ∙ left_mark (marks low from.inode) refl))

      other_slot : (q k i : ℕ) → q ≢ k → inode_in (book_of j) q ≢ 0 → inode_in (book_of j) k ≡ i
          → (i == inode_in (book_of j) q) ≡ false
      other_slot q k i two some is =
          elim (i == inode_in (book_of j) q) as (λ b. (i == inode_in (book_of j) q) ≡ b → b ≡ false) [
            | true ↦ λ e. absurd (two (one_slot (book_of j) j.table.places h.table.placed q k
                (sym (eqb-true i (inode_in (book_of j) q) e) ∙ sym is) some))
            | false ↦ λ e. refl
          ] refl

      pub down_spares : (b : Book) → b.world ≡ after → b.inodes ≡ j.table.inodes → Spares (book_of j) b (k ∷ l ∷ [])
      down_spares b is inodes =
          spares_moved (book_of j) b number low j.gate (k ∷ l ∷ []) (is ∙ put) inodes
          (known_here j h number place seat at numbered) (subst AreClients (sym is) known_then)
          (λ q out some.
          had (inode_in (book_of j) q)
          ∙ sym (turn_leaves go.walk.at next_leg go.leg (inode_in (book_of j) q) go.in_turn
          (other_slot q k go.leg.here out.0 some (sym (inode_is (book_of j) k from lent_from) ∙ go.from_here))
          (other_slot q l to.inode out.1.0 some (sym (inode_is (book_of j) l to lent_to)))))
