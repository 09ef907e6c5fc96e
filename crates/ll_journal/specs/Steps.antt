-- What a step of the journal does, and when the lent slots aren't those that it names. own
use Rattle.std.specs.Prelude.{◌≡◌, ◌≢◌, ℕ, Bool, true, false, not, List, map, Option, Some, option_and_then}
use Rattle.std.specs.Option.{option_map_or}
use Rattle.ll_rights.specs.Map.{get}
use Rattle.ll_seq.specs.State.{root}
use Rattle.ll_laws.specs.Walk.{Walk, Leg, is_in, further, turn, marks, is_above}
use Rattle.ll_laws.specs.World as world
use Rattle.ll_laws.specs.World.{World, advance, shown, domain_of}
use Rattle.ll_laws.specs.declared.step.Step.{Step}
use Rattle.ll_journal.specs.declared.progress.Progress.{Progress}
use Rattle.ll_journal.specs.declared.progress.Progress.TheVariants as progress
use Rattle.ll_journal.specs.Book.{Book, inode_in}

-- The outcome and the world are the step's. Astray is no outcome of a step: then nothing changes
abbrev pub Does : Book → Step → Progress → Book → Type 0
Does b step' progress.NotNow b' = advance b.world step' ≡ (world.NotNow, b'.world)
Does b step' progress.Astray b' = b' ≡ b
Does b step' (progress.Stands inode) b' = advance b.world step' ≡ (world.Stands inode, b'.world)
Does b step' progress.Forked b' = advance b.world step' ≡ (world.Forked, b'.world)
Does b step' progress.Restarted b' = advance b.world step' ≡ (world.Restarted, b'.world)

-- the client's walk is above the root
abbrev pub is_at_top : World → ℕ → Bool
is_at_top w number = option_map_or (λ (walk : Walk). is_above walk.at) (get w.walks number) false

abbrev pub leg_in_turn : World → ℕ → Option Leg
leg_in_turn w number = option_and_then (λ (walk : Walk). turn walk.at) (get w.walks number)

-- the client's leg in turn, if any, is in the slot's directory
abbrev pub IsInTurn : Book → ℕ → ℕ → Type 0
IsInTurn b number slot = (leg : Leg) → leg_in_turn b.world number ≡ Some leg → inode_in b slot ≡ leg.here

-- its walk is under way, and isn't stale
abbrev pub is_going : World → ℕ → Bool
is_going w number = option_map_or (λ (walk : Walk). not walk.stale) (get w.walks number) false

-- the walk goes on, but not to the root, or the slot isn't the root's
abbrev pub IsAstrayAtTop : Book → ℕ → ℕ → Type 0
IsAstrayAtTop b number slot =
    (is_going b.world number ≡ true) × (is_at_top b.world number ≡ true → inode_in b slot ≢ root)

-- The walk goes on. If its leg in turn is in the directory of the first slot, it has a directory to go to, and the
-- second slot isn't that one's
abbrev pub IsAstrayBelow : Book → ℕ → ℕ → ℕ → Type 0
IsAstrayBelow b number from to =
    (is_going b.world number ≡ true)
    × ((leg : Leg) → leg_in_turn b.world number ≡ Some leg → inode_in b from ≡ leg.here →
    (next : Leg) × (further (shown b.world) (domain_of b.world number) leg ≡ Some next) × (inode_in b to ≢ next.here))

-- the walk is stale, and is in some directory whose slot isn't lent
abbrev pub IsAstrayAt : Book → ℕ → List ℕ → Type 0
IsAstrayAt b number slots =
    (walk : Walk) × (get b.world.walks number ≡ Some walk) × (walk.stale ≡ true)
    × ¬ ((inode : ℕ) → marks walk inode ≡ true → is_in (map (inode_in b) slots) inode ≡ true)

-- the client's leg in turn is in the slot's directory, and would go down from there
pub record GoesDown (b : Book) (number from : ℕ) : Type 0 where
  pub going : is_going b.world number ≡ true
  pub leg : Leg
  pub next : Leg
  pub in_turn : leg_in_turn b.world number ≡ Some leg
  pub further_is : further (shown b.world) (domain_of b.world number) leg ≡ Some next
  pub from_here : inode_in b from ≡ leg.here

-- the client's leg in turn is in the directory of slot `from`, and would go to that of slot `to`
pub record IsNext (b : Book) (number from to : ℕ) : Type 0 where
  pub going : is_going b.world number ≡ true
  pub leg : Leg
  pub next : Leg
  pub in_turn : leg_in_turn b.world number ≡ Some leg
  pub further_is : further (shown b.world) (domain_of b.world number) leg ≡ Some next
  pub from_here : inode_in b from ≡ leg.here
  pub to_there : inode_in b to ≡ next.here
