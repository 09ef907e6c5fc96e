-- What every step preserves of a world, and what follows from it. So whoever makes steps one by one knows what the laws
-- of Walks say of lists of steps. own
use Rattle.std.specs.Prelude.{◌≡◌, ◌⊎◌, ℕ, ◌≤◌, false, true, length, Some}
use Rattle.ll_rights.specs.declared.kind.Kind.TheVariants.{Dir}
use Rattle.ll_rights.specs.Map.{get, has, len}
use Rattle.ll_seq.specs.declared.rules.Rules.{Rules}
use Rattle.ll_seq.specs.State.{Name, State, child, kind_of, root, start}
use Rattle.ll_seq.specs.History.{IsLegal, state_after}
use Rattle.ll_laws.specs.declared.step.Step.{Step}
use Rattle.ll_laws.specs.Growth.{IsLater}
use Rattle.ll_laws.specs.Walk.{Walk, marks, is_above}
use Rattle.ll_laws.specs.World.{World, advance, new_world, shown, without_walk}
use Rattle.ll_laws.specs.Walks.{OfWalks, AreValid, AreApart, AreFew, GateIsHeld}

-- no client's number exceeds the number of clients
abbrev pub AreNumbered : State → Type 0
AreNumbered s = (c : ℕ) → has s.clients c ≡ true → c ≤ len s.clients

-- the root, or an inode with a name
abbrev pub HasPlace : State → ℕ → Type 0
HasPlace s inode = (inode ≡ root) ⊎ ((directory : ℕ) × (name : Name) × (child s directory name ≡ Some inode))

pub record IsSound (w : World) : Type 0 where
  pub legal : IsLegal (start w.rules w.room) w.history
  pub numbers : AreNumbered (shown w)
  pub valid : AreValid w
  pub apart : AreApart w
  pub few : AreFew w
  pub gate : GateIsHeld w
  -- a walk above the root isn't stale
  pub above : OfWalks w (λ number walk. is_above walk.at ≡ true → walk.stale ≡ false)
  -- a walk is always in a directory that is alive, even if the walk is stale
  pub living : OfWalks w (λ number walk. (inode : ℕ) → marks walk inode ≡ true → kind_of (shown w) inode ≡ Some Dir)
  -- and that directory still has its place: it is the root, or nobody removed its last name
  pub placed : OfWalks w (λ number walk. (inode : ℕ) → marks walk inode ≡ true → HasPlace (shown w) inode)

-- ---- Which worlds are sound

-- a new world
abbrev pub NewAreSound : Type 0
NewAreSound = (rules : Rules) (room limit : ℕ) → IsSound (new_world rules room limit)

-- the world after any step from a sound one, enabled or not
abbrev pub StepsKeepSound : Type 0
StepsKeepSound = (w : World) (step' : Step) → IsSound w → IsSound (advance w step').1

-- a sound world after a walk was dropped without an answer, as happens if memory runs out
abbrev pub EndsKeepSound : Type 0
EndsKeepSound =
    (w : World) (number : ℕ) (walk : Walk) → IsSound w → get w.walks number ≡ Some walk
    → IsSound (without_walk w number)

-- ---- What holds in sound worlds

-- The history is legal and yields the visible tree. A walk's client exists, and what the walk found is right there
-- unless the walk is stale. No directory has the marks of two walks. No walk starts more than four times. Whoever needs
-- the gate holds it
abbrev pub SoundAreLegal : Type 0
SoundAreLegal =
    (w : World) → IsSound w
    → IsLegal (start w.rules w.room) w.history × (shown w ≡ state_after (start w.rules w.room) w.history)
    × AreValid w × AreApart w × AreFew w × GateIsHeld w

-- ---- What steps preserve in every world

-- a step changes no entry, and neither the rules, the room nor the limit
abbrev pub StepsLeadOn : Type 0
StepsLeadOn = (w : World) (step' : Step) → length w.history ≤ w.limit → IsLater w (advance w step').1
