-- What holds of the walks in every world that steps lead to. own
use Rattle.std.specs.Prelude.{◌≡◌, ℕ, ◌≤◌, Bool, false, true, not, ◌&&◌, ◌||◌, ◌==◌, List, ◌++◌, map, Some, ⊤}
use Rattle.ll_rights.specs.declared.kind.Kind.TheVariants.{Dir}
use Rattle.ll_rights.specs.Map.{get, has}
use Rattle.ll_path.specs.Path.{parent}
use Rattle.ll_rules.specs.Layer.{Layer}
use Rattle.ll_seq.specs.declared.call.Call.{Call}
use Rattle.ll_seq.specs.declared.rules.Rules.{Rules}
use Rattle.ll_seq.specs.Call.{first_path, second_path}
use Rattle.ll_seq.specs.State.{State, kind_of, start}
use Rattle.ll_seq.specs.Tree.{named, ancestors}
use Rattle.ll_seq.specs.Asked.{grants}
use Rattle.ll_seq.specs.Step.{client_of}
use Rattle.ll_seq.specs.History.{IsLegal}
use Rattle.ll_laws.specs.Walk.{Walk, Leg, Position, Above, Down, Split, trunk_path, rights_where, marks, is_above}
use Rattle.ll_laws.specs.World.{World, new_world, world_after, shown, domain_of, is_walked, takes_gate}
use Rattle.ll_laws.specs.declared.step.Step.{Step}

-- The names behind lead to the directory where the leg is. The chain is the inodes on that way. The masks are the
-- rights that each layer grants there
pub record IsRight (s : State) (domain : List Layer) (leg : Leg) : Type 0 where
  pub names : named s leg.walked ≡ Some leg.here
  pub directory : kind_of s leg.here ≡ Some Dir
  pub chain : leg.chain ≡ ancestors s leg.walked
  pub masks : leg.masks ≡ map (λ layer. rights_where (grants s layer leg.walked)) domain

abbrev pub AreRight : State → List Layer → Position → Type 0
AreRight s domain Above = ⊤
AreRight s domain (Down trunk) = IsRight s domain trunk
AreRight s domain (Split trunk old new) = IsRight s domain trunk × IsRight s domain old × IsRight s domain new

-- the legs follow the call's paths
abbrev pub AreOnPaths : Call → Position → Type 0
AreOnPaths call Above = ⊤
AreOnPaths call (Down trunk) = trunk.walked ++ trunk.ahead ≡ trunk_path call
AreOnPaths call (Split trunk old new) =
    (trunk.walked ≡ trunk_path call)
    × (old.walked ++ old.ahead ≡ parent (first_path call))
    × (new.walked ++ new.ahead ≡ parent (second_path call))

-- the caller exists, its call still is one that walks, and the walk follows its paths
pub record IsUnderWay (w : World) (number : ℕ) (walk : Walk) : Type 0 where
  pub there : has (shown w).clients number ≡ true
  pub walked : is_walked (client_of (shown w) number) walk.call ≡ true
  pub on_paths : AreOnPaths walk.call walk.at

-- ---- After every list of steps

abbrev pub AfterSteps : (World → Type 0) → Type 0
AfterSteps P = (rules : Rules) (room limit : ℕ) (steps : List Step) → P (world_after (new_world rules room limit) steps)

-- for each walk under way
abbrev pub OfWalks : World → (ℕ → Walk → Type 0) → Type 0
OfWalks w P = (number : ℕ) (walk : Walk) → get w.walks number ≡ Some walk → P number walk

abbrev pub HistoryIsLegal : Type 0
HistoryIsLegal =
    (rules : Rules) (room limit : ℕ) (steps : List Step) →
    IsLegal (start rules room) (world_after (new_world rules room limit) steps).history

-- what a walk has found is right in the visible tree, unless the walk is stale
abbrev pub AreValid : World → Type 0
AreValid w = OfWalks w (λ number walk.
    IsUnderWay w number walk × (walk.stale ≡ false → AreRight (shown w) (domain_of w number) walk.at))

-- a directory has the mark of at most one walk
abbrev pub AreApart : World → Type 0
AreApart w = OfWalks w (λ c v. OfWalks w (λ d u.
    (inode : ℕ) → marks v inode ≡ true → marks u inode ≡ true → c ≡ d))

abbrev pub AreFew : World → Type 0
AreFew w = OfWalks w (λ number walk. walk.starts ≤ 4)

-- its call takes the gate, or it is on its fourth start and not above the root
abbrev pub needs_gate : Walk → Bool
needs_gate walk = takes_gate walk.call || ((walk.starts == 4) && not (is_above walk.at))

-- such a walk holds the gate, and is never stale
abbrev pub GateIsHeld : World → Type 0
GateIsHeld w = OfWalks w (λ number walk.
    needs_gate walk ≡ true → (w.gate ≡ Some number) × (walk.stale ≡ false))
