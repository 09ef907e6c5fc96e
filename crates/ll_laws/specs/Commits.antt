-- What a commit may also rely on: where a walk is then, and the answer of one that can't go on. own
use Rattle.std.specs.Prelude.{◌≡◌, ◌∷◌, [], false, true, Option, Some, None, slice_get}
use Rattle.ll_rights.specs.declared.errno.Errno.{Errno}
use Rattle.ll_path.specs.Path.{Path, parent}
use Rattle.ll_seq.specs.declared.reply.Reply.TheVariants.{Refused}
use Rattle.ll_seq.specs.Call.{first_path, second_path}
use Rattle.ll_seq.specs.State.{Name, State, child, root}
use Rattle.ll_seq.specs.Tree.{directory_of}
use Rattle.ll_seq.specs.Stages.{no_directory, kind_of_child, in_the_way}
use Rattle.ll_laws.specs.Walk.{Leg, Position, Above, Down, Split, turn, at_ends}
use Rattle.ll_laws.specs.World.{shown, reply_to}
use Rattle.ll_laws.specs.Walks.{AfterSteps, OfWalks}

-- the legs of the call's first and second path. With one path they are the same leg
abbrev pub first_end : Position → Option Leg
first_end Above = None
first_end (Down trunk) = Some trunk
first_end (Split trunk old new) = Some old

abbrev pub second_end : Position → Option Leg
second_end Above = None
second_end (Down trunk) = Some trunk
second_end (Split trunk old new) = Some new

-- the leg is in the directory of the path's last name, and there is no obstacle on the way
pub record HasEnded (s : State) (path : Path) (leg : Leg) : Type 0 where
  pub walked : leg.walked ≡ parent path
  pub here : leg.here ≡ directory_of s path
  pub way : in_the_way s (parent path) root ≡ []

-- a walk at its ends that isn't stale is where its call needs it
abbrev pub EndsAreReached : Type 0
EndsAreReached = AfterSteps (λ w. OfWalks w (λ number walk.
    walk.stale ≡ false → at_ends walk.call walk.at ≡ true → (leg : Leg) →
    (first_end walk.at ≡ Some leg → HasEnded (shown w) (first_path walk.call) leg)
    × (second_end walk.at ≡ Some leg → HasEnded (shown w) (second_path walk.call) leg)))

-- if the next name of the leg in turn leads to no directory, the call is refused for that
abbrev pub BlockedAreRefused : Type 0
BlockedAreRefused = AfterSteps (λ w. OfWalks w (λ number walk.
    walk.stale ≡ false → (leg : Leg) → turn walk.at ≡ Some leg →
    (name : Name) (rest : Path) → leg.ahead ≡ name ∷ rest →
    (errno : Errno) →
    slice_get (no_directory (kind_of_child (shown w) (child (shown w) leg.here name))) 0 ≡ Some errno →
    reply_to w number walk.call ≡ Refused errno))
