-- What one more entry demands of a layer. Cited by contracts between functions of the crate. own
use Rattle.std.specs.Prelude.{◌≡◌, ◌≢◌, ◌↔◌, ◌<◌, ◌≤◌, ⊤, ℕ, Bool, true, List, [], length}
use Rattle.std.specs.Option.{option_or}
use Rattle.ll_rights.specs.declared.limits.TheConstants.{DOMAIN_LAYERS}
use Rattle.ll_rules.specs.Layer.{Layer, grants_on}
use Rattle.ll_decide.specs.declared.denial.Denial.{Denial}
use Rattle.ll_seq.specs.declared.reply.Entry.{Entry}
use Rattle.ll_seq.specs.declared.reply.Reply.TheVariants as reply
use Rattle.ll_seq.specs.History.{MayStand, after}
use Rattle.ll_seq.specs.Passed.{before_policy}
use Rattle.ll_seq.specs.State.{State}
use Rattle.ll_seq.specs.Step.{client_of}
use Rattle.ll_learn.specs.declared.fault.LearnFault.{LearnFault}
use Rattle.ll_learn.specs.declared.fault.LearnFault.TheVariants as fault
use Rattle.ll_learn.specs.declared.needs.Needs.{Needs}
use Rattle.ll_learn.specs.declared.needs.Origin.{Origin}
use Rattle.ll_learn.specs.declared.watch.Watched.{Watched}
use Rattle.ll_learn.specs.Needs.{AreRooted, Meets}
use Rattle.ll_learn.specs.Outside.{outside_of}
use Rattle.ll_learn.specs.PassedCalls.{Allows, Openings, joins, opened_at}
use Rattle.ll_learn.specs.There.{AsksMore, IsAskedIn, IsOfPath, MovesMore}
use Rattle.ll_learn.specs.Watched.{is_watched}
use Rattle.ll_learn.specs.WatchedClients.{IsWatch}

-- the call isn't denied, and after it its client has room for one more layer
abbrev pub IsOpenAt : State → Entry → Type 0
IsOpenAt behind e =
    ((denial : Denial) → e.reply ≢ reply.Denied denial)
    × (length (client_of behind e.client).domain < DOMAIN_LAYERS)

-- that doesn't hold, with the fault of this number
abbrev pub IsClosedAt : State → Entry → ℕ → LearnFault → Type 0
IsClosedAt behind e number (fault.Denied n) = (n ≡ number) × ((denial : Denial) × (e.reply ≡ reply.Denied denial))
IsClosedAt behind e number (fault.Full n) =
    (n ≡ number) × (DOMAIN_LAYERS ≤ length (client_of behind e.client).domain)
IsClosedAt behind e number other = ⊥

-- an entry after which nothing can be learned, with its fault
abbrev pub StopsAt : State → List Watched → Entry → ℕ → LearnFault → Type 0
StopsAt s clients e number fault.NoMemory = ⊤
StopsAt s clients e number (fault.Illegal n) = (n ≡ number) × (MayStand s e → ⊥)
StopsAt s clients e number other =
    MayStand s e × (is_watched clients e.client ≡ true) × IsClosedAt (after s e) e number other

-- one more entry: it is legal, it isn't denied if its client has the layer, and its demands are added
pub record GoesOn (s : State) (is_on : ℕ → Bool) (known : Openings) (e : Entry) (origin : Origin) (old new : Needs)
    (behind : State) (clients : List Watched) : Type 0 where
  pub stands : MayStand s e
  pub state : behind ≡ after s e
  pub stays : is_on e.client ≡ true → IsOpenAt (after s e) e
  pub adds : (layer : Layer) → Meets (grants_on layer) new ↔ (Meets (grants_on layer) old
      × (is_on e.client ≡ true → before_policy s (client_of s e.client) e.call ≡ [] → Allows layer s known e))
  pub watch : IsWatch (after s e) (joins is_on e) (opened_at s known e) clients
  pub rooted : AreRooted old → AreRooted new
  pub asks : AsksMore (IsAskedIn s known e.client) old new
  pub moves : MovesMore (IsOfPath s) old new
  pub outside : new.outside ≡ option_or old.outside (outside_of is_on e origin)
