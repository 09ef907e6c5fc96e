-- Drafts with all their rights charged are least. own
use Rattle.std.specs.Prelude.{◌≡◌, ◌<◌, ℕ, Bool, true, List, None, All, Contains}
use Rattle.ll_rules.specs.Layer.{Layer, grants_on}
use Rattle.ll_seq.specs.State.{State}
use Rattle.ll_seq.specs.declared.reply.Entry.{Entry}
use Rattle.ll_learn.specs.declared.draft.Draft.{Draft}
use Rattle.ll_learn.specs.declared.draft.Scope.{Scope}
use Rattle.ll_learn.specs.declared.needs.Asked.{Asked}
use Rattle.ll_learn.specs.declared.needs.Needs.{Needs}
use Rattle.ll_learn.specs.Bound.{AllowsEach, BeginAt, IsHoldable, MovesAreTheirs, Part, PassesEach, ReachesNoMore}
use Rattle.ll_learn.specs.Bound.{WereThere}
use Rattle.ll_learn.specs.Draft.{IsCharged, IsInScope, IsOf, may_have}
use Rattle.ll_learn.specs.Needs.{Meets}
use Rattle.ll_learn.specs.Outside.{first_outside}

-- in one of the parts, after some of its entries, these are the inodes of a path
abbrev pub WereInOne : List Part → List ℕ → Type 0
WereInOne parts inodes = (part : Part) × Contains parts part × WereThere part.cut part.entries inodes

-- each layer that allows the calls of these parts meets the needs, and the needs' paths existed in them
pub record AreNeedsOf (parts : List Part) (needs : Needs) : Type 0 where
  pub met : (layer : Layer) → AllowsEach parts layer → Meets (grants_on layer) needs
  pub paths : All (λ (a : Asked). WereInOne parts a.inodes.items) needs.asks.items

-- rules may have only rights that they can have
abbrev pub IsScopeAt : State → Scope → Type 0
IsScopeAt s scope = (inode right : ℕ) → right < 15 → may_have scope right inode ≡ true → IsHoldable s inode right

-- A layer of a charged draft reaches no more at the cut than any layer of the scope under which all parts pass
abbrev pub DraftIsLeast : Type 0
DraftIsLeast = (s : State) (parts : List Part) → BeginAt s parts → (needs : Needs) → AreNeedsOf parts needs →
    (scope : Scope) → IsScopeAt s scope → (draft : Draft) → IsCharged scope needs draft →
    (least : Layer) → IsOf draft least → IsInScope scope least →
    (layer : Layer) → IsInScope scope layer → PassesEach parts layer → ReachesNoMore s least layer

-- if there is no move outside, each is made by a client that the layer is on
abbrev pub OutsideIsNone : Type 0
OutsideIsNone = (is_on : ℕ → Bool) (history number : ℕ) (es : List Entry) →
    first_outside is_on history number es ≡ None → MovesAreTheirs is_on es
