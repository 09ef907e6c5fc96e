-- What the parts of histories after a cut need. own
use Rattle.std.specs.Prelude.{◌≡◌, ◌↔◌, List, All, Contains, None}
use Rattle.ll_rules.specs.Layer.{Layer, grants_on}
use Rattle.ll_learn.specs.declared.needs.Asked.{Asked}
use Rattle.ll_learn.specs.declared.needs.Needs.{Needs}
use Rattle.ll_learn.specs.Bound.{AllowsEach, MovesAreTheirs, Part}
use Rattle.ll_learn.specs.Charges.{WereInOne}
use Rattle.ll_learn.specs.Mended.{AreMovesOf}
use Rattle.ll_learn.specs.Needs.{AreRooted, Meets}
use Rattle.ll_learn.specs.PassedCalls.{IsLearnable, is_client}

-- the needs of these parts
pub record AreNeedsOfAll (parts : List Part) (needs : Needs) : Type 0 where
  pub learnable : (part : Part) → Contains parts part → IsLearnable part.cut part.client part.entries
  pub met : (layer : Layer) → Meets (grants_on layer) needs ↔ AllowsEach parts layer
  pub rooted : AreRooted needs
  pub paths : All (λ (a : Asked). WereInOne parts a.inodes.items) needs.asks.items
  pub moves : AreMovesOf parts needs
  pub theirs : (needs.outside ≡ None)
      ↔ ((part : Part) → Contains parts part → MovesAreTheirs (is_client part.client) part.entries)
