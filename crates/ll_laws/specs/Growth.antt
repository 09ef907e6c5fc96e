-- What holds between a world and a later one. own
use Rattle.std.specs.Prelude.{◌≡◌, ℕ, ◌≤◌, List, ◌++◌, length}
use Rattle.ll_seq.specs.declared.reply.Entry.{Entry}
use Rattle.ll_seq.specs.declared.rules.Rules.{Rules}
use Rattle.ll_laws.specs.World.{World, new_world, world_after}
use Rattle.ll_laws.specs.declared.step.Step.{Step}

-- these entries were added to the first world's history
abbrev pub Came : World → World → List Entry → Type 0
Came w v added = v.history ≡ w.history ++ added

-- the second world has the first one's tree, to whose history entries were added, at most up to its limit
pub record IsLater (w v : World) : Type 0 where
  pub rules : v.rules ≡ w.rules
  pub room : v.room ≡ w.room
  pub limit : v.limit ≡ w.limit
  pub added : (es : List Entry) × Came w v es
  pub fits : length v.history ≤ v.limit

-- steps only add entries to a history, and never exceed its limit
abbrev pub HistoryGrows : Type 0
HistoryGrows =
    (rules : Rules) (room limit : ℕ) (early late : List Step) →
    let w = world_after (new_world rules room limit) early in
    let v = world_after w late in
    ((added : List Entry) × Came w v added) × (length v.history ≤ limit)

-- the property of an early part and a late part of a history holds whenever steps lead from one world to another
abbrev pub OfBoth : (Rules → ℕ → List Entry → List Entry → Type 0) → Type 0
OfBoth P =
    (rules : Rules) (room limit : ℕ) (early late : List Step) →
    let w = world_after (new_world rules room limit) early in
    let v = world_after w late in
    (added : List Entry) → Came w v added → P rules room w.history added
