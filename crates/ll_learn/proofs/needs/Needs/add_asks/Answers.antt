use Rattle.std.specs.Prelude.{◌≡◌, List, ℕ}
use Rattle.std.proofs.Common.{subst, sym, ◌∙◌}
use Rattle.std.proofs.lemmas.Result.{on_ok_weaker}
use Rattle.ll_decide.specs.declared.demands.On.TheVariants.{Itself, Other, Parent, Entered}
use Rattle.ll_learn.specs.Needs.{StartsAtRoot}
use Rattle.ll_decide.specs.declared.demands.On.{On}
use Rattle.ll_why.specs.Reasons.{chain_of}
use Rattle.ll_learn.proofs.AskedGrants.{collected}
use Rattle.ll_learn.proofs.There.{asks_joined, asks_same, asks_weaker, moves_joined, moves_same}
use Rattle.ll_learn.proofs.There.{moves_weaker}
use Rattle.ll_learn.proofs.needs.Needs.add_asks.Goals as goal

pub returns-clause-meets : goal.returns-clause-meets
returns-clause-meets c =
    on_ok_weaker c.add_move-2.result (λ last grants. collected grants c.args.asks.now c.args.self.now
    c.add_ask.new.self c.add_ask-2.new.self c.add_ask-3.new.self c.add_ask-4.new.self c.add_move.new.self
    c.add_move-2.new.self c.as_slice-itself.result.now c.as_slice-other.result.now c.as_slice-parent.result.now
    c.as_slice-entered.result.now c.as_slice-itself.ensures.value c.as_slice-other.ensures.value
    c.as_slice-parent.ensures.value c.as_slice-entered.ensures.value c.with.result.0 c.with.ensures
    (c.in_ok-add_ask.ensures.meets grants) (c.in_ok-add_ask-2.ensures.meets grants)
    (c.in_ok-add_ask-3.ensures.meets grants) (c.in_ok-add_ask-4.ensures.meets grants)
    (c.in_ok-add_move.ensures.meets grants) (last grants)) c.add_move-2.ensures.meets

pub returns-clause-rooted : goal.returns-clause-rooted
returns-clause-rooted c =
    on_ok_weaker c.add_move-2.result (λ last rooted all.
    let itself = subst StartsAtRoot (sym c.as_slice-itself.ensures.value) (all Itself) in
    let other = subst StartsAtRoot (sym c.as_slice-other.ensures.value) (all Other) in
    let parent = subst StartsAtRoot (sym c.as_slice-parent.ensures.value) (all Parent) in
    let entered = subst StartsAtRoot (sym c.as_slice-entered.ensures.value) (all Entered) in
    last (c.in_ok-add_move.ensures.rooted (c.in_ok-add_ask-4.ensures.rooted (c.in_ok-add_ask-3.ensures.rooted
    (c.in_ok-add_ask-2.ensures.rooted (c.in_ok-add_ask.ensures.rooted rooted itself) other) parent) entered)
    itself entered) other parent) c.add_move-2.ensures.rooted

pub returns-clause-asks : goal.returns-clause-asks
returns-clause-asks c =
    let asks = c.args.asks.now in
    let IsOne : List ℕ → Type 0 = λ path. (on : On) × (path ≡ chain_of asks on) in
    let n0 = c.args.self.now in
    let n1 = c.add_ask.new.self in
    let n2 = c.add_ask-2.new.self in
    let n3 = c.add_ask-3.new.self in
    let n4 = c.add_ask-4.new.self in
    let n5 = c.add_move.new.self in
    let n6 = c.add_move-2.new.self in
    let one = asks_weaker _ IsOne n0 n1 (λ path is. (Itself, is ∙ c.as_slice-itself.ensures.value))
    c.in_ok-add_ask.ensures.asks in
    let two = asks_weaker _ IsOne n1 n2 (λ path is. (Other, is ∙ c.as_slice-other.ensures.value))
    c.in_ok-add_ask-2.ensures.asks in
    let three = asks_weaker _ IsOne n2 n3 (λ path is. (Parent, is ∙ c.as_slice-parent.ensures.value))
    c.in_ok-add_ask-3.ensures.asks in
    let four = asks_weaker _ IsOne n3 n4 (λ path is. (Entered, is ∙ c.as_slice-entered.ensures.value))
    c.in_ok-add_ask-4.ensures.asks in
    let moves = asks_same IsOne n4 n6 (c.add_move-2.ensures.asks ∙ c.in_ok-add_move.ensures.asks) in
    on_ok_weaker c.add_move-2.result (λ last. asks_joined IsOne n0 n1 n6 one (asks_joined IsOne n1 n2 n6 two
    (asks_joined IsOne n2 n3 n6 three (asks_joined IsOne n3 n4 n6 four moves)))) c.add_move-2.ensures.meets

pub returns-clause-moves : goal.returns-clause-moves
returns-clause-moves c =
    let asks = c.args.asks.now in
    let IsOne : List ℕ → Type 0 = λ path. (on : On) × (path ≡ chain_of asks on) in
    let n0 = c.args.self.now in
    let n4 = c.add_ask-4.new.self in
    let n5 = c.add_move.new.self in
    let n6 = c.add_move-2.new.self in
    let asked = moves_same IsOne n0 n4 (c.in_ok-add_ask-4.ensures.moves ∙ c.in_ok-add_ask-3.ensures.moves
    ∙ c.in_ok-add_ask-2.ensures.moves ∙ c.in_ok-add_ask.ensures.moves) in
    let five = moves_weaker _ IsOne n4 n5 (λ path is. (Itself, is ∙ c.as_slice-itself.ensures.value))
    c.in_ok-add_move.ensures.moves in
    on_ok_weaker c.add_move-2.result (λ last. moves_joined IsOne n0 n4 n6 asked (moves_joined IsOne n4 n5 n6 five
    (moves_weaker _ IsOne n5 n6 (λ path is. (Other, is ∙ c.as_slice-other.ensures.value)) last)))
    c.add_move-2.ensures.moves
