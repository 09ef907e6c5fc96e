use Rattle.std.specs.Prelude.{◌≡◌, refl}
use Rattle.std.proofs.lemmas.Result.{on_ok_weaker}
use Rattle.ll_learn.specs.declared.needs.Moved.{Moved}
use Rattle.ll_learn.proofs.MoreNeeds.{more_moved, rooted_move}
use Rattle.ll_learn.proofs.There.{moves_pushed, moves_same}
use Rattle.ll_learn.proofs.needs.Needs.add_move.Goals as goal

pub returns-then-has_moved-clause-meets : goal.returns-then-has_moved-clause-meets
returns-then-has_moved-clause-meets c = λ grants. (
  λ meets. (meets, c.has_moved.ensures c.if-has_moved.true grants meets),
  λ both. both.0,
)

pub returns-clause-meets : goal.returns-clause-meets
returns-clause-meets c =
    let m : Moved = record {
      rights = c.args.rights;
      from = c.in_ok-from.from;
      into = c.in_ok-into.into;
      origin = c.args.origin;
    } in
    on_ok_weaker c.push_move.result (λ more grants. more_moved grants c.args.self.now _ m c.args.from.now
    c.args.into.now more refl c.in_ok-from.ensures c.in_ok-into.ensures) c.push_move.ensures

pub returns-clause-rooted : goal.returns-clause-rooted
returns-clause-rooted c =
    let m : Moved = record {
      rights = c.args.rights;
      from = c.in_ok-from.from;
      into = c.in_ok-into.into;
      origin = c.args.origin;
    } in
    on_ok_weaker c.push_move.result (λ more rooted starts begins. rooted_move c.args.self.now _ m c.args.from.now
    c.args.into.now more refl c.in_ok-from.ensures c.in_ok-into.ensures rooted starts begins) c.push_move.ensures

pub returns-then-has_moved-clause-moves : goal.returns-then-has_moved-clause-moves
returns-then-has_moved-clause-moves c =
    moves_same (λ path. path ≡ c.args.from.now) c.args.self.now c.args.self.now refl

pub returns-clause-moves : goal.returns-clause-moves
returns-clause-moves c =
    let m : Moved = record {
      rights = c.args.rights;
      from = c.in_ok-from.from;
      into = c.in_ok-into.into;
      origin = c.args.origin;
    } in
    on_ok_weaker c.push_move.result (λ more. moves_pushed (λ path. path ≡ c.args.from.now) c.args.self.now
    (record c.args.self.now { moves = c.push_move.new.moves }) m more c.in_ok-from.ensures) c.push_move.ensures
