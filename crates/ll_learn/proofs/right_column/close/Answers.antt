use Rattle.std.proofs.Common.{ap, arith}
use Rattle.ll_learn.specs.Columns.{free_count, is_at}
use Rattle.ll_learn.specs.Draft.{is_mended_at, may_have, stands}
use Rattle.ll_learn.proofs.Columns.{falls, grown_within, grows_none, grows_on, grows_wider}
use Rattle.ll_learn.proofs.Places.{mended_may}
use Rattle.ll_learn.proofs.Spreads.{spread_on}
use Rattle.ll_learn.proofs.right_column.close.Goals as goal

pub loop-changed-smaller : goal.loop-changed-smaller
loop-changed-smaller c =
    falls (free_count c.loop-changed.held.items) (free_count c.close_once-changed.new.held.items) c.loop-changed.changed
    c.close_once-changed.result c.loop-changed-test.true c.close_once-changed.ensures.more
    (λ off. let e = ap free_count (c.close_once-changed.ensures.kept off) in omega arith)

pub close_once-changed-requires-clause-within : goal.close_once-changed-requires-clause-within
close_once-changed-requires-clause-within c =
    let scope = c.args.scope.now in
    let right = c.args.right in
    let mended = is_mended_at scope right c.args.moves.now in
    let first = c.args.held.now.items in
    let now = c.loop-changed.held.items in
    grown_within (may_have scope right) first now
    (grows_wider mended (may_have scope right) first now (mended_may scope right c.args.moves.now)
    c.loop-changed.invariant.grows) c.requires.within

pub loop-changed-init : goal.loop-changed-init
loop-changed-init c = record {
  grows = grows_none (is_mended_at c.args.scope.now c.args.right c.args.moves.now) c.args.held.now.items;
  spread = λ inode at. stands inode at;
  done = λ off. absurd (cc off);
}

pub loop-changed-preserved : goal.loop-changed-preserved
loop-changed-preserved c =
    let scope = c.args.scope.now in
    let right = c.args.right in
    let moves = c.args.moves.now in
    let first = c.args.held.now.items in
    let now = c.loop-changed.held.items in
    let new = c.close_once-changed.new.held.items in
    record {
      grows = grows_on (is_mended_at scope right moves) first now new c.loop-changed.invariant.grows
          c.close_once-changed.ensures.grows;
      spread = λ inode at. spread_on scope right moves (is_at now) (is_at first) c.loop-changed.invariant.spread inode
          (c.close_once-changed.ensures.spread inode at);
      done = c.close_once-changed.ensures.done;
    }
