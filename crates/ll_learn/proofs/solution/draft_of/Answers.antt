use Rattle.std.proofs.Common.{◌≡◌, ◌<◌, length, ap, sym, ◌∙◌, subst, arith, get_or}
use Rattle.ll_rights.specs.Right.{all_rights}
use Rattle.ll_learn.specs.Columns.{is_at}
use Rattle.ll_learn.specs.Draft.{IsLeast, has}
use Rattle.ll_learn.proofs.Solutions.{put_before, put_behind, right_is, skipped_before}
use Rattle.ll_learn.proofs.solution.draft_of.Goals.{then-is_restricted+in_ok-held, else-is_restricted}
use Rattle.ll_learn.proofs.solution.draft_of.Goals as goal

pub least_column-requires-clause-known : goal.least_column-requires-clause-known
least_column-requires-clause-known c =
    let lt : c.loop-right.right-index < 15 = c.loop-right-test.true in
    subst (λ n. n < 15) (sym (right_is c.loop-right.right-index c.right-item.result lt)) lt

pub least_column-requires-clause-can : goal.least_column-requires-clause-can
least_column-requires-clause-can c =
    let k = c.loop-right.right-index in
    let r = get_or all_rights k c.right-item.result in
    let lt : k < 15 = c.loop-right-test.true in
    c.requires.can r (subst (λ n. n < 15) (sym (right_is k c.right-item.result lt)) lt) (sym c.if-is_restricted.ensures)

pub loop-right-preserved : goal.loop-right-preserved
loop-right-preserved c =
    let k = c.loop-right.right-index in
    let r = get_or all_rights k c.right-item.result in
    let lt : k < 15 = c.loop-right-test.true in
    let is : r ≡ k = right_is k c.right-item.result lt in
    let scope = c.args.scope.now in
    let needs = c.args.needs.now in
    let old = c.loop-right.draft in
    let inv = c.loop-right.invariant in
    elim c.if-is_restricted.branch [
      | then-is_restricted+in_ok-held w ↦
          let new = w.put.new.self in
          let column = w.deref.result.now in
          let least : IsLeast scope needs r (is_at column) =
          subst (λ hs. IsLeast scope needs r (is_at hs)) (sym w.deref.ensures.value) w.in_ok-held.ensures.least in
          let before = put_before scope needs old new k r column is lt w.put.ensures.rules inv.before
          inv.behind least in
          let behind = put_behind scope needs old new k r column is lt w.put.ensures.rules inv.behind in
          record {
            handled = ap (λ d. d.handled) w.draft-is ∙ w.put.ensures.handled ∙ inv.handled;
            len = ap (λ d. length d.rules.items) w.draft-is ∙ w.put.ensures.len ∙ inv.len;
            before = λ right below. subst (λ d. IsLeast scope needs right (has d right)) (sym w.draft-is)
                (before right below);
            behind = λ inode right known above. ap (λ d. has d right inode) w.draft-is ∙ behind inode right known above;
          }
      | else-is_restricted w ↦
          let before = skipped_before scope needs old k r is lt inv.before inv.behind
          (sym w.if-is_restricted.ensures) in
          record {
            handled = ap (λ d. d.handled) w.draft-is ∙ inv.handled;
            len = ap (λ d. length d.rules.items) w.draft-is ∙ inv.len;
            before = λ right below. subst (λ d. IsLeast scope needs right (has d right)) (sym w.draft-is)
                (before right below);
            behind = λ inode right known above. ap (λ d. has d right inode) w.draft-is
                ∙ inv.behind inode right known (omega arith);
          }
    ]
