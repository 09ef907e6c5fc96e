use Rattle.std.proofs.Common.{subst}
use Rattle.std.proofs.lemmas.Result.{IfOk-weaker}
use Rattle.ll_seq.specs.History.{MayStand}
use Rattle.ll_seq.specs.State.{State}
use Rattle.ll_audit.specs.Saved.{opened}
use Rattle.ll_why.specs.Entries.{IsStanding}
use Rattle.ll_why.proofs.Numbered.{here, stands_not}
use Rattle.ll_why.proofs.history.line_of.Goals as goal

pub answer_at-requires-clause-not : goal.answer_at-requires-clause-not
answer_at-requires-clause-not c = λ may.
    let e = c.index-entries-number.result in
    stands_not (opened c.args.header.now) c.args.entries.now c.args.number e c.requires.first c.requires.last
    c.index-entries-number.is c.requires.legal c.requires.no
    (subst (λ (z : State). MayStand z e) c.in_ok-tree.ensures.tree may)

pub returns : goal.returns
returns c =
    let e = c.index-entries-number.result in
    let standing = c.in_ok-standing.standing in
    IfOk-weaker c.standing_line.result _ _ (λ line is. record {
      entry = e;
      standing = standing;
      at = here (opened c.args.header.now) c.args.entries.now c.args.number e c.requires.first c.requires.last
          c.index-entries-number.is;
      stands = subst (λ (z : State). IsStanding z e standing) c.in_ok-tree.ensures.tree c.in_ok-standing.ensures;
      fails = c.requires.no;
      is = is;
    }) c.standing_line.ensures
