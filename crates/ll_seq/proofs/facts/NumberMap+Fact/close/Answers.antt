use Rattle.std.proofs.Common.{sym, subst}
use Rattle.ll_rights.specs.Map.{remove}
use Rattle.ll_seq.specs.Effects.{with_client}
use Rattle.ll_seq.proofs.FactsKept.{Steps, kept_let_go, goes}
use Rattle.ll_seq.proofs.OpensKept.{less_opens, kept_closed}
use Rattle.ll_seq.proofs.facts.NumberMap+Fact.close.Goals as goal

pub returns-clause-kept : goal.returns-clause-kept
returns-clause-kept c s client holder fd d kept there was inode =
    let closed = kept_closed s c.args.self.now c.take_open.new.self client holder kept there fd d
    (subst (λ i. Steps c.args.self.now c.take_open.new.self (λ q x. less_opens i q x)) (sym inode)
    c.take_open.ensures) was in
    kept_let_go (with_client s client (record holder { descriptors = remove holder.descriptors fd }))
    c.take_open.new.self c.let_go.new.self c.args.inode c.let_go.result closed c.let_go.ensures.dead
    c.let_go.ensures.left

pub returns-clause-goes : goal.returns-clause-goes
returns-clause-goes c s client holder fd d kept there was inode node =
    let closed = kept_closed s c.args.self.now c.take_open.new.self client holder kept there fd d
    (subst (λ i. Steps c.args.self.now c.take_open.new.self (λ q x. less_opens i q x)) (sym inode)
    c.take_open.ensures) was in
    goes (with_client s client (record holder { descriptors = remove holder.descriptors fd })) c.take_open.new.self
    c.let_go.new.self c.args.inode c.let_go.result closed c.let_go.ensures.dead node
