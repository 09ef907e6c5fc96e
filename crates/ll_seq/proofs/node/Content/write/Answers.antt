use Rattle.ll_seq.proofs.Bytes.{overwritten_is}
use Rattle.ll_seq.proofs.node.Content.write.Goals as goal

pub returns-clause-ok : goal.returns-clause-ok
returns-clause-ok c = overwritten_is c.args.self.now c.args.offset c.args.bytes.now c.grow.new.self c.put.new.self
    c.in_ok-grow.ensures.ok c.put.ensures
