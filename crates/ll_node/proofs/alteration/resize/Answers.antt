use Rattle.ll_seq.proofs.Results.{on_ok}
use Rattle.ll_node.proofs.ResizedSlots.{may_resize, resized_slots}
use Rattle.ll_node.proofs.alteration.resize.Goals as goal

pub set_len-requires-clause-apart : goal.set_len-requires-clause-apart
set_len-requires-clause-apart c = (may_resize c.args.inode c.args.size c.requires.1).0

pub set_len-requires-clause-inode : goal.set_len-requires-clause-inode
set_len-requires-clause-inode c = (may_resize c.args.inode c.args.size c.requires.1).1

pub set_len-requires-clause-takes : goal.set_len-requires-clause-takes
set_len-requires-clause-takes c = (may_resize c.args.inode c.args.size c.requires.1).2

pub returns-clause-ok : goal.returns-clause-ok
returns-clause-ok c =
    on_ok c.set_len.result c.set_len.ensures.ok
    (λ done any scene given fits covers.
    resized_slots given c.args.inode c.args.size c.set_len.new.lent fits covers done)
