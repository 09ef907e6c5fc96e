use Rattle.std.proofs.Common.{◌≡◌, []}
use Rattle.ll_node.specs.Refusals.{missing}
use Rattle.ll_node.specs.declared.held.Held.{Held}
use Rattle.ll_node.specs.Lent.{named_in}
use Rattle.ll_node.proofs.EachSlot.{one_more, all_changed, of_next}
use Rattle.ll_node.proofs.lent.replace_name.Goals as goal

pub loop-held-preserved : goal.loop-held-preserved
loop-held-preserved c = one_more (named_in c.args.directory c.args.name.now c.args.inode) c.loop-held.held-index
    c.args.lent.now c.loop-held.lent c.replace_name.new.self c.held-item.result c.loop-held.invariant
    c.loop-held-test.true c.replace_name.ensures

pub returns : goal.returns
returns c = all_changed (named_in c.args.directory c.args.name.now c.args.inode) c.loop-held.held-index c.args.lent.now
    c.loop-held.lent c.loop-held.invariant c.loop-held-test.false

pub replace_name-requires : goal.replace_name-requires
replace_name-requires c =
    of_next (named_in c.args.directory c.args.name.now c.args.inode) (λ (held : Held). held.inode ≡ c.args.directory
    → missing held.node.names c.args.name.now ≡ [])
    c.loop-held.held-index c.args.lent.now c.loop-held.lent c.held-item.result c.requires c.loop-held.invariant
    c.loop-held-test.true
