use Rattle.std.proofs.Common.{ap, ◌∙◌}
use Rattle.std.specs.Cmp.{nat_cmp_total}
use Rattle.ll_rights.specs.Map.{get}
use Rattle.ll_seq.proofs.OrderedTables.{changed, got}
use Rattle.ll_seq.proofs.FactsKept.{put_steps, no_steps}
use Rattle.ll_seq.proofs.facts.NumberMap+Fact.put.Goals as goal

pub invariant_of-self : goal.invariant_of-self
invariant_of-self c =
    (changed nat_cmp_total c.self.inside.rows.items c.deref.result.now c.args.self.now c.args.inode c.in-Some.i
    c.index_mut-row.result.now c.args.fact c.self.view_is c.self.invariant c.deref.ensures.value
    c.in-Some.ensures.row c.index_mut-row.ensures.value).sorted

pub returns-in-Some : goal.returns-in-Some
returns-in-Some c q =
    let over = changed nat_cmp_total c.self.inside.rows.items c.deref.result.now c.args.self.now c.args.inode
    c.in-Some.i c.index_mut-row.result.now c.args.fact c.self.view_is c.self.invariant c.deref.ensures.value
    c.in-Some.ensures.row c.index_mut-row.ensures.value in
    ap (λ m. get m q) over.whole ∙ put_steps c.args.self.now c.args.inode c.index_mut-row.result.now.1 c.args.fact
    over.got q

pub returns-in_default : goal.returns-in_default
returns-in_default c =
    no_steps c.args.self.now c.args.inode c.args.fact
    (got c.self.inside.rows.items c.deref.result.now c.args.self.now c.args.inode c.self.view_is c.self.invariant
    c.deref.ensures.value ∙ c.in_default.ensures.none)
