use Rattle.std.specs.Cmp.{nat_cmp_total}
use Rattle.std.proofs.Common.{[], ◌∙◌}
use Rattle.ll_seq.proofs.OrderedTables.{changed, got, bytes_changed, no_bytes}
use Rattle.ll_seq.proofs.nodes.NumberMap+Node.clear.Goals as goal

pub invariant_of-self : goal.invariant_of-self
invariant_of-self c =
    (changed nat_cmp_total c.self.inside.rows.items c.deref.result.now c.args.self.now c.args.inode c.in-Some.i
    c.index_mut-row.result.now (record c.index_mut-row.result.now.1 { bytes = c.clear.new.self }) c.self.view_is
    c.self.invariant c.deref.ensures.value c.in-Some.ensures.row c.index_mut-row.ensures.value).sorted

pub returns-in-Some : goal.returns-in-Some
returns-in-Some c =
    let over = changed nat_cmp_total c.self.inside.rows.items c.deref.result.now c.args.self.now c.args.inode
    c.in-Some.i c.index_mut-row.result.now (record c.index_mut-row.result.now.1 { bytes = c.clear.new.self })
    c.self.view_is c.self.invariant c.deref.ensures.value c.in-Some.ensures.row c.index_mut-row.ensures.value in
    bytes_changed (λ bytes. []) c.args.self.now _ c.args.inode c.index_mut-row.result.now.1 c.clear.new.self over.got
    over.whole c.clear.ensures

pub returns-in_default : goal.returns-in_default
returns-in_default c =
    no_bytes (λ bytes. []) c.args.self.now c.args.inode
    (got c.self.inside.rows.items c.deref.result.now c.args.self.now c.args.inode c.self.view_is c.self.invariant
    c.deref.ensures.value ∙ c.in_default.ensures.none)
