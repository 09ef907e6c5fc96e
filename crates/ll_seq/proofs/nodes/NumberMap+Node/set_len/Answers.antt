use Rattle.std.specs.Cmp.{nat_cmp_total}
use Rattle.std.proofs.Common.{◌∙◌}
use Rattle.ll_seq.specs.Effects.{resized}
use Rattle.ll_seq.proofs.Results.{on_ok}
use Rattle.ll_seq.proofs.OrderedTables.{changed, got, bytes_changed, no_bytes}
use Rattle.ll_seq.proofs.nodes.NumberMap+Node.set_len.Goals as goal

pub returns-in_default-clause-ok : goal.returns-in_default-clause-ok
returns-in_default-clause-ok c =
    no_bytes (λ bytes. resized bytes c.args.len) c.args.self.now c.args.inode
    (got c.self.inside.rows.items c.deref.result.now c.args.self.now c.args.inode c.self.view_is c.self.invariant
    c.deref.ensures.value ∙ c.in_default.ensures.none)

pub invariant_of-self : goal.invariant_of-self
invariant_of-self c =
    (changed nat_cmp_total c.self.inside.rows.items c.deref.result.now c.args.self.now c.args.inode c.in-Some.i
    c.index_mut-row.result.now (record c.index_mut-row.result.now.1 { bytes = c.set_len.new.self }) c.self.view_is
    c.self.invariant c.deref.ensures.value c.in-Some.ensures.row c.index_mut-row.ensures.value).sorted

pub returns-clause-ok : goal.returns-clause-ok
returns-clause-ok c =
    let over = changed nat_cmp_total c.self.inside.rows.items c.deref.result.now c.args.self.now c.args.inode
    c.in-Some.i c.index_mut-row.result.now (record c.index_mut-row.result.now.1 { bytes = c.set_len.new.self })
    c.self.view_is c.self.invariant c.deref.ensures.value c.in-Some.ensures.row c.index_mut-row.ensures.value in
    on_ok c.set_len.result c.set_len.ensures.ok (λ resized_to.
    bytes_changed (λ bytes. resized bytes c.args.len) c.args.self.now _ c.args.inode c.index_mut-row.result.now.1
    c.set_len.new.self over.got over.whole resized_to)
