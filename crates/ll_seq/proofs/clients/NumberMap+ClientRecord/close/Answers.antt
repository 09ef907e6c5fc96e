use Rattle.std.specs.Cmp.{nat_cmp_total}
use Rattle.std.proofs.Common.{ap, ◌∙◌}
use Rattle.ll_rights.specs.Map.{insert, remove}
use Rattle.ll_seq.specs.declared.client.ClientRecord.{ClientRecord}
use Rattle.ll_seq.proofs.Results.{same_some}
use Rattle.ll_seq.proofs.OrderedTables.{changed, not_missing}
use Rattle.ll_seq.proofs.clients.NumberMap+ClientRecord.close.Goals as goal

pub unreachable-requires : goal.unreachable-requires
unreachable-requires c = not_missing c.self.inside.rows.items c.deref.result.now c.args.self.now c.args.client
    c.self.view_is c.self.invariant c.deref.ensures.value c.requires c.in_default.ensures.none

pub invariant_of-self : goal.invariant_of-self
invariant_of-self c =
    (changed nat_cmp_total c.self.inside.rows.items c.deref.result.now c.args.self.now c.args.client c.in-Some.i
    c.index_mut-row.result.now (record c.index_mut-row.result.now.1 { descriptors = c.remove.new.self })
    c.self.view_is c.self.invariant c.deref.ensures.value c.in-Some.ensures.row
    c.index_mut-row.ensures.value).sorted

pub returns : goal.returns
returns c c' there =
    let over = changed nat_cmp_total c.self.inside.rows.items c.deref.result.now c.args.self.now c.args.client
    c.in-Some.i c.index_mut-row.result.now (record c.index_mut-row.result.now.1 { descriptors = c.remove.new.self })
    c.self.view_is c.self.invariant c.deref.ensures.value c.in-Some.ensures.row c.index_mut-row.ensures.value in
    over.whole ∙ ap (λ m. insert c.args.self.now c.args.client
    (record c.index_mut-row.result.now.1 { descriptors = m })) c.remove.ensures
    ∙ ap (λ (x : ClientRecord). insert c.args.self.now c.args.client
    (record x { descriptors = remove x.descriptors c.args.number })) (same_some over.got there)
