use Rattle.std.specs.Cmp.{nat_cmp_total}
use Rattle.std.proofs.Common.{◌≡◌, Some, ap, subst, ◌∙◌}
use Rattle.std.specs.Prelude.{is_none}
use Rattle.ll_rights.specs.declared.errno.Errno.TheVariants.{EMFILE}
use Rattle.ll_rights.specs.Errno.{refuse}
use Rattle.ll_rights.specs.Map.{insert}
use Rattle.ll_seq.specs.Stages.{lowest_free}
use Rattle.ll_seq.specs.declared.client.ClientRecord.{ClientRecord}
use Rattle.ll_seq.specs.Fails.{Fails}
use Rattle.ll_seq.proofs.Results.{if_ok, if_err, same_some}
use Rattle.ll_seq.proofs.OrderedTables.{changed, not_missing}
use Rattle.ll_seq.proofs.clients.NumberMap+ClientRecord.open.Goals as goal

pub unreachable-requires : goal.unreachable-requires
unreachable-requires c = not_missing c.self.inside.rows.items c.deref.result.now c.args.self.now c.args.client
    c.self.view_is c.self.invariant c.deref.ensures.value c.requires c.in_default.ensures.none

pub invariant_of-self : goal.invariant_of-self
invariant_of-self c =
    (changed nat_cmp_total c.self.inside.rows.items c.deref.result.now c.args.self.now c.args.client c.in-Some.i
    c.index_mut-row.result.now c.open.new.self c.self.view_is c.self.invariant c.deref.ensures.value
    c.in-Some.ensures.row c.index_mut-row.ensures.value).sorted

pub returns-clause-ok : goal.returns-clause-ok
returns-clause-ok c =
    let over = changed nat_cmp_total c.self.inside.rows.items c.deref.result.now c.args.self.now c.args.client
    c.in-Some.i c.index_mut-row.result.now c.open.new.self c.self.view_is c.self.invariant c.deref.ensures.value
    c.in-Some.ensures.row c.index_mut-row.ensures.value in
    if_ok c.open.result c.open.ensures.ok (λ number ok c' there.
    let Told : ClientRecord → Type 0 =
    λ x. (lowest_free x.descriptors ≡ Some number)
    × (c.open.new.self ≡ record x { descriptors = insert x.descriptors number c.args.descriptor }) in
    let told = subst Told (same_some over.got there) ok in
    (told.0, over.whole ∙ ap (insert c.args.self.now c.args.client) told.1))

pub returns-clause-refused : goal.returns-clause-refused
returns-clause-refused c =
    let over = changed nat_cmp_total c.self.inside.rows.items c.deref.result.now c.args.self.now c.args.client
    c.in-Some.i c.index_mut-row.result.now c.open.new.self c.self.view_is c.self.invariant c.deref.ensures.value
    c.in-Some.ensures.row c.index_mut-row.ensures.value in
    if_err c.open.result c.open.ensures.refused (λ errno why c' there.
    subst (λ (x : ClientRecord). Fails (refuse (is_none (lowest_free x.descriptors)) EMFILE) errno)
    (same_some over.got there) why)
