use Rattle.std.specs.Cmp.{nat_cmp_total}
use Rattle.std.proofs.Common.{◌≡◌, Some, ap, subst, ◌∙◌}
use Rattle.std.specs.Prelude.{slice_get, slice_set, [], ◌++◌}
use Rattle.ll_rights.specs.Map.{insert}
use Rattle.ll_rules.specs.Layer.{Layer}
use Rattle.ll_rules.specs.Rules.{rule_refusals, rule_limit, with_rule}
use Rattle.ll_seq.specs.declared.client.ClientRecord.{ClientRecord}
use Rattle.ll_seq.proofs.Results.{on_ok, if_err, same_some}
use Rattle.ll_seq.proofs.OrderedTables.{changed, not_missing}
use Rattle.ll_seq.proofs.clients.NumberMap+ClientRecord.allow.Goals as goal

pub unreachable-requires : goal.unreachable-requires
unreachable-requires c = not_missing c.self.inside.rows.items c.deref.result.now c.args.self.now c.args.client
    c.self.view_is c.self.invariant c.deref.ensures.value c.requires.there c.in_default.ensures.none

pub allow-requires : goal.allow-requires
allow-requires c =
    c.requires.made _ (changed nat_cmp_total c.self.inside.rows.items c.deref.result.now c.args.self.now c.args.client
    c.in-Some.i c.index_mut-row.result.now c.index_mut-row.result.now.1 c.self.view_is c.self.invariant
    c.deref.ensures.value c.in-Some.ensures.row c.index_mut-row.ensures.value).got

pub invariant_of-self : goal.invariant_of-self
invariant_of-self c =
    (changed nat_cmp_total c.self.inside.rows.items c.deref.result.now c.args.self.now c.args.client c.in-Some.i
    c.index_mut-row.result.now (record c.index_mut-row.result.now.1 { rulesets = c.allow.new.self }) c.self.view_is
    c.self.invariant c.deref.ensures.value c.in-Some.ensures.row c.index_mut-row.ensures.value).sorted

pub returns-clause-ok : goal.returns-clause-ok
returns-clause-ok c =
    let over = changed nat_cmp_total c.self.inside.rows.items c.deref.result.now c.args.self.now c.args.client
    c.in-Some.i c.index_mut-row.result.now (record c.index_mut-row.result.now.1 { rulesets = c.allow.new.self })
    c.self.view_is c.self.invariant c.deref.ensures.value c.in-Some.ensures.row c.index_mut-row.ensures.value in
    on_ok c.allow.result c.allow.ensures.ok (λ ok c' there.
    let Told : ClientRecord → Type 0 =
    λ x. (made : Layer) × (slice_get x.rulesets c.args.number ≡ Some made)
    × (rule_refusals made c.args.kind c.args.rights.0 ++ rule_limit made c.args.inode ≡ [])
    × (record c.index_mut-row.result.now.1 { rulesets = c.allow.new.self }
    ≡ record x { rulesets = slice_set x.rulesets c.args.number (with_rule made c.args.inode c.args.rights.0) }) in
    let told = subst Told (same_some over.got there)
    (ok.0, ok.1, ok.2, ap (λ rs. record c.index_mut-row.result.now.1 { rulesets = rs }) ok.3) in
    (told.0, told.1, told.2, over.whole ∙ ap (insert c.args.self.now c.args.client) told.3))

pub returns-clause-refused : goal.returns-clause-refused
returns-clause-refused c =
    let over = changed nat_cmp_total c.self.inside.rows.items c.deref.result.now c.args.self.now c.args.client
    c.in-Some.i c.index_mut-row.result.now (record c.index_mut-row.result.now.1 { rulesets = c.allow.new.self })
    c.self.view_is c.self.invariant c.deref.ensures.value c.in-Some.ensures.row c.index_mut-row.ensures.value in
    if_err c.allow.result c.allow.ensures.refused
    (λ errno why c' there made is. why made
    (ap (λ (x : ClientRecord). slice_get x.rulesets c.args.number) (same_some over.got there) ∙ is))
