use Rattle.std.specs.Cmp.{nat_cmp_total}
use Rattle.std.proofs.Common.{◌≡◌, ap, subst, ◌∙◌}
use Rattle.std.specs.Prelude.{[], ◌∷◌, ◌++◌}
use Rattle.ll_rights.specs.Map.{insert}
use Rattle.ll_rules.specs.Rules.{layer_limit}
use Rattle.ll_seq.specs.Stages.{ruleset_at}
use Rattle.ll_seq.specs.declared.client.ClientRecord.{ClientRecord}
use Rattle.ll_seq.specs.Fails.{Fails}
use Rattle.ll_seq.proofs.Results.{on_ok, if_err, same_some}
use Rattle.ll_seq.proofs.OrderedTables.{changed, not_missing}
use Rattle.ll_seq.proofs.clients.NumberMap+ClientRecord.confine.Goals as goal

pub unreachable-requires : goal.unreachable-requires
unreachable-requires c = not_missing c.self.inside.rows.items c.deref.result.now c.args.self.now c.args.client
    c.self.view_is c.self.invariant c.deref.ensures.value c.requires.there c.in_default.ensures.none

pub confine-requires : goal.confine-requires
confine-requires c =
    c.requires.made _ (changed nat_cmp_total c.self.inside.rows.items c.deref.result.now c.args.self.now c.args.client
    c.in-Some.i c.index_mut-row.result.now c.index_mut-row.result.now.1 c.self.view_is c.self.invariant
    c.deref.ensures.value c.in-Some.ensures.row c.index_mut-row.ensures.value).got

pub invariant_of-self : goal.invariant_of-self
invariant_of-self c =
    (changed nat_cmp_total c.self.inside.rows.items c.deref.result.now c.args.self.now c.args.client c.in-Some.i
    c.index_mut-row.result.now c.confine.new.self c.self.view_is c.self.invariant c.deref.ensures.value
    c.in-Some.ensures.row c.index_mut-row.ensures.value).sorted

pub returns-clause-ok : goal.returns-clause-ok
returns-clause-ok c =
    let over = changed nat_cmp_total c.self.inside.rows.items c.deref.result.now c.args.self.now c.args.client
    c.in-Some.i c.index_mut-row.result.now c.confine.new.self c.self.view_is c.self.invariant c.deref.ensures.value
    c.in-Some.ensures.row c.index_mut-row.ensures.value in
    on_ok c.confine.result c.confine.ensures.ok (λ ok c' there.
    let Told : ClientRecord → Type 0 =
    λ x. (layer_limit x.domain ≡ [])
    × (c.confine.new.self ≡ record x { domain = x.domain ++ ruleset_at x c.args.number ∷ [] }) in
    let told = subst Told (same_some over.got there) ok in
    (told.0, over.whole ∙ ap (insert c.args.self.now c.args.client) told.1))

pub returns-clause-refused : goal.returns-clause-refused
returns-clause-refused c =
    let over = changed nat_cmp_total c.self.inside.rows.items c.deref.result.now c.args.self.now c.args.client
    c.in-Some.i c.index_mut-row.result.now c.confine.new.self c.self.view_is c.self.invariant c.deref.ensures.value
    c.in-Some.ensures.row c.index_mut-row.ensures.value in
    if_err c.confine.result c.confine.ensures.refused
    (λ errno why c' there. subst (λ (x : ClientRecord). Fails (layer_limit x.domain) errno)
    (same_some over.got there) why)
