use Rattle.std.specs.Cmp.{nat_cmp_total}
use Rattle.std.proofs.Common.{◌≡◌, ap, subst, ◌∙◌}
use Rattle.std.specs.Prelude.{nat_le, length, [], ◌∷◌, ◌++◌}
use Rattle.ll_rights.specs.declared.errno.Errno.TheVariants.{EMFILE}
use Rattle.ll_rights.specs.declared.limits.TheConstants.{CLIENT_RULESETS}
use Rattle.ll_rights.specs.Errno.{refuse}
use Rattle.ll_rights.specs.Map.{insert}
use Rattle.ll_rules.specs.Rules.{create_refusals, new_ruleset}
use Rattle.ll_seq.specs.declared.client.ClientRecord.{ClientRecord}
use Rattle.ll_seq.specs.Fails.{Fails}
use Rattle.ll_seq.proofs.Results.{if_ok, if_err, same_some}
use Rattle.ll_seq.proofs.OrderedTables.{changed, not_missing}
use Rattle.ll_seq.proofs.clients.NumberMap+ClientRecord.create_ruleset.Goals as goal

pub unreachable-requires : goal.unreachable-requires
unreachable-requires c = not_missing c.self.inside.rows.items c.deref.result.now c.args.self.now c.args.client
    c.self.view_is c.self.invariant c.deref.ensures.value c.requires c.in_default.ensures.none

pub invariant_of-self : goal.invariant_of-self
invariant_of-self c =
    (changed nat_cmp_total c.self.inside.rows.items c.deref.result.now c.args.self.now c.args.client c.in-Some.i
    c.index_mut-row.result.now c.create_ruleset.new.self c.self.view_is c.self.invariant c.deref.ensures.value
    c.in-Some.ensures.row c.index_mut-row.ensures.value).sorted

pub returns-clause-ok : goal.returns-clause-ok
returns-clause-ok c =
    let over = changed nat_cmp_total c.self.inside.rows.items c.deref.result.now c.args.self.now c.args.client
    c.in-Some.i c.index_mut-row.result.now c.create_ruleset.new.self c.self.view_is c.self.invariant
    c.deref.ensures.value c.in-Some.ensures.row c.index_mut-row.ensures.value in
    if_ok c.create_ruleset.result c.create_ruleset.ensures.ok (λ number ok c' there.
    let Told : ClientRecord → Type 0 =
    λ x. (create_refusals c.args.abi c.args.handled.0 ++ refuse (nat_le CLIENT_RULESETS (length x.rulesets)) EMFILE
    ≡ []) × (number ≡ length x.rulesets)
    × (c.create_ruleset.new.self ≡ record x { rulesets = x.rulesets ++ new_ruleset c.args.handled.0 ∷ [] }) in
    let told = subst Told (same_some over.got there) ok in
    (told.0, told.1, over.whole ∙ ap (insert c.args.self.now c.args.client) told.2))

pub returns-clause-refused : goal.returns-clause-refused
returns-clause-refused c =
    let over = changed nat_cmp_total c.self.inside.rows.items c.deref.result.now c.args.self.now c.args.client
    c.in-Some.i c.index_mut-row.result.now c.create_ruleset.new.self c.self.view_is c.self.invariant
    c.deref.ensures.value c.in-Some.ensures.row c.index_mut-row.ensures.value in
    if_err c.create_ruleset.result c.create_ruleset.ensures.refused (λ errno why c' there.
    subst (λ (x : ClientRecord). Fails
    (create_refusals c.args.abi c.args.handled.0 ++ refuse (nat_le CLIENT_RULESETS (length x.rulesets)) EMFILE)
    errno) (same_some over.got there) why)
