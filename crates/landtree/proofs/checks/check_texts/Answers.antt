use Rattle.std.proofs.Common.{inl, inr, map, ◌≡◌, Err, rules}
use Rattle.ll_program.specs.Options.{checked_in}
use Rattle.ll_check.specs.Files.{source_of}
use Rattle.landtree.proofs.CheckedFiles.{begun_with, by_policies, fails_with, no_policies, none_begun}
use Rattle.landtree.proofs.checks.check_texts.Goals as goal

pub returns-in_err-paths-clause-failure : goal.returns-in_err-paths-clause-failure
returns-in_err-paths-clause-failure g c =
    let same : c.from_residual.result ≡ Err c.in_err-paths.field-0.0 = search rules in
    rw same (no_policies (g.S.Sources.texts c.args.sources.now) (checked_in c.args.given.now.options.now)
    c.args.given.now.policy.now (map source_of c.args.given.now.files.now) c.in_err-paths.field-0.0 (inr
    c.in_err-paths.ensures))

pub returns-in_err-paths-clause-begun : goal.returns-in_err-paths-clause-begun
returns-in_err-paths-clause-begun g c =
    let same : c.from_residual.result ≡ Err c.in_err-paths.field-0.0 = search rules in
    rw same (none_begun (g.S.Sources.texts c.args.sources.now) (checked_in c.args.given.now.options.now)
    c.args.given.now.policy.now (map source_of c.args.given.now.files.now) _ c.in_err-paths.field-0.0)

pub returns-in_err-policies-clause-failure : goal.returns-in_err-policies-clause-failure
returns-in_err-policies-clause-failure g c =
    let same : c.from_residual-in_err-policies.result ≡ Err c.in_err-policies.field-0.0 = search rules in
    rw same (no_policies (g.S.Sources.texts c.args.sources.now) (checked_in c.args.given.now.options.now)
    c.args.given.now.policy.now (map source_of c.args.given.now.files.now) c.in_err-policies.field-0.0
    c.in_err-policies.ensures.failure)

pub returns-in_err-policies-clause-begun : goal.returns-in_err-policies-clause-begun
returns-in_err-policies-clause-begun g c =
    let same : c.from_residual-in_err-policies.result ≡ Err c.in_err-policies.field-0.0 = search rules in
    rw same (none_begun (g.S.Sources.texts c.args.sources.now) (checked_in c.args.given.now.options.now)
    c.args.given.now.policy.now (map source_of c.args.given.now.files.now) _ c.in_err-policies.field-0.0)

pub returns-clause-checked : goal.returns-clause-checked
returns-clause-checked g c =
    by_policies (g.S.Sources.texts c.args.sources.now) (checked_in c.args.given.now.options.now)
    c.args.given.now.policy.now (map source_of c.args.given.now.files.now) c.in_ok-policies.policies.items
    c.as_slice-2.result.now c.in_ok-policies.ensures.sources c.as_slice-2.ensures.value _ _ c.check.result
    c.check.ensures.checked

pub returns-clause-failure : goal.returns-clause-failure
returns-clause-failure g c =
    fails_with (g.S.Sources.texts c.args.sources.now) (checked_in c.args.given.now.options.now)
    c.args.given.now.policy.now (map source_of c.args.given.now.files.now) c.in_ok-policies.policies.items
    c.as_slice-2.result.now c.in_ok-policies.ensures.sources c.as_slice-2.ensures.value c.check.result
    c.check.ensures.failure

pub returns-clause-begun : goal.returns-clause-begun
returns-clause-begun g c =
    begun_with (g.S.Sources.texts c.args.sources.now) (checked_in c.args.given.now.options.now)
    c.args.given.now.policy.now (map source_of c.args.given.now.files.now) c.in_ok-policies.policies.items
    c.as_slice-2.result.now c.in_ok-policies.ensures.sources c.as_slice-2.ensures.value _ _ c.check.result
    c.check.ensures.begun
