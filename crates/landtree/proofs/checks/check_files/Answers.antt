use Rattle.std.proofs.Common.{ap, map, List, ℕ, ◌≡◌, Err, rules}
use Rattle.std.specs.Borrow.{Bor}
use Rattle.ll_program.specs.Options.{checked_in}
use Rattle.landtree.proofs.CheckedFiles.{begun_written, checked_written, failed_by, none_written, unread}
use Rattle.landtree.proofs.checks.check_files.Goals as goal

pub returns-in_err-policy-clause-failure : goal.returns-in_err-policy-clause-failure
returns-in_err-policy-clause-failure g c =
    let same : c.from_residual.result ≡ Err c.in_err-policy.field-0.0 = search rules in
    rw same (unread (g.S.Sources.texts c.args.sources.now) (checked_in c.args.options.now) c.in_err-policy.field-0.0
    c.in_err-policy.ensures.failure)

pub returns-in_err-policy-clause-begun : goal.returns-in_err-policy-clause-begun
returns-in_err-policy-clause-begun g c =
    let same : c.from_residual.result ≡ Err c.in_err-policy.field-0.0 = search rules in
    rw same (none_written (g.S.Sources.texts c.args.sources.now) (checked_in c.args.options.now) _
    c.in_err-policy.field-0.0)

pub returns-in_err-files-clause-failure : goal.returns-in_err-files-clause-failure
returns-in_err-files-clause-failure g c =
    let same : c.from_residual-in_err-files.result ≡ Err c.in_err-files.field-0.0 = search rules in
    rw same (unread (g.S.Sources.texts c.args.sources.now) (checked_in c.args.options.now) c.in_err-files.field-0.0
    c.in_err-files.ensures.failure)

pub returns-clause-checked : goal.returns-clause-checked
returns-clause-checked g c =
    checked_written (g.S.Sources.texts c.args.sources.now) (checked_in c.args.options.now)
    (map (λ (n : Bor (List ℕ)). n.now) c.as_slice.result.now) c.in_ok-policy.policy.items c.as_slice-2.result.now
    c.in_ok-files.files.items c.as_slice-3.result.now
    (ap (map (λ (n : Bor (List ℕ)). n.now)) c.as_slice.ensures.value) c.in_ok-files.ensures.sources
    c.as_slice-3.ensures.value c.as_slice-2.ensures.value _ _ c.check_read-checked.result c.in_ok-policy.ensures.text
    c.check_read-checked.ensures.checked

pub returns-clause-failure : goal.returns-clause-failure
returns-clause-failure g c =
    failed_by (g.S.Sources.texts c.args.sources.now) (checked_in c.args.options.now)
    (map (λ (n : Bor (List ℕ)). n.now) c.as_slice.result.now) c.in_ok-policy.policy.items c.as_slice-2.result.now
    c.in_ok-files.files.items c.as_slice-3.result.now
    (ap (map (λ (n : Bor (List ℕ)). n.now)) c.as_slice.ensures.value) c.in_ok-files.ensures.sources
    c.as_slice-3.ensures.value c.as_slice-2.ensures.value c.check_read-checked.result c.in_ok-policy.ensures.text
    c.check_read-checked.ensures.failure

pub returns-clause-begun : goal.returns-clause-begun
returns-clause-begun g c =
    begun_written (g.S.Sources.texts c.args.sources.now) (checked_in c.args.options.now)
    (map (λ (n : Bor (List ℕ)). n.now) c.as_slice.result.now) c.in_ok-policy.policy.items c.as_slice-2.result.now
    c.in_ok-files.files.items c.as_slice-3.result.now
    (ap (map (λ (n : Bor (List ℕ)). n.now)) c.as_slice.ensures.value) c.in_ok-files.ensures.sources
    c.as_slice-3.ensures.value c.as_slice-2.ensures.value _ _ c.check_read-checked.result c.in_ok-policy.ensures.text
    c.check_read-checked.ensures.begun
