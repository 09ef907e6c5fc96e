use Rattle.std.proofs.Common.{◌∙◌, inl, sym, ◌≡◌, Err, rules}
use Rattle.ll_program.specs.Options.{exported_in}
use Rattle.ll_commands.specs.declared.confinement.Confinement.{Confinement}
use Rattle.ll_commands.specs.Export.{IsOfPolicy}
use Rattle.ll_commands.proofs.ExportFailures.{by_flaw, by_policy, by_reading, left, no_form, same_text}
use Rattle.ll_commands.proofs.exports.exported.Goals as goal

pub returns-in_default-clause-failure : goal.returns-in_default-clause-failure
returns-in_default-clause-failure g c =
    let text = left (g.R.Read.remaining c.args.file.now) in
    (text.0, text.1, inl (no_form (exported_in c.args.options.now) c.in_default.is))

pub returns-then-not-fit-clause-failure : goal.returns-then-not-fit-clause-failure
returns-then-not-fit-clause-failure g c =
    let text = left (g.R.Read.remaining c.args.file.now) in
    (text.0, text.1, inl (sym c.fit.ensures ∙ c.if-not-fit.true))

pub returns-in_err-text-clause-failure : goal.returns-in_err-text-clause-failure
returns-in_err-text-clause-failure g c =
    let same : c.from_residual.result ≡ Err c.in_err-text.field-0.0 = search rules in
    rw same (let text = left (g.R.Read.remaining c.args.file.now) in (
      text.0,
      text.1,
      by_reading (exported_in c.args.options.now) text.0 c.in_err-text.field-0.0
          c.in_err-text.ensures.failure,
    ))

pub returns-in_err-policy-clause-failure : goal.returns-in_err-policy-clause-failure
returns-in_err-policy-clause-failure g c =
    let same : c.from_residual-in_err-policy.result ≡ Err c.in_err-policy.field-0.0 = search rules in
    rw same ((
      c.as_slice.result.now,
      same_text (g.R.Read.remaining c.args.file.now) c.as_slice.result.now c.in_ok-text.text.items
          c.as_slice.ensures.value
          c.in_ok-text.ensures.text,
      by_policy (exported_in c.args.options.now) c.as_slice.result.now c.in_err-policy.field-0.0
          c.in_err-policy.ensures.failure c.in_err-policy.ensures.alone,
    ))

pub returns-clause-failure : goal.returns-clause-failure
returns-clause-failure g c =
    let it : Confinement =
    record { abi = c.abi.result; opening = c.as_slice-2.result; layers = c.in-Some-layers.layers } in
    let is : IsOfPolicy c.args.options.now.profile.now c.as_slice.result.now it = record {
      plan = c.in_ok-policy.policy;
      utf8 = c.in_ok-policy.ensures.utf8;
      right = c.in_ok-policy.ensures.right;
      is = c.in_ok-policy.ensures.plan;
      abi = c.abi.ensures;
      opening = c.as_slice-2.ensures.value ∙ c.in-Ok.ensures.calls;
      calls = c.in-Some-layers.ensures;
    } in (
      c.as_slice.result.now,
      same_text (g.R.Read.remaining c.args.file.now) c.as_slice.result.now c.in_ok-text.text.items
          c.as_slice.ensures.value
          c.in_ok-text.ensures.text,
      by_flaw (exported_in c.args.options.now) c.as_slice.result.now c.in-Err.failure it is
          c.in-Err.ensures.failure,
    )
