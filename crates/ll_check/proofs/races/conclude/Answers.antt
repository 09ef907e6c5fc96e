use Rattle.std.proofs.Common.{◌∙◌, ◌≡◌, ◌++◌, ℕ, List, ap, inr, map, refl, subst}
use Rattle.ll_wire.specs.WriterGains.{AppendsFront}
use Rattle.ll_program.specs.Options.{checked_in}
use Rattle.ll_check.specs.Files.{end_of, style_of}
use Rattle.ll_check.specs.Races.{AreRun}
use Rattle.ll_check.specs.Steps.{steps_of}
use Rattle.ll_check.specs.Styles.{head, tail}
use Rattle.ll_check.specs.declared.reporter.Style.{Style}
use Rattle.ll_check.proofs.races.conclude.Goals as goal

pub returns-clause-begun : goal.returns-clause-begun
returns-clause-begun g c =
    let order = checked_in c.args.options.now in
    let files = map steps_of c.args.files.now in
    let sum = c.in_ok-sum.sum in
    let tests = c.run_all.new.report.items in
    let e = c.in-Err.ensures.failure in
    let is : c.in-Ok.report.items ≡ head (style_of order) sum ++ tests ++ tail (style_of order) sum =
    c.in-Ok.ensures ∙ ap (λ (s : Style). head s sum ++ c.as_slice.result.now ++ tail s sum) c.style_of.ensures
    ∙ ap (λ (x : List ℕ). head (style_of order) sum ++ x ++ tail (style_of order) sum) c.as_slice.ensures.value in
    inr (
      e.0,
      end_of sum,
      c.in-Ok.report.items,
      (
        tests,
        sum,
        subst (λ (x : List ℕ). AreRun order files x tests sum) c.new-tests.ensures.items c.in_ok-sum.ensures.run,
        is,
        refl,
      ),
      subst (λ (x : List ℕ). AppendsFront (g.W.Write.contents c.args.out.now) (g.W.Write.contents c.write_bytes.new.out)
          x) c.as_slice-2.ensures.value e.1,
    )
