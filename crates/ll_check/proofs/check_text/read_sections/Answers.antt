use Rattle.std.proofs.Common.{◌≡◌, ◌+◌, ◌++◌, ◌∷◌, [], length, arith, refl}
use Rattle.std.proofs.lemmas.List.{length-append}
use Rattle.ll_check.specs.Checks.{reading_of}
use Rattle.ll_check.proofs.SectionNames.{none_named}
use Rattle.ll_check.proofs.Tests.{one_line_more}
use Rattle.ll_check.proofs.Told.{cut_on}
use Rattle.ll_check.proofs.check_text.read_sections.Goals as goal

pub loop-rest-init : goal.loop-rest-init
loop-rest-init c =
    let starts = c.at_start-lines.ensures in (
      [],
      refl,
      starts.lines,
      refl,
      omega arith,
      none_named c.at_start-lines.result.names (reading_of c.at_start-lines.result) c.args.file.now starts.none
          starts.lines,
    )

pub loop-rest-preserved : goal.loop-rest-preserved
loop-rest-preserved c =
    let i = c.loop-rest.invariant in
    let line = c.split_line.result.0.now in
    let long : length (i.0 ++ line ∷ []) ≡ length i.0 + 1 = length-append i.0 (line ∷ []) in (
      i.0 ++ line ∷ [],
      cut_on _ i.0 _ _ line i.1 c.split_line.ensures.first,
      one_line_more 1 i.0 line (c.loop-rest.number + 1) _ (reading_of c.loop-rest.lines)
          (reading_of c.take.new.self) i.2 (omega (arith, i.3)) c.in_default.ensures.ok,
      omega (arith, long, i.3),
      omega (arith, i.4, c.split_line.ensures.shorter),
      c.in_default.ensures.named,
    )
