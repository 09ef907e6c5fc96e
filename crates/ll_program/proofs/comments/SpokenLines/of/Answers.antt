use Rattle.std.proofs.Common.{◌≡◌, ◌+◌, ◌++◌, length, arith}
use Rattle.ll_wire.specs.Pieces.{pieces}
use Rattle.ll_program.specs.Comments.{spoken_numbers, spoken_text}
use Rattle.ll_program.proofs.Spoken.{numbers_on, text_on}
use Rattle.ll_program.proofs.comments.SpokenLines.of.Goals as goal

pub loop-rest-preserved : goal.loop-rest-preserved
loop-rest-preserved c =
    let i = c.loop-rest.invariant in (
      text_on _ _ _ (c.loop-rest.number + 1) c.split_line.result.0.now _ _ c.split_line.ensures.first
          c.in_ok-take.ensures.text i.0,
      numbers_on _ _ _ (c.loop-rest.number + 1) c.split_line.result.0.now _ _ c.split_line.ensures.first
          c.in_ok-take.ensures.numbers i.1,
      omega (arith, i.2, c.split_line.ensures.shorter),
    )
