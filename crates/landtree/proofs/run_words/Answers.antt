use Rattle.landtree.specs.Ends.{Ends}
use Rattle.landtree.proofs.Asked.{no_end}
use Rattle.landtree.proofs.Starved.{ran_out}
use Rattle.landtree.proofs.run_words.Goals as goal

pub returns-in-Err-clause-ends : goal.returns-in-Err-clause-ends
returns-in-Err-clause-ends g c =
    λ order none asked.
    let texts = g.S.Sources.texts c.args.sources.now in
    let out = g.W.Write.contents c.args.out.now in
    ran_out (Ends texts order out out) _ c.in-Err.error c.told.result c.in-Err.ensures.fault none
    c.told.ensures.failure (no_end texts out order)
