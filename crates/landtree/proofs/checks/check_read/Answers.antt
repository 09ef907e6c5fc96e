use Rattle.std.proofs.Common.{map}
use Rattle.ll_program.specs.Options.{checked_in}
use Rattle.ll_check.specs.Files.{source_of}
use Rattle.landtree.proofs.CheckedFiles.{files_begun, races_begun}
use Rattle.landtree.proofs.checks.check_read.Goals as goal

pub returns-then-given-clause-begun : goal.returns-then-given-clause-begun
returns-then-given-clause-begun g c =
    races_begun (g.S.Sources.texts c.args.sources.now) (checked_in c.args.given.now.options.now)
    c.args.given.now.policy.now (map source_of c.args.given.now.files.now) (g.W.Write.contents c.args.out.now)
    (g.W.Write.contents c.check_schedules.new.out) c.check_schedules.result c.args.given.now.options.now.schedule
    c.if-given.true c.check_schedules.ensures.begun

pub returns-clause-begun : goal.returns-clause-begun
returns-clause-begun g c =
    files_begun (g.S.Sources.texts c.args.sources.now) (checked_in c.args.given.now.options.now)
    c.args.given.now.policy.now (map source_of c.args.given.now.files.now) (g.W.Write.contents c.args.out.now)
    (g.W.Write.contents c.check_texts.new.out) c.check_texts.result c.args.given.now.options.now.schedule
    c.if-given.false c.check_texts.ensures.begun
