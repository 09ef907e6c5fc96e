use Rattle.std.proofs.Common.{map}
use Rattle.std.specs.Prelude.{string_bytes}
use Rattle.ll_check.proofs.PolicyTexts.{paths_on}
use Rattle.ll_check.proofs.policies.own_paths.Goals as goal

pub loop-file-preserved : goal.loop-file-preserved
loop-file-preserved c =
    paths_on c.args.files.now c.loop-file.file-index c.file-item.result (map string_bytes c.loop-file.paths.items)
    (map string_bytes c.add_path.new.paths.items) c.loop-file-test.true c.file-item.is c.loop-file.invariant
    c.in_ok-add_path.ensures
