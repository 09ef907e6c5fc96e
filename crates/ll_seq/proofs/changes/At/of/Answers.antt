use Rattle.std.proofs.Common.{refl}
use Rattle.ll_seq.specs.Call.{path_of}
use Rattle.ll_seq.proofs.LastNames.{is_place}
use Rattle.ll_seq.proofs.changes.At.of.Goals as goal

pub returns-clause-place : goal.returns-clause-place
returns-clause-place c s stands free inner =
    is_place s (path_of c.args.target.now) c.args.spot.now _ refl c.last_name.ensures.last
    (c.last_name.ensures.name inner) stands
    free inner
