use Rattle.ll_client.specs.Replies.{is_wrote}
use Rattle.ll_calls.proofs.Successes.{only_wrote}
use Rattle.ll_calls.proofs.made.wrote.Goals as goal

pub unreachable-requires : goal.unreachable-requires
unreachable-requires c =
    only_wrote c.in_ok-count.field-0 (c.in_ok-count.ensures.succeeds is_wrote c.requires) c.in_default.not-Wrote
