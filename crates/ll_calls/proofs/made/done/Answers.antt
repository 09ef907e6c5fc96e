use Rattle.ll_client.specs.Replies.{is_done}
use Rattle.ll_calls.proofs.Successes.{only_done}
use Rattle.ll_calls.proofs.made.done.Goals as goal

pub unreachable-requires : goal.unreachable-requires
unreachable-requires c =
    only_done c.in_ok-success.field-0 (c.in_ok-success.ensures.succeeds is_done c.requires) c.in_default.not-Done
