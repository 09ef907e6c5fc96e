use Rattle.ll_client.specs.Replies.{is_created}
use Rattle.ll_calls.proofs.Successes.{only_created}
use Rattle.ll_calls.proofs.made.created.Goals as goal

pub unreachable-requires : goal.unreachable-requires
unreachable-requires c =
    only_created c.in_ok-number.field-0 (c.in_ok-number.ensures.succeeds is_created c.requires) c.in_default.not-Created
