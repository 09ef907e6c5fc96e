use Rattle.ll_client.specs.Replies.{is_opened}
use Rattle.ll_calls.proofs.Successes.{only_opened}
use Rattle.ll_calls.proofs.made.opened.Goals as goal

pub unreachable-requires : goal.unreachable-requires
unreachable-requires c =
    only_opened c.in_ok-number.field-0 (c.in_ok-number.ensures.succeeds is_opened c.requires) c.in_default.not-Opened
