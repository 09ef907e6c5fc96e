use Rattle.ll_client.specs.Replies.{is_bytes}
use Rattle.ll_calls.proofs.Successes.{only_bytes}
use Rattle.ll_calls.proofs.made.bytes.Goals as goal

pub unreachable-requires : goal.unreachable-requires
unreachable-requires c =
    only_bytes c.in_ok-data.field-0 (c.in_ok-data.ensures.succeeds is_bytes c.requires) c.in_default.not-Bytes
