use Rattle.ll_client.specs.Replies.{is_found}
use Rattle.ll_calls.proofs.Successes.{only_found}
use Rattle.ll_calls.proofs.made.found.Goals as goal

pub unreachable-requires : goal.unreachable-requires
unreachable-requires c =
    only_found c.in_ok-status.field-0 (c.in_ok-status.ensures.succeeds is_found c.requires) c.in_default.not-Found
