use Rattle.ll_client.specs.Replies.{is_listed}
use Rattle.ll_calls.proofs.Successes.{only_listed}
use Rattle.ll_calls.proofs.made.listed.Goals as goal

pub unreachable-requires : goal.unreachable-requires
unreachable-requires c =
    only_listed c.in_ok-names.field-0 (c.in_ok-names.ensures.succeeds is_listed c.requires) c.in_default.not-Listed
