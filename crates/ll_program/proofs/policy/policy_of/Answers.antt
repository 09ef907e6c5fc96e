use Rattle.std.proofs.Common.{rules}
use Rattle.std.specs.Str.{IsUtf8}
use Rattle.ll_program.proofs.Known.{not_given}
use Rattle.ll_program.proofs.policy.policy_of.Goals as goal

pub returns-in-Err-from_text-clause-failure : goal.returns-in-Err-from_text-clause-failure
returns-in-Err-from_text-clause-failure c =
    let text : IsUtf8 c.args.text.now = search rules in
    λ order. rw c.of_policy.ensures (not_given order c.args.text.now c.in-Err-from_text.fault text (search rules))
