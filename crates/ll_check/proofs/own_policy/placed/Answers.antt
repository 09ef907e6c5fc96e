use Rattle.std.proofs.Common.{◌≡◌, ℕ, List, subst}
use Rattle.std.specs.Prelude.{IfOk, string_bytes}
use Rattle.ll_check.proofs.LastParts.{put_there}
use Rattle.ll_check.proofs.own_policy.placed.Goals as goal

pub returns-in-Some : goal.returns-in-Some
returns-in-Some c =
    let there = put_there c.args.checks.now c.args.file.now c.in-Some.folder.now c.in-Some.field-0-1.now
    c.if-is_rooted.ensures c.in-Some.ensures in
    subst (λ (x : List ℕ). IfOk c.joined.result (λ path. string_bytes path ≡ x)) there c.joined.ensures
