use Rattle.std.proofs.Common.{◌≡◌, map}
use Rattle.toml.specs.View.{members_view}
use Rattle.ll_policy.specs.Table.{has_other_key}
use Rattle.ll_policy.proofs.table.has_other_key.Given as goal

abbrev pub invariant-loop-key : goal.invariant-loop-key
invariant-loop-key l = has_other_key (map (λ key. key.now) l.known) (members_view l.key-iterator)
    ≡ has_other_key (map (λ key. key.now) l.known) (members_view l.table.entries)
