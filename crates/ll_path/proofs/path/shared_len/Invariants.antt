use Rattle.std.proofs.Common.{◌≡◌, ◌+◌, length}
use Rattle.std.specs.List.{sum_by}
use Rattle.ll_path.specs.Path.{common}
use Rattle.ll_path.proofs.path.shared_len.Given as goal

abbrev pub invariant-loop-name : goal.invariant-loop-name
invariant-loop-name l = l.len + sum_by (λ name. length name + 1) (common l.name-iterator l.others)
    ≡ sum_by (λ name. length name + 1) (common l.fn.names l.initial.others)
