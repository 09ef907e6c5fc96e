use Rattle.std.proofs.Common.{◌≡◌, map, take}
use Rattle.ll_check.proofs.learned_files.entries_of.Given as goal

-- those of the histories so far
abbrev pub invariant-loop-history : goal.invariant-loop-history
invariant-loop-history l =
    map (λ es. es.now) l.entries.items ≡ map (λ history. history.entries) (take l.history-index l.histories)
