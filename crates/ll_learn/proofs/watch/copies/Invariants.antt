use Rattle.std.proofs.Common.{◌≡◌, ℕ, take}
use Rattle.ll_learn.specs.Watched.{path_opened}
use Rattle.ll_learn.proofs.watch.copies.Given as goal

-- those so far are copies
abbrev pub invariant-loop-held : goal.invariant-loop-held
invariant-loop-held l = (fd : ℕ) → path_opened l.copies.items fd ≡ path_opened (take l.held-index l.opened) fd
