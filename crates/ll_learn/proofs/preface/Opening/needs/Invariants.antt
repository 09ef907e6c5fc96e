use Rattle.std.specs.Prelude.{map, take}
use Rattle.ll_audit.specs.Saved.{opened}
use Rattle.ll_learn.specs.Preface.{AreGathered}
use Rattle.ll_learn.proofs.preface.Opening.needs.Given as goal

-- the needs of the histories so far
abbrev pub invariant-loop-history : goal.invariant-loop-history
invariant-loop-history l =
    AreGathered (opened l.self.header.now) l.self.early.now l.self.client
    (map (λ h. h.now) (take l.history l.histories)) l.needs
