use Rattle.std.proofs.Common.{◌≡◌, take}
use Rattle.ll_learn.specs.Draft.{last_of, may_have}
use Rattle.ll_learn.proofs.draft.Scope.last_of.Given as goal

-- so far
abbrev pub invariant-loop-inode : goal.invariant-loop-inode
invariant-loop-inode l = l.last ≡ last_of (may_have l.self l.right) (take l.inode-index l.inodes)
