-- Calls of paths that take no memory.
use Rattle.std.specs.Prelude.{◌≡◌, Bool, true, false, refl}
use Rattle.ll_seq.specs.declared.call.Call.{Call}
use Rattle.ll_seq.specs.declared.call.Call.TheVariants.{Make, Open, Read, Write, Ftruncate, Close, Truncate, ReadDir}
use Rattle.ll_seq.specs.declared.call.Call.TheVariants.{Stat, Exec, Unlink, Rmdir, Rename, RenameNoreplace, Exchange}
use Rattle.ll_seq.specs.declared.call.Call.TheVariants.{Link, Ruleset, Allow, Confine, Spawn, Connect}
use Rattle.ll_seq.specs.Lean.{spares_memory}
use Rattle.ll_seq.specs.Memory.{takes_memory}
use Rattle.ll_seq.specs.Passed.{has_path}

spared : (call : Call) → has_path call ≡ true → takes_memory call ≡ false → spares_memory call ≡ true
spared (Make k t) path none = absurd cc
spared (Open m t) path none = absurd cc
spared (Read n o z) path none = absurd cc
spared (Write n o b) path none = absurd cc
spared (Ftruncate n z) path none = absurd cc
spared (Close n) path none = absurd cc
spared (Truncate t z) path none = absurd cc
spared (ReadDir t) path none = absurd cc
spared (Stat t) path none = refl
spared (Exec t) path none = refl
spared (Unlink t) path none = refl
spared (Rmdir t) path none = refl
spared (Rename o n) path none = absurd cc
spared (RenameNoreplace o n) path none = absurd cc
spared (Exchange o n) path none = refl
spared (Link o n) path none = absurd cc
spared (Ruleset r) path none = absurd cc
spared (Allow n t r) path none = absurd cc
spared (Confine n) path none = absurd cc
spared Spawn path none = absurd cc
spared Connect path none = absurd cc

pub takes_unless : (call : Call) → has_path call ≡ true → (spares_memory call ≡ true → ⊥)
    → takes_memory call ≡ true
takes_unless call path spares = by (takes_memory call) refl
  where
    by : (b : Bool) → takes_memory call ≡ b → takes_memory call ≡ true
    by true e = e
    by false e = absurd (spares (spared call path e))
