-- Worked schedules, which the check computes.
use Rattle.std.specs.Prelude.{◌≡◌, ℕ, zero, suc, true, false, List, [], ◌∷◌, length, Option, Some, None, codes, refl}
use Rattle.std.specs.Prelude.{if◌then◌else◌}
use Rattle.std.specs.Option.{option_map_or}
use Rattle.ll_rights.specs.declared.kind.Kind.TheVariants.{Reg, Dir}
use Rattle.ll_rights.specs.declared.errno.Errno.TheVariants.{ENOENT, ENOTEMPTY, HistoryFull}
use Rattle.ll_rights.specs.Map.{empty, checked, get, insert, remove, entries, from_sorted}
use Rattle.ll_path.specs.Path.{path_of_text}
use Rattle.ll_path.specs.declared.target.Target.{Target}
use Rattle.ll_path.specs.declared.target.Target.TheVariants.{Good}
use Rattle.ll_seq.specs.declared.call.AccessMode.{AccessMode}
use Rattle.ll_seq.specs.declared.call.AccessMode.TheVariants as way
use Rattle.ll_seq.specs.declared.call.Creation.TheVariants.{Never}
use Rattle.ll_seq.specs.declared.call.Mode.{Mode}
use Rattle.ll_seq.specs.declared.call.Call.{Call}
use Rattle.ll_seq.specs.declared.call.Call.TheVariants.{Make, Open, Write, Stat, Rmdir, Rename, Exchange, Link, Spawn}
use Rattle.ll_seq.specs.declared.reply.Reply.TheVariants.{Done, Opened, Wrote, Found, Spawned, Refused}
use Rattle.ll_seq.specs.Stages.{numbers_from}
use Rattle.ll_seq.specs.Step.{client_of}
use Rattle.ll_laws.specs.World.{World, Outcome, NotNow, Begun, Stands, Forked, Restarted, Replied, Joined, new_world}
use Rattle.ll_laws.specs.World.{shown, enabled, advance, is_on_descriptor, is_walked, map_values}
use Rattle.ll_laws.specs.declared.step.Step.{Step}
use Rattle.ll_laws.specs.declared.step.Step.TheVariants.{Join, Begin, Descend, Fork, Commit, Restart, FdCommit}
use Rattle.ll_laws.specs.declared.step.Step.TheVariants.{ClientStep}

-- the first of the steps that is enabled
abbrev first_enabled : World → List Step → Option (Outcome × World)
first_enabled w [] = None
first_enabled w (s ∷ steps) = option_map_or (λ r. Some r) (enabled w s) (first_enabled w steps)

abbrev unless_replied : (World → Outcome × World) → Outcome × World → Outcome × World
unless_replied on (Replied reply, v) = (Replied reply, v)
unless_replied on (outcome, v) = on v

-- A walk's steps to its reply, not more than so many. NotNow where none is enabled before
abbrev led : ℕ → ℕ → World → Outcome × World
led zero number w = (NotNow, w)
led (suc fuel) number w =
    option_map_or (unless_replied (led fuel number))
    (first_enabled w (Commit number ∷ Fork number ∷ Descend number ∷ Restart number ∷ [])) (NotNow, w)

-- one call to its reply
abbrev made : World → ℕ → Call → Outcome × World
made w number call =
    if is_walked (client_of (shown w) number) call then option_map_or (λ (r : Outcome × World). led 12 number r.1)
    (enabled w (Begin number call)) (NotNow, w)
    else if is_on_descriptor (client_of (shown w) number) call then advance w (FdCommit number call)
    else advance w (ClientStep number call)

pub data Line : Type 0 where
  Do : ℕ → Call → Line
  One : Step → Line

abbrev line : World → Line → Outcome × World
line w (Do number call) = made w number call
line w (One s) = advance w s

-- the outcome of each line, and how many entries the history has in the end
abbrev lines : World → List Line → List Outcome × ℕ
lines w [] = ([], length w.history)
lines w (l ∷ ls) = let r = line w l in let rest = lines r.1 ls in (r.0 ∷ rest.0, rest.1)

abbrev path : List ℕ → Target
path text = Good (path_of_text text)

abbrev mode : AccessMode → Mode
mode access = record { access = access; truncate = false; creation = Never }

abbrev world : World
world = new_world (record { abi = 3; copies = true }) 64 100

abbrev ok : Outcome
ok = Replied Done

-- a directory in which another walk stands isn't removed
pub mark_on_a_last_node : lines world (
    One Join ∷ One Join
    ∷ Do 1 (Make Dir (path (codes "/a")))
    ∷ One (Begin 1 (Make Reg (path (codes "/a/x")))) ∷ One (Descend 1) ∷ One (Descend 1)
    ∷ One (Begin 2 (Rmdir (path (codes "/a")))) ∷ One (Descend 2) ∷ One (Commit 2)
    ∷ One (Begin 2 (Stat (path (codes "/"))))
    ∷ One (Commit 1) ∷ One (Commit 2)
    ∷ [])
    ≡ (
      Joined 1 ∷ Joined 2 ∷ ok ∷ Begun ∷ Stands 1 ∷ Stands 2 ∷ Begun ∷ Stands 1 ∷ NotNow ∷ NotNow ∷ ok
          ∷ Replied (Refused ENOTEMPTY) ∷ [],
      5,
    )
unfolding empty checked get insert remove entries from_sorted map_values numbers_from
mark_on_a_last_node = refl

-- each descent moves the mark on; past the fork the common directory stays marked, and the new branch starts there
-- again
pub two_branches : lines world (
    One Join
    ∷ Do 1 (Make Dir (path (codes "/a")))
    ∷ Do 1 (Make Reg (path (codes "/a/f")))
    ∷ Do 1 (Make Dir (path (codes "/b")))
    ∷ One (Begin 1 (Rename (path (codes "/a/f")) (path (codes "/b/f"))))
    ∷ One (Descend 1) ∷ One (Descend 1) ∷ One (Fork 1) ∷ One (Descend 1) ∷ One (Descend 1) ∷ One (Commit 1)
    ∷ [])
    ≡ (Joined 1 ∷ ok ∷ ok ∷ ok ∷ Begun ∷ Stands 1 ∷ NotNow ∷ Forked ∷ Stands 2 ∷ Stands 4 ∷ ok ∷ [], 5)
unfolding empty checked get insert remove entries from_sorted map_values numbers_from
two_branches = refl

-- a directory above the walk is moved: it starts again, and its path names nothing any more
pub overtaken_by_a_move : lines world (
    One Join ∷ One Join
    ∷ Do 1 (Make Dir (path (codes "/a")))
    ∷ Do 1 (Make Dir (path (codes "/a/b")))
    ∷ One (Begin 1 (Make Reg (path (codes "/a/b/x"))))
    ∷ One (Descend 1) ∷ One (Descend 1) ∷ One (Descend 1)
    ∷ Do 2 (Rename (path (codes "/a")) (path (codes "/c")))
    ∷ One (Commit 1) ∷ One (Restart 1) ∷ One (Descend 1) ∷ One (Descend 1) ∷ One (Commit 1)
    ∷ [])
    ≡ (
      Joined 1 ∷ Joined 2 ∷ ok ∷ ok ∷ Begun ∷ Stands 1 ∷ Stands 2 ∷ Stands 3 ∷ ok ∷ NotNow ∷ Restarted ∷ Stands 1
          ∷ NotNow ∷ Replied (Refused ENOENT) ∷ [],
      6,
    )
unfolding empty checked get insert remove entries from_sorted map_values numbers_from
overtaken_by_a_move = refl

-- meanwhile the file is written by its other name
pub written_through_a_hard_link : lines world (
    One Join ∷ One Join
    ∷ Do 1 (Make Dir (path (codes "/a")))
    ∷ Do 1 (Make Dir (path (codes "/a/b")))
    ∷ Do 1 (Make Reg (path (codes "/a/b/f")))
    ∷ Do 1 (Link (path (codes "/a/b/f")) (path (codes "/z")))
    ∷ One (Begin 1 (Open (mode way.Read) (path (codes "/a/b/f"))))
    ∷ One (Descend 1) ∷ One (Descend 1) ∷ One (Descend 1)
    ∷ Do 2 (Rename (path (codes "/a")) (path (codes "/c")))
    ∷ Do 2 (Open (mode way.Write) (path (codes "/z")))
    ∷ Do 2 (Write 0 0 (65 ∷ []))
    ∷ One (Commit 1) ∷ One (Restart 1) ∷ One (Descend 1) ∷ One (Commit 1)
    ∷ [])
    ≡ (
      Joined 1 ∷ Joined 2 ∷ ok ∷ ok ∷ ok ∷ ok ∷ Begun ∷ Stands 1 ∷ Stands 2 ∷ Stands 3 ∷ ok ∷ Replied (Opened 0)
          ∷ Replied (Wrote 1)
          ∷ NotNow ∷ Restarted ∷ Stands 1 ∷ Replied (Refused ENOENT) ∷ [],
      10,
    )
unfolding empty checked get insert remove entries from_sorted map_values numbers_from
written_through_a_hard_link = refl

-- one rename at a time, and other calls between its steps
pub one_rename_at_a_time : lines world (
    One Join ∷ One Join
    ∷ Do 1 (Make Dir (path (codes "/a")))
    ∷ One (Begin 1 (Rename (path (codes "/a")) (path (codes "/b"))))
    ∷ One (Begin 2 (Rename (path (codes "/a")) (path (codes "/c"))))
    ∷ One (Begin 2 (Stat (path (codes "/a"))))
    ∷ One (Descend 2) ∷ One (Commit 2) ∷ One (Descend 1) ∷ One (Fork 1) ∷ One (Commit 1)
    ∷ Do 2 (Rename (path (codes "/b")) (path (codes "/c")))
    ∷ [])
    ≡ (
      Joined 1 ∷ Joined 2 ∷ ok ∷ Begun ∷ NotNow ∷ Begun ∷ Stands 1
          ∷ Replied (Found (record { inode = 2; kind = Dir; size = 0; links = 1 })) ∷ Stands 1 ∷ Forked ∷ ok ∷ ok ∷ [],
      6,
    )
unfolding empty checked get insert remove entries from_sorted map_values numbers_from
one_rename_at_a_time = refl

-- down to the directory, which is then moved away and back
abbrev overtaken_once : List Line → List Line
overtaken_once rest =
    One (Descend 1) ∷ One (Descend 1) ∷ One (Descend 1)
    ∷ Do 2 (Rename (path (codes "/a")) (path (codes "/c"))) ∷ Do 2 (Rename (path (codes "/c")) (path (codes "/a")))
    ∷ One (Restart 1) ∷ rest

abbrev once_more : List Outcome → List Outcome
once_more rest = Stands 1 ∷ Stands 2 ∷ Stands 3 ∷ ok ∷ ok ∷ Restarted ∷ rest

-- on its fourth start a walk has the gate, and nothing is moved before its commit
pub overtaken_three_times : lines world (
    One Join ∷ One Join
    ∷ Do 1 (Make Dir (path (codes "/a")))
    ∷ Do 1 (Make Dir (path (codes "/a/b")))
    ∷ One (Begin 1 (Make Reg (path (codes "/a/b/x"))))
    ∷ overtaken_once (overtaken_once (overtaken_once (
    One (Descend 1)
    ∷ One (Begin 2 (Rename (path (codes "/a")) (path (codes "/c"))))
    ∷ One (Descend 1) ∷ One (Descend 1) ∷ One (Commit 1)
    ∷ Do 2 (Rename (path (codes "/a")) (path (codes "/c")))
    ∷ []))))
    ≡ (
      Joined 1 ∷ Joined 2 ∷ ok ∷ ok ∷ Begun
          ∷ once_more (once_more (once_more (Stands 1 ∷ NotNow ∷ Stands 2 ∷ Stands 3 ∷ ok ∷ ok ∷ []))),
      12,
    )
unfolding empty checked get insert remove entries from_sorted map_values numbers_from
overtaken_three_times = refl

-- An exchange, which waits while a walk stands in one of its directories, moves two: whoever passes either starts again
pub overtaken_by_an_exchange : lines world (
    One Join ∷ One Join ∷ One Join
    ∷ Do 1 (Make Dir (path (codes "/a"))) ∷ Do 1 (Make Dir (path (codes "/a/c")))
    ∷ Do 1 (Make Dir (path (codes "/b"))) ∷ Do 1 (Make Dir (path (codes "/b/d")))
    ∷ One (Begin 1 (Make Reg (path (codes "/a/c/x")))) ∷ One (Descend 1) ∷ One (Descend 1) ∷ One (Descend 1)
    ∷ One (Begin 2 (Make Reg (path (codes "/b/d/x")))) ∷ One (Descend 2) ∷ One (Descend 2)
    ∷ One (Begin 3 (Exchange (path (codes "/a")) (path (codes "/b")))) ∷ One (Descend 3) ∷ One (Fork 3)
    ∷ One (Commit 3) ∷ One (Descend 2) ∷ One (Commit 3)
    ∷ One (Commit 1) ∷ One (Restart 1) ∷ One (ClientStep 1 Spawn) ∷ One (Descend 1) ∷ One (Descend 1) ∷ One (Commit 1)
    ∷ One (Commit 2) ∷ One (Restart 2) ∷ One (Descend 2) ∷ One (Descend 2) ∷ One (Commit 2)
    ∷ Do 1 Spawn ∷ Do 4 (Stat (path (codes "/b/c")))
    ∷ [])
    ≡ (
      Joined 1 ∷ Joined 2 ∷ Joined 3 ∷ ok ∷ ok ∷ ok ∷ ok
          ∷ Begun ∷ Stands 1 ∷ Stands 2 ∷ Stands 3 ∷ Begun ∷ Stands 1 ∷ Stands 4 ∷ Begun ∷ Stands 1 ∷ Forked
          ∷ NotNow ∷ Stands 5 ∷ ok
          ∷ NotNow ∷ Restarted ∷ NotNow ∷ Stands 1 ∷ Stands 4 ∷ Replied (Refused ENOENT)
          ∷ NotNow ∷ Restarted ∷ Stands 1 ∷ Stands 2 ∷ Replied (Refused ENOENT)
          ∷ Replied (Spawned 4) ∷ Replied (Found (record { inode = 3; kind = Dir; size = 0; links = 1 })) ∷ [],
      12,
    )
unfolding empty checked get insert remove entries from_sorted map_values numbers_from
overtaken_by_an_exchange = refl

-- Where the history is full, walks go on to their commit, which is answered and ends them
pub full_history : lines (new_world (record { abi = 3; copies = true }) 64 2) (
    One Join ∷ Do 1 (Make Dir (path (codes "/a")))
    ∷ One (Begin 1 (Stat (path (codes "/a")))) ∷ One (Commit 1) ∷ One (Descend 1) ∷ One (Commit 1) ∷ One (Commit 1)
    ∷ One (ClientStep 1 Spawn) ∷ One (ClientStep 2 Spawn) ∷ One Join
    ∷ [])
    ≡ (
      Joined 1 ∷ ok ∷ Begun ∷ NotNow ∷ Stands 1 ∷ Replied (Refused HistoryFull) ∷ NotNow
          ∷ Replied (Refused HistoryFull) ∷ NotNow ∷ Replied (Refused HistoryFull) ∷ [],
      2,
    )
unfolding empty checked get insert remove entries from_sorted map_values numbers_from
full_history = refl
