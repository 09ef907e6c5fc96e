-- Worked examples, which the check computes.
use Rattle.std.specs.Prelude.{◌≡◌, ℕ, Bool, true, false, List, [], ◌∷◌, Some, codes, refl}
use Rattle.ll_rights.specs.declared.kind.Kind.{Kind}
use Rattle.ll_rights.specs.declared.kind.Kind.TheVariants.{Reg, Dir, Sym, Fifo, Sock, Char, Block}
use Rattle.ll_rights.specs.declared.errno.Errno.TheVariants.{ENOENT, EEXIST, ENOTDIR, EISDIR, EINVAL, EBUSY, EBADF}
use Rattle.ll_rights.specs.declared.errno.Errno.TheVariants.{ENOSPC, ELOOP, ENXIO, ENOMSG}
use Rattle.ll_rights.specs.declared.access.Access.{Access}
use Rattle.ll_rights.specs.Right as right
use Rattle.ll_rights.specs.Map.{empty, checked, get, insert, remove, entries}
use Rattle.ll_path.specs.Path.{path_of_text}
use Rattle.ll_path.specs.declared.target.Target.{Target}
use Rattle.ll_path.specs.declared.target.Target.TheVariants.{Good}
use Rattle.ll_decide.specs.declared.denial.Cause.{Cause}
use Rattle.ll_decide.specs.declared.denial.Cause.TheVariants.{EACCES, EXDEV}
use Rattle.ll_decide.specs.declared.denial.Place.{Place}
use Rattle.ll_decide.specs.declared.denial.Place.TheVariants.{At, Old, New}
use Rattle.ll_seq.specs.declared.call.AccessMode.{AccessMode}
use Rattle.ll_seq.specs.declared.call.AccessMode.TheVariants as way
use Rattle.ll_seq.specs.declared.call.Creation.TheVariants.{Never}
use Rattle.ll_seq.specs.declared.call.Mode.{Mode}
use Rattle.ll_seq.specs.declared.rules.Rules.{Rules}
use Rattle.ll_seq.specs.declared.call.Call.{Call}
use Rattle.ll_seq.specs.declared.call.Call.TheVariants.{Make, Open, Read, Write, Ftruncate, Close, Stat, Unlink, Rename}
use Rattle.ll_seq.specs.declared.call.Call.TheVariants.{RenameNoreplace, Exchange, Ruleset, Allow, Confine, Spawn}
use Rattle.ll_seq.specs.declared.call.Call.TheVariants.{Connect}
use Rattle.ll_seq.specs.declared.reply.Reply.{Reply}
use Rattle.ll_seq.specs.declared.reply.Reply.TheVariants.{Done, Opened, Bytes, Wrote, Found, Created, Spawned, Refused}
use Rattle.ll_seq.specs.declared.reply.Reply.TheVariants.{Denied}
use Rattle.ll_seq.specs.State.{State, start}
use Rattle.ll_seq.specs.Tree.{named}
use Rattle.ll_seq.specs.Stages.{numbers_from}
use Rattle.ll_seq.specs.Step.{step}

-- The calls are those of client 1, where it is the only one
abbrev replies_from : State → List Call → List Reply
replies_from s [] = []
replies_from s (call ∷ calls) = let outcome = step s 1 call 2 in outcome.0 ∷ replies_from outcome.1 calls

abbrev state_after : State → List Call → State
state_after s [] = s
state_after s (call ∷ calls) = state_after (step s 1 call 2).1 calls

-- the newest level, and spawned clients get descriptors
abbrev newest : Rules
newest = record { abi = 3; copies = true }

-- a tree with room for this many nodes, to which the client has connected
abbrev connected : ℕ → State
connected room = (step (start newest room) 1 Connect 2).1

abbrev replies : ℕ → List Call → List Reply
replies room calls = replies_from (connected room) calls

-- for texts that do spell a path
abbrev path : List ℕ → Target
path text = Good (path_of_text text)

abbrev mode : AccessMode → Mode
mode access = record { access = access; truncate = false; creation = Never }

abbrev set : ℕ → Access
set rights = record { 0 = rights }

abbrev denied : ℕ → ℕ → Reply
denied layer right = Denied (record { cause = EACCES; layer = layer; right = right; place = At })

-- ---- Rulesets and layers
pub one_layer_one_rule : replies 64 (
    Make Dir (path (codes "/a"))
    ∷ Make Reg (path (codes "/a/f"))
    ∷ Make Dir (path (codes "/b"))
    ∷ Make Reg (path (codes "/b/f"))
    ∷ Ruleset (set 0x4)
    ∷ Allow 0 (path (codes "/a")) (set 0x4)
    ∷ Confine 0
    ∷ Open (mode way.Read) (path (codes "/a/f"))
    ∷ Open (mode way.Read) (path (codes "/b/f"))
    ∷ [])
    ≡ Done
    ∷ Done
    ∷ Done
    ∷ Done
    ∷ Created 0
    ∷ Done
    ∷ Done
    ∷ Opened 0
    ∷ denied 1 right.read_file
    ∷ []
unfolding empty checked get insert remove entries numbers_from
one_layer_one_rule = refl

-- The two layers together would grant both rights. A rule that comes after a ruleset was enforced is not in its layer
pub layers_are_not_joined : replies 64 (
    Make Reg (path (codes "/f"))
    ∷ Ruleset (set 0x6)
    ∷ Allow 0 (path (codes "/f")) (set 0x4)
    ∷ Confine 0
    ∷ Ruleset (set 0x6)
    ∷ Allow 1 (path (codes "/f")) (set 0x2)
    ∷ Confine 1
    ∷ Open (mode way.ReadWrite) (path (codes "/f"))
    ∷ Open (mode way.Read) (path (codes "/f"))
    ∷ Allow 0 (path (codes "/f")) (set 0x2)
    ∷ Open (mode way.Write) (path (codes "/f"))
    ∷ [])
    ≡ Done
    ∷ Created 0
    ∷ Done
    ∷ Done
    ∷ Created 1
    ∷ Done
    ∷ Done
    ∷ denied 1 right.write_file
    ∷ denied 2 right.read_file
    ∷ Done
    ∷ denied 1 right.write_file
    ∷ []
unfolding empty checked get insert remove entries numbers_from
layers_are_not_joined = refl

pub refusals_of_rulesets : replies 64 (
    Make Reg (path (codes "/f"))
    ∷ Ruleset (set 0)
    ∷ Ruleset (set 0x8000)
    ∷ Ruleset (set 0x100)
    ∷ Allow 0 (path (codes "/f")) (set 0x100)
    ∷ Allow 0 (path (codes "/")) (set 0)
    ∷ Allow 0 (path (codes "/")) (set 0x1)
    ∷ Allow 1 (path (codes "/f")) (set 0x100)
    ∷ Confine 1
    ∷ Confine 0
    ∷ [])
    ≡ Done
    ∷ Refused ENOMSG
    ∷ Refused EINVAL
    ∷ Created 0
    ∷ Refused EINVAL
    ∷ Refused ENOMSG
    ∷ Refused EINVAL
    ∷ Refused EBADF
    ∷ Refused EBADF
    ∷ Done
    ∷ []
unfolding empty checked get insert remove entries numbers_from
refusals_of_rulesets = refl

pub rules_are_joined_along_the_path : replies 64 (
    Make Dir (path (codes "/a"))
    ∷ Make Dir (path (codes "/a/b"))
    ∷ Make Reg (path (codes "/a/b/f"))
    ∷ Ruleset (set 0x6)
    ∷ Allow 0 (path (codes "/a")) (set 0x4)
    ∷ Allow 0 (path (codes "/a/b")) (set 0x2)
    ∷ Confine 0
    ∷ Open (mode way.ReadWrite) (path (codes "/a/b/f"))
    ∷ Open (mode way.Write) (path (codes "/a"))
    ∷ [])
    ≡ Done
    ∷ Done
    ∷ Done
    ∷ Created 0
    ∷ Done
    ∷ Done
    ∷ Done
    ∷ Opened 0
    ∷ denied 1 right.write_file
    ∷ []
unfolding empty checked get insert remove entries numbers_from
rules_are_joined_along_the_path = refl

-- A layer restricts refer always, which here neither a make nor an opening needs
pub no_call_asks_refer : replies 64 (
    Make Dir (path (codes "/a"))
    ∷ Ruleset (set 0x2000)
    ∷ Confine 0
    ∷ Make Reg (path (codes "/a/f"))
    ∷ Open (mode way.Read) (path (codes "/a/f"))
    ∷ [])
    ≡ Done
    ∷ Created 0
    ∷ Done
    ∷ Done
    ∷ Opened 0
    ∷ []
unfolding empty checked get insert remove entries numbers_from
no_call_asks_refer = refl

pub a_make_is_asked_at_the_parent : replies 64 (
    Make Dir (path (codes "/d"))
    ∷ Ruleset (set 0x120)
    ∷ Allow 0 (path (codes "/d")) (set 0x100)
    ∷ Confine 0
    ∷ Make Reg (path (codes "/d/f"))
    ∷ Make Reg (path (codes "/g"))
    ∷ Make Fifo (path (codes "/g"))
    ∷ [])
    ≡ Done
    ∷ Created 0
    ∷ Done
    ∷ Done
    ∷ Done
    ∷ denied 1 right.make_reg
    ∷ Done
    ∷ []
unfolding empty checked get insert remove entries numbers_from
a_make_is_asked_at_the_parent = refl

-- ---- Paths
pub what_is_in_the_way : replies 64 (
    Make Dir (path (codes "/"))
    ∷ Make Reg (path (codes "/f"))
    ∷ Make Reg (path (codes "/f/x"))
    ∷ Make Sym (path (codes "/s"))
    ∷ Make Reg (path (codes "/s/x"))
    ∷ Open (mode way.Read) (path (codes "/s/x/y"))
    ∷ Open (mode way.Read) (path (codes "/n/x"))
    ∷ Open (mode way.Read) (path (codes "/n"))
    ∷ [])
    ≡ Refused EBUSY
    ∷ Done
    ∷ Refused ENOTDIR
    ∷ Done
    ∷ Refused ELOOP
    ∷ Refused ELOOP
    ∷ Refused ENOENT
    ∷ Refused ENOENT
    ∷ []
unfolding empty checked get insert remove entries numbers_from
what_is_in_the_way = refl

pub a_name_that_is_there_comes_before_policy : replies 64 (
    Make Reg (path (codes "/f"))
    ∷ Ruleset (set 0x100)
    ∷ Confine 0
    ∷ Make Reg (path (codes "/f"))
    ∷ Make Reg (path (codes "/g"))
    ∷ [])
    ≡ Done
    ∷ Created 0
    ∷ Done
    ∷ Refused EEXIST
    ∷ denied 1 right.make_reg
    ∷ []
unfolding empty checked get insert remove entries numbers_from
a_name_that_is_there_comes_before_policy = refl

-- ---- Openings
pub only_files_open : replies 64 (
    Make Sym (path (codes "/s"))
    ∷ Make Fifo (path (codes "/p"))
    ∷ Make Sock (path (codes "/k"))
    ∷ Make Char (path (codes "/c"))
    ∷ Make Block (path (codes "/b"))
    ∷ Open (mode way.Read) (path (codes "/"))
    ∷ Open (mode way.Read) (path (codes "/s"))
    ∷ Open (mode way.Read) (path (codes "/p"))
    ∷ Open (mode way.Read) (path (codes "/k"))
    ∷ Open (mode way.Read) (path (codes "/c"))
    ∷ Open (mode way.Read) (path (codes "/b"))
    ∷ [])
    ≡ Done
    ∷ Done
    ∷ Done
    ∷ Done
    ∷ Done
    ∷ Refused EISDIR
    ∷ Refused ELOOP
    ∷ Refused ENXIO
    ∷ Refused ENXIO
    ∷ Refused ENXIO
    ∷ Refused ENXIO
    ∷ []
unfolding empty checked get insert remove entries numbers_from
only_files_open = refl

-- An opening that is refused takes none
pub the_lowest_free_descriptor : replies 64 (
    Make Reg (path (codes "/f"))
    ∷ Open (mode way.Read) (path (codes "/f"))
    ∷ Open (mode way.Write) (path (codes "/n"))
    ∷ Open (mode way.Write) (path (codes "/f"))
    ∷ Open (mode way.ReadWrite) (path (codes "/f"))
    ∷ [])
    ≡ Done
    ∷ Opened 0
    ∷ Refused ENOENT
    ∷ Opened 1
    ∷ Opened 2
    ∷ []
unfolding empty checked get insert remove entries numbers_from
the_lowest_free_descriptor = refl

-- ---- Nodes
-- The root is one of them
pub room_for_two_nodes : replies 2 (
    Make Reg (path (codes "/a"))
    ∷ Make Reg (path (codes "/b"))
    ∷ Open (mode way.Read) (path (codes "/b"))
    ∷ [])
    ≡ Done
    ∷ Refused ENOSPC
    ∷ Refused ENOENT
    ∷ []
unfolding empty checked get insert remove entries numbers_from
room_for_two_nodes = refl

-- of the second call
pub a_refused_make_takes_no_number : named (state_after (connected 64) (
    Make Reg (path (codes "/a"))
    ∷ Make Dir (path (codes "/a"))
    ∷ Make Reg (path (codes "/b"))
    ∷ []))
    (path_of_text (codes "/b"))
    ≡ Some 3
unfolding empty checked get insert remove entries numbers_from
a_refused_make_takes_no_number = refl

-- ---- Moves that need the new name free, or that change two names
abbrev by_move : Cause → ℕ → Place → Reply
by_move cause right place = Denied (record { cause = cause; layer = 1; right = right; place = place })

abbrev a_node : ℕ → Kind → Reply
a_node inode kind = Found (record { inode = inode; kind = kind; size = 0; links = 1 })

pub moves_that_replace_nothing : replies 64 (
    Make Reg (path (codes "/f"))
    ∷ Make Reg (path (codes "/g"))
    ∷ RenameNoreplace (path (codes "/f")) (path (codes "/g"))
    ∷ RenameNoreplace (path (codes "/f")) (path (codes "/h"))
    ∷ Exchange (path (codes "/h")) (path (codes "/g"))
    ∷ Stat (path (codes "/g"))
    ∷ Exchange (path (codes "/g")) (path (codes "/x"))
    ∷ [])
    ≡ Done
    ∷ Done
    ∷ Refused EEXIST
    ∷ Done
    ∷ Done
    ∷ a_node 2 Reg
    ∷ Refused ENOENT
    ∷ []
unfolding empty checked get insert remove entries numbers_from
moves_that_replace_nothing = refl

-- A directory exchanges its place with a file, with none beneath it
pub a_directory_is_exchanged : replies 64 (
    Make Reg (path (codes "/h"))
    ∷ Make Dir (path (codes "/d"))
    ∷ Make Reg (path (codes "/d/e"))
    ∷ Exchange (path (codes "/d")) (path (codes "/d/e"))
    ∷ Exchange (path (codes "/d/e")) (path (codes "/d"))
    ∷ Exchange (path (codes "/d")) (path (codes "/h"))
    ∷ Stat (path (codes "/h"))
    ∷ [])
    ≡ Done
    ∷ Done
    ∷ Done
    ∷ Refused EINVAL
    ∷ Refused EINVAL
    ∷ Done
    ∷ a_node 3 Dir
    ∷ []
unfolding empty checked get insert remove entries numbers_from
a_directory_is_exchanged = refl

-- An exchange makes a file at either place, a rename at the new one alone
pub an_exchange_makes_at_the_old_place : replies 64 (
    Make Reg (path (codes "/f"))
    ∷ Make Reg (path (codes "/g"))
    ∷ Ruleset (set 0x100)
    ∷ Confine 0
    ∷ Exchange (path (codes "/f")) (path (codes "/g"))
    ∷ Rename (path (codes "/f")) (path (codes "/g"))
    ∷ [])
    ≡ Done
    ∷ Done
    ∷ Created 0
    ∷ Done
    ∷ by_move EACCES right.make_reg Old
    ∷ by_move EACCES right.make_reg New
    ∷ []
unfolding empty checked get insert remove entries numbers_from
an_exchange_makes_at_the_old_place = refl

-- What comes back from the new place may not gain either
pub an_exchange_gains_both_ways : replies 64 (
    Make Dir (path (codes "/a"))
    ∷ Make Reg (path (codes "/a/f"))
    ∷ Make Dir (path (codes "/b"))
    ∷ Make Reg (path (codes "/b/g"))
    ∷ Ruleset (set 0x2004)
    ∷ Allow 0 (path (codes "/")) (set 0x2000)
    ∷ Allow 0 (path (codes "/a")) (set 0x4)
    ∷ Confine 0
    ∷ Exchange (path (codes "/a/f")) (path (codes "/b/g"))
    ∷ Rename (path (codes "/a/f")) (path (codes "/b/f"))
    ∷ [])
    ≡ Done
    ∷ Done
    ∷ Done
    ∷ Done
    ∷ Created 0
    ∷ Done
    ∷ Done
    ∷ Done
    ∷ by_move EXDEV right.read_file Old
    ∷ Done
    ∷ []
unfolding empty checked get insert remove entries numbers_from
an_exchange_gains_both_ways = refl

-- ---- Levels of the ABI, and clients that are spawned
-- each call with the number of its client. A spawned one gets 2
abbrev replies_of : State → List (ℕ × Call) → List Reply
replies_of s [] = []
replies_of s (made ∷ more) = let outcome = step s made.0 made.1 2 in outcome.0 ∷ replies_of outcome.1 more

abbrev under : ℕ → Bool → ℕ → List (ℕ × Call) → List Reply
under abi copies room made = replies_of (step (start (record { abi = abi; copies = copies }) room) 1 Connect 2).1 made

-- The level doesn't know refer, and a layer restricts it all the same
pub level_1_knows_no_refer : under 1 false 64 (
    (1, Ruleset (set 0x2000))
    ∷ (1, Ruleset (set 0x1))
    ∷ (1, Allow 0 (path (codes "/")) (set 0x2000))
    ∷ (1, Confine 0)
    ∷ (1, Make Dir (path (codes "/a")))
    ∷ (1, Make Reg (path (codes "/f")))
    ∷ (1, Rename (path (codes "/f")) (path (codes "/a/f")))
    ∷ (1, Rename (path (codes "/f")) (path (codes "/g")))
    ∷ [])
    ≡ Refused EINVAL
    ∷ Created 0
    ∷ Refused EINVAL
    ∷ Done
    ∷ Done
    ∷ Done
    ∷ by_move EXDEV right.refer Old
    ∷ Done
    ∷ []
unfolding empty checked get insert remove entries numbers_from
level_1_knows_no_refer = refl

pub level_2_knows_no_truncate : under 2 false 64 ((1, Ruleset (set 0x4000)) ∷ (1, Ruleset (set 0x2000)) ∷ [])
    ≡ Refused EINVAL ∷ Created 0 ∷ []
unfolding empty checked get insert remove entries numbers_from
level_2_knows_no_truncate = refl

-- A spawned client writes through a copy what its parent reads, and keeps what the copy was opened under. It has none
-- of its parent's rulesets
pub a_spawned_client_has_copies : under 3 true 2 (
    (1, Make Reg (path (codes "/f")))
    ∷ (1, Open (mode way.Write) (path (codes "/f")))
    ∷ (1, Ruleset (set 0x4000))
    ∷ (1, Confine 0)
    ∷ (1, Open (mode way.Write) (path (codes "/f")))
    ∷ (1, Open (mode way.Read) (path (codes "/f")))
    ∷ (1, Spawn)
    ∷ (2, Confine 0)
    ∷ (2, Ftruncate 0 2)
    ∷ (2, Ftruncate 1 0)
    ∷ (1, Close 0)
    ∷ (2, Write 0 0 (0x68 ∷ 0x69 ∷ []))
    ∷ (1, Read 2 0 4)
    ∷ [])
    ≡ Done
    ∷ Opened 0
    ∷ Created 0
    ∷ Done
    ∷ Opened 1
    ∷ Opened 2
    ∷ Spawned 2
    ∷ Refused EBADF
    ∷ Done
    ∷ denied 1 right.truncate
    ∷ Done
    ∷ Wrote 2
    ∷ Bytes (0x68 ∷ 0x69 ∷ [])
    ∷ []
unfolding empty checked get insert remove entries numbers_from
a_spawned_client_has_copies = refl

-- A file without a name lives until the last copy is closed
pub a_copy_keeps_a_file : under 3 true 2 (
    (1, Make Reg (path (codes "/f")))
    ∷ (1, Open (mode way.Read) (path (codes "/f")))
    ∷ (1, Spawn)
    ∷ (1, Unlink (path (codes "/f")))
    ∷ (1, Close 0)
    ∷ (1, Make Reg (path (codes "/g")))
    ∷ (2, Close 0)
    ∷ (1, Make Reg (path (codes "/g")))
    ∷ (1, Stat (path (codes "/g")))
    ∷ [])
    ≡ Done
    ∷ Opened 0
    ∷ Spawned 2
    ∷ Done
    ∷ Done
    ∷ Refused ENOSPC
    ∷ Done
    ∷ Done
    ∷ a_node 3 Reg
    ∷ []
unfolding empty checked get insert remove entries numbers_from
a_copy_keeps_a_file = refl

pub a_client_spawned_without_copies : under 3 false 64 (
    (1, Make Reg (path (codes "/f")))
    ∷ (1, Open (mode way.Read) (path (codes "/f")))
    ∷ (1, Spawn)
    ∷ (2, Read 0 0 4)
    ∷ (2, Open (mode way.Read) (path (codes "/f")))
    ∷ [])
    ≡ Done
    ∷ Opened 0
    ∷ Spawned 2
    ∷ Refused EBADF
    ∷ Opened 0
    ∷ []
unfolding empty checked get insert remove entries numbers_from
a_client_spawned_without_copies = refl
