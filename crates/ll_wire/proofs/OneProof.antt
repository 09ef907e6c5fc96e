-- That an entry has a spelling has one proof at most.
use Rattle.std.proofs.Common.{◌⊎◌, inl, inr, ap, subst, List, ℕ}
use Rattle.std.proofs.Props.{props}
use Rattle.ll_path.specs.Target.{target_text}
use Rattle.ll_path.specs.declared.target.Target.{Target}
use Rattle.ll_path.specs.declared.target.Target.TheVariants.{Good, Bad}
use Rattle.ll_seq.specs.declared.call.Call.{Call}
use Rattle.ll_seq.specs.declared.call.Call.TheVariants.{Make, Open, Read, Write, Ftruncate, Close, Truncate, ReadDir}
use Rattle.ll_seq.specs.declared.call.Call.TheVariants.{Stat, Exec, Unlink, Rmdir, Rename, RenameNoreplace, Exchange}
use Rattle.ll_seq.specs.declared.call.Call.TheVariants.{Link, Ruleset, Allow, Confine, Spawn, Connect}
use Rattle.ll_seq.specs.declared.reply.Reply.{Reply}
use Rattle.ll_seq.specs.declared.reply.Reply.TheVariants.{Done, Opened, Bytes, Wrote, Listed, Found, Created, Spawned}
use Rattle.ll_seq.specs.declared.reply.Reply.TheVariants.{Refused, Denied}
use Rattle.ll_wire.specs.Entries.{IsEntryCall}
use Rattle.ll_wire.specs.Grammar.{IsCall, IsReply, IsSpelled, SpellsTarget}

target_prop : (word : List ℕ) (target : Target) → IsProp (SpellsTarget word target)
target_prop word (Good path) = Prim.hlevel props
target_prop word (Bad bad) = Prim.hlevel props

spelled_prop : (target : Target) → IsProp (IsSpelled target)
spelled_prop target = target_prop (target_text target) target

ruleset call_props = (spelled_prop, props)

call_prop : (call : Call) → IsProp (IsCall call)
call_prop (Make kind target) = Prim.hlevel call_props
call_prop (Open mode target) = Prim.hlevel call_props
call_prop (Read fd offset count) = Prim.hlevel call_props
call_prop (Write fd offset bytes) = Prim.hlevel call_props
call_prop (Ftruncate fd size) = Prim.hlevel call_props
call_prop (Close fd) = Prim.hlevel call_props
call_prop (Truncate target size) = Prim.hlevel call_props
call_prop (ReadDir target) = Prim.hlevel call_props
call_prop (Stat target) = Prim.hlevel call_props
call_prop (Exec target) = Prim.hlevel call_props
call_prop (Unlink target) = Prim.hlevel call_props
call_prop (Rmdir target) = Prim.hlevel call_props
call_prop (Rename old new) = Prim.hlevel call_props
call_prop (RenameNoreplace old new) = Prim.hlevel call_props
call_prop (Exchange old new) = Prim.hlevel call_props
call_prop (Link old new) = Prim.hlevel call_props
call_prop (Ruleset rights) = Prim.hlevel call_props
call_prop (Allow number target rights) = Prim.hlevel call_props
call_prop (Confine number) = Prim.hlevel call_props
call_prop Spawn = Prim.hlevel call_props
call_prop Connect = Prim.hlevel call_props

pub reply_prop : (reply : Reply) → IsProp (IsReply reply)
reply_prop Done = Prim.hlevel props
reply_prop (Opened number) = Prim.hlevel props
reply_prop (Bytes bytes) = Prim.hlevel props
reply_prop (Wrote count) = Prim.hlevel props
reply_prop (Listed names) = Prim.hlevel props
reply_prop (Found status) = Prim.hlevel props
reply_prop (Created number) = Prim.hlevel props
reply_prop (Spawned number) = Prim.hlevel props
reply_prop (Refused errno) = Prim.hlevel props
reply_prop (Denied denial) = Prim.hlevel props

exclusive : {A B : Type 0} → IsProp A → IsProp B → (A → B → ⊥) → IsProp (A ⊎ B)
exclusive a b apart (inl x) (inl y) = ap inl (a x y)
exclusive a b apart (inl x) (inr y) = absurd (apart x y)
exclusive a b apart (inr x) (inl y) = absurd (apart y x)
exclusive a b apart (inr x) (inr y) = ap inr (b x y)

pub entry_call_prop : (call : Call) → IsProp (IsEntryCall call)
entry_call_prop call = exclusive (call_prop call) (Prim.hlevel props)
    (λ is connects. subst (λ (c : Call). IsCall c) connects is)

pub ruleset spelled_props = (entry_call_prop, reply_prop, props)
