-- A reply that holds bytes or names is no refusal, and is told only of calls that take memory.
use Rattle.std.specs.Prelude.{◌≡◌, ℕ, true, false, List, [], ◌∷◌, ◌++◌, map, Result, Ok, Err, IfOk, refl}
use Rattle.std.specs.List.{AllByRecursion}
use Rattle.std.proofs.Common.{ap, subst, sym, ◌∙◌}
use Rattle.ll_decide.specs.declared.denial.Denial.{Denial}
use Rattle.ll_rights.specs.declared.errno.Errno.{Errno}
use Rattle.ll_seq.specs.declared.call.Call.{Call}
use Rattle.ll_seq.specs.declared.call.Call.TheVariants.{Make, Open, Read, Write, Ftruncate, Close, Truncate, ReadDir}
use Rattle.ll_seq.specs.declared.call.Call.TheVariants.{Stat, Exec, Unlink, Rmdir, Rename, RenameNoreplace, Exchange}
use Rattle.ll_seq.specs.declared.call.Call.TheVariants.{Link, Ruleset, Allow, Confine, Spawn, Connect}
use Rattle.ll_seq.specs.declared.client.ClientRecord.{ClientRecord}
use Rattle.ll_seq.specs.declared.reply.Reply.{Reply}
use Rattle.ll_seq.specs.declared.reply.Reply.TheVariants.{Refused, Denied}
use Rattle.ll_seq.specs.Asked.{call_denials}
use Rattle.ll_seq.specs.Call.{first_path, second_path}
use Rattle.ll_seq.specs.Memory.{holds_memory}
use Rattle.ll_seq.specs.Stages.{number_refusals, relation_refusals, stages, text_refusals, walk_refusals}
use Rattle.ll_seq.specs.State.{State, new_client}
use Rattle.ll_seq.specs.Step.{client_of, first_or, refusals, step}
use Rattle.ll_seq.specs.Lean.{spares_memory}
use Rattle.ll_laws.proofs.Gain.{done_of}
use Rattle.ll_journal.proofs.Shown.{step_done}

-- what holds of the reply holds of the pair's
pub if_copied : {E : Type 0} (P : Reply → Type 0) (r : Result Reply E) (reply : Reply) → IfOk r (λ pair. pair ≡ reply)
    → P reply → IfOk r P
if_copied P (Ok pair) reply same h = subst P (sym same) h
if_copied P (Err e) reply same h = tt

abbrev HoldNothing : List Reply → Type 0
HoldNothing replies = AllByRecursion (λ reply. holds_memory reply ≡ false) replies

refused_hold : (errnos : List Errno) → HoldNothing (map Refused errnos)
refused_hold [] = tt
refused_hold (errno ∷ errnos) = (refl, refused_hold errnos)

denied_hold : (denials : List Denial) → HoldNothing (map Denied denials)
denied_hold [] = tt
denied_hold (denial ∷ denials) = (refl, denied_hold denials)

both_hold : (early late : List Reply) → HoldNothing early → HoldNothing late → HoldNothing (early ++ late)
both_hold [] late a b = b
both_hold (reply ∷ early) late a b = (a.0, both_hold early late a.1 b)

refusals_hold : (s : State) (c : ClientRecord) (call : Call) → HoldNothing (refusals s c call)
refusals_hold s c call =
    let at = first_path call in
    let new = second_path call in
    let text = refused_hold (text_refusals call) in
    let numbers = both_hold _ _ text (refused_hold (number_refusals c call)) in
    let relation = both_hold _ _ numbers (refused_hold (relation_refusals call at new)) in
    let way = both_hold _ _ relation (refused_hold (walk_refusals s call)) in
    let existence = both_hold _ _ way (refused_hold (stages s new_client at new call).existence) in
    let policy = both_hold _ _ existence (denied_hold (call_denials s c call)) in
    let kinds = both_hold _ _ policy (refused_hold (stages s c at new call).kinds) in
    both_hold _ _ kinds (refused_hold (stages s c at new call).limits)

first_held : (s : State) (replies : List Reply) (outcome : Reply × State) → HoldNothing replies
    → holds_memory (first_or s replies outcome).0 ≡ true → replies ≡ []
first_held s [] outcome none holds = refl
first_held s (reply ∷ replies) outcome none holds = cc (sym none.0 ∙ holds)

pub held_free : (s : State) (number : ℕ) (call : Call) (fresh : ℕ) → holds_memory (step s number call fresh).0 ≡ true
    → refusals s (client_of s number) call ≡ []
held_free s number call fresh holds =
    first_held s (refusals s (client_of s number) call) (done_of s number (client_of s number) call fresh)
    (refusals_hold s (client_of s number) call) holds

done_takes : (s : State) (number : ℕ) (c : ClientRecord) (call : Call) (fresh : ℕ)
    → holds_memory (done_of s number c call fresh).0 ≡ true → spares_memory call ≡ false
done_takes s number c (Make kind t) fresh e = refl
done_takes s number c (Open mode t) fresh e = refl
done_takes s number c (Read fd offset count) fresh e = refl
done_takes s number c (Write fd offset bytes) fresh e = refl
done_takes s number c (Ftruncate fd size) fresh e = refl
done_takes s number c (Close fd) fresh e = refl
done_takes s number c (Truncate t size) fresh e = refl
done_takes s number c (ReadDir t) fresh e = refl
done_takes s number c (Stat t) fresh e = cc e
done_takes s number c (Exec t) fresh e = cc e
done_takes s number c (Unlink t) fresh e = cc e
done_takes s number c (Rmdir t) fresh e = cc e
done_takes s number c (Rename o n) fresh e = refl
done_takes s number c (RenameNoreplace o n) fresh e = refl
done_takes s number c (Exchange o n) fresh e = cc e
done_takes s number c (Link o n) fresh e = refl
done_takes s number c (Ruleset rights) fresh e = refl
done_takes s number c (Allow rs t rights) fresh e = refl
done_takes s number c (Confine rs) fresh e = refl
done_takes s number c Spawn fresh e = refl
done_takes s number c Connect fresh e = refl

pub held_takes : (s : State) (number : ℕ) (call : Call) (fresh : ℕ) → holds_memory (step s number call fresh).0 ≡ true
    → spares_memory call ≡ false
held_takes s number call fresh holds =
    done_takes s number (client_of s number) call fresh
    (ap (λ (o : Reply × State). holds_memory o.0)
    (sym (step_done s number call fresh (held_free s number call fresh holds))) ∙ holds)
