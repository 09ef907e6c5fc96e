-- What nothing refuses is answered by no refusal, and want of memory is none.
use Rattle.std.specs.Prelude.{◌≡◌, ◌≢◌, ℕ, Bool, true, false, not, List, [], ◌∷◌, ◌++◌, Option, Some, None, option_map}
use Rattle.std.specs.Prelude.{Result, Ok, Err, OnErr, is_ok, refl}
use Rattle.std.specs.List.{AllByRecursion}
use Rattle.std.proofs.Common.{ap, sym, subst, ◌∙◌, inl, inr}
use Rattle.ll_rights.specs.declared.errno.Errno.{Errno}
use Rattle.ll_rights.specs.declared.errno.Errno.TheVariants.{NoMemory}
use Rattle.ll_rights.specs.Errno.{refuse}
use Rattle.ll_rights.specs.Map.{get}
use Rattle.ll_seq.specs.Lean.{spares_memory}
use Rattle.ll_seq.specs.declared.call.Call.{Call}
use Rattle.ll_seq.specs.declared.call.Call.TheVariants.{Make, Open, Read, Write, Ftruncate, Close, Truncate, ReadDir}
use Rattle.ll_seq.specs.declared.call.Call.TheVariants.{Stat, Exec, Unlink, Rmdir, Rename, RenameNoreplace, Exchange}
use Rattle.ll_seq.specs.declared.call.Call.TheVariants.{Link, Ruleset, Allow, Confine, Spawn, Connect}
use Rattle.ll_seq.specs.declared.client.ClientRecord.{ClientRecord}
use Rattle.ll_seq.specs.declared.reply.Reply.{Reply}
use Rattle.ll_seq.specs.Fails.{Fails}
use Rattle.ll_seq.specs.Memory.{MayStarve, takes_memory}
use Rattle.ll_seq.specs.State.{State}
use Rattle.ll_seq.specs.Step.{step, refusals, client_of}
use Rattle.ll_laws.proofs.Chains.{same_Some}
use Rattle.ll_laws.proofs.Gain.{done_of}
use Rattle.ll_laws.specs.declared.step.Step.{Step}
use Rattle.ll_laws.specs.declared.step.Step.TheVariants.{Commit}
use Rattle.ll_laws.specs.Walk.{Walk}
use Rattle.ll_laws.specs.World.{World, Outcome, Replied, advance, called, is_full, is_walked, next_number, reply_to}
use Rattle.ll_laws.specs.World.{shown}
use Rattle.ll_journal.specs.declared.files.BytesCall.{BytesCall}
use Rattle.ll_journal.specs.declared.files.BytesCall.TheVariants as onto
use Rattle.ll_journal.specs.declared.files.FileCall.{FileCall}
use Rattle.ll_journal.specs.declared.files.FileCall.TheVariants as files
use Rattle.ll_journal.specs.Direct.{TakesMemory}
use Rattle.ll_journal.specs.Files.{on_file}
use Rattle.ll_journal.specs.Direct.{Starves, is_refusal, succeeds}
use Rattle.ll_journal.proofs.Shown.{step_done}

-- what is done is no refusal
done_granted : (s : State) (number : ℕ) (c : ClientRecord) (call : Call) (fresh : ℕ)
    → is_refusal (done_of s number c call fresh).0 ≡ false
done_granted s number c (Make kind t) fresh = refl
done_granted s number c (Open mode t) fresh = refl
done_granted s number c (Read fd offset count) fresh = refl
done_granted s number c (Write fd offset bytes) fresh = refl
done_granted s number c (Ftruncate fd size) fresh = refl
done_granted s number c (Close fd) fresh = refl
done_granted s number c (Truncate t size) fresh = refl
done_granted s number c (ReadDir t) fresh = refl
done_granted s number c (Stat t) fresh = refl
done_granted s number c (Exec t) fresh = refl
done_granted s number c (Unlink t) fresh = refl
done_granted s number c (Rmdir t) fresh = refl
done_granted s number c (Rename o n) fresh = refl
done_granted s number c (RenameNoreplace o n) fresh = refl
done_granted s number c (Exchange o n) fresh = refl
done_granted s number c (Link o n) fresh = refl
done_granted s number c (Ruleset rights) fresh = refl
done_granted s number c (Allow rs t rights) fresh = refl
done_granted s number c (Confine rs) fresh = refl
done_granted s number c Spawn fresh = refl
done_granted s number c Connect fresh = refl

pub step_granted : (s : State) (number : ℕ) (call : Call) (fresh : ℕ) → refusals s (client_of s number) call ≡ []
    → is_refusal (step s number call fresh).0 ≡ false
step_granted s number call fresh free =
    ap (λ (o : Reply × State). is_refusal o.0) (step_done s number call fresh free)
    ∙ done_granted s number (client_of s number) call fresh

-- ---- which steps may find no memory

-- one that has the reply of its call
pub starves_by : (w v : World) (s : Step) (number : ℕ) (call : Call) → called w s ≡ Some (number, call)
    → advance w s ≡ (Replied (reply_to w number call), v) → is_full w ≡ false → MayStarve (shown w) number call
    → Starves w s
starves_by w v s number call is replied room may = record {
  client = number;
  call = call;
  is = is;
  may = may;
  room = room;
  would = ap (λ (p : Outcome × World). succeeds p.0) replied
      ∙ ap not (step_granted (shown w) number call (next_number w) may.passes);
}

-- the walk whose commit it is
pub starved_walk : (w : World) (number : ℕ) → Starves w (Commit number)
    → (walk : Walk) × (get w.walks number ≡ Some walk) × MayStarve (shown w) number walk.call
starved_walk w number starves = by (get w.walks number) refl starves.is
  where
    by : (o : Option Walk) → get w.walks number ≡ o
        → option_map {U = ℕ × Call} (λ (walk : Walk). (number, walk.call)) o ≡ Some (starves.client, starves.call)
        → (walk : Walk) × (get w.walks number ≡ Some walk) × MayStarve (shown w) number walk.call
    by None is e = absurd (cc e)
    by (Some walk) is e = (
      walk,
      is,
      subst (λ (p : ℕ × Call). MayStarve (shown w) p.0 p.1)
          (sym (same_Some (number, walk.call) (starves.client, starves.call) e)) starves.may,
    )

-- the calls for the client alone, those on its files, and those that walk
pub alone_takes : (call : Call) → TakesMemory call → takes_memory call ≡ true
alone_takes call (inl h) = ap takes_memory h.1
alone_takes call (inr (inl h)) = ap takes_memory h.1
alone_takes call (inr (inr h)) = ap takes_memory h

pub file_takes : (what : FileCall) (fd : ℕ) → what ≢ files.Close → takes_memory (on_file what fd) ≡ true
file_takes files.Close fd other = absurd (other refl)
file_takes (files.OnBytes (onto.Read offset count)) fd other = refl
file_takes (files.OnBytes (onto.Write offset bytes)) fd other = refl
file_takes (files.OnBytes (onto.Resize size)) fd other = refl

pub walked_takes : (c : ClientRecord) (call : Call) → is_walked c call ≡ true → spares_memory call ≡ false
    → takes_memory call ≡ true
walked_takes c (Make kind t) walked spares = refl
walked_takes c (Open mode t) walked spares = refl
walked_takes c (Read fd offset count) walked spares = refl
walked_takes c (Write fd offset bytes) walked spares = refl
walked_takes c (Ftruncate fd size) walked spares = refl
walked_takes c (Close fd) walked spares = absurd (cc walked)
walked_takes c (Truncate t size) walked spares = refl
walked_takes c (ReadDir t) walked spares = refl
walked_takes c (Stat t) walked spares = absurd (cc spares)
walked_takes c (Exec t) walked spares = absurd (cc spares)
walked_takes c (Unlink t) walked spares = absurd (cc spares)
walked_takes c (Rmdir t) walked spares = absurd (cc spares)
walked_takes c (Rename o n) walked spares = refl
walked_takes c (RenameNoreplace o n) walked spares = refl
walked_takes c (Exchange o n) walked spares = absurd (cc spares)
walked_takes c (Link o n) walked spares = refl
walked_takes c (Ruleset rights) walked spares = refl
walked_takes c (Allow rs t rights) walked spares = refl
walked_takes c (Confine rs) walked spares = refl
walked_takes c Spawn walked spares = refl
walked_takes c Connect walked spares = refl

-- ---- refusals and want of memory

pub when_err : {A E P Q : Type 0} (r : Result A E) → (P → Q) → OnErr r P → OnErr r Q
when_err (Ok x) f h = tt
when_err (Err e) f h = f h

pub if_err : {A E P : Type 0} (r : Result A E) → P → OnErr r P
if_err (Ok x) h = tt
if_err (Err e) h = h

pub never_err : {A E P : Type 0} (r : Result A E) → OnErr r P → (P → ⊥) → is_ok r ≡ true
never_err (Ok x) h f = refl
never_err (Err e) h f = absurd (f h)

abbrev pub AreRefusals : List Errno → Type 0
AreRefusals es = AllByRecursion (λ e. e ≢ NoMemory) es

pub one_refusal : (b : Bool) (e : Errno) → e ≢ NoMemory → AreRefusals (refuse b e)
one_refusal true e other = (other, tt)
one_refusal false e other = tt

pub both_refuse : (es fs : List Errno) → AreRefusals es → AreRefusals fs → AreRefusals (es ++ fs)
both_refuse [] fs h k = k
both_refuse (e ∷ es) fs h k = (h.0, both_refuse es fs h.1 k)

-- it fails for want of memory, so nothing refuses it
pub only_memory : (es : List Errno) → AreRefusals es → (e : Errno) → e ≡ NoMemory → Fails es e → es ≡ []
only_memory [] are e none fails = refl
only_memory (x ∷ es) are e none (inl first) = let same : x ≡ e = (cc first) in absurd (are.0 (same ∙ none))
only_memory (x ∷ es) are e none (inr starved) = starved.1
