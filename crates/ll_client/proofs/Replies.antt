-- What the definition of a step answers is what its call may be answered.
use Rattle.std.specs.Prelude.{◌≡◌, ℕ, Bool, true, List, [], ◌∷◌, refl}
use Rattle.ll_seq.specs.declared.call.Call.{Call}
use Rattle.ll_seq.specs.declared.call.Call.TheVariants.{Make, Open, Read, Write, Ftruncate, Close, Truncate, ReadDir}
use Rattle.ll_seq.specs.declared.call.Call.TheVariants.{Stat, Exec, Unlink, Rmdir, Rename, RenameNoreplace, Exchange}
use Rattle.ll_seq.specs.declared.call.Call.TheVariants.{Link, Ruleset, Allow, Confine, Spawn, Connect}
use Rattle.ll_seq.specs.declared.client.ClientRecord.{ClientRecord}
use Rattle.ll_seq.specs.declared.reply.Reply.{Reply}
use Rattle.ll_seq.specs.declared.reply.Reply.TheVariants as replies
use Rattle.ll_seq.specs.State.{State}
use Rattle.ll_seq.specs.Step.{step, first_or, refusals, client_of}
use Rattle.ll_seq.proofs.Settled.{Settles, step-settles}
use Rattle.ll_laws.proofs.Gain.{done_of}
use Rattle.ll_journal.specs.Direct.{is_refusal}
use Rattle.ll_journal.proofs.Granted.{AreRefusals, stages}
use Rattle.ll_client.specs.Replies.{Fits, success}

-- what is done is what succeeds
done_fits : (s : State) (number : ℕ) (c : ClientRecord) (call : Call) (fresh : ℕ)
    → Fits (success call) (done_of s number c call fresh).0
done_fits s number c (Make kind t) fresh = refl
done_fits s number c (Open mode t) fresh = refl
done_fits s number c (Read fd offset count) fresh = refl
done_fits s number c (Write fd offset bytes) fresh = refl
done_fits s number c (Ftruncate fd size) fresh = refl
done_fits s number c (Close fd) fresh = refl
done_fits s number c (Truncate t size) fresh = refl
done_fits s number c (ReadDir t) fresh = refl
done_fits s number c (Stat t) fresh = refl
done_fits s number c (Exec t) fresh = refl
done_fits s number c (Unlink t) fresh = refl
done_fits s number c (Rmdir t) fresh = refl
done_fits s number c (Rename o n) fresh = refl
done_fits s number c (RenameNoreplace o n) fresh = refl
done_fits s number c (Exchange o n) fresh = refl
done_fits s number c (Link o n) fresh = refl
done_fits s number c (Ruleset rights) fresh = refl
done_fits s number c (Allow rs t rights) fresh = refl
done_fits s number c (Confine rs) fresh = refl
done_fits s number c Spawn fresh = refl
done_fits s number c Connect fresh = refl

-- a refusal that the step gives, or what it does
settled : (succeeds : Reply → Bool) (r : Reply) → is_refusal r ≡ true → Settles r → Fits succeeds r
settled succeeds (replies.Refused errno) is h = h
settled succeeds (replies.Denied denial) is h = tt
settled succeeds replies.Done is h = absurd (cc is)
settled succeeds (replies.Opened number) is h = absurd (cc is)
settled succeeds (replies.Bytes bytes) is h = absurd (cc is)
settled succeeds (replies.Wrote count) is h = absurd (cc is)
settled succeeds (replies.Listed names) is h = absurd (cc is)
settled succeeds (replies.Found status) is h = absurd (cc is)
settled succeeds (replies.Created number) is h = absurd (cc is)
settled succeeds (replies.Spawned number) is h = absurd (cc is)

first_fits : (succeeds : Reply → Bool) (s : State) (rs : List Reply) (o : Reply × State) → AreRefusals rs
    → Settles (first_or s rs o).0 → Fits succeeds o.0 → Fits succeeds (first_or s rs o).0
first_fits succeeds s [] o are h done = done
first_fits succeeds s (r ∷ rs) o are h done = settled succeeds r are.0 h

pub step_fits : (s : State) (number : ℕ) (call : Call) (fresh : ℕ) → Fits (success call) (step s number call fresh).0
step_fits s number call fresh =
    first_fits (success call) s (refusals s (client_of s number) call)
    (done_of s number (client_of s number) call fresh) (stages _ _ _ _ _ _ _ _)
    (step-settles s number call fresh) (done_fits s number (client_of s number) call fresh)
