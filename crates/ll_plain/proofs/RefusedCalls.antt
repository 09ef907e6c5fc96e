-- A refused call keeps the state.
use Rattle.std.specs.Prelude.{◌≡◌, ℕ, true, List, [], ◌∷◌, refl}
use Rattle.ll_path.specs.Path.{Path}
use Rattle.ll_seq.specs.declared.client.ClientRecord.{ClientRecord}
use Rattle.ll_seq.specs.declared.call.Call.{Call}
use Rattle.ll_seq.specs.declared.call.Call.TheVariants.{Make, Open, Read, Write, Ftruncate, Close, Truncate, ReadDir}
use Rattle.ll_seq.specs.declared.call.Call.TheVariants.{Stat, Exec, Unlink, Rmdir, Rename, RenameNoreplace, Exchange}
use Rattle.ll_seq.specs.declared.call.Call.TheVariants.{Link, Ruleset, Allow, Confine, Spawn, Connect}
use Rattle.ll_seq.specs.declared.reply.Reply.{Reply}
use Rattle.ll_seq.specs.Call.{first_path, second_path}
use Rattle.ll_seq.specs.State.{State}
use Rattle.ll_seq.specs.CallParts.{done}
use Rattle.ll_seq.specs.Step.{step, first_or, refusals, client_of}
use Rattle.ll_plain.specs.Refusal.{is_refusal}

-- what is done is no refusal
does : (s : State) (n : ℕ) (c : ClientRecord) (call : Call) (at new : Path) (fresh : ℕ)
    → is_refusal (done s n c call at new fresh).0 ≡ true → (done s n c call at new fresh).1 ≡ s
does s n c (Make k t) at new fresh e = absurd cc
does s n c (Open m t) at new fresh e = absurd cc
does s n c (Read d o z) at new fresh e = absurd cc
does s n c (Write d o b) at new fresh e = absurd cc
does s n c (Ftruncate d z) at new fresh e = absurd cc
does s n c (Close d) at new fresh e = absurd cc
does s n c (Truncate t z) at new fresh e = absurd cc
does s n c (ReadDir t) at new fresh e = absurd cc
does s n c (Stat t) at new fresh e = absurd cc
does s n c (Exec t) at new fresh e = absurd cc
does s n c (Unlink t) at new fresh e = absurd cc
does s n c (Rmdir t) at new fresh e = absurd cc
does s n c (Rename from into) at new fresh e = absurd cc
does s n c (RenameNoreplace from into) at new fresh e = absurd cc
does s n c (Exchange from into) at new fresh e = absurd cc
does s n c (Link from into) at new fresh e = absurd cc
does s n c (Ruleset r) at new fresh e = absurd cc
does s n c (Allow rs t r) at new fresh e = absurd cc
does s n c (Confine rs) at new fresh e = absurd cc
does s n c Spawn at new fresh e = absurd cc
does s n c Connect at new fresh e = absurd cc

kept_or : (s : State) (replies : List Reply) (o : Reply × State) → (is_refusal o.0 ≡ true → o.1 ≡ s)
    → is_refusal (first_or s replies o).0 ≡ true → (first_or s replies o).1 ≡ s
kept_or s [] o done e = done e
kept_or s (r ∷ replies) o done e = refl

pub step-kept : (s : State) (n : ℕ) (call : Call) (fresh : ℕ) → is_refusal (step s n call fresh).0 ≡ true
    → (step s n call fresh).1 ≡ s
step-kept s n call fresh =
    kept_or s (refusals s (client_of s n) call)
    (done s n (client_of s n) call (first_path call) (second_path call) fresh)
    (does s n (client_of s n) call (first_path call) (second_path call) fresh)
