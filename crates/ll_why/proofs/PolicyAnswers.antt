-- What the step answers to a call that policy denies, or doesn't.
use Rattle.std.specs.Prelude.{◌≡◌, ◌≢◌, ℕ, List, [], ◌∷◌, Option, Some, None, slice_get}
use Rattle.std.specs.Prelude.{refl}
use Rattle.std.proofs.Common.{ap, sym, ◌∙◌}
use Rattle.ll_rights.specs.declared.errno.Errno.{Errno}
use Rattle.ll_decide.specs.declared.denial.Denial.{Denial}
use Rattle.ll_decide.specs.declared.demands.Demands.{Demands}
use Rattle.ll_decide.specs.Judge.{grants_along}
use Rattle.ll_decide.specs.Verdict.{verdict}
use Rattle.ll_seq.specs.Asked.{call_denials, grants}
use Rattle.ll_seq.specs.Call.{first_path, second_path}
use Rattle.ll_seq.specs.CallParts.{asked, moved}
use Rattle.ll_seq.specs.Effects.{effect}
use Rattle.ll_seq.specs.State.{State}
use Rattle.ll_seq.specs.Step.{client_of}
use Rattle.ll_seq.specs.declared.call.Call.{Call}
use Rattle.ll_seq.specs.declared.call.Call.TheVariants.{Make, Open, Read, Write, Ftruncate, Close, Truncate, ReadDir}
use Rattle.ll_seq.specs.declared.call.Call.TheVariants.{Stat, Exec, Unlink, Rmdir, Rename, RenameNoreplace, Exchange}
use Rattle.ll_seq.specs.declared.call.Call.TheVariants.{Link, Ruleset, Allow, Confine, Spawn, Connect}
use Rattle.ll_seq.specs.declared.client.ClientRecord.{ClientRecord}
use Rattle.ll_seq.specs.declared.reply.Reply.{Reply}
use Rattle.ll_seq.specs.declared.reply.Reply.TheVariants.{Refused, Denied}
use Rattle.ll_seq.proofs.StepParts.{afterwards, denied, none_refused, refused_late, comes_to}
use Rattle.ll_seq.proofs.AskedLists.{verdict_same}
use Rattle.ll_seq.specs.Demanded.{AreDemands, chains}
use Rattle.ll_seq.specs.Passed.{before_policy}
use Rattle.ll_why.specs.Reasons.{IsJudgedSo, IsNotDenied, kept_number}

-- what the layers judge
pub policy_is : (s : State) (c : ClientRecord) (call : Call) → kept_number call ≡ None
    → slice_get (call_denials s c call) 0 ≡ verdict (grants s) c.domain (asked s call) (moved s call)
policy_is s c (Make k t) e = refl
policy_is s c (Open m t) e = refl
policy_is s c (Read n o z) e = refl
policy_is s c (Write n o b) e = refl
policy_is s c (Ftruncate n z) e = absurd cc
policy_is s c (Close n) e = refl
policy_is s c (Truncate t z) e = refl
policy_is s c (ReadDir t) e = refl
policy_is s c (Stat t) e = refl
policy_is s c (Exec t) e = refl
policy_is s c (Unlink t) e = refl
policy_is s c (Rmdir t) e = refl
policy_is s c (Rename o m) e = refl
policy_is s c (RenameNoreplace o m) e = refl
policy_is s c (Exchange o m) e = refl
policy_is s c (Link o m) e = refl
policy_is s c (Ruleset r) e = refl
policy_is s c (Allow n t r) e = refl
policy_is s c (Confine n) e = refl
policy_is s c Spawn e = refl
policy_is s c Connect e = refl

-- by what is asked on
pub judged_so : (s : State) (c : ClientRecord) (call : Call) (d : Demands) → kept_number call ≡ None
    → (demanded : AreDemands s call d)
    → slice_get (call_denials s c call) 0 ≡ verdict (grants_along (chains s call)) c.domain demanded.asks demanded.moves
judged_so s c call d ours demanded =
    policy_is s c call ours
    ∙ (λ i. verdict (grants s) c.domain (demanded.all_asked i) (demanded.all_moved i))
    ∙ verdict_same s (first_path call) (second_path call) c.domain demanded.asks demanded.moves

-- what a descriptor has kept decides this call
pub kept_is : (s : State) (c : ClientRecord) (call : Call) (fd : ℕ) (denial : Option Denial)
    → kept_number call ≡ Some fd
    → ((size : ℕ) → denial ≡ slice_get (call_denials s c (Ftruncate fd size)) 0)
    → denial ≡ slice_get (call_denials s c call) 0
kept_is s c (Make k t) fd denial e is = absurd cc
kept_is s c (Open m t) fd denial e is = absurd cc
kept_is s c (Read n o z) fd denial e is = absurd cc
kept_is s c (Write n o b) fd denial e is = absurd cc
kept_is s c (Ftruncate n z) fd denial e is = let same : n ≡ fd = cc in
    is z ∙ ap (λ m. slice_get (call_denials s c (Ftruncate m z)) 0) (sym same)
kept_is s c (Close n) fd denial e is = absurd cc
kept_is s c (Truncate t z) fd denial e is = absurd cc
kept_is s c (ReadDir t) fd denial e is = absurd cc
kept_is s c (Stat t) fd denial e is = absurd cc
kept_is s c (Exec t) fd denial e is = absurd cc
kept_is s c (Unlink t) fd denial e is = absurd cc
kept_is s c (Rmdir t) fd denial e is = absurd cc
kept_is s c (Rename o m) fd denial e is = absurd cc
kept_is s c (RenameNoreplace o m) fd denial e is = absurd cc
kept_is s c (Exchange o m) fd denial e is = absurd cc
kept_is s c (Link o m) fd denial e is = absurd cc
kept_is s c (Ruleset r) fd denial e is = absurd cc
kept_is s c (Allow n t r) fd denial e is = absurd cc
kept_is s c (Confine n) fd denial e is = absurd cc
kept_is s c Spawn fd denial e is = absurd cc
kept_is s c Connect fd denial e is = absurd cc

-- no call's answer is a denial where nothing refuses it
not_done : (s : State) (n : ℕ) (c : ClientRecord) (call : Call) (at new : _) (fresh : ℕ) (d : Denial)
    → (effect s n c at new fresh call).0 ≢ Denied d
not_done s n c (Make k t) at new fresh d e = absurd cc
not_done s n c (Open m t) at new fresh d e = absurd cc
not_done s n c (Read i o z) at new fresh d e = absurd cc
not_done s n c (Write i o b) at new fresh d e = absurd cc
not_done s n c (Ftruncate i z) at new fresh d e = absurd cc
not_done s n c (Close i) at new fresh d e = absurd cc
not_done s n c (Truncate t z) at new fresh d e = absurd cc
not_done s n c (ReadDir t) at new fresh d e = absurd cc
not_done s n c (Stat t) at new fresh d e = absurd cc
not_done s n c (Exec t) at new fresh d e = absurd cc
not_done s n c (Unlink t) at new fresh d e = absurd cc
not_done s n c (Rmdir t) at new fresh d e = absurd cc
not_done s n c (Rename o m) at new fresh d e = absurd cc
not_done s n c (RenameNoreplace o m) at new fresh d e = absurd cc
not_done s n c (Exchange o m) at new fresh d e = absurd cc
not_done s n c (Link o m) at new fresh d e = absurd cc
not_done s n c (Ruleset r) at new fresh d e = absurd cc
not_done s n c (Allow i t r) at new fresh d e = absurd cc
not_done s n c (Confine i) at new fresh d e = absurd cc
not_done s n c Spawn at new fresh d e = absurd cc
not_done s n c Connect at new fresh d e = absurd cc

not_refused : (errno : Errno) (d : Denial) → Refused errno ≢ Denied d
not_refused errno d e = absurd cc

module _ (s : State) (n : ℕ) (call : Call) (free : before_policy s (client_of s n) call ≡ []) where
  not_denied : slice_get (call_denials s (client_of s n) call) 0 ≡ None → IsNotDenied s n call
  not_denied allowed fresh d is = by (afterwards s (client_of s n) call) refl
    where
      by : (late : List Errno) → afterwards s (client_of s n) call ≡ late → ⊥
      by [] none = not_done s n (client_of s n) call (first_path call) (second_path call) fresh d
          (ap (λ (o : Reply × State). o.0) (sym (comes_to s n call fresh (none_refused s n call free allowed none)))
          ∙ is)
      by (errno ∷ more) some = not_refused errno d
          (ap (λ (o : Reply × State). o.0)
          (refused_late s n call free allowed errno (ap (λ l. slice_get l 0) some) fresh)
          ∙ is)

  pub judged : (denial : Option Denial) → denial ≡ slice_get (call_denials s (client_of s n) call) 0
      → IsJudgedSo s n call denial
  judged None is = not_denied (sym is)
  judged (Some d) is = denied s n call free d (sym is)
