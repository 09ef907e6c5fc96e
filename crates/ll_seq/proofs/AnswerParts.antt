-- What policy judges of a call, and what a call does that nothing refuses.
use Rattle.std.specs.Prelude.{◌≡◌, ℕ, true, List, [], ◌∷◌, length, None, slice_get, refl}
use Rattle.std.proofs.Common.{ap, sym, subst, ◌∙◌, arith}
use Rattle.ll_decide.specs.declared.demands.Demands.{Demands}
use Rattle.ll_decide.proofs.Carried.{length-masks}
use Rattle.ll_decide.specs.Judge.{grants_along}
use Rattle.ll_decide.specs.Masks.{AreMasks}
use Rattle.ll_decide.specs.Verdict.{verdict}
use Rattle.ll_rules.specs.Layer.{Layer}
use Rattle.ll_seq.specs.Asked.{call_denials, grants}
use Rattle.ll_seq.specs.CallParts.{asked, moved, done, kind_refusals, limit_refusals}
use Rattle.ll_seq.specs.Call.{first_path, second_path}
use Rattle.ll_seq.specs.declared.call.Call.{Call}
use Rattle.ll_seq.specs.declared.call.Call.TheVariants.{Make, Open, Read, Write, Ftruncate, Close, Truncate, ReadDir}
use Rattle.ll_seq.specs.declared.call.Call.TheVariants.{Stat, Exec, Unlink, Rmdir, Rename, RenameNoreplace, Exchange}
use Rattle.ll_seq.specs.declared.call.Call.TheVariants.{Link, Ruleset, Allow, Confine, Spawn, Connect}
use Rattle.ll_seq.specs.declared.client.ClientRecord.{ClientRecord}
use Rattle.ll_seq.specs.declared.reply.Reply.{Reply}
use Rattle.ll_seq.specs.State.{State}
use Rattle.ll_seq.specs.Step.{refusals, client_of}
use Rattle.ll_seq.proofs.AskedLists.{verdict_same}
use Rattle.ll_seq.proofs.StepParts.{comes_to}
use Rattle.ll_seq.proofs.Walked.{one_free, other_free}
use Rattle.ll_seq.specs.declared.changes.Effect.{Effect}
use Rattle.ll_seq.specs.declared.found.Found.{Found}
use Rattle.ll_seq.specs.Decided.{IsDone}
use Rattle.ll_seq.specs.Demanded.{AreDemands, chains}
use Rattle.ll_seq.specs.Effect.{Fits, after, told}
use Rattle.ll_seq.specs.Lean.{is_lean, spares_memory}
use Rattle.ll_seq.specs.Passed.{after_policy, has_path, Passed, IsFree}

-- policy judges what the call asks and moves, and nothing that was kept
pub policy_is : (s : State) (c : ClientRecord) (call : Call) → has_path call ≡ true
    → slice_get (call_denials s c call) 0 ≡ verdict (grants s) c.domain (asked s call) (moved s call)
policy_is s c (Make k t) e = refl
policy_is s c (Open m t) e = refl
policy_is s c (Read n o z) e = absurd cc
policy_is s c (Write n o b) e = absurd cc
policy_is s c (Ftruncate n z) e = absurd cc
policy_is s c (Close n) e = absurd cc
policy_is s c (Truncate t z) e = refl
policy_is s c (ReadDir t) e = refl
policy_is s c (Stat t) e = refl
policy_is s c (Exec t) e = refl
policy_is s c (Unlink t) e = refl
policy_is s c (Rmdir t) e = refl
policy_is s c (Rename o m) e = refl
policy_is s c (RenameNoreplace o m) e = refl
policy_is s c (Exchange o m) e = refl
policy_is s c (Link o m) e = refl
policy_is s c (Ruleset r) e = absurd cc
policy_is s c (Allow n t r) e = refl
policy_is s c (Confine n) e = absurd cc
policy_is s c Spawn e = absurd cc
policy_is s c Connect e = absurd cc

-- what policy judges, by what is asked on
pub judged_so : (s : State) (c : ClientRecord) (call : Call) (d : Demands) → has_path call ≡ true
    → (demanded : AreDemands s call d)
    → slice_get (call_denials s c call) 0 ≡ verdict (grants_along (chains s call)) c.domain demanded.asks demanded.moves
judged_so s c call d ours demanded =
    policy_is s c call ours
    ∙ (λ i. verdict (grants s) c.domain (demanded.all_asked i) (demanded.all_moved i))
    ∙ verdict_same s (first_path call) (second_path call) c.domain demanded.asks demanded.moves

unlayered : (domain : List Layer) → 0 ≡ length domain → domain ≡ []
unlayered [] none = refl
unlayered (layer ∷ domain) none = absurd (omega arith)

-- no layer denies anything where there is none
pub none_unlayered : (s : State) (c : ClientRecord) (call : Call) (masks inodes : List ℕ) → has_path call ≡ true
    → length masks ≡ 0 → AreMasks masks c.domain inodes → slice_get (call_denials s c call) 0 ≡ None
none_unlayered s c call masks inodes ours none are =
    policy_is s c call ours
    ∙ ap (λ domain. verdict (grants s) domain (asked s call) (moved s call))
    (unlayered c.domain (sym none ∙ length-masks masks c.domain inodes are))

-- a call that nothing refuses does what is told of it
pub comes_so : (s : State) (n : ℕ) (c : ClientRecord) (call : Call) (found : Found) (effect : Effect)
    → client_of s n ≡ c → has_path call ≡ true
    → Passed s c call found → after_policy s c call ≡ [] → refusals s (client_of s n) call ≡ []
    → ((fresh : ℕ) → IsFree s c call found
    → ◌≡◌ {A = Reply × State} (done s n c call (first_path call) (second_path call) fresh)
    (told s effect.answer, after s n c effect.change))
    → (IsFree s c call found → Fits s c effect.change)
    → (spares_memory call ≡ true → is_lean effect ≡ true)
    → IsDone s n call effect
comes_so s n c call found effect who ours passed nothing free does fits lean =
    let kinds = kind_refusals s c call (first_path call) (second_path call) in
    let limits = limit_refusals s c call (first_path call) (second_path call) in
    let is_free : IsFree s c call found =
    record { passed = passed; kinds = one_free kinds limits nothing; limits = other_free kinds limits nothing } in
    let outcome_of : ClientRecord → Reply × State = λ z. (told s effect.answer, after s n z effect.change) in
    record {
      free = free;
      done = λ fresh.
          comes_to s n call fresh free
          ∙ ap (λ (z : ClientRecord). done s n z call (first_path call) (second_path call) fresh) who
          ∙ does fresh is_free
          ∙ ap outcome_of (sym who);
      fits = subst (λ (z : ClientRecord). Fits s z effect.change) (sym who) (fits is_free);
      lean = lean;
    }
