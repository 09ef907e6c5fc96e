-- What a call comes to, by its three parts: what refuses it before policy is asked, what policy denies, and what
-- refuses it afterwards.
use Rattle.std.specs.Prelude.{◌≡◌, ℕ, true, List, [], ◌++◌, Some, None, slice_get, refl}
use Rattle.std.proofs.Common.{ap, sym, ◌∙◌, inl, inr}
use Rattle.ll_rights.specs.declared.errno.Errno.{Errno}
use Rattle.ll_rights.specs.declared.errno.Errno.TheVariants.{NoMemory}
use Rattle.ll_seq.specs.declared.call.Call.{Call}
use Rattle.ll_seq.specs.declared.reply.Reply.{Reply}
use Rattle.ll_seq.specs.declared.reply.Reply.TheVariants.{Refused}
use Rattle.ll_seq.specs.Fails.{Fails}
use Rattle.ll_seq.specs.Memory.{takes_memory}
use Rattle.ll_seq.specs.State.{State}
use Rattle.ll_seq.proofs.StepParts as parts
use Rattle.ll_seq.proofs.StepParts.{early, policy, late, does_so}
use Rattle.ll_plain.specs.Outcomes.{Comes, ComesBy, Steps}

pub both_free : {A : Type 0} (xs ys : List A) → xs ≡ [] → ys ≡ [] → xs ++ ys ≡ []
both_free xs ys e f = ap (λ zs. zs ++ ys) e ∙ f

module _ (s : State) (n : ℕ) (call : Call) where
  pub refused_before : (e : Errno) → slice_get (early s n call) 0 ≡ Some e → Comes s n call (Refused e) s
  refused_before e h fresh = inl (parts.refused_early s n call e h fresh)

  module _ (free : early s n call ≡ []) (allowed : slice_get (policy s n call) 0 ≡ None) where
    pub refused_after : (e : Errno) → slice_get (late s n call) 0 ≡ Some e → Comes s n call (Refused e) s
    refused_after e h fresh = inl (parts.refused_late s n call free allowed e h fresh)

    module _ (fits : late s n call ≡ []) where
      pub steps_done : (reply : Reply) (after : State)
          → ((fresh : ℕ) → ◌≡◌ {A = Reply × State} (reply, after) (does_so s n call fresh))
          → Steps s n call reply after
      steps_done reply after same fresh =
          same fresh ∙ sym (parts.comes_to s n call fresh (parts.none_refused s n call free allowed fits))

      pub does_by : (fresh : ℕ) (reply : Reply) (after : State)
          → ◌≡◌ {A = Reply × State} (reply, after) (does_so s n call fresh)
          → ComesBy fresh s n call reply after
      does_by fresh reply after same =
          inl (same ∙ sym (parts.comes_to s n call fresh (parts.none_refused s n call free allowed fits)))

      pub does : (reply : Reply) (after : State)
          → ((fresh : ℕ) → ◌≡◌ {A = Reply × State} (reply, after) (does_so s n call fresh))
          → Comes s n call reply after
      does reply after same fresh = does_by fresh reply after (same fresh)

      pub starves : (after : State) → after ≡ s → takes_memory call ≡ true → Comes s n call (Refused NoMemory) after
      starves after same takes fresh =
          inr (refl, same, record { takes = takes; passes = parts.none_refused s n call free allowed fits })

    -- what is left to refuse it, or want of memory
    pub fails : (e : Errno) (after : State) → Fails (late s n call) e → after ≡ s → takes_memory call ≡ true
        → Comes s n call (Refused e) after
    fails e after (inl first) same takes fresh =
        inl (ap (λ (z : State). (Refused e, z)) same ∙ parts.refused_late s n call free allowed e first fresh)
    fails e after (inr starved) same takes fresh = inr (
      ap Refused starved.0,
      same,
      record { takes = takes; passes = parts.none_refused s n call free allowed starved.1 },
    )
