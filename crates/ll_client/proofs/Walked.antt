-- What a step does to the clients that are there.
use Rattle.std.specs.Prelude.{◌≡◌, ℕ, true, [], ◌∷◌, Option}
use Rattle.std.proofs.Common.{ap, ◌∙◌}
use Rattle.std.proofs.lemmas.List.{append-nil}
use Rattle.ll_rights.specs.Map.{has}
use Rattle.ll_seq.specs.declared.call.Call.{Call}
use Rattle.ll_seq.specs.declared.reply.Reply.{Reply}
use Rattle.ll_seq.specs.State.{State}
use Rattle.ll_seq.specs.Step.{step}
use Rattle.ll_seq.proofs.Consequences.{step-clients_stay}
use Rattle.ll_laws.specs.World.{World, next_number, reply_to, shown}
use Rattle.ll_journal.proofs.Shown.{shown_answered}
use Rattle.ll_laws.proofs.StepGrowth.{Grown, entry_of}

shown_same : (w v : World) → v.rules ≡ w.rules → v.room ≡ w.room → v.history ≡ w.history → shown v ≡ shown w
shown_same w v rules room history = λ i. shown (record w { rules = rules i; room = room i; history = history i })

pub clients_none : (w v : World) (c : ℕ) (doing : Option Call) → Grown w v c doing [] → (d : ℕ)
    → has (shown w).clients d ≡ true → has (shown v).clients d ≡ true
clients_none w v c doing g d h =
    ap (λ (s : State). has s.clients d) (shown_same w v g.rules g.room (g.came ∙ append-nil w.history)) ∙ h

pub shown_one : (w v : World) (c n : ℕ) (doing : Option Call) (call : Call) (reply : Reply) → reply ≡ reply_to w n call
    → Grown w v c doing (entry_of n call reply ∷ []) → shown v ≡ (step (shown w) n call (next_number w)).1
shown_one w v c n doing call reply is g = shown_answered w v n call reply is g.rules g.room g.came

pub clients_one : (w v : World) (c n : ℕ) (doing : Option Call) (call : Call) (reply : Reply)
    → reply ≡ reply_to w n call
    → Grown w v c doing (entry_of n call reply ∷ []) → (d : ℕ) → has (shown w).clients d ≡ true
    → has (shown v).clients d ≡ true
clients_one w v c n doing call reply is g d h =
    ap (λ (s : State). has s.clients d) (shown_one w v c n doing call reply is g)
    ∙ step-clients_stay (shown w) n call (next_number w) d h
