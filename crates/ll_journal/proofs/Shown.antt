-- The shown state after one call more.
use Rattle.std.specs.Prelude.{◌≡◌, ℕ, List, [], ◌∷◌, refl}
use Rattle.std.proofs.Common.{ap, ◌∙◌}
use Rattle.ll_seq.specs.declared.call.Call.{Call}
use Rattle.ll_seq.specs.declared.reply.Reply.{Reply}
use Rattle.ll_seq.specs.State.{State, start}
use Rattle.ll_seq.specs.Step.{step, refusals, first_or, client_of}
use Rattle.ll_seq.specs.History.{fresh_of}
use Rattle.ll_seq.proofs.Histories.{after_push}
use Rattle.ll_laws.proofs.Gain.{done_of}
use Rattle.ll_laws.specs.World.{World, shown, next_number, reply_to}
use Rattle.ll_laws.proofs.Shapes.{with_entry}
use Rattle.ll_laws.proofs.OneCall.{step_again}

-- with any reply
pub shown_entry : (w : World) (number : ℕ) (call : Call) (reply : Reply)
    → shown (with_entry w number call reply) ≡ (step (shown w) number call (fresh_of reply)).1
shown_entry w number call reply =
    after_push (start w.rules w.room) w.history (record { client = number; call = call; reply = reply })

-- with the one that the call has, also where a world has other walks or another gate
pub shown_answered : (w v : World) (number : ℕ) (call : Call) (reply : Reply) → reply ≡ reply_to w number call
    → v.rules ≡ w.rules → v.room ≡ w.room → v.history ≡ (with_entry w number call reply).history
    → shown v ≡ (step (shown w) number call (next_number w)).1
shown_answered w v number call reply answer rules room history =
    (λ i. shown (record w { rules = rules i; room = room i; history = history i }))
    ∙ shown_entry w number call reply
    ∙ ap (λ r. (step (shown w) number call (fresh_of r)).1) answer
    ∙ ap (λ (p : Reply × State). p.1) (step_again (shown w) number call (next_number w))

pub shown_reply : (w : World) (number : ℕ) (call : Call)
    → shown (with_entry w number call (reply_to w number call)) ≡ (step (shown w) number call (next_number w)).1
shown_reply w number call = shown_answered w (with_entry w number call (reply_to w number call)) number call
    (reply_to w number call) refl refl refl refl

-- ---- a call that is refused, and one that isn't

pub step_refused : (s : State) (number : ℕ) (call : Call) (fresh : ℕ) (reply : Reply) (more : List Reply)
    → refusals s (client_of s number) call ≡ reply ∷ more → step s number call fresh ≡ (reply, s)
step_refused s number call fresh reply more e =
    ap (λ rs. first_or s rs (done_of s number (client_of s number) call fresh)) e

pub step_done : (s : State) (number : ℕ) (call : Call) (fresh : ℕ) → refusals s (client_of s number) call ≡ []
    → step s number call fresh ≡ done_of s number (client_of s number) call fresh
step_done s number call fresh e = ap (λ rs. first_or s rs (done_of s number (client_of s number) call fresh)) e
