-- What a call of a plain tree is, by its reply.
use Rattle.std.proofs.Common.{◌≡◌, ◌≢◌, ◌∙◌, ℕ, true, false, ap, refl, sym}
use Rattle.std.proofs.lemmas.Bool.{false≢true}
use Rattle.ll_plain.specs.Refusal.{is_refusal}
use Rattle.ll_rights.specs.declared.errno.Errno.TheVariants.{NoMemory}
use Rattle.ll_seq.specs.declared.call.Call.{Call}
use Rattle.ll_seq.specs.declared.reply.Reply.{Reply}
use Rattle.ll_seq.specs.declared.reply.Reply.TheVariants.{Refused}
use Rattle.ll_seq.specs.State.{State}
use Rattle.ll_seq.specs.Step.{step}
use Rattle.ll_commands.specs.OpenedTree.{IsRefusedThere, MakesOne}

module _ (client fresh : ℕ) (s t : State) (call : Call) (reply : Reply) where
  pub makes_one : (reply ≢ Refused NoMemory → ◌≡◌ {A = Reply × State} (reply, t) (step s client call fresh))
      → is_refusal reply ≡ false → MakesOne client s call t
  makes_one steps quiet =
      let is = steps (λ e. false≢true (sym quiet ∙ ap is_refusal e)) in (
        fresh,
        ap (λ (p : Reply × State). is_refusal p.0) (sym is) ∙ quiet,
        ap (λ (p : Reply × State). p.1) is,
      )

  pub refused_there : (told : Reply)
      → (reply ≢ Refused NoMemory → ◌≡◌ {A = Reply × State} (reply, t) (step s client call fresh))
      → (told ≡ reply) × (is_refusal reply ≡ true) → told ≢ Refused NoMemory → IsRefusedThere client s call told
  refused_there told steps loud other = (
    fresh,
    ap is_refusal loud.0 ∙ loud.1,
    loud.0 ∙ ap (λ (p : Reply × State). p.0) (steps (λ e. other (loud.0 ∙ e))),
  )
