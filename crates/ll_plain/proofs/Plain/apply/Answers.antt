use Rattle.std.proofs.Common.{◌≡◌, ap, sym, inl, inr, ◌∙◌, arith}
use Rattle.ll_rights.specs.Map.{has}
use Rattle.ll_rights.specs.declared.errno.Errno.TheVariants.{NoMemory}
use Rattle.ll_seq.specs.declared.reply.Reply.{Reply}
use Rattle.ll_seq.specs.declared.reply.Reply.TheVariants.{Refused, Spawned}
use Rattle.ll_seq.specs.State.{State}
use Rattle.ll_seq.proofs.Consequences.{step-clients_stay, step-no_other, step-spawned, step-next}
use Rattle.ll_seq.proofs.Settled.{answered, step-not_starved}
use Rattle.ll_plain.proofs.RefusedCalls.{step-kept}
use Rattle.ll_plain.specs.Refusal.{is_refusal}
use Rattle.ll_plain.proofs.Plain.apply.Goals as goal

pub returns-clause-step : goal.returns-clause-step
returns-clause-step c other =
    elim c.reply-told.ensures [
      | inl is ↦ is
      | inr starved ↦ absurd (other starved.0)
    ]

pub returns-clause-no_memory : goal.returns-clause-no_memory
returns-clause-no_memory c none =
    elim c.reply-told.ensures [
      | inl is ↦ absurd (step-not_starved c.args.self.now c.args.client c.args.call.now c.args.fresh
          (sym (ap (λ (z : Reply × State). z.0) is) ∙ none))
      | inr starved ↦ starved.1
    ]

pub returns-clause-starved : goal.returns-clause-starved
returns-clause-starved c none =
    elim c.reply-told.ensures [
      | inl is ↦ absurd (step-not_starved c.args.self.now c.args.client c.args.call.now c.args.fresh
          (sym (ap (λ (z : Reply × State). z.0) is) ∙ none))
      | inr starved ↦ starved.2
    ]

pub returns-clause-answers : goal.returns-clause-answers
returns-clause-answers c =
    answered c.args.self.now c.args.client c.args.call.now c.args.fresh c.reply-told.result c.by_type.ensures (λ other.
    elim c.reply-told.ensures [
      | inl is ↦ ap (λ (z : Reply × State). z.0) is
      | inr starved ↦ absurd (other starved.0)
    ])

pub returns-clause-kept : goal.returns-clause-kept
returns-clause-kept c refused =
    elim c.reply-told.ensures [
      | inl is ↦ ap (λ (z : Reply × State). z.1) is
          ∙ step-kept c.args.self.now c.args.client c.args.call.now c.args.fresh
          (sym (ap (λ (z : Reply × State). is_refusal z.0) is) ∙ refused)
      | inr starved ↦ starved.1
    ]

pub returns-clause-clients_stay : goal.returns-clause-clients_stay
returns-clause-clients_stay c = λ other there.
    elim c.reply-told.ensures [
      | inl is ↦ ap (λ (z : Reply × State). has z.1.clients other) is
          ∙ step-clients_stay c.args.self.now c.args.client c.args.call.now c.args.fresh other there
      | inr starved ↦ ap (λ (z : State). has z.clients other) starved.1 ∙ there
    ]

pub returns-clause-no_other_client : goal.returns-clause-no_other_client
returns-clause-no_other_client c = λ other a told.
    elim c.reply-told.ensures [
      | inl is ↦ ap (λ (z : Reply × State). has z.1.clients other) is
          ∙ step-no_other c.args.self.now c.args.client c.args.call.now c.args.fresh other a
          (λ spawned. told (ap (λ (z : Reply × State). z.0) is ∙ spawned))
      | inr starved ↦ ap (λ (z : State). has z.clients other) starved.1
    ]

pub returns-clause-spawned : goal.returns-clause-spawned
returns-clause-spawned c = λ number told.
    elim c.reply-told.ensures [
      | inl is ↦ (
          let made = step-spawned c.args.self.now c.args.client c.args.call.now c.args.fresh number
          (sym (ap (λ (z : Reply × State). z.0) is) ∙ told) in
          (made.0, ap (λ (z : Reply × State). has z.1.clients number) is ∙ made.1))
      | inr starved ↦ absurd (let both : Refused NoMemory ≡ Spawned number = sym starved.0 ∙ told in cc)
    ]

pub returns-clause-numbers : goal.returns-clause-numbers
returns-clause-numbers c =
    elim c.reply-told.ensures [
      | inl is ↦ (let same = ap (λ (z : Reply × State). z.1.next) is
          in let grown = step-next c.args.self.now c.args.client c.args.call.now c.args.fresh in omega arith)
      | inr starved ↦ (let same = ap (λ (z : State). z.next) starved.1 in omega arith)
    ]
