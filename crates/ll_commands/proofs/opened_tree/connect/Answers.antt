use Rattle.std.proofs.Common.{ap, sym, ◌≡◌, ◌∙◌, inl, inr, refl}
use Rattle.ll_rights.specs.Map.{has}
use Rattle.ll_rights.specs.declared.errno.Errno.TheVariants.{EMFILE, NoMemory}
use Rattle.ll_seq.specs.declared.reply.Reply.{Reply}
use Rattle.ll_seq.specs.declared.reply.Reply.TheVariants.{Done, Refused}
use Rattle.ll_seq.specs.State.{State}
use Rattle.ll_session.proofs.Comers.{connected_there, connects}
use Rattle.ll_commands.proofs.opened_tree.connect.Goals as goal

pub returns-in-Done-clause-there : goal.returns-in-Done-clause-there
returns-in-Done-clause-there c =
    let step = c.in-Done.ensures.step (λ e. absurd (let both : Done ≡ Refused NoMemory = e in cc)) in
    ap (λ (p : Reply × State). has p.1.clients c.args.client) step
    ∙ connected_there c.args.tree.now c.args.client c.args.client c.requires.free
    (sym (ap (λ (p : Reply × State). p.0) step))

pub unreachable-requires : goal.unreachable-requires
unreachable-requires c =
    let done = c.apply.ensures.step (λ e. c.in_default.not-Refused NoMemory e) in
    elim (connects c.args.tree.now c.args.client c.args.client c.requires.free) [
      | inl e ↦ c.in_default.not-Done (ap (λ (p : Reply × State). p.0) (done ∙ e.1))
      | inr e ↦ c.in_default.not-Refused EMFILE (ap (λ (p : Reply × State). p.0) (done ∙ e.1))
    ]

pub returns-in-Refused-clause-refused : goal.returns-in-Refused-clause-refused
returns-in-Refused-clause-refused c = λ no.
    (c.args.client, refl, ap (λ (p : Reply × State). p.0) (c.in-Refused.ensures.step no))
