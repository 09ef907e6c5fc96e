use Rattle.std.proofs.Common.{rules, ap, ◌∙◌}
use Rattle.std.specs.Prelude.{refl}
use Rattle.ll_rights.specs.declared.errno.Errno.TheVariants.{EMFILE}
use Rattle.ll_rights.specs.Map.{insert}
use Rattle.ll_seq.specs.declared.reply.Reply.TheVariants.{Done}
use Rattle.ll_seq.specs.declared.call.Call.TheVariants.{Connect}
use Rattle.ll_seq.specs.Step.{client_of}
use Rattle.ll_plain.proofs.Clients.{kept, client_changed}
use Rattle.ll_plain.proofs.Records.{not_refused, no_denials}
use Rattle.ll_plain.proofs.StepParts.{does, starves}
use Rattle.ll_rights.specs.Map.{has}
use Rattle.ll_seq.specs.State.{State, new_client}
use Rattle.ll_seq.proofs.OpensKept.{kept_connect}
use Rattle.ll_plain.specs.contracts.Plain.{the_view}
use Rattle.ll_plain.proofs.Tied.{tied_with}
use Rattle.ll_plain.proofs.Plain.connect.Goals as goal

pub returns-in-Err : goal.returns-in-Err
returns-in-Err c = starves c.args.self.now c.args.client (Connect) refl
    (no_denials c.args.self.now (client_of c.args.self.now c.args.client).domain) (not_refused _ EMFILE (search rules))
    _ (kept _ c.args.self.now c.insert.new.self c.self.view_is c.in-Err.ensures.err) refl

pub returns : goal.returns
returns c =
    does c.args.self.now c.args.client (Connect) refl
    (no_denials c.args.self.now (client_of c.args.self.now c.args.client).domain)
    (not_refused _ EMFILE (search rules)) Done _
    (λ fresh. ap (λ z. (Done, z))
    (client_changed _ c.args.self.now c.insert.new.self c.args.client _ c.self.view_is (c.in_default.ensures.ok
    ∙ ap (insert c.self.inside.clients c.args.client) c.new-record.ensures)))

pub invariant_of-self-2 : goal.invariant_of-self-2
invariant_of-self-2 c =
    let before : State = the_view c.self.inside in
    tied_with before c.self.inside.facts c.insert.new.self (insert before.clients c.args.client new_client)
    c.self.invariant.nodes (c.in_default.ensures.ok
    ∙ ap (insert c.self.inside.clients c.args.client) c.new-record.ensures)
    (kept_connect before c.self.inside.facts c.args.client new_client c.self.invariant.kept
    (ap (λ (z : State). has z.clients c.args.client) c.self.view_is ∙ c.requires) refl)
