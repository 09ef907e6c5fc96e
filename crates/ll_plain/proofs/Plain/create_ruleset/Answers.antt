use Rattle.std.specs.Prelude.{◌++◌, length, nat_le, refl}
use Rattle.std.proofs.Common.{ap, subst, sym, ◌∙◌}
use Rattle.ll_rights.specs.declared.errno.Errno.TheVariants.{EMFILE}
use Rattle.ll_rights.specs.declared.limits.TheConstants.{CLIENT_RULESETS}
use Rattle.ll_rights.specs.Errno.{refuse}
use Rattle.ll_rules.specs.Rules.{create_refusals}
use Rattle.ll_seq.specs.declared.client.ClientRecord.{ClientRecord}
use Rattle.ll_seq.specs.Fails.{Fails}
use Rattle.ll_seq.specs.State.{State}
use Rattle.ll_seq.specs.declared.reply.Reply.TheVariants.{Created}
use Rattle.ll_seq.specs.declared.call.Call.TheVariants.{Ruleset}
use Rattle.ll_seq.specs.Step.{client_of}
use Rattle.ll_plain.proofs.Clients.{got_client, kept, client_changed}
use Rattle.ll_plain.proofs.Records.{no_denials}
use Rattle.ll_plain.proofs.StepParts.{does, fails}
use Rattle.ll_plain.specs.contracts.Plain.{the_view}
use Rattle.ll_plain.proofs.Tied.{tied_client}
use Rattle.ll_plain.proofs.Plain.create_ruleset.Goals as goal

pub returns-in-Err : goal.returns-in-Err
returns-in-Err c =
    let C : ClientRecord = client_of c.args.self.now c.args.client in
    fails c.args.self.now c.args.client (Ruleset c.args.rights) refl
    (no_denials c.args.self.now (client_of c.args.self.now c.args.client).domain) c.in-Err.errno _
    (subst (λ abi. Fails (create_refusals abi c.args.rights.0
    ++ refuse (nat_le CLIENT_RULESETS (length C.rulesets)) EMFILE) c.in-Err.errno)
    (ap (λ (z : State). z.rules.abi) c.self.view_is)
    (c.in-Err.ensures.refused C (got_client _ c.args.self.now c.args.client c.self.view_is c.requires)))
    (kept _ c.args.self.now c.create_ruleset.new.self c.self.view_is c.in-Err.ensures.err) refl

pub returns : goal.returns
returns c =
    let C : ClientRecord = client_of c.args.self.now c.args.client in
    let made = c.in-Ok.ensures.ok (client_of c.args.self.now c.args.client)
    (got_client _ c.args.self.now c.args.client c.self.view_is c.requires) in
    does c.args.self.now c.args.client (Ruleset c.args.rights) refl
    (no_denials c.args.self.now (client_of c.args.self.now c.args.client).domain)
    (ap (λ (z : State). create_refusals z.rules.abi c.args.rights.0
    ++ refuse (nat_le CLIENT_RULESETS (length C.rulesets)) EMFILE) (sym c.self.view_is) ∙ made.0) _ _
    (λ fresh i. (
      Created (made.1 i),
      client_changed _ c.args.self.now c.create_ruleset.new.self c.args.client _ c.self.view_is made.2 i,
    ))

pub invariant_of-self-2 : goal.invariant_of-self-2
invariant_of-self-2 c =
    let holder : ClientRecord = client_of c.args.self.now c.args.client in
    let there = got_client _ c.args.self.now c.args.client c.self.view_is c.requires in
    tied_client (the_view c.self.inside) c.self.inside.facts c.args.client c.create_ruleset.new.self holder _
    c.self.invariant there (c.in-Ok.ensures.ok holder there).2 refl
