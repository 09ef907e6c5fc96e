use Rattle.std.proofs.Common.{ap, sym, ◌∙◌}
use Rattle.std.specs.Prelude.{[], not, refl}
use Rattle.ll_rights.specs.declared.errno.Errno.TheVariants.{EBADF}
use Rattle.ll_seq.specs.declared.reply.Reply.TheVariants.{Done}
use Rattle.ll_seq.specs.declared.call.Call.TheVariants.{Confine}
use Rattle.ll_seq.specs.Step.{client_of}
use Rattle.ll_plain.proofs.Clients.{got_client, kept, client_changed}
use Rattle.ll_plain.proofs.Records.{refused_if, not_refused, no_denials, number_below}
use Rattle.ll_seq.proofs.Walked.{first_kept}
use Rattle.ll_plain.proofs.StepParts.{refused_before, does, fails, both_free}
use Rattle.ll_plain.specs.contracts.Plain.{the_view}
use Rattle.ll_plain.proofs.Tied.{tied_client}
use Rattle.ll_plain.proofs.Plain.confine.Goals as goal

pub returns-then-not-has_ruleset : goal.returns-then-not-has_ruleset
returns-then-not-has_ruleset c =
    refused_before c.args.self.now c.args.client (Confine c.args.number) EBADF
    (first_kept _ [] _ (refused_if _ EBADF (ap not (sym c.has_ruleset.ensures ∙ c.if-not-has_ruleset.true))))

pub confine-requires-clause-made : goal.confine-requires-clause-made
confine-requires-clause-made c =
    number_below _ c.args.self.now c.args.client c.args.number c.self.view_is c.requires (sym c.has_ruleset.ensures
    ∙ c.if-not-has_ruleset.false)

pub returns-in-Err : goal.returns-in-Err
returns-in-Err c =
    fails c.args.self.now c.args.client (Confine c.args.number)
    (both_free _ [] (not_refused _ EBADF (ap not (sym c.has_ruleset.ensures ∙ c.if-not-has_ruleset.false))) refl)
    (no_denials c.args.self.now (client_of c.args.self.now c.args.client).domain) c.in-Err.errno _
    (c.in-Err.ensures.refused (client_of c.args.self.now c.args.client)
    (got_client _ c.args.self.now c.args.client c.self.view_is c.requires))
    (kept _ c.args.self.now c.confine.new.self c.self.view_is c.in-Err.ensures.err) refl

pub returns : goal.returns
returns c =
    let made = c.in_default.ensures.ok (client_of c.args.self.now c.args.client)
    (got_client _ c.args.self.now c.args.client c.self.view_is c.requires) in
    does c.args.self.now c.args.client (Confine c.args.number)
    (both_free _ [] (not_refused _ EBADF (ap not (sym c.has_ruleset.ensures ∙ c.if-not-has_ruleset.false))) refl)
    (no_denials c.args.self.now (client_of c.args.self.now c.args.client).domain) made.0 Done _
    (λ fresh. ap (λ z. (Done, z))
    (client_changed _ c.args.self.now c.confine.new.self c.args.client _ c.self.view_is made.1))

pub invariant_of-self-2 : goal.invariant_of-self-2
invariant_of-self-2 c =
    let holder = client_of c.args.self.now c.args.client in
    let there = got_client _ c.args.self.now c.args.client c.self.view_is c.requires in
    tied_client (the_view c.self.inside) c.self.inside.facts c.args.client c.confine.new.self holder _ c.self.invariant
    there (c.in_default.ensures.ok holder there).1 refl
