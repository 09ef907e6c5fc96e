use Rattle.std.proofs.Common.{refl}
use Rattle.ll_seq.specs.Step.{client_of}
use Rattle.ll_plain.specs.contracts.Plain.{the_view}
use Rattle.ll_plain.proofs.Clients.{got_client}
use Rattle.ll_plain.proofs.Tied.{tied_client}
use Rattle.ll_plain.proofs.Plain.allow.Goals as goal

pub invariant_of-self-2 : goal.invariant_of-self-2
invariant_of-self-2 c =
    let holder = client_of c.args.self.now c.args.client in
    let there = got_client _ c.args.self.now c.args.client c.self.view_is c.requires.caller in
    tied_client (the_view c.self.inside) c.self.inside.facts c.args.client c.allow.new.self holder _ c.self.invariant
    there (c.in_default.ensures.ok holder there).3 refl
