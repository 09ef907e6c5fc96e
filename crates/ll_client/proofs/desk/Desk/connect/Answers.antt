use Rattle.std.proofs.Common.{◌≡◌, [], length, Err, ap, ◌∙◌, subst}
use Rattle.ll_laws.specs.World.{World, Joined, advance, next_number}
use Rattle.ll_laws.specs.declared.step.Step.TheVariants.{Join}
use Rattle.ll_journal.specs.Book.{Book}
use Rattle.ll_client.proofs.Accounts.{accounts_kept}
use Rattle.ll_client.proofs.Desks.{desk_kept}
use Rattle.ll_client.proofs.Newcomers.{connect_errors, connected, joins}
use Rattle.ll_client.proofs.desk.Desk.connect.Goals as goal

pub returns-in-Err-clause-starved : goal.returns-in-Err-clause-starved
returns-in-Err-clause-starved g c none =
    subst (λ (b : Book). (after : World) × (advance b.world Join ≡ (Joined (next_number b.world), after)))
    c.self.view_is
    (c.connect.ensures.starved (c.in-Err.is ∙ ap (λ e. Err e) none))

pub returns-in-Err-clause-errors : goal.returns-in-Err-clause-errors
returns-in-Err-clause-errors g c =
    connect_errors c.self.inside.journal.world c.in-Err.errno c.in-Err.ensures.refused

pub newcomer-requires-clause-all : goal.newcomer-requires-clause-all
newcomer-requires-clause-all g c =
    let j = joins g.N.Shape.slots g.N.Shape.limit g.N.Shape.rules c.self.inside.journal c.connect.new.self
    c.in-Ok.number
    c.self.inside.keeper c.self.invariant c.in-Ok.ensures.joined in
    accounts_kept c.self.inside.journal c.connect.new.self c.in-Ok.number [] c.self.inside.keeper
    c.connect.ensures.spares j.steps.moved tt j.came.free c.self.invariant.accounts

pub newcomer-requires-clause-came : goal.newcomer-requires-clause-came
newcomer-requires-clause-came g c =
    (joins g.N.Shape.slots g.N.Shape.limit g.N.Shape.rules c.self.inside.journal c.connect.new.self c.in-Ok.number
    c.self.inside.keeper c.self.invariant c.in-Ok.ensures.joined).came

pub invariant_of-self-2 : goal.invariant_of-self-2
invariant_of-self-2 g c =
    desk_kept g.N.Shape.slots g.N.Shape.limit g.N.Shape.rules c.self.inside.journal c.connect.new.self c.in-Ok.number []
    c.self.inside.keeper c.newcomer.new.keeper c.self.invariant
    (joins g.N.Shape.slots g.N.Shape.limit g.N.Shape.rules c.self.inside.journal c.connect.new.self c.in-Ok.number
    c.self.inside.keeper c.self.invariant c.in-Ok.ensures.joined).steps
    c.connect.ensures.spares c.newcomer.ensures.all

pub returns-clause-client : goal.returns-clause-client
returns-clause-client g c =
    connected c.connect.new.self c.in-Ok.number (length c.entries.result.now) c.newcomer.result.rider
    (joins g.N.Shape.slots g.N.Shape.limit g.N.Shape.rules c.self.inside.journal c.connect.new.self c.in-Ok.number
    c.self.inside.keeper c.self.invariant c.in-Ok.ensures.joined).part
    (ap length c.entries.ensures) c.newcomer.ensures.client
