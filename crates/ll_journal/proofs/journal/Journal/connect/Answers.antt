use Rattle.std.proofs.Common.{rules, refl, sym, ◌∙◌}
use Rattle.ll_journal.proofs.Answered.{connect_kept, connect_joined, connect_spares, connect_would, over_joined}
use Rattle.ll_journal.proofs.Starts.{over_spares}
use Rattle.ll_journal.proofs.journal.Journal.connect.Goals as goal

pub invariant_of-self-2 : goal.invariant_of-self-2
invariant_of-self-2 c =
    let spare = c.in-Ok.ensures.ok in
    connect_kept c.self.inside _ c.self.invariant c.in-Ok.number spare.0 _ (sym c.is_full.ensures ∙ c.if-is_full.false)
    (search rules)
    c.in-Ok.ensures.number c.new-client.ensures spare.1 spare.2 c.push.ensures refl refl refl c.in-Ok.ensures.rest

pub returns-clause-joined : goal.returns-clause-joined
returns-clause-joined c =
    let spare = c.in-Ok.ensures.ok in
    over_joined _ _ _ c.in-Ok.number c.self.view_is
    (connect_joined c.self.inside
    (record c.self.inside {
      history = c.push.new.self;
      seats = c.seat_client.new.seats;
      table = c.seat_client.new.table;
    }) c.self.invariant c.in-Ok.number spare.0 _ (sym c.is_full.ensures
    ∙ c.if-is_full.false) (search rules)
    c.in-Ok.ensures.number c.new-client.ensures spare.1 spare.2 c.push.ensures refl refl refl c.in-Ok.ensures.rest)

pub returns-clause-spares : goal.returns-clause-spares
returns-clause-spares c =
    let spare = c.in-Ok.ensures.ok in
    over_spares _ _ _ _ c.self.view_is
    (connect_spares c.self.inside
    (record c.self.inside {
      history = c.push.new.self;
      seats = c.seat_client.new.seats;
      table = c.seat_client.new.table;
    }) c.self.invariant c.in-Ok.number spare.0 _ (sym c.is_full.ensures
    ∙ c.if-is_full.false) (search rules)
    c.in-Ok.ensures.number c.new-client.ensures spare.1 spare.2 c.push.ensures refl refl refl c.in-Ok.ensures.rest)

pub returns-in_default-clause-starved : goal.returns-in_default-clause-starved
returns-in_default-clause-starved c e =
    connect_would c.self.inside _ c.self.view_is c.self.invariant (sym c.is_full.ensures ∙ c.if-is_full.false)
    (search rules)
