use Rattle.std.proofs.Common.{sym, ◌∙◌}
use Rattle.ll_seq.specs.History.{fresh_of}
use Rattle.ll_seq.proofs.Settled.{answered, step-not_starved}
use Rattle.ll_session.proofs.entries.is_entry.Goals as goal

pub is_entered-requires-clause-answer : goal.is_entered-requires-clause-answer
is_entered-requires-clause-answer c =
    let e = c.args.entry.now in
    answered c.requires.0 e.client e.call (fresh_of e.reply) e.reply c.by_type.ensures (λ _. sym c.requires.1)

pub is_entered-requires-clause-memory : goal.is_entered-requires-clause-memory
is_entered-requires-clause-memory c starved =
    let e = c.args.entry.now in
    step-not_starved c.requires.0 e.client e.call (fresh_of e.reply) (c.requires.1 ∙ starved)
