use Rattle.std.proofs.Common.{◌≡◌, ◌<◌, length, ap, refl, sym, subst, ◌∙◌, inl}
use Rattle.ll_laws.specs.World.{NotNow, advance}
use Rattle.ll_laws.specs.declared.step.Step.TheVariants.{Commit}
use Rattle.ll_journal.specs.Book.{Book}
use Rattle.ll_journal.specs.Kept.{seat_at, world_of}
use Rattle.ll_journal.proofs.Advances.{commit_none}
use Rattle.ll_journal.proofs.ClientTables.{many_spares}
use Rattle.ll_journal.proofs.RootDescents.{no_walk}
use Rattle.ll_journal.proofs.journal.Journal.commit.Goals as goal

-- nobody is there
pub returns-in_default-clause-does : goal.returns-in_default-clause-does
returns-in_default-clause-does c =
    subst (λ (b : Book). advance b.world (Commit c.args.client) ≡ (NotNow, b.world)) c.self.view_is
    (commit_none (world_of c.self.inside) c.args.client
    (no_walk c.self.inside c.args.client (ap (λ xs. seat_at xs c.args.client) (sym c.deref.ensures.value)
    ∙ c.in_default.ensures.none)))

pub returns-in_default-clause-rest : goal.returns-in_default-clause-rest
returns-in_default-clause-rest c = inl refl

pub check_end-requires-clause-place : goal.check_end-requires-clause-place
check_end-requires-clause-place c =
    subst (λ n. c.in-Some.place < n) (ap length c.deref.ensures.value ∙ sym (many_spares c.self.inside.seats.items)
    ∙ ap (λ (b : Book). length b.spares) c.self.view_is) c.in-Some.ensures.some.1

-- the walk stays where it is
pub returns-in-NotNow-clause-does : goal.returns-in-NotNow-clause-does
returns-in-NotNow-clause-does c = c.in-NotNow.ensures

pub returns-in-NotNow-clause-rest : goal.returns-in-NotNow-clause-rest
returns-in-NotNow-clause-rest c = inl refl

pub returns-in-Astray-clause-astray : goal.returns-in-Astray-clause-astray
returns-in-Astray-clause-astray c e = c.in-Astray.ensures

pub returns-in-Astray-clause-rest : goal.returns-in-Astray-clause-rest
returns-in-Astray-clause-rest c = inl refl

-- it can't go on
pub refuse-requires-clause-place : goal.refuse-requires-clause-place
refuse-requires-clause-place c =
    subst (λ n. c.in-Some.place < n) (ap length c.deref.ensures.value ∙ sym (many_spares c.self.inside.seats.items)
    ∙ ap (λ (b : Book). length b.spares) c.self.view_is) c.in-Some.ensures.some.1

pub returns-in-Blocked-clause-does : goal.returns-in-Blocked-clause-does
returns-in-Blocked-clause-does c = c.refuse.ensures.does

pub returns-in-Blocked-clause-rest : goal.returns-in-Blocked-clause-rest
returns-in-Blocked-clause-rest c = inl c.refuse.ensures.rest

pub returns-in-Blocked-clause-astray : goal.returns-in-Blocked-clause-astray
returns-in-Blocked-clause-astray c e = absurd (c.refuse.ensures.not_astray e)

pub returns-in-Blocked-clause-calm : goal.returns-in-Blocked-clause-calm
returns-in-Blocked-clause-calm c e = absurd (c.refuse.ensures.calm e)

-- it is answered
pub answer-requires-clause-place : goal.answer-requires-clause-place
answer-requires-clause-place c =
    subst (λ n. c.in-Some.place < n) (ap length c.deref.ensures.value ∙ sym (many_spares c.self.inside.seats.items)
    ∙ ap (λ (b : Book). length b.spares) c.self.view_is) c.in-Some.ensures.some.1

pub returns-in-Reached-clause-does : goal.returns-in-Reached-clause-does
returns-in-Reached-clause-does c = c.answer.ensures.does

pub returns-in-Reached-clause-rest : goal.returns-in-Reached-clause-rest
returns-in-Reached-clause-rest c = c.answer.ensures.rest

pub returns-in-Reached-clause-astray : goal.returns-in-Reached-clause-astray
returns-in-Reached-clause-astray c e = absurd (c.answer.ensures.not_astray e)

pub returns-in-Reached-clause-calm : goal.returns-in-Reached-clause-calm
returns-in-Reached-clause-calm c e = c.answer.ensures.calm e
