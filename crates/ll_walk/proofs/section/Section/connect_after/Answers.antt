use Rattle.std.proofs.Common.{◌≡◌, ◌≢◌, ◌≤◌, IfErr, length, ap, subst, sym, ◌∙◌}
use Rattle.ll_client.proofs.Newcomers.{full_told, knew_full}
use Rattle.ll_seq.specs.declared.reply.Reply.TheVariants.{Refused}
use Rattle.ll_rights.specs.declared.errno.Errno.{Errno}
use Rattle.ll_rights.specs.declared.errno.Errno.TheVariants.{NoMemory}
use Rattle.ll_journal.specs.Book.{Book}
use Rattle.ll_laws.specs.World.{World, Joined, Replied, advance, next_number}
use Rattle.ll_laws.specs.declared.step.Step.TheVariants.{Join}
use Rattle.ll_walk.proofs.section.Section.connect_after.Goals as goal

pub returns-clause-starved : goal.returns-clause-starved
returns-clause-starved g c =
    subst (λ (b : Book). IfErr c.connect_after-client.result (λ (errno : Errno). errno ≡ NoMemory → (after : World)
    × (advance b.world Join ≡ (Joined (next_number b.world), after))))
    c.deref_mut.ensures.value c.connect_after-client.ensures.starved

pub returns-then-not-is_at_full-clause-starved : goal.returns-then-not-is_at_full-clause-starved
returns-then-not-is_at_full-clause-starved g c =
    subst (λ (b : Book). IfErr c.connect_after-client.result (λ (errno : Errno). errno ≡ NoMemory → (after : World)
    × (advance b.world Join ≡ (Joined (next_number b.world), after))))
    c.deref_mut.ensures.value c.connect_after-client.ensures.starved

pub returns-clause-refused : goal.returns-clause-refused
returns-clause-refused g c =
    subst (λ (b : Book). IfErr c.connect_after-client.result (λ (errno : Errno). errno ≢ NoMemory
    → advance b.world Join ≡ (Replied (Refused errno), b.world)))
    c.deref_mut.ensures.value c.connect_after-client.ensures.refused

pub returns-clause-mine : goal.returns-clause-mine
returns-clause-mine g c =
    let full = sym c.is_at_full.ensures ∙ c.if-not-is_at_full.false in
    let told = c.connect_after-client in
    let within = subst (λ (b : Book). length b.world.history ≤ b.world.limit) c.deref.ensures c.by_law.ensures.within in
    let limit = ap (λ (b : Book). b.world.limit) (sym c.deref.ensures) ∙ c.by_law.ensures.limit in
    let all = full_told told.result c.deref_mut.result.now told.new.self g.N.Shape.limit full told.ensures.refused
    told.ensures.same within limit in
    knew_full g.N.Shape.limit _ told.result _ _ _ full told.ensures.mine c.catch_up.ensures.mine
    (ap (λ (b : Book). length b.world.history) (c.catch_up.ensures.same ∙ c.deref_mut-2.ensures.value) ∙ all)
