use Rattle.std.proofs.Common.{◌<◌, ◌≤◌, sym, true≢false, ◌∙◌, inl, inr, refl}
use Rattle.ll_session.proofs.Leadings.{not_full}
use Rattle.ll_session.specs.Talk.{seen_by}
use Rattle.ll_session.proofs.open_session.OpenSession.unread.Goals as goal

pub returns-else-wants_memory-clause-told : goal.returns-else-wants_memory-clause-told
returns-else-wants_memory-clause-told g c =
    inr (inr (λ wants. true≢false (sym (c.wants_memory.ensures.1 wants) ∙ c.if-wants_memory.false), refl, refl))

pub returns-then-is_full-clause-told : goal.returns-then-is_full-clause-told
returns-then-is_full-clause-told g c =
    inl (
      c.wants_memory.ensures.0 c.if-wants_memory.true,
      c.is_full.ensures.looks,
      c.is_full.ensures.full.0 c.if-is_full.true,
      refl,
    )

pub returns-else-is_full-clause-told : goal.returns-else-is_full-clause-told
returns-else-is_full-clause-told g c =
    let wants = c.wants_memory.ensures.0 c.if-wants_memory.true in
    inr (inl (
      wants,
      c.is_full.ensures.looks,
      not_full c.is_full.result g.N.Shape.limit (seen_by c.is_full.new.self) c.is_full.ensures.full c.if-is_full.false,
      wants,
    ))
