use Rattle.std.proofs.Common.{rules, ℕ, nat_le, sym, subst, ◌∙◌, inr}
use Rattle.ll_rights.specs.Map.{len}
use Rattle.ll_laws.specs.World as world
use Rattle.ll_journal.specs.Checks.{StopsBetween}
use Rattle.ll_journal.specs.CommitCheck.{check_of}
use Rattle.ll_journal.proofs.check_commit.check_at_ends.Goals as goal

pub returns : goal.returns
returns c = λ w s spares walks table.
    inr (
      sym c.is_at_ends.ensures ∙ c.if-not-is_at_ends.false,
      c.in-Some.call.now,
      c.in-Some-Some.first,
      c.in-Some-Some.second,
      search rules,
      search rules,
      search rules,
      subst (λ (spare : ℕ). StopsBetween c.args.sight.now.table.now.facts (nat_le c.args.sight.now.room (len s.nodes))
          (world.is_marked_by_other w c.args.client) c.args.sight.now.slots.now c.args.sight.now.lent.now spare
          c.in-Some.call.now c.in-Some-Some.first c.in-Some-Some.second
          (check_of c.check_between.result c.check_between.new.into)) c.spare.ensures
          (c.check_between.ensures w s spares walks table),
    )
