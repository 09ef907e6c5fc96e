use Rattle.std.proofs.Common.{rules, ◌≡◌, nat_le, Option, None, sym, subst, ◌∙◌, inr}
use Rattle.ll_rights.specs.Map.{len}
use Rattle.ll_seq.specs.State.{Name}
use Rattle.ll_laws.specs.World as world
use Rattle.ll_journal.specs.Checks.{StopsBy}
use Rattle.ll_journal.specs.CommitCheck.{check_of}
use Rattle.ll_journal.specs.Seated.{next_in}
use Rattle.ll_journal.proofs.check_commit.check_commit.Goals as goal

pub returns-in-None : goal.returns-in-None
returns-in-None c = λ w s spares walks table.
    let none : next_in c.args.seat.now ≡ None = search rules in
    inr (inr (
      sym c.goes_on.ensures ∙ c.if-not-goes_on.false,
      sym c.is_all_lent.ensures ∙ c.if-not-is_all_lent.false,
      subst (λ (next : Option Name). StopsBy c.args.sight.now.table.now.facts
          (nat_le c.args.sight.now.room (len s.nodes)) (world.is_marked_by_other w c.args.client)
          c.args.sight.now.slots.now c.args.sight.now.lent.now c.args.seat.now next
          (check_of c.check_at_ends.result c.check_at_ends.new.into))
          (sym none) (c.check_at_ends.ensures w s spares walks table),
    ))
