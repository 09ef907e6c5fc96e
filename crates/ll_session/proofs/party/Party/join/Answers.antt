use Rattle.std.proofs.Common.{List, sym, subst, ◌∙◌, refl, arith, rules}
use Rattle.ll_rights.specs.declared.errno.Errno.TheVariants.{NoMemory}
use Rattle.ll_client.specs.Entries.{Knows}
use Rattle.ll_session.specs.Between.{Leads}
use Rattle.ll_session.specs.Talk.{seen_by}
use Rattle.ll_session.proofs.ActChains.{nothing_leads}
use Rattle.ll_session.proofs.Leadings.{Refuses, full_so, joined_so, many_so, not_full, starved_so, stays_on}
use Rattle.ll_session.proofs.Lists.{joins_them}
use Rattle.ll_session.proofs.Turns.{looks}
use Rattle.ll_session.proofs.party.Party.join.Goals as goal

pub loop-init : goal.loop-init
loop-init g c = (λ room. nothing_leads g.N.Shape.rules room g.N.Shape.limit c.args.self.now, refl)

pub returns-then-is_full-clause-err : goal.returns-then-is_full-clause-err
returns-then-is_full-clause-err g c = λ room.
    full_so g.N.Shape.rules room g.N.Shape.limit c.args.self.now c.is_full.new.self
    (stays_on g.N.Shape.rules room g.N.Shape.limit c.args.self.now c.loop.self c.is_full.new.self
    (c.loop.invariant.0 room)
    (looks g.N.Shape.rules room g.N.Shape.limit c.loop.self c.is_full.new.self c.is_full.ensures.looks))
    (c.is_full.ensures.full.0 c.if-is_full.true)

pub returns-then-len-clause-err : goal.returns-then-len-clause-err
returns-then-len-clause-err g c = λ room.
    let many = c.if-len.true in
    let size = c.len.ensures in
    many_so g.N.Shape.rules room g.N.Shape.limit c.args.self.now c.is_full.new.self
    (stays_on g.N.Shape.rules room g.N.Shape.limit c.args.self.now c.loop.self c.is_full.new.self
    (c.loop.invariant.0 room)
    (looks g.N.Shape.rules room g.N.Shape.limit c.loop.self c.is_full.new.self c.is_full.ensures.looks))
    (not_full c.is_full.result g.N.Shape.limit (seen_by c.is_full.new.self) c.is_full.ensures.full c.if-is_full.false)
    (omega (arith, many, size))

pub returns-in-Ok-clause-ok : goal.returns-in-Ok-clause-ok
returns-in-Ok-clause-ok g c = λ room.
    joined_so g.N.Shape.rules room g.N.Shape.limit c.args.self.now c.is_full.new.self c.add.new.self
    c.in-Ok.client.rider.number
    (stays_on g.N.Shape.rules room g.N.Shape.limit c.args.self.now c.loop.self c.is_full.new.self
    (c.loop.invariant.0 room)
    (looks g.N.Shape.rules room g.N.Shape.limit c.loop.self c.is_full.new.self c.is_full.ensures.looks))
    (joins_them c.is_full.new.self c.connect.new.self c.add.new.self c.in-Ok.client.rider (c.in-Ok.ensures.same refl)
    c.add.ensures c.in-Ok.ensures.client c.in-Ok.ensures.after)

pub returns-in-Err-NoMemory-clause-err : goal.returns-in-Err-NoMemory-clause-err
returns-in-Err-NoMemory-clause-err g c = λ room.
    let few = c.if-len.false in
    let size = c.len.ensures in
    subst (λ (ks : List Knows).
    Leads g.N.Shape.rules room g.N.Shape.limit c.args.self.now ks (Refuses NoMemory))
    (sym (c.connect.ensures.same (search rules)))
    (starved_so g.N.Shape.rules room g.N.Shape.limit c.args.self.now c.is_full.new.self
    (stays_on g.N.Shape.rules room g.N.Shape.limit c.args.self.now c.loop.self c.is_full.new.self
    (c.loop.invariant.0 room)
    (looks g.N.Shape.rules room g.N.Shape.limit c.loop.self c.is_full.new.self c.is_full.ensures.looks))
    (not_full c.is_full.result g.N.Shape.limit (seen_by c.is_full.new.self) c.is_full.ensures.full c.if-is_full.false)
    (omega (arith, few, size)))

pub loop-preserved : goal.loop-preserved
loop-preserved g c = (
  λ room.
      stays_on g.N.Shape.rules room g.N.Shape.limit c.args.self.now c.is_full.new.self c.connect.new.self
      (stays_on g.N.Shape.rules room g.N.Shape.limit c.args.self.now c.loop.self c.is_full.new.self
      (c.loop.invariant.0 room)
      (looks g.N.Shape.rules room g.N.Shape.limit c.loop.self c.is_full.new.self c.is_full.ensures.looks))
      (looks g.N.Shape.rules room g.N.Shape.limit c.is_full.new.self c.connect.new.self c.connect.ensures.looks),
  c.connect.ensures.count ∙ c.is_full.ensures.count ∙ c.loop.invariant.1,
)
