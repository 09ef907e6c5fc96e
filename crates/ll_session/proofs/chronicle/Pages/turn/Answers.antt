use Rattle.std.proofs.Common.{List, ℕ, arith, string_bytes, subst, sym, ◌∙◌}
use Rattle.ll_session.proofs.Pages.{are_kept, kept_broken, turned}
use Rattle.ll_session.proofs.chronicle.Pages.turn.Goals as goal

pub returns-then-self-clause-turns : goal.returns-then-self-clause-turns
returns-then-self-clause-turns g c =
    let read = c.read_history.ensures.read in
    (read.0, read.1, (read.2.1, (λ whole. absurd cc), (λ broken. read.2.0)))

pub returns-then-self-2-clause-turns : goal.returns-then-self-2-clause-turns
returns-then-self-2-clause-turns g c =
    let read = c.read_history.ensures.read in
    let wrote = c.write_page.ensures in (
      read.0,
      read.1,
      turned g.W.Write.contents c.args.self.now c.read_history.new.reader read.0 c.write_page.new.self
          read.2 c.if-self.false wrote.ok wrote.first wrote.stays wrote.total,
    )

pub returns-clause-turns : goal.returns-clause-turns
returns-clause-turns g c =
    let read = c.read_history.ensures.read in
    let wrote = c.write_page.ensures in (
      read.0,
      read.1,
      turned g.W.Write.contents c.args.self.now c.read_history.new.reader read.0 c.write_page.new.self
          read.2 c.if-self.false wrote.ok wrote.first wrote.stays wrote.total,
    )

pub returns-then-self-2-clause-kept : goal.returns-then-self-2-clause-kept
returns-then-self-2-clause-kept g c broken = kept_broken c.write_page.new.self c.args.party.now broken

pub returns-clause-kept : goal.returns-clause-kept
returns-clause-kept g c last =
    let read = c.read_history.ensures.read in
    let low = read.1 in
    let total = c.write_page.ensures.total ∙ read.2.1 in
    are_kept c.write_page.new.self c.args.party.now (omega (arith, low, total, c.if-self-2.false))
