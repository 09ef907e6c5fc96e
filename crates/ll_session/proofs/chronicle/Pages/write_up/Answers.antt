use Rattle.std.proofs.Common.{ap, arith, length, refl, subst, ◌∙◌}
use Rattle.std.proofs.Math.Nat.{pos_of_ne-zero}
use Rattle.ll_session.specs.KeptHistory.{AreKept, kept_of}
use Rattle.ll_session.proofs.Pages.{are_kept, kept_broken, none_seen}
use Rattle.ll_session.proofs.chronicle.Pages.write_up.Goals as goal

pub returns-then-self-clause-kept : goal.returns-then-self-clause-kept
returns-then-self-clause-kept g c = kept_broken c.args.self.now c.args.party.now c.if-self.true

pub returns-then-len-eq0-clause-kept : goal.returns-then-len-eq0-clause-kept
returns-then-len-eq0-clause-kept g c =
    let size = c.len.ensures in
    let none = c.if-len-eq0.true in
    are_kept c.args.self.now c.args.party.now
    (none_seen c.args.party.now (omega (arith, size, none)) c.args.self.now.page.first)

pub loop-init : goal.loop-init
loop-init g c = record { whole = c.if-self.false; party = refl }

pub turn-requires-clause-some : goal.turn-requires-clause-some
turn-requires-clause-some g c =
    let size = c.len.ensures in
    let same = ap length c.loop.invariant.party in
    let some = pos_of_ne-zero c.if-len-eq0.false in
    omega (arith, size, same, some)

pub loop-preserved : goal.loop-preserved
loop-preserved g c = record {
  whole = c.turn.ensures.whole c.if-turn.false;
  party = c.turn.ensures.same ∙ c.loop.invariant.party;
}

pub returns-then-turn-clause-kept : goal.returns-then-turn-clause-kept
returns-then-turn-clause-kept g c =
    subst (AreKept (kept_of c.turn.new.self)) c.loop.invariant.party (c.turn.ensures.kept c.if-turn.true)

pub returns-then-turn-clause-same : goal.returns-then-turn-clause-same
returns-then-turn-clause-same g c = c.turn.ensures.same ∙ c.loop.invariant.party
