use Rattle.std.proofs.Common.{◌≡◌, ℕ, length}
use Rattle.ll_session.specs.Between.{Leads}
use Rattle.ll_session.proofs.Leadings.{Stays}
use Rattle.ll_session.proofs.party.Party.join.Given as goal

-- nobody has come, and nothing has changed
abbrev pub invariant-loop : goal.invariant-loop
invariant-loop g l =
    ((room : ℕ) → Leads g.N.Shape.rules room g.N.Shape.limit l.fn.self l.self Stays)
    × (length l.self ≡ length l.fn.self)
