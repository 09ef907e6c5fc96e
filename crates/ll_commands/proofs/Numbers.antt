-- The inode numbers of a tree that a setup opens.
use Rattle.std.proofs.Common.{ℕ, ◌+◌, ◌-◌, ◌<◌, ◌≤◌, ◌^◌, List, [], ◌∷◌, length, Option, Some, None, ap, sym, subst}
use Rattle.std.proofs.Common.{arith}
use Rattle.std.specs.Prelude.{IfSome}
use Rattle.std.specs.declared.vec.Vec.{Vec}
use Rattle.std.specs.declared.alloc.Global.{Global}
use Rattle.ll_seq.specs.declared.call.Call.{Call}
use Rattle.ll_seq.specs.declared.call.Call.TheVariants.{Connect}
use Rattle.ll_seq.specs.State.{State, start}
use Rattle.ll_seq.proofs.Consequences.{step-next}
use Rattle.ll_session.specs.declared.setup.Setup.{Setup}
use Rattle.ll_commands.specs.OpenedTree.{Loads, Makes, Opens}

-- each call uses one number at most
makes_next : (client : ℕ) (s : State) (calls : List Call) (t : State) → Makes client s calls t
    → t.next ≤ s.next + length calls
makes_next client s [] t is = let same = ap (λ (z : State). z.next) is in omega (arith, same)
makes_next client s (call ∷ calls) t h =
    let first : h.0.next ≤ s.next + 1 =
    subst (λ (z : State). z.next ≤ s.next + 1) (sym h.1.2) (step-next s client call h.1.0) in
    let rest = makes_next client h.0 calls t h.2 in
    omega (arith, first, rest)

loads_next : (s : State) (loader : Option (Vec Call Global)) (t : State) → Loads s loader t
    → IfSome loader (λ calls. length calls.items < 2 ^ 62) → t.next ≤ s.next + 2 ^ 62
loads_next s None t is few = let same = ap (λ (z : State). z.next) is in omega (arith, same)
loads_next s (Some calls) t h few =
    let made = makes_next h.0 s (Connect ∷ calls.items) t h.1.1 in omega (arith, made, few)

-- numbers are left for as many calls as a list has
pub opens_next : (setup : Setup) (client : ℕ) (t : State) → Opens setup client t
    → length setup.profile.items < 2 ^ 62 → IfSome setup.loader (λ calls. length calls.items < 2 ^ 62)
    → t.next + 2 ^ 62 < 2 ^ 64 - 1
opens_next setup client t h few loaded =
    let before : h.0.next ≤ 2 + 2 ^ 62 =
    loads_next (start setup.rules setup.nodes) setup.loader h.0 h.1 loaded in
    let made = makes_next client h.0 (Connect ∷ setup.profile.items) t h.2.1 in
    omega (arith, before, made, few)
