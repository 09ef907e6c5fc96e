use Rattle.std.proofs.Common.{◌≡◌, ◌≢◌, ◌∷◌, ◌-◌, [], length, map, take, drop, codes, inl, refl, arith, rules}
use Rattle.std.proofs.lemmas.Grind.{common_steps}
use Rattle.ll_wire.proofs.EntryTokens.{one_is}
use Rattle.ll_wire.proofs.ScheduleTokens.{named_reads, too_late, no_name}
use Rattle.ll_wire.proofs.schedule.schedule_line_of.Goals as goal
use Rattle.ll_wire.proofs.schedule.schedule_line_of.Goals.{then-eq+else-is_empty, else-eq}

pub returns-in-Some : goal.returns-in-Some
returns-in-Some c = named_reads _ _ _ c.in-Some.client c.args.clients c.behind_name.result (grind (arith, common_steps))
    c.in-Some.ensures c.if-client-clients.true c.behind_name.ensures

pub returns-in-Some-2 : goal.returns-in-Some-2
returns-in-Some-2 c =
    let others = map (λ t. t.now) (drop 1 c.args.tokens.now) in inl (
      refl,
      too_late _ others _ c.in-Some.client c.args.clients (grind (arith, common_steps)) c.in-Some.ensures
          c.if-client-clients.false,
    )

pub returns-in-None : goal.returns-in-None
returns-in-None c =
    let none : length (take (length c.args.tokens.now - 1) (drop 1 c.args.tokens.now)) ≡ 0 = search rules in
    let one : length c.args.tokens.now ≡ 1 = grind (arith, common_steps) in (
      (
        (tt, tt),
        one_is c.args.tokens.now (record { ref_ptr = (0, 0); now = [] }) (codes "connect") one (search rules),
      ),
      tt,
    )

pub returns-in-None-2 : goal.returns-in-None-2
returns-in-None-2 c =
    let other : map (λ t. t.now) c.args.tokens.now ≢ codes "connect" ∷ [] = elim c.if-eq.branch [
      | then-eq+else-is_empty w ↦ (λ e. grind (arith, common_steps))
      | else-eq w ↦ (λ e. grind (arith, common_steps))
    ] in
    let others = map (λ t. t.now) (drop 1 c.args.tokens.now) in
    inl (refl, λ v is. no_name _ others _ (grind (arith, common_steps)) c.in-None-2.ensures other v is.0)
