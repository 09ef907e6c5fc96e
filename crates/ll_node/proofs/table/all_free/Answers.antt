use Rattle.std.proofs.Common.{◌+◌, [], ◌∷◌, ◌++◌, ap, ◌∙◌, sym, subst, arith}
use Rattle.std.specs.Prelude.{◌≡◌, ◌<◌}
use Rattle.std.specs.List.{range_with_len}
use Rattle.ll_node.proofs.NewTables.{one_more}
use Rattle.ll_node.proofs.table.all_free.Goals as goal

pub loop-slot-preserved : goal.loop-slot-preserved
loop-slot-preserved c =
    let before = c.loop-slot.invariant in
    let next : c.loop-slot.slot + 1 ≡ 1 + c.loop-slot.slot = omega arith in
    record {
      items = c.push_reserved.ensures.items ∙ ap (λ ns. ns ++ (c.loop-slot.slot + 1) ∷ []) before.items
          ∙ ap (λ n. range_with_len 1 c.loop-slot.slot ++ n ∷ []) next ∙ sym (one_more 1 c.loop-slot.slot);
      len = c.push_reserved.ensures.len ∙ ap (λ n. n + 1) before.len;
      room = subst (λ n. c.args.others < n) (sym c.push_reserved.ensures.capacity) before.room;
    }
