use Rattle.std.proofs.Common.{◌≡◌, ℕ, ◌<◌, ◌^◌}
use Rattle.std.specs.Prelude.{find, is_none}
use Rattle.std.specs.List.{range_with_len}
use Rattle.ll_rights.specs.Access.{holds}
use Rattle.ll_decide.specs.declared.demands.On.{On}
use Rattle.ll_why.specs.Places.{is_chosen, serves, set_in}
use Rattle.ll_why.proofs.places.least_sets.Given as goal

-- by the numbers so far: the rights that none of them serves, and the places of those that one does
abbrev pub invariant-loop-number : goal.invariant-loop-number
invariant-loop-number l = record {
  few : l.rest.0 < 2 ^ 15;
  known : (on : On) → set_in l.added on < 2 ^ 15;
  rest : (right : ℕ) → right < 15 → holds l.rest.0 right
      ≡ is_none (find (serves l.fn.level l.tree l.asks l.layer right) (range_with_len 0 l.number));
  added : (on : On) (right : ℕ) → right < 15 → holds (set_in l.added on) right
      ≡ is_chosen (range_with_len 0 l.number) (serves l.fn.level l.tree l.asks l.layer right) on;
}
