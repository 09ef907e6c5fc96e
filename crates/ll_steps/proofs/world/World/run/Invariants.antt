use Rattle.std.proofs.Common.{◌≡◌, List, length, take, vec_len, vec_capacity}
use Rattle.ll_seq.specs.declared.reply.Entry.{Entry}
use Rattle.ll_steps.specs.Headline.{Grows, Runs}
use Rattle.ll_steps.proofs.world.World.run.Given as goal

abbrev pub invariant-loop-step : goal.invariant-loop-step
invariant-loop-step l = record {
  room : vec_capacity l.outcomes ≡ length l.fn.steps.items;
  count : vec_len l.outcomes ≡ length l.yielded;
  ran : (added : List Entry) × Runs l.fn.self (take (length l.yielded) l.fn.steps.items) l.outcomes.items added l.self
      × Grows l.fn.self l.self added;
}
