use Rattle.std.proofs.Common.{◌≡◌, ◌+◌, ◌*◌, ◌<◌, ◌++◌, length, drop, map}
use Rattle.std.specs.List.{range_with_len}
use Rattle.ll_policy.specs.Calls.{write_of}
use Rattle.ll_policy.proofs.node.push_writes.Given as goal

abbrev pub invariant-loop-piece : goal.invariant-loop-piece
invariant-loop-piece l = record {
  size : l.piece-iterator.size ≡ 4096;
  rest : l.piece-iterator.rest.now ≡ drop (length l.yielded * 4096) l.bytes;
  offset : l.offset + length l.piece-iterator.rest.now ≡ length l.bytes;
  few : length l.yielded * 4096 < length l.bytes + 4096;
  calls : l.calls.items ≡ l.initial.calls.items ++ map (write_of l.bytes) (range_with_len 0 (length l.yielded));
}
