use Rattle.std.proofs.Common.{◌≡◌, ◌==◌, ◌≤◌, take}
use Rattle.std.specs.List.{count_by}
use Rattle.ll_path.proofs.path.slash_count.Given as goal

abbrev pub invariant-loop-byte : goal.invariant-loop-byte
invariant-loop-byte l = record {
  counted : l.count ≡ count_by (λ b. b == 47) (take l.byte-index l.bytes);
  most : l.count ≤ l.byte-index;
}
