use Rattle.std.proofs.Common.{◌≡◌, ◌≤◌, length, take, vec_capacity}
use Rattle.ll_seq.proofs.listing.Listing.copy.Given as goal

-- the names so far, with room for the others
abbrev pub invariant-loop-name : goal.invariant-loop-name
invariant-loop-name l = record {
  same : l.names.items ≡ take l.name-index l.name-items;
  room : length l.name-items ≤ vec_capacity l.names;
}
