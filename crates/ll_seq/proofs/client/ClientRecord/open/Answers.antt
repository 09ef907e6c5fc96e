use Rattle.std.proofs.Common.{sym, ◌∙◌}
use Rattle.ll_seq.proofs.LowestFree.{found_free}
use Rattle.ll_seq.proofs.client.ClientRecord.open.Goals as goal

pub insert-requires : goal.insert-requires
insert-requires c = found_free c.args.self.now.descriptors c.in-Some.number (sym c.lowest_free.ensures ∙ c.in-Some.is)
