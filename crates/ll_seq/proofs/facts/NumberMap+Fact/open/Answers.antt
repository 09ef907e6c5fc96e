use Rattle.std.proofs.Common.{ap, sym, subst, ◌∙◌}
use Rattle.ll_rights.specs.Map.{has}
use Rattle.ll_seq.specs.Facts.{has_room}
use Rattle.ll_seq.proofs.FactsKept.{Steps}
use Rattle.ll_seq.proofs.OpensKept.{more_opens, kept_open}
use Rattle.ll_seq.proofs.facts.NumberMap+Fact.open.Goals as goal

pub returns : goal.returns
returns c s client holder fd d kept there free inode node =
    kept_open s c.args.self.now c.add_open.new.self client holder kept there fd d
    (subst (λ i. Steps c.args.self.now c.add_open.new.self (λ q x. more_opens i q x)) (sym inode) c.add_open.ensures)
    free (ap (has s.nodes) inode ∙ node) (ap (has_room c.args.self.now) inode ∙ c.requires)
