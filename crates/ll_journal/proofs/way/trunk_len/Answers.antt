use Rattle.std.proofs.Common.{ap, sym, ◌∙◌, length}
use Rattle.ll_path.specs.Path.{Path, common, parent}
use Rattle.ll_seq.specs.Call.{first_of, second_of}
use Rattle.ll_journal.proofs.Ahead.{common_itself}
use Rattle.ll_journal.proofs.way.trunk_len.Goals as goal

pub returns-in-One : goal.returns-in-One
returns-in-One c =
    c.way_len.ensures.len ∙ ap (λ (p : Path). length (parent p)) c.target_path.ensures.root
    ∙ sym (ap length (common_itself _))
    ∙ ap (λ ts. length (common (parent (first_of ts)) (parent (second_of ts)))) c.in-One.ensures

pub returns-in-Two : goal.returns-in-Two
returns-in-Two c =
    c.shared_len.ensures
    ∙ (λ i. length (common (parent (c.target_path-in-Two.ensures.root i))
    (parent (c.target_path-in-Two-2.ensures.root i))))
    ∙ ap (λ ts. length (common (parent (first_of ts)) (parent (second_of ts)))) c.in-Two.ensures
