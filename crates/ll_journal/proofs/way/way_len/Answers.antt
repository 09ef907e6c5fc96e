use Rattle.std.proofs.Common.{ap, sym, ◌-◌, ◌∙◌, length}
use Rattle.ll_path.specs.Path.{parent}
use Rattle.ll_seq.specs.Found.{or_root}
use Rattle.ll_journal.proofs.Ahead.{length-parent}
use Rattle.ll_journal.proofs.way.way_len.Goals as goal

pub returns-in-Some-clause-len : goal.returns-in-Some-clause-len
returns-in-Some-clause-len c =
    c.saturating_sub.ensures ∙ ap (λ n. n - 1) c.len.ensures.len ∙ length-parent _
    ∙ ap (λ o. length (parent (or_root o))) (sym c.in-Some.is)
