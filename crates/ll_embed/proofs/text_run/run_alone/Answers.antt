use Rattle.std.proofs.Common.{List, ℕ, ap, ◌∙◌, ◌++◌}
use Rattle.ll_seq.specs.State.{start}
use Rattle.ll_embed.proofs.TextRuns.{of_text, runs_legally}
use Rattle.ll_embed.proofs.text_run.run_alone.Goals as goal

pub are_entries-requires : goal.are_entries-requires
are_entries-requires c =
    let h = c.in-Ok.ensures.transcript in
    (start c.args.setup.rules c.args.setup.nodes, runs_legally c.args.is_strict c.args.setup _ _ _ _ _ h.1)

pub returns-in-Ok-clause-legal : goal.returns-in-Ok-clause-legal
returns-in-Ok-clause-legal c =
    let h = c.in-Ok.ensures.transcript in runs_legally c.args.is_strict c.args.setup _ _ _ _ _ h.1

pub returns-in-Ok-clause-ran : goal.returns-in-Ok-clause-ran
returns-in-Ok-clause-ran c =
    let h = c.in-Ok.ensures.transcript in
    of_text c.args.is_strict c.args.setup c.args.script.now _ h.0 _ c.in-Ok.run'.stop c.in-Ok.run'.history.entries
    (h.2 ∙ ap (λ (x : List ℕ). x ++ h.0) c.new-text.ensures.items) h.1
