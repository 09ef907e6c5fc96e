use Rattle.std.proofs.Common.{ap, ◌∙◌, ◌++◌, List, ℕ}
use Rattle.ll_audit.specs.Saved.{saved_text}
use Rattle.ll_embed.proofs.run.saved.Goals as goal

pub returns-in-Ok-clause-text : goal.returns-in-Ok-clause-text
returns-in-Ok-clause-text c =
    c.in-Ok.ensures.ok
    ∙ ap (λ (x : List ℕ). x ++ saved_text c.args.header c.args.entries.now) c.new-text.ensures.items
