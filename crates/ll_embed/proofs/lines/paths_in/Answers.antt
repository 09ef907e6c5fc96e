use Rattle.std.proofs.Common.{◌≡◌, List, ap, inl, inr, map, subst, ◌∙◌, ℕ}
use Rattle.std.specs.Borrow.{Bor}
use Rattle.ll_path.specs.Path.{path_of_text}
use Rattle.ll_program.specs.Paths.{HasBadWord}
use Rattle.ll_program.specs.declared.failure.Failure.{Failure}
use Rattle.ll_program.specs.declared.failure.Failure.TheVariants.{CommandLine}
use Rattle.ll_embed.specs.Lines.{LacksPath}
use Rattle.ll_embed.proofs.Questioned.{handed_on}
use Rattle.ll_embed.proofs.lines.paths_in.Goals as goal

pub returns-in_err-lines-clause-bad : goal.returns-in_err-lines-clause-bad
returns-in_err-lines-clause-bad c =
    handed_on c.from_residual.result c.in_err-lines.field-0.0
    (λ (failure : Failure). failure ≡ CommandLine → LacksPath c.args.text.now) c.from_residual.ensures.1
    (λ told. inl (c.in_err-lines.ensures.bad told))

pub returns-in-Ok-clause-paths : goal.returns-in-Ok-clause-paths
returns-in-Ok-clause-paths c =
    c.in-Ok.ensures.paths
    ∙ ap (λ (ls : List (Bor (List ℕ))). map path_of_text (map (λ l. l.now) ls)) c.as_slice.ensures.value
    ∙ ap (map path_of_text) c.in_ok-lines.ensures.lines

pub returns-clause-bad : goal.returns-clause-bad
returns-clause-bad c told = inr (subst HasBadWord c.in_ok-lines.ensures.lines
    (subst (λ (ls : List (Bor (List ℕ))). HasBadWord (map (λ l. l.now) ls)) c.as_slice.ensures.value
    (c.in-Err.ensures.bad told)))
