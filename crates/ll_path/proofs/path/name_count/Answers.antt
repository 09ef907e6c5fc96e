use Rattle.std.proofs.Common.{◌==◌, ◌+◌, ℕ, ap, sym, length, ◌∙◌}
use Rattle.std.specs.List.{count_by}
use Rattle.std.proofs.lemmas.List.Splits.{length-slice_split}
use Rattle.ll_path.proofs.PathLemmas.{path_of_text-cut}
use Rattle.ll_path.proofs.path.name_count.Goals as goal

pub returns-else-is_empty : goal.returns-else-is_empty
returns-else-is_empty c =
    ap (λ (n : ℕ). n + 1) (c.slash_count.ensures.count
    ∙ ap (count_by (λ b. b == 47)) c.as_bytes.ensures.value)
    ∙ sym (length-slice_split (λ b. b == 47) c.args.rest.now)
    ∙ ap length (sym (path_of_text-cut c.args.rest.now (sym c.is_empty.ensures ∙ c.if-is_empty.false)))
