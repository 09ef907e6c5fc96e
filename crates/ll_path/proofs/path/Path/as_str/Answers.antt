use Rattle.std.proofs.Common.{ap, sym, ◌∙◌}
use Rattle.ll_path.specs.Path.{path_text}
use Rattle.ll_path.proofs.PathLemmas.{path_text-path_of_text}
use Rattle.ll_path.proofs.path.Path.as_str.Goals as goal

pub returns-clause-text : goal.returns-clause-text
returns-clause-text c = c.as_str.ensures.text ∙ sym (path_text-path_of_text _ c.self.invariant)
    ∙ ap path_text c.self.view_is
