use Rattle.std.proofs.Common.{ap, sym, subst, drop, ◌∙◌}
use Rattle.std.specs.List.{All, join_with_byte}
use Rattle.ll_path.specs.Name.{IsName}
use Rattle.ll_path.proofs.PathLemmas.{path_of_text-names, join-path_of_whole_text}
use Rattle.ll_path.proofs.path.Path.joined.Goals as goal

pub returns-clause-text : goal.returns-clause-text
returns-clause-text c =
    c.range_from.ensures.value ∙ ap (drop 1) c.as_str.ensures.text
    ∙ sym (join-path_of_whole_text c.self.inside.word c.self.invariant) ∙ ap (join_with_byte 47) c.self.view_is

pub returns-clause-each : goal.returns-clause-each
returns-clause-each c = subst (All IsName) c.self.view_is
    (path_of_text-names c.self.inside.word c.as_str.ensures.word.2 c.self.invariant)
