use Rattle.std.proofs.Common.{codes}
use Rattle.ll_check.specs.Styles.{json_section, text_in}
use Rattle.ll_check.specs.declared.styles.Syntax.TheVariants.{Json}
use Rattle.ll_check.proofs.Joins.{behind}
use Rattle.ll_check.proofs.styles.TestTexts.push_json.Goals as goal

pub returns : goal.returns
returns c =
    let it = c.args.self.now in
    behind (codes "{\"file\": \"") _ _ _ _ c.in_ok-push_bytes.ensures
    (behind (text_in Json it.file.now) _ _ _ _ c.in_ok-push.ensures
    (behind (json_section it.section.now) _ _ _ _ c.in_ok-push_json_section.ensures
    (behind (codes "\", \"line\": ") _ _ _ _ c.in_ok-push_bytes-2.ensures
    (behind it.line.now _ _ _ _ c.in_ok-push_bytes-3.ensures
    (behind (codes ", \"command\": \"") _ _ _ _ c.in_ok-push_bytes-4.ensures
    (behind (text_in Json it.command.now) _ _ _ _ c.in_ok-push-2.ensures c.in_ok-push_json_end.ensures))))))
