use Rattle.std.proofs.Common.{codes}
use Rattle.ll_check.specs.Styles.{junit_section, text_in}
use Rattle.ll_check.specs.declared.styles.Syntax.TheVariants.{Xml}
use Rattle.ll_check.proofs.Joins.{behind}
use Rattle.ll_check.proofs.styles.TestTexts.push_junit.Goals as goal

pub returns : goal.returns
returns c =
    let it = c.args.self.now in
    behind (codes "<testcase classname=\"") _ _ _ _ c.in_ok-push_bytes.ensures
    (behind (text_in Xml it.file.now) _ _ _ _ c.in_ok-push.ensures
    (behind (junit_section it.section.now) _ _ _ _ c.in_ok-push_junit_section.ensures
    (behind (codes "\" name=\"") _ _ _ _ c.in_ok-push_bytes-2.ensures
    (behind it.line.now _ _ _ _ c.in_ok-push_bytes-3.ensures
    (behind (codes ": ") _ _ _ _ c.in_ok-push_bytes-4.ensures
    (behind (text_in Xml it.command.now) _ _ _ _ c.in_ok-push-2.ensures c.in_ok-push_junit_end.ensures))))))
