use Rattle.std.proofs.Common.{codes}
use Rattle.ll_check.specs.Styles.{tap_section, tap_verdict, text_in}
use Rattle.ll_check.specs.declared.styles.Syntax.TheVariants.{Tap}
use Rattle.ll_check.proofs.Joins.{behind}
use Rattle.ll_check.proofs.styles.TestTexts.push_tap.Goals as goal

pub returns : goal.returns
returns c =
    let it = c.args.self.now in
    behind (tap_verdict it.passes) _ _ _ _ c.in_ok-push_tap_verdict.ensures
    (behind (text_in Tap it.file.now) _ _ _ _ c.in_ok-push.ensures
    (behind (codes ":") _ _ _ _ c.in_ok-push_bytes.ensures
    (behind it.line.now _ _ _ _ c.in_ok-push_bytes-2.ensures
    (behind (codes ": ") _ _ _ _ c.in_ok-push_bytes-3.ensures
    (behind (tap_section it.section.now) _ _ _ _ c.in_ok-push_tap_section.ensures
    c.in_ok-push_tap_end.ensures)))))
