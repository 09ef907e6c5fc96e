use Rattle.std.proofs.Common.{codes, eqb, length}
use Rattle.ll_check.specs.Styles.{text_in}
use Rattle.ll_check.specs.declared.styles.Syntax.TheVariants.{Json}
use Rattle.ll_check.proofs.Joins.{behind, if_shown}
use Rattle.ll_check.proofs.styles.TestTexts.push_json_section.Goals as goal

pub returns : goal.returns
returns c =
    let section = c.args.self.now.section.now in
    if_shown c.is_empty.result (eqb (length section) 0) _ _ _ c.is_empty.ensures c.if-is_empty.false
    (behind (codes "\", \"section\": \"") (text_in Json section) _ _ _ c.in_ok-push_bytes.ensures
    c.in_ok-push.ensures)
