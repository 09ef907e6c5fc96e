use Rattle.std.proofs.Common.{◌∙◌, ap, ap₂, ℤ, Option, Some, arith}
use Rattle.std.proofs.lemmas.Int.{to_z_pos}
use mir.Syntax.{w64}
use Rattle.clap.specs.Words.{Rule, rule_of}
use Rattle.clap.specs.declared.builder.value_parser.ValueParser.{ValueParser}
use Rattle.ll_program.proofs.Added.{narrowed}
use Rattle.ll_program.proofs.command.numbered.Goals as goal

pub returns-clause-rule : goal.returns-clause-rule
returns-clause-rule c =
    let given = c.value_parser-2.ensures.given in
    let end = c.new.ensures.end ∙ to_z_pos w64 c.args.most (omega (arith, c.requires)) in
    let numbers = narrowed c.value_parser.result c.range.result _ _ c.args.most c.value_parser.ensures
    (ap (λ (n : ℤ). Some n) c.new.ensures.start) (ap (λ (n : ℤ). Some n) end) c.requires c.range.ensures in
    ap rule_of c.value_parser-2.ensures.others
    ∙ ap₂ (λ (rule : Rule) (parser : Option ValueParser). record rule { parser = parser }) c.valued.ensures.rule
    (given.1 ∙ ap (λ (p : ValueParser). Some p) (given.2 ∙ numbers))
