use Rattle.std.proofs.Common.{◌∙◌, sym, ap, map, option_map, Option}
use Rattle.ll_program.specs.Options.{Order, ordered_in, ordered_of}
use Rattle.ll_program.specs.declared.options.Options.{Options}
use Rattle.ll_program.proofs.Ordered.{never_none}
use Rattle.ll_program.proofs.options.Options.read.Goals as goal

abbrev fields : Option Options → Option Order
fields = option_map ordered_in

pub unreachable-requires : goal.unreachable-requires
unreachable-requires c =
    never_none (map (λ w. w.now) c.args.words.now) c.in-Ok.ensures.fault
    (sym (ap ordered_of c.in-Ok.ensures.rows) ∙ sym c.in-Ok-None.ensures ∙ ap fields c.in-Ok-None.field-0-is)
