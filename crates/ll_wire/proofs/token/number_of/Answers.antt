use Rattle.ll_wire.proofs.ParsedNumbers.{no_plus, one_zero, not_empty, number_is}
use Rattle.ll_wire.proofs.token.number_of.Goals as goal

pub returns-then-not-is_plain : goal.returns-then-not-is_plain
returns-then-not-is_plain c n is = c.if-not-is_plain.ensures (not_empty _ n is, no_plus _ n is, one_zero _ n is)

pub returns : goal.returns
returns c = number_is c.args.token.now c.parse.result c.ok.result c.parse.ensures.value.0 c.if-not-is_plain.ensures.1
    c.if-not-is_plain.ensures.2 c.ok.ensures.value
