use Rattle.std.proofs.Common.{arith, inl, refl}
use Rattle.ll_wire.proofs.Lines.{no_body, too_many, line_reads}
use Rattle.ll_wire.proofs.read.read_command.Goals as goal

pub returns-in_default : goal.returns-in_default
returns-in_default c = inl (refl, λ v is. no_body _ c.in_default.ensures.none v.0 v.1 is.0)

pub returns-in_default-tokens_of : goal.returns-in_default-tokens_of
returns-in_default-tokens_of c =
    inl (
      refl,
      λ v is. too_many c.args.line.now c.in-Some.body.now c.in-Some.ensures.found
          c.in_default-tokens_of.ensures.none v.0 v.1 is.0,
    )

pub returns : goal.returns
returns c = line_reads c.args.line.now c.in-Some.body.now _ _ (omega arith) c.in-Some.ensures.found
    c.in-Some-tokens_of.ensures.found.1 c.args.clients c.command_of.ensures
