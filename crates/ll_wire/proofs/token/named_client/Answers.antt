use Rattle.std.proofs.Common.{arith, inl, inr, lit<}
use Rattle.std.proofs.lemmas.Str.Pattern.{strip_prefix_char}
use Rattle.ll_wire.proofs.NamedClients.{not_named, number_named}
use Rattle.ll_wire.proofs.NamesInOrder.{behind}
use Rattle.ll_wire.proofs.token.named_client.Goals as goal

pub returns-in_err-strip_prefix : goal.returns-in_err-strip_prefix
unfolding lib.Utf8.encode
returns-in_err-strip_prefix c = rw c.from_residual.ensures (not_named _ c.in_err-strip_prefix.ensures.cases)

pub returns-then-number-lt1 : goal.returns-then-number-lt1
returns-then-number-lt1 c v is =
    let stripped = strip_prefix_char 64 c.args.token.now c.strip_prefix.result c.strip_prefix.ensures.cases (lit< tt) in
    let starts = behind 64 _ _ _ stripped c.in_ok-strip_prefix.was in
    let same = number_named c.args.token.now _ c.in_ok-number.number v starts c.in_ok-number.ensures is in
    elim c.then-number-lt1.either [ inl low ↦ omega (arith, is.0.0) | inr high ↦ omega (arith, is.0.1) ]
