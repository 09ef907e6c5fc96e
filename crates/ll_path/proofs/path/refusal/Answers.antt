use Rattle.std.proofs.Common.{◌≡◌, nat_lt, length, false, None, refl, lit<, arith}
use Rattle.std.proofs.lemmas.Bool.Decides.{nat_tests}
use Rattle.std.proofs.lemmas.Str.Pattern.{strip_prefix_char}
use Rattle.ll_path.proofs.PathLemmas.{starts_elsewhere}
use Rattle.ll_path.proofs.path.refusal.Goals as goal

pub returns-in_default : goal.returns-in_default
returns-in_default c =
    let text = c.args.text.now in
    let fits : nat_lt 4095 (length text) ≡ false = grind (arith, nat_tests) in
    let elsewhere = starts_elsewhere text (strip_prefix_char 47 text None c.in_default.ensures.cases (lit< tt)) in
    rw (fits, elsewhere) refl
