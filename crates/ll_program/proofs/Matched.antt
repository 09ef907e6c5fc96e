-- What clap gives for words.
use Rattle.std.proofs.Common.{◌≡◌, true, List, [], refl, sym, ap, ◌∙◌}
use Rattle.clap.specs.Words.{App, Text, fault_of, is_simple, is_simple_and_free}
use Rattle.clap.proofs.OnLiterals.{clap_on_literals}
use Rattle.ll_program.specs.Options.{landtree}

free : is_simple_and_free landtree ≡ true
unfolding clap_on_literals
free = refl

pub command_free : (command : App) → command ≡ landtree → is_simple_and_free command ≡ true
command_free command e = ap is_simple_and_free e ∙ free

simple : is_simple landtree ≡ true
unfolding clap_on_literals
simple = refl

pub command_simple : (command : App) → command ≡ landtree → is_simple command ≡ true
command_simple command e = ap is_simple e ∙ simple

pub no_fault : (command : App) (words : List Text) → command ≡ landtree → fault_of command words ≡ []
    → fault_of landtree words ≡ []
no_fault command words e f = ap (λ (a : App). fault_of a words) (sym e) ∙ f
