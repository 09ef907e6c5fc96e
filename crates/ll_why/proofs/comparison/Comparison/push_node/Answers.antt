use Rattle.std.proofs.Common.{[], sym, refl, subst, Option, string_bytes}
use Rattle.std.specs.Prelude.{false, option_to_list}
use Rattle.std.proofs.lemmas.List.{append-nil}
use Rattle.ll_path.specs.Path.{Path}
use Rattle.ll_why.specs.Difference.{AddsDifferences}
use Rattle.ll_why.proofs.PathDifferences.{or_false}
use Rattle.ll_why.proofs.TokenTexts.{on_ok}
use Rattle.ll_why.proofs.comparison.Comparison.push_node.Goals as goal

pub returns-in-Some : goal.returns-in-Some
returns-in-Some c =
    let told = c.args.told.now in
    let new = c.push_path.new.told in
    on_ok c.push_path.result _ _ c.push_path.ensures (λ more. subst (λ (o : Option Path).
    AddsDifferences c.args.self.now (option_to_list o) told.found new.found (string_bytes told.text)
    (string_bytes new.text)) c.in-Some.ensures more)

pub returns-in-None : goal.returns-in-None
returns-in-None c =
    let told = c.args.told.now in
    subst (λ (o : Option Path). AddsDifferences c.args.self.now (option_to_list o) told.found told.found
    (string_bytes told.text) (string_bytes told.text)) c.in-None.ensures
    (false, [], (refl, refl), or_false told.found, sym (append-nil (string_bytes told.text)))
