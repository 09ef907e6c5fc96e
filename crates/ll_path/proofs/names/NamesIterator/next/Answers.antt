use Rattle.std.proofs.Common.{◌≡◌, ◌∷◌, List, ℕ, Option, Some, Bor, length, ap, sym, arith, ◌∙◌}
use Rattle.ll_path.specs.Names.{names_left}
use Rattle.ll_path.proofs.names.NamesIterator.next.Goals as goal

-- the names left, where the text is cut at its first slash
cut_so : (left more : List (List ℕ)) (rest : Option (Bor (List ℕ))) (text : Bor (List ℕ)) (name : List ℕ)
    → names_left rest ≡ left → rest ≡ Some text → names_left (Some text) ≡ name ∷ more → left ≡ name ∷ more
cut_so left more rest text name e is cut = sym e ∙ ap names_left is ∙ cut

pub returns-clause-steps : goal.returns-clause-steps
returns-clause-steps c = cut_so _ _ _ _ _ c.self.view_is c.in_ok-text.was c.cut_first.ensures

pub returns-clause-goes : goal.returns-clause-goes
returns-clause-goes c =
    let e = cut_so _ _ _ _ _ c.self.view_is c.in_ok-text.was c.cut_first.ensures in
    record { on = λ _. (tt, tt, omega (arith, ap length e)); keeps = tt; rests = λ _. tt }
