use Rattle.std.proofs.Common.{◌≡◌, ◌∙◌, ◌++◌, ◌∷◌, [], ℕ, List, sym, subst, arith, inl, inr}
use Rattle.ll_rights.specs.declared.errno.Errno.TheVariants.{BadLine, NoMemory}
use Rattle.ll_wire.specs.Grammar.{SpellsCommand}
use Rattle.ll_commands.proofs.commands.call_of.Goals as goal

pub returns-in-Err-BadLine-clause-bad : goal.returns-in-Err-BadLine-clause-bad
returns-in-Err-BadLine-clause-bad c = λ is call spells.
    let line : c.as_bytes.result.now ≡ c.args.word.now ++ 10 ∷ [] =
    c.as_bytes.ensures.value ∙ c.as_str.ensures.value ∙ c.in-Ok.ensures in
    elim c.in-Err-BadLine.ensures [
      | inl bad ↦
          bad.1 (1, call) (subst (λ (l : List ℕ). SpellsCommand l 1 call) (sym line) spells, omega arith)
      | inr starved ↦
          absurd (let both : BadLine ≡ NoMemory = sym c.in-Err-BadLine.field-0-is ∙ starved.0 in cc)
    ]
