-- What the laws say of a legal history, wherever it is cut.
use Rattle.std.proofs.Common.{◌≡◌, ℕ, List, ◌++◌, sym, subst}
use Rattle.ll_laws.specs.NoGain.{GainsNothing}
use Rattle.ll_laws.specs.Withheld.{Withholds}
use Rattle.ll_laws.proofs.Gain.{no_gain}
use Rattle.ll_laws.proofs.WithheldBytes.{bytes_are_withheld}
use Rattle.ll_seq.specs.declared.reply.Entry.{Entry}
use Rattle.ll_seq.specs.declared.rules.Rules.{Rules}
use Rattle.ll_seq.specs.History.{IsLegal}
use Rattle.ll_seq.specs.State.{start}

module _ (rules : Rules) (room : ℕ) (entries : List Entry) (legal : IsLegal (start rules room) entries) where
  pub gains_nothing : (early late : List Entry) → early ++ late ≡ entries → GainsNothing rules room early late
  gains_nothing early late whole = no_gain rules room early late (subst (IsLegal (start rules room)) (sym whole) legal)

  pub withholds : (early late : List Entry) → early ++ late ≡ entries → Withholds rules room early late
  withholds early late whole = bytes_are_withheld rules room early late
      (subst (IsLegal (start rules room)) (sym whole) legal)
