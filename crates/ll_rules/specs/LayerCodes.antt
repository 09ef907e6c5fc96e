-- The code with which a layer can be a model's value.
use Rattle.std.specs.Prelude.{ℕ, refl}
use Rattle.std.specs.Ordering.{nat_cmp}
use Rattle.std.specs.Coded.{Coded, code_by, coded×, coded_ℕ}
use Rattle.ll_rights.specs.MapCodes.{code}
use Rattle.ll_rights.specs.Map.{Map}
use Rattle.ll_rules.specs.Layer.{Layer}

abbrev pub coded_layer : Coded Layer
coded_layer =
    code_by (ℕ × Map nat_cmp ℕ) (coded× coded_ℕ (code coded_ℕ coded_ℕ)) (λ l. (l.handled, l.rules))
    (λ p. record { handled = p.0; rules = p.1 }) (λ _. refl)
