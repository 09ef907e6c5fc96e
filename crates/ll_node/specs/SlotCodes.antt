-- Codes with which a slot and a directory's names can be a model's value.
use Rattle.std.specs.Prelude.{ℕ, List, Option, refl}
use Rattle.std.specs.Coded.{Coded, code_by, coded×, coded_list, coded_option, coded_ℕ}
use Rattle.ll_rights.specs.declared.kind.Kind.{Kind}
use Rattle.ll_rights.specs.contracts.kind.Kind as kind
use Rattle.ll_rights.specs.MapCodes.{code}
use Rattle.ll_node.specs.Slot.{NameMap, Slot}

abbrev pub coded_names : Coded NameMap
coded_names = code (coded_list coded_ℕ) coded_ℕ

abbrev pub coded_slot : Coded Slot
coded_slot =
    code_by (Kind × (NameMap × (List ℕ × Option ℕ)))
    (coded× (kind.the_row).coded (coded× coded_names (coded× (coded_list coded_ℕ) (coded_option coded_ℕ))))
    (λ s. (s.kind, (s.names, (s.bytes, s.mark))))
    (λ p. record { kind = p.0; names = p.1.0; bytes = p.1.1.0; mark = p.1.1.1 }) (λ _. refl)
