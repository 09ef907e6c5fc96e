-- A code with which the table of inodes can be a model's value.
use Rattle.std.specs.Prelude.{ℕ, List, refl}
use Rattle.std.specs.Ordering.{nat_cmp}
use Rattle.std.specs.Coded.{Coded, code_by, coded×, coded_list, coded_ℕ}
use Rattle.ll_rights.specs.MapCodes.{code}
use Rattle.ll_rights.specs.Map.{Map}
use Rattle.ll_seq.specs.declared.facts.Fact.{Fact}
use Rattle.ll_seq.specs.contracts.facts.Fact as fact
use Rattle.ll_node.specs.InodeTable.{Table}

abbrev pub coded_table : Coded Table
coded_table =
    code_by (Map nat_cmp Fact × (ℕ × (List ℕ × (Map nat_cmp ℕ × List ℕ))))
    (coded× (code coded_ℕ (fact.the_row).coded) (coded× coded_ℕ (coded× (coded_list coded_ℕ)
    (coded× (code coded_ℕ coded_ℕ) (coded_list coded_ℕ)))))
    (λ t. (t.facts, (t.next, (t.inodes, (t.places, t.free)))))
    (λ p. record { facts = p.0; next = p.1.0; inodes = p.1.1.0; places = p.1.1.1.0; free = p.1.1.1.1 }) (λ _. refl)
