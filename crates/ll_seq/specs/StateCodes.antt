-- Codes with which a tree's state can be a model's value.
use Rattle.std.specs.Prelude.{ℕ, refl}
use Rattle.std.specs.Ordering.{nat_cmp}
use Rattle.std.specs.Coded.{Coded, code_by, coded×, coded_ℕ}
use Rattle.ll_rights.specs.MapCodes.{code}
use Rattle.ll_rights.specs.Map.{Map}
use Rattle.ll_seq.specs.declared.client.ClientRecord.{ClientRecord}
use Rattle.ll_seq.specs.contracts.client.ClientRecord as client
use Rattle.ll_seq.specs.contracts.dentries.Dentry as place
use Rattle.ll_seq.specs.declared.node.Node.{Node}
use Rattle.ll_seq.specs.declared.rules.Rules.{Rules}
use Rattle.ll_seq.specs.contracts.rules.Rules as rules
use Rattle.ll_seq.specs.contracts.node.Node as node
use Rattle.ll_seq.specs.State.{dentry_cmp, State}

abbrev pub coded_entries : Coded (Map dentry_cmp ℕ)
coded_entries = code (place.the_row).coded coded_ℕ

abbrev pub coded_nodes : Coded (Map nat_cmp Node)
coded_nodes = code coded_ℕ (node.the_row).coded

abbrev pub coded_rules : Coded Rules
coded_rules = (rules.the_row).coded

abbrev pub coded_clients : Coded (Map nat_cmp ClientRecord)
coded_clients = code coded_ℕ (client.the_row).coded

abbrev pub coded_state : Coded State
coded_state =
    code_by (Map dentry_cmp ℕ × (Map nat_cmp Node × (ℕ × (ℕ × (Rules × Map nat_cmp ClientRecord)))))
    (coded× coded_entries (coded× coded_nodes (coded× coded_ℕ (coded× coded_ℕ (coded× coded_rules coded_clients)))))
    (λ s. (s.entries, (s.nodes, (s.next, (s.room, (s.rules, s.clients))))))
    (λ p. record {
      entries = p.0;
      nodes = p.1.0;
      next = p.1.1.0;
      room = p.1.1.1.0;
      rules = p.1.1.1.1.0;
      clients = p.1.1.1.1.1;
    }) (λ _. refl)
