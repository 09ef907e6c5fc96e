use Rattle.std.proofs.Common.{ap, map, codes}
use Rattle.std.specs.Prelude.{flat_map}
use Rattle.std.specs.List.{enumerate_from}
use Rattle.toml.specs.View.{table_view}
use Rattle.ll_policy.specs.Places.{in_rule, layer, placed}
use Rattle.ll_policy.proofs.Noted.{check_found, found_more, on_ok, tables_more}
use Rattle.ll_policy.proofs.OwnFaults as own
use Rattle.ll_policy.proofs.document.note_layer.Goals as goal

pub returns : goal.returns
returns c =
    let t = table_view c.args.table.now in
    let name = c.args.profile.now in
    let number = c.args.number in
    let site = layer name number in
    let old = map placed c.args.found.now.items in
    let handled = found_more site old (map placed c.note_others.new.found.items) (map placed c.note.new.found.items)
    (own.layer_keys t) (own.rights (codes "handled") t) c.err.result c.in_ok-note_others.ensures
    c.in_ok-note.ensures.noted (check_found (own.rights (codes "handled") t) _ c.rights.result c.err.result
    (own.rights_few (codes "handled") t) c.rights.ensures c.err.ensures.value) in
    let rules = found_more site old (map placed c.note.new.found.items) (map placed c.note-2.new.found.items)
    _ (own.tables (codes "rule") t) c.err-2.result handled c.in_ok-note-2.ensures.noted
    (check_found (own.tables (codes "rule") t) _ c.tables.result c.err-2.result (own.tables_few (codes "rule") t)
    c.tables.ensures c.err-2.ensures.value) in
    on_ok c.note_rules.result c.note_rules.ensures (λ noted. tables_more site old
    (map placed c.note-2.new.found.items) (map placed c.note_rules.new.found.items) _ _ _ rules noted
    (ap (λ ts. flat_map (in_rule name number) (enumerate_from 1 ts)) c.array_at.ensures))
