use Rattle.std.proofs.Common.{ap, map, codes, ◌++◌, ◌∙◌}
use Rattle.std.specs.Prelude.{flat_map}
use Rattle.std.specs.List.{enumerate_from}
use Rattle.toml.specs.View.{table_view}
use Rattle.ll_policy.specs.Places.{at, in_layer, profile, placed}
use Rattle.ll_policy.proofs.Noted.{check_found, found_more, on_ok, one_more, tables_more}
use Rattle.ll_policy.proofs.OwnFaults as own
use Rattle.ll_policy.proofs.document.note_profile.Goals as goal

pub returns : goal.returns
returns c =
    let t = table_view c.args.table.now in
    let name = c.args.name.now in
    let site = profile name in
    let old = map placed c.args.found.now.items in
    let named = c.in_ok-note.ensures.noted ∙ ap (λ faults. old ++ at site faults) c.name_fault.ensures in
    let keys = one_more site old (map placed c.note.new.found.items) (map placed c.note_others.new.found.items)
    (own.name name) (own.profile_keys t) named c.in_ok-note_others.ensures in
    let layers = found_more site old (map placed c.note_others.new.found.items) (map placed c.note-2.new.found.items)
    _ (own.tables (codes "layer") t) c.err.result keys c.in_ok-note-2.ensures.noted
    (check_found (own.tables (codes "layer") t) _ c.tables.result c.err.result (own.tables_few (codes "layer") t)
    c.tables.ensures c.err.ensures.value) in
    on_ok c.note_layers.result c.note_layers.ensures (λ noted. tables_more site old
    (map placed c.note-2.new.found.items) (map placed c.note_layers.new.found.items) _ _ _ layers noted
    (ap (λ ts. flat_map (in_layer name) (enumerate_from 1 ts)) c.array_at.ensures))
