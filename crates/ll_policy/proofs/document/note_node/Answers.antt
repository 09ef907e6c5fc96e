use Rattle.std.proofs.Common.{map}
use Rattle.toml.specs.View.{table_view}
use Rattle.ll_policy.specs.Places.{node, placed}
use Rattle.ll_policy.proofs.Noted.{check_found, found_more, on_ok, read_found}
use Rattle.ll_policy.proofs.OwnFaults as own
use Rattle.ll_policy.proofs.document.note_node.Goals as goal

pub returns : goal.returns
returns c =
    let t = table_view c.args.table.now in
    let site = node c.args.number in
    let old = map placed c.args.found.now.items in
    let paths = found_more site old (map placed c.note_others.new.found.items) (map placed c.note.new.found.items)
    (own.node_keys t) (own.path t) c.err.result c.in_ok-note_others.ensures c.in_ok-note.ensures.noted
    (read_found (own.path t) _ c.path.result c.err.result (own.path_few t) c.path.ensures c.err.ensures.value
    c.in_ok-note.ensures.memory) in
    let kinds = found_more site old (map placed c.note.new.found.items) (map placed c.note-2.new.found.items)
    _ (own.kind t) c.err-2.result paths c.in_ok-note-2.ensures.noted
    (check_found (own.kind t) _ c.kind.result c.err-2.result (own.kind_few t) c.kind.ensures
    c.err-2.ensures.value) in
    on_ok c.note-3.result c.note-3.ensures.noted (λ noted. found_more site old (map placed c.note-2.new.found.items)
    (map placed c.note-3.new.found.items) _ (own.bytes t) c.err-3.result kinds noted
    (check_found (own.bytes t) _ c.check_data.result c.err-3.result (own.bytes_few t) c.check_data.ensures
    c.err-3.ensures.value))
