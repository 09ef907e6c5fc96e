use Rattle.std.proofs.Common.{map, codes}
use Rattle.toml.specs.View.{table_view}
use Rattle.ll_policy.specs.Places.{rule, placed}
use Rattle.ll_policy.proofs.Noted.{check_found, found_more, on_ok, read_found}
use Rattle.ll_policy.proofs.OwnFaults as own
use Rattle.ll_policy.proofs.document.note_rule.Goals as goal

pub returns : goal.returns
returns c =
    let t = table_view c.args.table.now in
    let site = rule c.args.layer.profile.now c.args.layer.number c.args.number in
    let old = map placed c.args.found.now.items in
    let paths = found_more site old (map placed c.note_others.new.found.items) (map placed c.note.new.found.items)
    (own.rule_keys t) (own.path t) c.err.result c.in_ok-note_others.ensures c.in_ok-note.ensures.noted
    (read_found (own.path t) _ c.path.result c.err.result (own.path_few t) c.path.ensures c.err.ensures.value
    c.in_ok-note.ensures.memory) in
    on_ok c.note-2.result c.note-2.ensures.noted (λ noted. found_more site old (map placed c.note.new.found.items)
    (map placed c.note-2.new.found.items) _ (own.rights (codes "rights") t) c.err-2.result paths noted
    (check_found (own.rights (codes "rights") t) _ c.rights.result c.err-2.result (own.rights_few (codes "rights") t)
    c.rights.ensures c.err-2.ensures.value))
