use Rattle.std.proofs.Common.{◌≡◌, ◌++◌, map, codes, Bool, List, subst}
use Rattle.toml.specs.View.{table_view}
use Rattle.toml.specs.Data.{Members}
use Rattle.ll_policy.specs.declared.fault.PolicyFault.{PolicyFault}
use Rattle.ll_policy.specs.Faults.{level_faults}
use Rattle.ll_policy.specs.Places.{Site, at, document, placed}
use Rattle.ll_policy.proofs.Noted.{check_found, found_more, on_ok}
use Rattle.ll_policy.proofs.OwnFaults as own
use Rattle.ll_policy.proofs.document.note_top.Goals as goal

-- what is noted of a document that is of the second version, or isn't
abbrev AreNoted : List (Site × PolicyFault) → List (Site × PolicyFault) → Members → Bool → Type 0
AreNoted old new t two = new ≡ old ++ at document
    (own.top two t ++ own.version t ++ level_faults two t ++ own.tables (codes "node") t ++ own.profiles t)

pub returns : goal.returns
returns c =
    let t = table_view c.args.table.now in
    let two = c.is_two-two.result in
    let old = map placed c.args.found.now.items in
    let versions = found_more document old (map placed c.note_other_tops.new.found.items)
    (map placed c.note.new.found.items) (own.top two t) (own.version t) c.err.result c.in_ok-note_other_tops.ensures
    c.in_ok-note.ensures.noted (check_found (own.version t) _ c.version.result c.err.result (own.version_few t)
    c.version.ensures c.err.ensures.value) in
    let levels = found_more document old (map placed c.note.new.found.items) (map placed c.note-2.new.found.items)
    _ (level_faults two t) c.level_fault.result versions c.in_ok-note-2.ensures.noted c.level_fault.ensures in
    let nodes = found_more document old (map placed c.note-2.new.found.items) (map placed c.note-3.new.found.items)
    _ (own.tables (codes "node") t) c.err-2.result levels c.in_ok-note-3.ensures.noted
    (check_found (own.tables (codes "node") t) _ c.tables.result c.err-2.result (own.tables_few (codes "node") t)
    c.tables.ensures c.err-2.ensures.value) in
    on_ok c.note-4.result c.note-4.ensures.noted (λ noted. subst
    (AreNoted old (map placed c.note-4.new.found.items) t) c.is_two-two.ensures
    (found_more document old (map placed c.note-3.new.found.items) (map placed c.note-4.new.found.items)
    _ (own.profiles t) c.err-3.result nodes noted
    (check_found (own.profiles t) _ c.named_tables.result c.err-3.result (own.profiles_few t)
    c.named_tables.ensures c.err-3.ensures.value)))
