use Rattle.std.proofs.Common.{◌≡◌, ◌++◌, ◌∙◌, [], append-nil, ap, codes, map, sym}
use Rattle.std.specs.Prelude.{flat_map}
use Rattle.std.specs.List.{enumerate_from}
use Rattle.toml.specs.View.{table_view}
use Rattle.ll_policy.specs.KeptCalls.{named_in}
use Rattle.ll_policy.specs.Faults.{top_faults}
use Rattle.ll_policy.specs.Places.{at, document, in_node, in_profile, placed}
use Rattle.ll_policy.specs.Table.{named_tables_at, tables_at}
use Rattle.ll_policy.proofs.PlacedAll.{alone_are}
use Rattle.ll_policy.proofs.document.policy_faults.Goals.{in-Some+in_ok-note_profiles, in_default}
use Rattle.ll_policy.proofs.document.policy_faults.Goals as goal

pub returns-clause-places : goal.returns-clause-places
returns-clause-places c =
    let t = table_view c.args.table.now in
    let top : map placed c.note_top.new.found.items ≡ at document (top_faults t) =
    c.in_ok-note_top.ensures ∙ ap (λ items. map placed items ++ at document (top_faults t)) c.new-found.ensures.items in
    let nodes : map placed c.note_nodes.new.found.items
    ≡ at document (top_faults t) ++ flat_map in_node (enumerate_from 1 (tables_at (codes "node") t)) =
    c.in_ok-note_nodes.ensures
    ∙ (λ i. top i ++ flat_map in_node (enumerate_from 1 (c.array_at.ensures i))) in
    elim c.match-named_at.branch [
      | in-Some+in_ok-note_profiles w ↦ (
          let names = ap named_in (sym w.in-Some.is) ∙ c.named_at.ensures in
          ap (λ vec. map placed vec.items) w.found-is ∙ w.in_ok-note_profiles.ensures
          ∙ (λ i. nodes i ++ flat_map in_profile (names i)))
      | in_default w ↦ (
          let names : [] ≡ named_tables_at (codes "profile") t = ap named_in (sym w.in_default.is) ∙ c.named_at.ensures
          in
          ap (λ vec. map placed vec.items) w.found-is ∙ nodes
          ∙ sym (append-nil (at document (top_faults t)
          ++ flat_map in_node (enumerate_from 1 (tables_at (codes "node") t))))
          ∙ ap (λ named. (at document (top_faults t)
          ++ flat_map in_node (enumerate_from 1 (tables_at (codes "node") t))) ++ flat_map in_profile named) names)
    ]

pub returns-clause-faults : goal.returns-clause-faults
returns-clause-faults c =
    alone_are c.match-named_at.found.items (table_view c.args.table.now) (returns-clause-places c)
