use Rattle.std.proofs.Common.{ap, sym, subst, ◌∙◌}
use Rattle.ll_rights.specs.Map.{get, has, remove}
use Rattle.ll_seq.specs.Effects.{with_node}
use Rattle.ll_seq.specs.Facts.{AreKept}
use Rattle.ll_seq.proofs.OrderedTables.{remove-insert}
use Rattle.ll_node.specs.InodeTable.{Table, IsTable}
use Rattle.ll_node.proofs.TableSteps.{made_table}
use Rattle.ll_node.proofs.table.Inodes.make.Goals as goal

pub returns-in-Err-clause-err : goal.returns-in-Err-clause-err
returns-in-Err-clause-err c =
    let t = c.self.inside in
    let places =
    c.remove.ensures ∙ ap (λ m. remove m t.next) c.in_ok-insert.ensures.ok
    ∙ remove-insert t.places t.next c.args.spare (ap (λ (t : Table). get t.places t.next) c.self.view_is
    ∙ c.requires.unplaced) in
    (λ i. record {
      facts = c.in-Err.ensures.err i;
      next = t.next;
      inodes = t.inodes.items;
      places = places i;
      free = t.free.items;
    }) ∙ c.self.view_is

pub returns-clause-table : goal.returns-clause-table
returns-clause-table c s spares place at table lent directory there new room few =
    let t = c.self.inside in
    let own = subst (IsTable s spares) (sym c.self.view_is) table in
    let rest = c.take_free.ensures.rest in
    made_table s spares _ own c.args.kind at place c.args.spare c.take_free.result c.take_free.new.self lent
    c.take_free.ensures.slot (ap (has s.nodes) directory ∙ there) few
    (subst (AreKept (with_node s c.args.kind at)) (sym (ap (λ (t : Table). t.facts) rest))
    (c.in_default.ensures.ok s at own.facts (sym own.next) directory there new room))
    (ap (λ (t : Table). t.next) rest) (ap (λ (t : Table). t.inodes) rest) (ap (λ (t : Table). t.places) rest
    ∙ c.in_ok-insert.ensures.ok)
