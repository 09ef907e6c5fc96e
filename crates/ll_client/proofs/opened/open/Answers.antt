use Rattle.std.proofs.Common.{length, ap, sym, ◌∙◌}
use Rattle.std.proofs.lemmas.List.FromFn.{length-map-range_with_len}
use Rattle.ll_client.specs.CallStart.{kept_at}
use Rattle.ll_client.proofs.NewDesks.{count_slots, desk_new, first_slots}
use Rattle.ll_client.proofs.opened.open.Goals as goal

pub new_slots-requires-clause-first : goal.new_slots-requires-clause-first
new_slots-requires-clause-first g c =
    first_slots c.args.rules c.args.nodes c.args.history c.in_ok-journal.journal c.in_ok-journal.ensures

pub returns-clause-count : goal.returns-clause-count
returns-clause-count g c =
    ap length c.in_ok-slots.ensures.slots
    ∙ length-map-range_with_len (kept_at c.in_ok-journal.journal) 0 (length c.in_ok-journal.journal.inodes)
    ∙ count_slots c.args.rules c.args.nodes c.args.history c.in_ok-journal.journal c.in_ok-journal.ensures
    c.requires.some ∙ sym c.requires.slots

pub invariant_of-desk : goal.invariant_of-desk
invariant_of-desk g c =
    desk_new g.N.Shape.slots g.N.Shape.limit g.N.Shape.rules c.args.rules c.args.nodes c.args.history
    c.in_ok-journal.journal c.new_slots.new.keeper c.in_ok-journal.ensures c.requires.some c.requires.most
    c.requires.slots c.requires.limit c.requires.rules c.new_slots.ensures.all
