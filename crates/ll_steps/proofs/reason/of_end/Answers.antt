use Rattle.std.specs.Prelude.{slice_index_or}
use Rattle.std.proofs.Common.{sym, ◌∙◌}
use Rattle.ll_steps.proofs.LentContents.{got_slot}
use Rattle.ll_steps.proofs.NamesMarked.{way_marked, way_unmarked}
use Rattle.ll_steps.proofs.ReasonsFound.{commit_free}
use Rattle.ll_steps.proofs.reason.of_end.Goals as goal

pub returns-in_default : goal.returns-in_default
returns-in_default c =
    commit_free c.args.journal.now.world c.args.client c.requires.ended c.in_default.ensures.none

pub returns : goal.returns
returns c =
    way_marked c.args.journal.now c.requires.kept.sound c.args.client c.in-Some.way
    c.in-Some.ensures.some (slice_index_or c.args.slots.now c.in-Some.way c.index-slots-way.result)
    (got_slot c.args.journal.now c.args.slots.now c.in-Some.way c.index-slots-way.result c.requires.kept.accounts
    c.in-Some.ensures.within)
    c.in-Some-marker.other (sym c.marker.ensures ∙ c.in-Some-marker.is)

pub unreachable-requires : goal.unreachable-requires
unreachable-requires c =
    way_unmarked c.args.journal.now c.requires.kept.sound c.args.client c.in-Some.way
    c.in-Some.ensures.some (slice_index_or c.args.slots.now c.in-Some.way c.index-slots-way.result)
    (got_slot c.args.journal.now c.args.slots.now c.in-Some.way c.index-slots-way.result c.requires.kept.accounts
    c.in-Some.ensures.within)
    (sym c.marker.ensures ∙ c.in-None.is)
