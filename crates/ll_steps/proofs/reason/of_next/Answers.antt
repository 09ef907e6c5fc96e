use Rattle.std.specs.Prelude.{slice_index_or}
use Rattle.std.proofs.Common.{sym, ◌∙◌}
use Rattle.ll_steps.proofs.LentContents.{got_slot}
use Rattle.ll_steps.proofs.ReasonsFound.{next_blocked, next_free, next_marked}
use Rattle.ll_steps.proofs.reason.of_next.Goals as goal

pub returns-in_default : goal.returns-in_default
returns-in_default c =
    next_blocked c.args.journal.now c.requires.kept.sound c.args.client c.requires.more c.in_default.ensures.none

pub returns-in-Some-marker : goal.returns-in-Some-marker
returns-in-Some-marker c =
    next_marked c.args.journal.now c.requires.kept.sound c.args.client c.requires.more c.in-Some.to
    c.in-Some.ensures.some (slice_index_or c.args.slots.now c.in-Some.to c.index-slots-to.result)
    (got_slot c.args.journal.now c.args.slots.now c.in-Some.to c.index-slots-to.result c.requires.kept.accounts
    c.in-Some.ensures.within)
    c.in-Some-marker.other (sym c.marker.ensures ∙ c.in-Some-marker.is)

pub returns-in-None : goal.returns-in-None
returns-in-None c =
    next_free c.args.journal.now c.requires.kept.sound c.args.client c.requires.more c.in-Some.to
    c.in-Some.ensures.some (slice_index_or c.args.slots.now c.in-Some.to c.index-slots-to.result)
    (got_slot c.args.journal.now c.args.slots.now c.in-Some.to c.index-slots-to.result c.requires.kept.accounts
    c.in-Some.ensures.within)
    (sym c.marker.ensures ∙ c.in-None.is)
