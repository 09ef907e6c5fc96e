use Rattle.std.proofs.Common.{map}
use Rattle.std.specs.Borrow.{Bor}
use Rattle.ll_check.specs.declared.check_text.Test.{Test}
use Rattle.ll_check.proofs.Courses.{met_so, refused_so, unmet_so}
use Rattle.ll_check.proofs.Judges.{replies_there}
use Rattle.ll_check.proofs.teacher.are_answered.Goals as goal

pub are_met-requires : goal.are_met-requires
are_met-requires g c = replies_there _ c.args.made.now _ _ c.in-Answered.is c.as_slice.ensures.value c.requires

pub returns-in-Answered-clause-met : goal.returns-in-Answered-clause-met
returns-in-Answered-clause-met g c = λ yes.
    met_so (map (λ (t : Bor Test). t.now) c.args.lessons.now) c.args.made.now _ c.as_slice.result.now c.in-Answered.is
    c.as_slice.ensures.value (c.are_met.ensures.met yes)

pub returns-in-Answered-clause-unmet : goal.returns-in-Answered-clause-unmet
returns-in-Answered-clause-unmet g c = λ no.
    unmet_so (map (λ (t : Bor Test). t.now) c.args.lessons.now) c.args.made.now _ c.as_slice.result.now
    c.in-Answered.is c.as_slice.ensures.value (c.are_met.ensures.unmet no)

pub returns-in-Refused-clause-unmet : goal.returns-in-Refused-clause-unmet
returns-in-Refused-clause-unmet g c = λ no.
    refused_so (map (λ (t : Bor Test). t.now) c.args.lessons.now) c.args.made.now _ c.in-Refused.is
