use Rattle.std.proofs.Common.{◌≡◌, ◌∙◌, ap, arith, length, map, sym}
use Rattle.std.specs.Borrow.{Bor}
use Rattle.std.proofs.lemmas.Bool.{false≢true}
use Rattle.std.proofs.lemmas.List.{length-map}
use Rattle.std.proofs.lemmas.List as lists
use Rattle.ll_check.specs.declared.check_text.Test.{Test}
use Rattle.ll_check.specs.Lessons.{IsLearnedFrom}
use Rattle.ll_check.proofs.Courses.{first_unmet, zip_more}
use Rattle.ll_check.proofs.teacher.are_met.Goals as goal

pub loop-i-preserved : goal.loop-i-preserved
loop-i-preserved g c =
    let now : Bor Test → Test = λ t. t.now in
    let lessons = c.args.lessons.now in
    let lesson = c.index-lessons-i.result in
    let i = c.loop-i.i in
    let long : length (map now lessons) ≡ length lessons = length-map lessons now in
    zip_more IsLearnedFrom (map now lessons) c.args.replies.now i lesson.now c.index-replies-i.result
    (omega (arith, long, c.loop-i-test.true)) (omega (arith, c.requires, c.loop-i-test.true))
    (ap now c.index-lessons-i.is ∙ sym (lists.get_or-map now lessons i lesson lesson.now c.loop-i-test.true))
    c.index-replies-i.is c.loop-i.invariant (c.is_learned_from.ensures.0 c.if-not-is_learned_from.false)

pub returns-then-not-is_learned_from-clause-unmet : goal.returns-then-not-is_learned_from-clause-unmet
returns-then-not-is_learned_from-clause-unmet g c = λ no.
    first_unmet c.args.lessons.now c.args.replies.now c.loop-i.i c.index-lessons-i.result c.index-replies-i.result
    c.loop-i-test.true (omega (arith, c.requires, c.loop-i-test.true)) c.index-lessons-i.is c.index-replies-i.is
    c.loop-i.invariant
    (λ met. false≢true (sym c.if-not-is_learned_from.true ∙ c.is_learned_from.ensures.1 met))
