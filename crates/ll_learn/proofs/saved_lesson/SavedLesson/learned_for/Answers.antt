use Rattle.std.proofs.Common.{ℕ, List, subst}
use Rattle.std.specs.Prelude.{IfOk}
use Rattle.ll_seq.specs.declared.reply.Entry.{Entry}
use Rattle.ll_learn.specs.SavedLesson.{IsLearnedBy, Teaches}
use Rattle.ll_learn.proofs.SavedLessons.{taught}
use Rattle.ll_learn.proofs.saved_lesson.SavedLesson.learned_for.Goals as goal

pub returns-in-Ok : goal.returns-in-Ok
returns-in-Ok c =
    let lesson = c.args.self.now in
    let header = c.args.saved.now.header in
    let aim = c.args.aim.now in
    subst (λ (es : List Entry). IfOk c.told.result (λ learned. (text : List ℕ) → Teaches lesson text header es aim
    → IsLearnedBy lesson text learned)) c.as_slice-entries.ensures.value
    (taught lesson header c.as_slice-entries.result.now aim c.in-Some.cut c.in-Ok.profile c.in-Some.ensures.some.0
    c.in-Ok.ensures.learned c.told.result c.told.ensures)
