use Rattle.ll_program.specs.Options.{learn_in}
use Rattle.ll_commands.proofs.Lessons.{told_in_part, told_many, told_nothing}
use Rattle.ll_commands.proofs.learn.tell_learned.Goals as goal

pub returns-in-Err-clause-told : goal.returns-in-Err-clause-told
returns-in-Err-clause-told g c = λ text.
    told_in_part (learn_in c.args.options.now) text c.args.learned.now c.in-Profile.text c.as_str.result.now
    (g.W.Write.contents c.args.out.now) (g.W.Write.contents c.write_text.new.out) c.in-Err.failure c.in-Profile.is
    c.as_str.ensures.value c.in-Err.ensures.failure

pub returns-in-Many-clause-told : goal.returns-in-Many-clause-told
returns-in-Many-clause-told g c = λ text.
    told_many (learn_in c.args.options.now) text c.args.learned.now c.in-Many.rules
    (g.W.Write.contents c.args.out.now) c.refused-in-Many.result c.in-Many.is c.refused-in-Many.ensures

pub returns-in-Nothing-clause-told : goal.returns-in-Nothing-clause-told
returns-in-Nothing-clause-told g c = λ text.
    told_nothing (learn_in c.args.options.now) text c.args.learned.now c.in-Nothing.fault
    (g.W.Write.contents c.args.out.now) c.end_without.result c.refused-in-Nothing.result c.in-Nothing.is
    c.end_without.ensures c.refused-in-Nothing.ensures
