use Rattle.ll_commands.proofs.Performed.{pictured}
use Rattle.ll_commands.proofs.schedules.schedule_drawn.Goals as goal

pub returns-in-Ok-clause-drawn : goal.returns-in-Ok-clause-drawn
returns-in-Ok-clause-drawn g c =
    pictured c.draw_in-saved.result (g.R.Read.remaining c.args.file.now) (g.D.Destination.blank c.args.destination.now)
    (g.D.Destination.contents c.draw_in-saved.new.destination) c.args.film.window c.in-Ok.made.witness.window
    c.in-Ok.made.halt c.args.film.lines c.in-Ok.made.witness.lines c.requires.new c.in-Ok.ensures.goes
    c.in-Ok.ensures.seen c.draw_in-saved.ensures.drawn
