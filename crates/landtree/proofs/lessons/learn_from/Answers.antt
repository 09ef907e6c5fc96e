use Rattle.std.proofs.Common.{◌≡◌, Err, rules}
use Rattle.ll_program.specs.Options.{learn_in}
use Rattle.ll_commands.proofs.Rows.{left}
use Rattle.landtree.proofs.Taught.{lacking}
use Rattle.landtree.proofs.lessons.learn_from.Goals as goal

pub returns-in_err-learned : goal.returns-in_err-learned
returns-in_err-learned g c =
    let same : c.from_residual.result ≡ Err c.in_err-learned.field-0.0 = search rules in
    rw same (let t = left (g.R.Read.remaining c.args.file.now) in
    (t.0, t.1, lacking (learn_in c.args.options.now) t.0 c.in_err-learned.field-0.0 c.in_err-learned.ensures.failure _))

pub returns : goal.returns
returns g c =
    let is = c.in_ok-learned.ensures.learned in (is.0, is.1, c.tell_learned.ensures.told is.0 is.2)
