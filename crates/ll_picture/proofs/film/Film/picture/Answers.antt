use Rattle.std.proofs.Common.{◌≡◌, ◌∙◌, ℕ, IfOk, ap, length, string_bytes, subst}
use Rattle.ll_picture.specs.Pictures.{IsPicture}
use Rattle.ll_picture.proofs.Drawn.{all_drawn}
use Rattle.ll_picture.proofs.film.Film.picture.Goals as goal

pub returns-clause-all : goal.returns-clause-all
returns-clause-all c from to =
    let film = c.args.self.now in
    let count : length c.as_slice.result.now ≡ film.lines =
    ap length c.as_slice.ensures.value ∙ film.counted c.if-self.false
    ∙ all_drawn film.window from to film.lines in
    subst (λ (n : ℕ). IfOk c.picture_of.result (λ text. IsPicture n (string_bytes text))) count c.picture_of.ensures
