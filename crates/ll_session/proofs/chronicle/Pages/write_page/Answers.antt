use Rattle.std.proofs.Common.{List, ℕ, subst}
use Rattle.std.specs.Io.KnownBytes.{Appends}
use Rattle.ll_wire.specs.WriterGains.{AppendsFront}
use Rattle.ll_session.proofs.chronicle.Pages.write_page.Goals as goal

pub returns-in-Ok-clause-ok : goal.returns-in-Ok-clause-ok
returns-in-Ok-clause-ok g c whole =
    subst (λ (text : List ℕ). Appends (g.W.Write.contents c.args.self.now.writer)
    (g.W.Write.contents c.write_text.new.writer) text) c.as_str.ensures.value c.in-Ok.ensures.ok

pub returns-in-Err-clause-err : goal.returns-in-Err-clause-err
returns-in-Err-clause-err g c broken =
    subst (λ (text : List ℕ). AppendsFront (g.W.Write.contents c.args.self.now.writer)
    (g.W.Write.contents c.write_text.new.writer) text) c.as_str.ensures.value c.in-Err.ensures.err
