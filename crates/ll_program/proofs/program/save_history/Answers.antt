use Rattle.std.proofs.Common.{List, Option, subst, sym, ℕ}
use Rattle.std.specs.Io.KnownBytes.{Appends}
use Rattle.ll_seq.specs.declared.reply.Entry.{Entry}
use Rattle.ll_audit.specs.Saved.{saved_text}
use Rattle.ll_program.proofs.program.save_history.Goals as goal

pub returns-in-Ok-clause-saved : goal.returns-in-Ok-clause-saved
returns-in-Ok-clause-saved g c =
    subst (λ (told : Option (List ℕ)). Appends (g.F.Destination.blank c.args.file.now) told
    (saved_text c.args.header c.args.run.history.entries)) (sym c.remove_record.ensures)
    (subst (λ (es : List Entry). Appends (g.F.Destination.blank c.args.file.now)
    (g.F.Destination.contents c.save_in.new.destination)
    (saved_text c.args.header es)) c.entries.ensures.entries c.in-Ok.ensures.ok)
