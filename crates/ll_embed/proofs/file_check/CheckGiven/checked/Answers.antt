use Rattle.std.proofs.Common.{◌∙◌, ◌∷◌, [], ℕ, ap, map, refl, subst, sym}
use Rattle.std.specs.declared.alloc.Global.{Global}
use Rattle.std.specs.declared.vec.Vec.{Vec}
use Rattle.ll_program.specs.Options.{checked_in}
use Rattle.ll_check.specs.Files.{Source, source_of}
use Rattle.ll_embed.specs.CheckAnswers.{MayFailCheck, asked_in}
use Rattle.ll_embed.specs.declared.fault.Fault.{Fault}
use Rattle.ll_embed.proofs.CheckTexts.{fails, is_told}
use Rattle.ll_embed.proofs.file_check.CheckGiven.checked.Goals as goal

pub returns-in-Ok-clause-told : goal.returns-in-Ok-clause-told
returns-in-Ok-clause-told c =
    is_told (asked_in c.args.self.now) (checked_in c.in_ok-options.options) [] (map source_of c.from_ref.result.now)
    c.in-Ok.end c.new-report.result.items c.check.new.out.items c.told_of.result.items c.status_of.result
    c.in_ok-options.ensures.fits c.in_ok-options.ensures.options refl
    (ap (map source_of) c.from_ref.ensures.value ∙ ap (λ (s : Source). s ∷ []) c.in_ok-file.ensures.file)
    c.new-report.ensures.items c.in-Ok.ensures.checked c.status_of.ensures
    (λ other. ap (λ (v : Vec ℕ Global). v.items) (c.told_of.ensures other))

pub returns-clause-fault : goal.returns-clause-fault
returns-clause-fault c =
    subst (λ (fault : Fault). MayFailCheck (asked_in c.args.self.now) fault) (sym c.check_fault.ensures)
    (fails (asked_in c.args.self.now) (checked_in c.in_ok-options.options) [] (map source_of c.from_ref.result.now)
    c.in-Err.failure c.in_ok-options.ensures.fits c.in_ok-options.ensures.options refl
    (ap (map source_of) c.from_ref.ensures.value ∙ ap (λ (s : Source). s ∷ []) c.in_ok-file.ensures.file)
    c.in-Err.ensures.failure)
