use Rattle.std.proofs.Common.{◌≡◌, ◌∙◌, ◌+◌, ◌++◌, ◌∷◌, [], List, ap, arith, map, subst, sym, take}
use Rattle.std.specs.List.{AllZip}
use Rattle.std.proofs.lemmas.Grind.{common_steps}
use Rattle.std.proofs.lemmas.List.{map-append, map_more}
use Rattle.ll_seq.specs.declared.reply.Entry.{Entry}
use Rattle.ll_seq.specs.History.{Log}
use Rattle.ll_program.specs.Options.{learn_in}
use Rattle.ll_check.specs.declared.lessons.FileLessons.{FileLessons}
use Rattle.ll_check.specs.Checks.{Tests}
use Rattle.ll_check.specs.Lessons.{AreTaught, picked}
use Rattle.ll_check.proofs.Courses.{one_not_met}
use Rattle.ll_check.proofs.Told.{each_more}
use Rattle.ll_check.proofs.teacher.teach_all.Goals as goal

pub loop-file-preserved : goal.loop-file-preserved
loop-file-preserved g c =
    let order = learn_in c.args.trees.now.options.now in
    let policy = c.args.trees.now.policy.now in
    let files = c.args.files.now in
    let i = c.loop-file.file-index in
    let file = c.file-item.result in
    let front = map picked (take i files) in
    let entries : Log → List Entry = λ h. h.entries in
    let histories = c.loop-file.histories.items in
    let history = c.in-Ok-Some.history in
    let all : c.push.new.self.items ≡ histories ++ history ∷ [] = grind (arith, common_steps) in
    let taught = rw c.in-Ok-Some.field-0-is at c.in-Ok-Some.ensures.taught in
    let more : map picked (take (i + 1) files) ≡ front ++ picked file ∷ [] =
    map_more picked files i file c.loop-file-test.true
    ∙ ap (λ (f : FileLessons). front ++ picked f ∷ []) (sym c.file-item.is) in
    let behind : map entries c.push.new.self.items ≡ map entries histories ++ history.entries ∷ [] =
    ap (map entries) all ∙ map-append entries histories (history ∷ []) in
    subst (λ (x : List Tests). AllZip (AreTaught order policy) x (map entries c.push.new.self.items)) (sym more)
    (subst (λ (x : List (List Entry)). AllZip (AreTaught order policy) (front ++ picked file ∷ []) x) (sym behind)
    (each_more (AreTaught order policy) front (map entries histories) (picked file) history.entries
    c.loop-file.invariant taught))

pub returns-in-Ok-None-clause-unmet : goal.returns-in-Ok-None-clause-unmet
returns-in-Ok-None-clause-unmet g c =
    let unmet = rw c.in-Ok-None.field-0-is at c.in-Ok-None.ensures.unmet in
    one_not_met (learn_in c.args.trees.now.options.now) c.args.trees.now.policy.now c.args.files.now
    c.loop-file.file-index c.file-item.result c.loop-file-test.true c.file-item.is unmet
