use Rattle.std.proofs.Common.{◌≡◌, ℕ, List, Option, IfErr, IfSome, Result, Ok, Err}
use Rattle.std.specs.Prelude.{OnOk}
use Rattle.ll_program.specs.Options.{ServeOrder, served_in}
use Rattle.ll_program.specs.declared.failure.Failure.{Failure}
use Rattle.ll_commands.specs.Service as serving
use Rattle.ll_commands.specs.Service.{IsDone}
use Rattle.landtree.proofs.Runs.{policy_text}
use Rattle.landtree.proofs.commands.serve_port.Goals as goal

-- of the file that a history is saved in, nothing is told
done_somewhere : {A : Type 0} (r : Result A Failure) (order : ServeOrder)
    (left told out out' blank file file' : Option (List ℕ))
    → ((text : List ℕ) → IfSome left (λ known. text ≡ known) → IfSome told (λ known. text ≡ known))
    → OnOk r ((text : List ℕ) × IfSome left (λ known. text ≡ known) × IsDone order text out out' blank file file')
    → OnOk r ((text : List ℕ) × (b f f' : Option (List ℕ)) × IfSome told (λ known. text ≡ known)
    × IsDone order text out out' b f f')
done_somewhere (Ok it) order left told out out' blank file file' same done =
    (done.0, blank, file, file', same done.0 done.1, done.2)
done_somewhere (Err failure) order left told out out' blank file file' same done = tt

fails_somewhere : {A : Type 0} (r : Result A Failure) (order : ServeOrder)
    (left told out out' file file' : Option (List ℕ))
    → ((text : List ℕ) → IfSome left (λ known. text ≡ known) → IfSome told (λ known. text ≡ known))
    → IfErr r (λ failure. (text : List ℕ) × IfSome left (λ known. text ≡ known)
    × serving.MayFail order text out out' file file' failure)
    → IfErr r (λ failure. (text : List ℕ) × (f f' : Option (List ℕ)) × IfSome told (λ known. text ≡ known)
    × serving.MayFail order text out out' f f' failure)
fails_somewhere (Ok done) order left told out out' file file' same fails = tt
fails_somewhere (Err failure) order left told out out' file file' same fails =
    (fails.0, file, file', same fails.0 fails.1, fails.2)

pub returns-clause-done : goal.returns-clause-done
returns-clause-done g c =
    done_somewhere c.serve-ended.result (served_in c.args.options.now) _ _ _ _ _ _ _
    (λ text. policy_text (g.S.Sources.texts c.args.sources.now) c.args.options.now.tree.policy c.unwrap_or.result _ _
    text
    c.unwrap_or.ensures c.source-policy.ensures.left)
    c.serve-ended.ensures.done

pub returns-clause-failure : goal.returns-clause-failure
returns-clause-failure g c =
    fails_somewhere c.serve-ended.result (served_in c.args.options.now) _ _ _ _ _ _
    (λ text. policy_text (g.S.Sources.texts c.args.sources.now) c.args.options.now.tree.policy c.unwrap_or.result _ _
    text
    c.unwrap_or.ensures c.source-policy.ensures.left)
    c.serve-ended.ensures.failure
