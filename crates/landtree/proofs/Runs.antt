-- How runs end.
use Rattle.std.proofs.Common.{◌≡◌, ◌∙◌, ℕ, true, List, Option, None, Some, Bor, Result, Ok, Err, refl, subst, ap, inr}
use Rattle.std.specs.Prelude.{IfErr, IfOk, IfSome, OnOk, is_some, option_map, unwrap_or}
use Rattle.ll_program.specs.Options.{RunOrder, ServeOrder}
use Rattle.ll_program.specs.Policy.{EndsRun, IsRun, MayFail}
use Rattle.ll_program.specs.Failure.{IsOfBeginning}
use Rattle.ll_program.specs.Sources.{named, text_in}
use Rattle.ll_program.specs.declared.conclusion.Conclusion.{Conclusion}
use Rattle.ll_program.specs.declared.failure.Failure.{Failure}
use Rattle.ll_program.specs.declared.failure.Failure.TheVariants.{File}
use Rattle.ll_program.specs.declared.program.Ran.{Ran}
use Rattle.ll_commands.specs.Service as serving
use Rattle.ll_commands.specs.Service.{EndsServe, IsDone}
use Rattle.landtree.proofs.TextsTold.{ended}

-- What is read of the policy's file is its text, if one is named
pub policy_text : (texts : Option (List ℕ) → Option (List ℕ)) (policy : Option (Bor (List ℕ)))
    (word otherwise : Bor (List ℕ)) (left : Option (List ℕ)) (text : List ℕ)
    → word ≡ unwrap_or policy otherwise → left ≡ texts (Some word.now)
    → IfSome left (λ told. text ≡ told)
    → IfSome (text_in texts (option_map (λ (t : Bor (List ℕ)). t.now) policy)) (λ told. text ≡ told)
policy_text texts None word otherwise left text is read told = tt
policy_text texts (Some w) word otherwise left text is read told =
    subst (λ o. IfSome o (λ known. text ≡ known)) (read ∙ ap (λ (v : Bor (List ℕ)). texts (Some v.now)) is) told

-- a file that is to be written is named
pub clashed : (file : Option (Bor (List ℕ))) → is_some file ≡ true
    → IsOfBeginning (option_map (λ (t : Bor (List ℕ)). t.now) file) File
clashed None named = absurd cc
clashed (Some name) named = refl

-- what a run leaves is something
pub run_packed : (order : RunOrder) (r : Result Ran Failure)
    (left script script' out out' blank file file' : Option (List ℕ))
    → IfOk r (λ ran. (text : List ℕ) × IfSome left (λ told. text ≡ told)
    × IsRun order text ran.conclusion script script' out out' blank file file')
    → IfOk r (λ ran. (text : List ℕ) × (s b f f' : Option (List ℕ)) × IfSome left (λ told. text ≡ told)
    × IsRun order text ran.conclusion script s out out' b f f')
run_packed order (Ok ran) left script script' out out' blank file file' done =
    (done.0, script', blank, file, file', done.1, done.2)
run_packed order (Err failure) left script script' out out' blank file file' done = tt

pub failure_packed : (order : RunOrder) (r : Result Ran Failure)
    (left script script' out out' : Option (List ℕ))
    → IfErr r (λ failure. (text : List ℕ) × IfSome left (λ told. text ≡ told)
    × MayFail order text script script' out out' failure)
    → IfErr r (λ failure. (text : List ℕ) × (s : Option (List ℕ)) × IfSome left (λ told. text ≡ told)
    × MayFail order text script s out out' failure)
failure_packed order (Ok ran) left script script' out out' fails = tt
failure_packed order (Err failure) left script script' out out' fails = (fails.0, script', fails.1, fails.2)

-- how the program ends by it
abbrev pub ended_by : Result Ran Failure → Result Conclusion Failure
ended_by (Ok ran) = Ok ran.conclusion
ended_by (Err failure) = Err failure

module _ (texts : Option (List ℕ) → Option (List ℕ)) where
  pub ends_run : (order : RunOrder) (r : Result Ran Failure) (left script out out' : Option (List ℕ))
      → script ≡ texts (named order.script)
      → ((text : List ℕ) → IfSome left (λ told. text ≡ told)
      → IfSome (text_in texts order.policy) (λ told. text ≡ told))
      → IfOk r (λ ran. (text : List ℕ) × (s b f f' : Option (List ℕ)) × IfSome left (λ told. text ≡ told)
      × IsRun order text ran.conclusion script s out out' b f f')
      → IfErr r (λ failure. (text : List ℕ) × (s : Option (List ℕ)) × IfSome left (λ told. text ≡ told)
      × MayFail order text script s out out' failure)
      → EndsRun texts order out out' (ended_by r)
  ends_run order (Ok ran) left script out out' is known (text, s, b, f, f', told, done) fails =
      let run = subst (λ (x : Option (List ℕ)). IsRun order text ran.conclusion x s out out' b f f') is done in
      (text, s, b, f, f', known text told, run)
  ends_run order (Err failure) left script out out' is known done (text, s, told, why) =
      let may = subst (λ (x : Option (List ℕ)). MayFail order text x s out out' failure) is why in
      inr (text, s, known text told, may)

  -- a serve that served streams, or failed, over some file
  pub ends_serve : {A : Type 0} (order : ServeOrder) (r : Result A Failure) (out out' : Option (List ℕ))
      → OnOk r ((text : List ℕ) × (b f f' : Option (List ℕ)) × IfSome (text_in texts order.policy) (λ told. text ≡ told)
      × IsDone order text out out' b f f')
      → IfErr r (λ failure. (text : List ℕ) × (f f' : Option (List ℕ))
      × IfSome (text_in texts order.policy) (λ told. text ≡ told) × serving.MayFail order text out out' f f' failure)
      → EndsServe texts order out out' (ended r)
  ends_serve order (Ok it) out out' done fails = done
  ends_serve order (Err failure) out out' done fails = inr fails
