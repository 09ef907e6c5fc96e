use Rattle.std.proofs.Common.{List, ℕ, ap, inl, inr, map, subst, ◌∙◌, string_bytes}
use Rattle.std.specs.Borrow.{Bor}
use Rattle.std.proofs.lemmas.Result.{IfErr-weaker, IfOk-weaker}
use Rattle.ll_program.specs.Rights.{rights_in}
use Rattle.ll_commands.specs.Profiles.{AreTables, StopsAt}
use Rattle.ll_commands.proofs.profiles.tables_by.Goals as goal

pub returns-in-Ok-clause-tables : goal.returns-in-Ok-clause-tables
returns-in-Ok-clause-tables g c =
    let read = c.args.read.now in
    let names = ap (map (λ (p : Bor (List ℕ)). p.now)) c.as_slice.ensures.value ∙ c.in-Ok.ensures in
    IfOk-weaker c.tables_of.result _ _ (λ text are. (
      c.requires.right,
      (
        read.policy,
        c.requires.plan,
        subst (λ (ps : List (List ℕ)). AreTables (rights_in c.args.options.now) read.text.now ps
            (string_bytes text)) names are,
      ),
    )) c.tables_of.ensures.tables

pub returns-in-Ok-clause-failure : goal.returns-in-Ok-clause-failure
returns-in-Ok-clause-failure g c =
    let read = c.args.read.now in
    let names = ap (map (λ (p : Bor (List ℕ)). p.now)) c.as_slice.ensures.value ∙ c.in-Ok.ensures in
    IfErr-weaker c.tables_of.result _ _ (λ failure stops. inr (inr (
      read.policy,
      c.requires.plan,
      subst (λ (ps : List (List ℕ)). StopsAt (rights_in c.args.options.now) read.text.now ps failure) names stops,
    ))) c.tables_of.ensures.failure

pub returns-in-Err-clause-failure : goal.returns-in-Err-clause-failure
returns-in-Err-clause-failure g c = inr (inl (λ tree. tt))
