use Rattle.std.proofs.Common.{List, inl, inr, subst, sym, ◌≡◌, Err, rules}
use Rattle.ll_seq.specs.declared.call.Call.{Call}
use Rattle.ll_session.specs.Session.{AreOthers}
use Rattle.ll_commands.specs.Why.{Follows}
use Rattle.ll_commands.proofs.Spelled.{others}
use Rattle.ll_program.specs.Options.{tree_in}
use Rattle.ll_commands.proofs.Rows.{left}
use Rattle.ll_commands.proofs.Failures.{by_opening, by_word}
use Rattle.ll_commands.proofs.why.answer_of_command.Goals as goal

pub returns-in_err-calls-clause-failure : goal.returns-in_err-calls-clause-failure
returns-in_err-calls-clause-failure g c =
    let same : c.from_residual.result ≡ Err c.in_err-calls.field-0.0 = search rules in
    rw same (let t = left (g.R.Read.remaining c.args.file.now) in (
      t.0,
      t.1,
      by_word (tree_in c.args.tree.now) _ c.args.word.now t.0 c.in_err-calls.field-0.0 c.in_err-calls.ensures.failure
          (λ is. inr (c.in_err-calls.ensures.bad is)),
    ))

pub returns-in-Err-clause-failure : goal.returns-in-Err-clause-failure
returns-in-Err-clause-failure g c =
    let t = left (g.R.Read.remaining c.args.file.now) in (
      t.0,
      t.1,
      by_word (tree_in c.args.tree.now) _ c.args.word.now t.0 c.in-Err.failure
          c.in-Err.ensures.failure (λ is. inl (c.in-Err.ensures.bad is)),
    )

pub told_of_setup-told-requires-clause-before : goal.told_of_setup-told-requires-clause-before
told_of_setup-told-requires-clause-before g c =
    subst AreOthers (sym c.as_slice.ensures.value) (others _ c.in_ok-calls.calls.items c.in_ok-calls.ensures.calls)

pub returns-in-Ok-told-clause-told : goal.returns-in-Ok-told-clause-told
returns-in-Ok-told-clause-told g c =
    let s = c.in-Ok-setup_of.ensures.setup in
    let told = c.in-Ok-told.ensures.told in (
      s.0,
      s.1,
      record {
        setup = c.in-Ok-setup_of.setup;
        client = told.0;
        opened = told.1;
        calls = c.in_ok-calls.calls.items;
        state = told.2;
        call = c.in-Ok.call;
        is_setup = s.2;
        opens = told.3;
        spell = c.in_ok-calls.ensures.calls;
        follows = subst (λ (l : List Call). Follows told.0 told.1 l told.2) c.as_slice.ensures.value told.4;
        spells = c.in-Ok.ensures.call;
        is = told.5;
      },
    )

pub returns-in-Err-told-clause-failure : goal.returns-in-Err-told-clause-failure
returns-in-Err-told-clause-failure g c =
    let s = c.in-Ok-setup_of.ensures.setup in (
      s.0,
      s.1,
      by_opening (tree_in c.args.tree.now) _ c.args.word.now s.0 c.in-Ok-setup_of.setup
          c.in-Err-told.failure s.2
          c.in-Err-told.ensures.failure,
    )
