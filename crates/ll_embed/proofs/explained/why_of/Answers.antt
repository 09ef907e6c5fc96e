use Rattle.std.proofs.Common.{List, refl, subst, sym}
use Rattle.ll_seq.specs.declared.call.Call.{Call}
use Rattle.ll_session.specs.Session.{AreOthers}
use Rattle.ll_commands.proofs.Spelled.{no_connect, others}
use Rattle.ll_commands.specs.Why.{Follows}
use Rattle.ll_embed.specs.Questions.{LacksWhy, profile_order_in}
use Rattle.ll_embed.specs.declared.ask_fault.AskFault.{AskFault}
use Rattle.ll_embed.specs.declared.ask_fault.AskFault.TheVariants.{Tree}
use Rattle.ll_embed.specs.declared.fault.Fault.{Fault}
use Rattle.ll_embed.proofs.Questioned.{handed_on, no_command, no_why, not_opened}
use Rattle.ll_embed.proofs.explained.why_of.Goals as goal

pub told_of_setup-told-requires-clause-before : goal.told_of_setup-told-requires-clause-before
told_of_setup-told-requires-clause-before c =
    let told = c.in-Ok.ensures.calls in
    subst AreOthers (sym c.as_slice.ensures.value) (others told.0 c.in-Ok.calls.before.items told.3)

pub told_of_setup-told-requires-clause-call : goal.told_of_setup-told-requires-clause-call
told_of_setup-told-requires-clause-call c = no_connect c.in-Ok.calls.last c.in-Ok.ensures.calls.4.is_call

pub returns-in_err-setup-clause-fault : goal.returns-in_err-setup-clause-fault
returns-in_err-setup-clause-fault c =
    let o = profile_order_in c.args.given.now in
    let fault = c.in_err-setup.field-0.0 in
    handed_on c.from_residual.result fault (LacksWhy o c.args.commands.now) c.from_residual.ensures.1
    (no_why o c.args.commands.now fault c.in_err-setup.ensures.fault)

pub returns-in-Err-clause-fault : goal.returns-in-Err-clause-fault
returns-in-Err-clause-fault c =
    let o = profile_order_in c.args.given.now in
    let commands = c.args.commands.now in
    subst (LacksWhy o commands) (sym c.of_lines.ensures)
    (no_command o commands c.in-Err.failure c.in-Err.ensures.failure c.in-Err.ensures.bad)

pub returns-in-Ok-told-clause-told : goal.returns-in-Ok-told-clause-told
returns-in-Ok-told-clause-told c =
    let setup = c.in_ok-setup.setup in
    let calls = c.in-Ok.ensures.calls in
    let told = c.in-Ok-told.ensures.told in (
      calls.0,
      calls.1,
      c.in_ok-setup.ensures.asked,
      calls.2,
      record {
        setup = setup;
        client = told.0;
        opened = told.1;
        calls = c.in-Ok.calls.before.items;
        state = told.2;
        call = c.in-Ok.calls.last;
        is_setup = c.in_ok-setup.ensures.setup;
        opens = told.3;
        spell = calls.3;
        follows = subst (λ (l : List Call). Follows told.0 told.1 l told.2) c.as_slice.ensures.value told.4;
        spells = calls.4;
        is = told.5;
      },
      refl,
    )

pub returns-in-Err-told-clause-fault : goal.returns-in-Err-told-clause-fault
returns-in-Err-told-clause-fault c =
    let o = profile_order_in c.args.given.now in
    subst (λ (fault : Fault). LacksWhy o c.args.commands.now (Tree fault)) (sym c.fault_at.ensures)
    (not_opened o c.in_ok-setup.setup c.in-Err-told.failure c.in_ok-setup.ensures.setup
    c.in-Err-told.ensures.failure)
