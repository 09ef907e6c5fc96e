use Rattle.std.proofs.Common.{◌<◌, ◌+◌, ◌-◌, ◌^◌, List, arith, length, subst}
use Rattle.ll_seq.specs.declared.call.Call.{Call}
use Rattle.ll_commands.proofs.Numbers.{opens_next}
use Rattle.ll_commands.proofs.commands.told_of_setup.Goals as goal

pub make_in_turn-requires-clause-next : goal.make_in_turn-requires-clause-next
make_in_turn-requires-clause-next c =
    let opened = c.in_ok-opened.opened in
    let few : opened.tree.next + 2 ^ 62 < 2 ^ 64 - 1 =
    opens_next c.args.setup.now opened.client opened.tree c.in_ok-opened.ensures.ok
    (subst (λ (l : List Call). length l < 2 ^ 62) c.as_slice.ensures.value c.fits.ensures) c.loader_fits.ensures in
    omega (arith, few, c.fits-2.ensures)

pub call_why-requires-clause-next : goal.call_why-requires-clause-next
call_why-requires-clause-next c =
    let opened = c.in_ok-opened.opened in
    let few : opened.tree.next + 2 ^ 62 < 2 ^ 64 - 1 =
    opens_next c.args.setup.now opened.client opened.tree c.in_ok-opened.ensures.ok
    (subst (λ (l : List Call). length l < 2 ^ 62) c.as_slice.ensures.value c.fits.ensures) c.loader_fits.ensures in
    omega (arith, few, c.fits-2.ensures, c.in-Ok.ensures.numbers)

pub returns-in-Ok-call_why-clause-told : goal.returns-in-Ok-call_why-clause-told
returns-in-Ok-call_why-clause-told c = (
  c.in_ok-opened.opened.client,
  c.in_ok-opened.opened.tree,
  c.make_in_turn.new.tree,
  c.in_ok-opened.ensures.ok,
  c.in-Ok.ensures.follows,
  c.in-Ok-call_why.ensures,
)
