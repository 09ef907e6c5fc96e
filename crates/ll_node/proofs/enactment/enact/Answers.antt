use Rattle.std.specs.Prelude.{◌≡◌}
use Rattle.std.proofs.Common.{sym, subst}
use Rattle.ll_seq.proofs.Results.{on_ok}
use Rattle.ll_seq.specs.declared.changes.Change.{Change}
use Rattle.ll_node.specs.Enactment.{Enacts, InHand, MayEnact}
use Rattle.ll_node.proofs.GivenSlots.{made_idle}
use Rattle.ll_node.proofs.enactment.enact.Goals as goal

-- what is in hand
abbrev hand_of : {change : Change} {hand : InHand} → MayEnact change hand → InHand
hand_of {change} {hand} may = hand

module _ {hand : InHand} {change arm : Change} (is : change ≡ arm) where
  may_arm : MayEnact change hand → MayEnact arm hand
  may_arm = subst (λ (any : Change). MayEnact any hand) is

  enacts_arm : {new : InHand} → Enacts arm hand new → Enacts change hand new
  enacts_arm {new} = subst (λ (any : Change). Enacts any hand new) (sym is)

pub make-requires : goal.make-requires
make-requires c = (c.args.client.now, may_arm c.in-Make.is c.requires)

pub name-requires : goal.name-requires
name-requires c = (hand_of c.requires, may_arm c.in-Name.is c.requires)

pub move_name-requires : goal.move_name-requires
move_name-requires c = (hand_of c.requires, may_arm c.in-Move.is c.requires)

pub replace-requires : goal.replace-requires
replace-requires c = (hand_of c.requires, may_arm c.in-Replace.is c.requires)

pub exchange-requires : goal.exchange-requires
exchange-requires c = (hand_of c.requires, may_arm c.in-Exchange.is c.requires)

pub resize-requires : goal.resize-requires
resize-requires c = (hand_of c.requires, may_arm c.in-Resize.is c.requires)

pub open_there-requires : goal.open_there-requires
open_there-requires c = (c.in-Some.is, hand_of c.requires, may_arm c.in-Open.is c.requires)

pub allow-requires : goal.allow-requires
allow-requires c = (hand_of c.requires, may_arm c.in-Allow.is c.requires)

pub returns-in-Nothing-clause-ok : goal.returns-in-Nothing-clause-ok
returns-in-Nothing-clause-ok c = enacts_arm c.in-Nothing.is (λ scene given fits covers. made_idle given)

pub returns-in-Make-clause-ok : goal.returns-in-Make-clause-ok
returns-in-Make-clause-ok c =
    on_ok c.make.result c.make.ensures.ok (λ made. enacts_arm c.in-Make.is (made c.args.client.now))

pub returns-in-Take-clause-ok : goal.returns-in-Take-clause-ok
returns-in-Take-clause-ok c = enacts_arm c.in-Take.is (c.take.ensures (hand_of c.requires))

pub returns-in-Name-clause-ok : goal.returns-in-Name-clause-ok
returns-in-Name-clause-ok c =
    on_ok c.name.result c.name.ensures.ok (λ made. enacts_arm c.in-Name.is (made (hand_of c.requires)))

pub returns-in-Move-clause-ok : goal.returns-in-Move-clause-ok
returns-in-Move-clause-ok c =
    on_ok c.move_name.result c.move_name.ensures.ok (λ made. enacts_arm c.in-Move.is (made (hand_of c.requires)))

pub returns-in-Replace-clause-ok : goal.returns-in-Replace-clause-ok
returns-in-Replace-clause-ok c = enacts_arm c.in-Replace.is (c.replace.ensures (hand_of c.requires))

pub returns-in-Exchange-clause-ok : goal.returns-in-Exchange-clause-ok
returns-in-Exchange-clause-ok c = enacts_arm c.in-Exchange.is (c.exchange.ensures (hand_of c.requires))

pub returns-in-Resize-clause-ok : goal.returns-in-Resize-clause-ok
returns-in-Resize-clause-ok c =
    on_ok c.resize.result c.resize.ensures.ok (λ made. enacts_arm c.in-Resize.is (made (hand_of c.requires)))

pub returns-in-None-clause-ok : goal.returns-in-None-clause-ok
returns-in-None-clause-ok c = on_ok c.open_new.result c.open_new.ensures.ok (λ made. enacts_arm c.in-Open.is made)

pub returns-in-Some-clause-ok : goal.returns-in-Some-clause-ok
returns-in-Some-clause-ok c =
    on_ok c.open_there.result c.open_there.ensures.ok (λ made. enacts_arm c.in-Open.is (made (hand_of c.requires)))

pub returns-in-Allow-clause-ok : goal.returns-in-Allow-clause-ok
returns-in-Allow-clause-ok c =
    on_ok c.allow.result c.allow.ensures.ok (λ made. enacts_arm c.in-Allow.is (made (hand_of c.requires)))
