use Rattle.std.proofs.Common.{◌*◌, ◌++◌, ◌∷◌, [], sym, ap, ◌∙◌, arith}
use Rattle.std.specs.Ordering.{nat_cmp}
use Rattle.std.proofs.lemmas.List.FromFn.{map-range_with_len_more}
use Rattle.ll_rights.specs.Map.{Map, get}
use Rattle.ll_rights.proofs.Maps.{get-empty}
use Rattle.ll_client.specs.declared.account.Account.{Account}
use Rattle.ll_client.specs.CallStart.{kept_at}
use Rattle.ll_client.proofs.NewDesks.{none_out}
use Rattle.ll_client.proofs.opened.new_slots.Goals as goal

pub returns-in_err-slots-clause-all : goal.returns-in_err-slots-clause-all
returns-in_err-slots-clause-all g c = none_out c.args.journal.now c.args.keeper.now c.requires.none

pub loop-place-init : goal.loop-place-init
loop-place-init g c = record {
  slots = c.in_ok-slots.ensures.items;
  all = none_out c.args.journal.now c.args.keeper.now c.requires.none;
  free = λ k le. ap (λ (m : Map nat_cmp Account). get m (3 * k)) c.requires.none ∙ get-empty Account nat_cmp (3 * k);
}

pub loop-place-preserved : goal.loop-place-preserved
loop-place-preserved g c = record {
  slots = c.in_ok-push.ensures.items
      ∙ (λ i. c.loop-place.invariant.slots i ++ c.new_slot.ensures.slot i ∷ [])
      ∙ sym (map-range_with_len_more (kept_at c.args.journal.now) 0 c.loop-place.place c.loop-place.place
      (omega arith));
  all = c.new_slot.ensures.all;
  free = λ k le. c.new_slot.ensures.others k (omega (arith, le))
      ∙ c.loop-place.invariant.free k (omega (arith, le));
}
