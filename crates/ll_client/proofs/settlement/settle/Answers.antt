use Rattle.std.proofs.Common.{map, ◌∷◌, ◌++◌, [], ap, subst, sym, ◌∙◌}
use Rattle.std.proofs.lemmas.List.{nil_from_length}
use Rattle.std.specs.Vec.Iter.{into_iter_items}
use Rattle.ll_client.specs.Entries.{Knows, doing_in, knows, part_in, starved_in}
use Rattle.ll_client.proofs.Accounts.{goes_with}
use Rattle.ll_client.proofs.AllClients.{Settled, map_last, map_next, none_settled, one_settled}
use Rattle.ll_client.proofs.settlement.settle.Given.{Over}
use Rattle.ll_client.proofs.settlement.settle.Goals as goal

pub loop-client-init : goal.loop-client-init
loop-client-init g c = (
  [],
  sym (ap (map (λ it. it.rider)) c.into_iter-rest.ensures.rest),
  none_settled c.args.journal.now c.args.keeper c.requires.all,
)

pub loop-client-preserved : goal.loop-client-preserved
loop-client-preserved g c =
    let b = c.args.journal.now in
    let so_far = c.loop-client.invariant in
    let known = c.take_client.ensures in
    let wants = c.take_wants.ensures in
    let k : Knows =
    knows c.rider.inside.number (part_in c.rider.inside.pass) (starved_in c.rider.inside.wants) c.rider.inside.seen
    (doing_in c.rider.inside.pass) in (
      so_far.0 ++ c.in-Some.client.rider ∷ [],
      map_next (λ it. it.rider) (map (λ it. it.rider) c.args.clients.items) so_far.0
          (into_iter_items c.loop-client.rest) (into_iter_items c.next.new.self) c.in-Some.client so_far.1
          c.in-Some.ensures.items,
      subst (λ (x : Knows). Settled b c.take_wants.new.keeper (so_far.0 ++ x ∷ [])) c.rider.view_is
          (one_settled b c.loop-client.keeper c.take_wants.new.keeper so_far.0 k so_far.2
          (goes_with k.number c.loop-client.keeper c.take_client.new.keeper c.take_wants.new.keeper known.gone
          wants.only) wants.all
          (record {
            there = known.there;
            few = known.few;
            part_is = known.part;
            low = known.seen;
            doing_is = known.doing;
          }) wants.starved),
    )

all_are_known : (g : Over) (c : goal.After-drop-keeper-inside g)
    → Settled c.args.journal.now c.loop-client.keeper (map (λ it. it.rider) c.args.clients.items)
all_are_known g c =
    let ended = nil_from_length (into_iter_items c.loop-client.rest) (sym c.loop-client.rest.rest.ok.0
    ∙ c.in_default.ensures.cases.0) in
    subst (Settled c.args.journal.now c.loop-client.keeper) (map_last (λ it. it.rider)
    (map (λ it. it.rider) c.args.clients.items) c.loop-client.invariant.0 (into_iter_items c.loop-client.rest)
    c.loop-client.invariant.1 ended) c.loop-client.invariant.2

pub returns-clause-parts : goal.returns-clause-parts
returns-clause-parts g c = (all_are_known g c).parts

pub returns-clause-once : goal.returns-clause-once
returns-clause-once g c = (all_are_known g c).once

pub returns-clause-there : goal.returns-clause-there
returns-clause-there g c = (all_are_known g c).there
