use Rattle.std.specs.Prelude.{◌≡◌, List, Some, None, not, ◌&&◌, if◌then◌else◌, refl}
use Rattle.std.specs.Option.{option_or}
use Rattle.ll_learn.specs.There.{IsAskedIn, IsAskedOn, IsOfPath}
use Rattle.ll_learn.proofs.There.{asked_known, asks_joined, asks_same, asks_weaker, moves_joined}
use Rattle.ll_learn.proofs.There.{moves_same}
use Rattle.std.proofs.Common.{ap, subst, sym, ◌∙◌}
use Rattle.ll_rights.specs.Map.{has}
use Rattle.ll_rules.specs.Layer.{grants_on}
use Rattle.ll_seq.specs.declared.reply.Entry.{Entry}
use Rattle.ll_seq.specs.History.{IsLegal, fresh_of, state_after}
use Rattle.ll_seq.specs.State.{State}
use Rattle.ll_seq.proofs.Consequences.{step-clients_stay}
use Rattle.ll_audit.specs.Audit.{IsFirstIllegal}
use Rattle.ll_learn.specs.Demand.{IsOpenAt}
use Rattle.ll_learn.specs.Outside.{is_moved}
use Rattle.ll_learn.proofs.Gathered.{alone_illegal, theirs_too}
use Rattle.ll_learn.proofs.MoreNeeds.{rooted_same, same_needs}
use Rattle.ll_learn.proofs.needs.Needs.follow.Goals as goal

pub returns-in-Err-Illegal-clause-fault : goal.returns-in-Err-Illegal-clause-fault
returns-in-Err-Illegal-clause-fault c =
    let s = c.args.tree.now in
    let number = c.in-Err-Illegal.field-0-0 in (
      refl,
      alone_illegal s c.args.entry.now number
          (subst (λ (l : List Entry). IsFirstIllegal s l number) c.from_ref.ensures.value
          (c.in-Err-Illegal.ensures.illegal number c.in-Err-Illegal.field-0-is)),
    )

pub stays_open-requires : goal.stays_open-requires
stays_open-requires c = λ on.
    let s = c.args.tree.now in
    let e = c.args.entry.now in
    ap (λ (z : State). has z.clients e.client) (c.in-Ok.ensures.after ∙ ap (state_after s) c.from_ref.ensures.value)
    ∙ step-clients_stay s e.client e.call (fresh_of e.reply) e.client
    (c.requires.there e.client (sym c.is_on-is_on.ensures ∙ on))

pub returns-clause-ok : goal.returns-clause-ok
returns-clause-ok c is_on known watch =
    let s = c.args.tree.now in
    let e = c.args.entry.now in
    let may = (subst (IsLegal s) c.from_ref.ensures.value c.in-Ok.ensures.legal).0 in
    let state = c.in-Ok.ensures.after ∙ ap (state_after s) c.from_ref.ensures.value in
    let ours : c.is_on-is_on.result ≡ is_on e.client = c.is_on-is_on.ensures ∙ watch.on e.client in
    record {
      stands = may;
      state = state;
      stays = λ on. subst (λ (z : State). IsOpenAt z e) state (c.in_ok-stays_open.ensures.ok (ours ∙ on));
      adds = λ layer. theirs_too (watch.on e.client)
          (same_needs (grants_on layer) c.add_call.new.self c.note_outside.new.self c.note_outside.ensures.asks
          c.note_outside.ensures.moves)
          (c.in_ok-add_call.ensures.meets layer known
          (λ on fd. watch.knows e.client fd (sym (watch.on e.client) ∙ on)));
      watch = c.in_ok-follow.ensures s is_on known c.in_ok-opened.ensures may watch;
      rooted = λ rooted. rooted_same c.add_call.new.self c.note_outside.new.self c.note_outside.ensures.asks
          c.note_outside.ensures.moves
          (c.in_ok-add_call.ensures.rooted rooted (λ on fd inodes is. watch.rooted e.client fd inodes
          (watch.knows e.client fd (sym (watch.on e.client) ∙ on) ∙ is)));
      asks = asks_joined (IsAskedIn s known e.client) c.args.self.now c.add_call.new.self c.note_outside.new.self
          (asks_weaker (IsAskedOn s c.args.watch.now.clients.items e.client) (IsAskedIn s known e.client)
          c.args.self.now c.add_call.new.self (asked_known s c.args.watch.now.clients.items known e.client
          (λ on fd. watch.knows e.client fd (sym (watch.on e.client) ∙ on))) c.in_ok-add_call.ensures.asks)
          (asks_same (IsAskedIn s known e.client) c.add_call.new.self c.note_outside.new.self
          c.note_outside.ensures.asks);
      moves = moves_joined (IsOfPath s) c.args.self.now c.add_call.new.self c.note_outside.new.self
          c.in_ok-add_call.ensures.moves
          (moves_same (IsOfPath s) c.add_call.new.self c.note_outside.new.self c.note_outside.ensures.moves);
      outside = c.note_outside.ensures.outside
          ∙ (λ i. option_or (c.in_ok-add_call.ensures.outside i)
          (if is_moved e && not (ours i) then Some c.args.origin else None));
    }
