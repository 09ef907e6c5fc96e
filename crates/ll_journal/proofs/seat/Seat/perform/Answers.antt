use Rattle.std.specs.Prelude.{◌≡◌, ℕ, List, IfOk, OnErr}
use Rattle.std.proofs.Common.{sym, subst, ◌∙◌}
use Rattle.ll_seq.specs.Decided.{IsRefused}
use Rattle.ll_seq.specs.declared.found.Found.{Found}
use Rattle.ll_node.specs.Enactment.{Scene, in_hand}
use Rattle.ll_node.specs.declared.held.Held.{Held}
use Rattle.ll_node.specs.InodeTable.{Table}
use Rattle.ll_seq.proofs.Results.{if_ok}
use Rattle.ll_seq.specs.declared.reply.Reply.{Reply}
use Rattle.ll_journal.specs.declared.seat.Ended.{Ended}
use Rattle.ll_journal.specs.Book.{Seat}
use Rattle.ll_journal.specs.Performed.{IsAtEnd, IsFreeAtEnd, Performs, at_seat}
use Rattle.ll_journal.proofs.PerformedCalls.{client_is, first_long, second_long, refused, free_if_held, takes_if_held}
use Rattle.ll_journal.proofs.PerformedCalls.{takes_if_told, may_enact, told_lie, told_some, performed}
use Rattle.ll_journal.proofs.Starved.{never_err, when_err}
use Rattle.ll_journal.proofs.seat.Seat.perform.Goals as goal

-- of the seat as it is kept
in_seat : {kept seat : Seat} {table : Table} {slots : List ℕ} {lent : List Held} {walk : Ended} {found : Found}
    → kept ≡ seat → (scene : Scene) × IsAtEnd scene (at_seat seat table slots lent) walk found
    → (scene : Scene) × IsAtEnd scene (at_seat kept table slots lent) walk found
in_seat {table = table} {slots = slots} {lent = lent} {walk = walk} {found = found} is =
    subst (λ (seat : Seat). (scene : Scene) × IsAtEnd scene (at_seat seat table slots lent) walk found) (sym is)

pub decide_end-requires-clause-first : goal.decide_end-requires-clause-first
decide_end-requires-clause-first c = first_long (in_seat c.self.view_is c.requires.end).1

pub decide_end-requires-clause-second : goal.decide_end-requires-clause-second
decide_end-requires-clause-second c = second_long (in_seat c.self.view_is c.requires.end).1

-- ---- the call is refused

pub returns-in-Err-clause-ok : goal.returns-in-Err-clause-ok
returns-in-Err-clause-ok c =
    subst (λ (seat : Seat). IfOk c.new.result (λ (reply : Reply).
    Performs (at_seat seat c.args.table.now c.args.slots.now c.args.lent.now) c.args.walk.now c.args.found.now reply
    (at_seat seat c.args.table.now c.args.slots.now c.args.lent.now))) c.self.view_is
    (if_ok c.new.result c.new.ensures.ok (λ reply same scene end.
    refused end reply (subst (IsRefused scene.state scene.number c.args.walk.now.call) (sym same)
    (c.in-Err.ensures.decided scene.state scene.number (client_is end) end.path end.facts end.old end.new))))

pub returns-in-Err-clause-starved : goal.returns-in-Err-clause-starved
returns-in-Err-clause-starved c =
    subst (λ (seat : Seat). OnErr c.new.result (IsFreeAtEnd (at_seat seat c.args.table.now c.args.slots.now
    c.args.lent.now) c.args.walk.now c.args.found.now)) c.self.view_is
    (when_err c.new.result (λ holds scene end.
    free_if_held end c.in-Err.reply
    (c.in-Err.ensures.decided scene.state scene.number (client_is end) end.path end.facts end.old end.new) holds)
    c.new.ensures.err)

pub returns-in-Err-clause-calm : goal.returns-in-Err-clause-calm
returns-in-Err-clause-calm c spared =
    let (scene, end) = in_seat c.self.view_is c.requires.end in
    never_err c.new.result c.new.ensures.err (λ holds.
    cc (sym spared
    ∙ takes_if_held end c.in-Err.reply
    (c.in-Err.ensures.decided scene.state scene.number (client_is end) end.path end.facts end.old end.new) holds))

-- ---- the call is made

pub enact-requires : goal.enact-requires
enact-requires c =
    let (scene, end) = in_seat c.self.view_is c.requires.end in
    may_enact end c.in-Ok.effect (c.in-Ok.ensures.decided scene.state scene.number (client_is end) end.path end.facts
    end.old end.new) c.in-Ok.ensures.near

pub returns-in_err-told-clause-calm : goal.returns-in_err-told-clause-calm
returns-in_err-told-clause-calm c spared =
    let (scene, end) = in_seat c.self.view_is c.requires.end in
    let effect = c.in-Ok.effect in
    let near = c.in-Ok.ensures.near in
    let is =
    c.in-Ok.ensures.decided scene.state scene.number (client_is end) end.path end.facts end.old end.new in
    let told =
    c.in_ok-reply.ensures.told scene.state scene.marks scene.spares c.args.slots.now end.given.counted end.given.told
    (told_lie end effect is near) (told_some end effect is near) in
    absurd (cc (sym spared ∙ takes_if_told end effect is near c.in_ok-reply.reply told c.in_err-told.ensures.err))

pub returns-clause-ok : goal.returns-clause-ok
returns-clause-ok c =
    subst (λ (seat : Seat). Performs (at_seat seat c.args.table.now c.args.slots.now c.args.lent.now) c.args.walk.now
    c.args.found.now c.in_ok-told.told (in_hand c.enact.new.client c.enact.new.spare c.enact.new.table c.args.slots.now
    c.enact.new.lent)) c.self.view_is
    (λ scene end.
    let effect = c.in-Ok.effect in
    let near = c.in-Ok.ensures.near in
    let is =
    c.in-Ok.ensures.decided scene.state scene.number (client_is end) end.path end.facts end.old end.new in
    let told =
    c.in_ok-reply.ensures.told scene.state scene.marks scene.spares c.args.slots.now end.given.counted end.given.told
    (told_lie end effect is near) (told_some end effect is near) in
    performed end effect is near c.in_ok-told.told (c.in_ok-told.ensures.ok ∙ told) c.in_ok-enact.ensures.ok)
