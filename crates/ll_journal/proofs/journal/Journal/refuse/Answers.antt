use Rattle.std.proofs.Common.{◌≡◌, ◌<◌, false, length, map, ap, sym, subst, ◌∙◌}
use Rattle.std.proofs.lemmas.Bool.{leb-false}
use Rattle.ll_rights.specs.declared.errno.Errno.TheVariants.{HistoryFull}
use Rattle.ll_rights.specs.Map.{get}
use Rattle.ll_seq.specs.declared.reply.Reply.TheVariants.{Refused}
use Rattle.ll_laws.specs.World.{World, Replied, is_full, without_walk}
use Rattle.ll_journal.specs.declared.progress.Ending.TheVariants as ending
use Rattle.ll_journal.specs.Book.{Book, Spares, slot_of}
use Rattle.ll_journal.specs.WalkEnds.{Ends}
use Rattle.ll_journal.specs.Kept.{book_of, world_of}
use Rattle.ll_journal.specs.Stopped.{IsBlockedEnd}
use Rattle.ll_journal.proofs.Committed.{spares_both}
use Rattle.ll_journal.proofs.Ended.{commit_gives_up}
use Rattle.ll_journal.proofs.EndedWalks.{place_within}
use Rattle.ll_journal.proofs.RefusedWalks.{refused_does, refused_kept, refused_lent, refused_spares}
use Rattle.ll_journal.proofs.journal.Journal.refuse.Goals as goal

pub returns-then-is_full-clause-does : goal.returns-then-is_full-clause-does
returns-then-is_full-clause-does c =
    commit_gives_up c.args.self.now.world c.args.client c.requires.blocked.walk c.requires.blocked.ends.is
    c.requires.blocked.ends.may
    (ap (λ (b : Book). is_full b.world) (sym c.self.view_is) ∙ sym c.is_full-is_full.ensures ∙ c.if-is_full.true)
    ∙ ap (λ (w : World). (Replied (Refused HistoryFull), w)) (sym c.end_walk-walk.ensures.world)

pub returns-then-is_full-clause-spares : goal.returns-then-is_full-clause-spares
returns-then-is_full-clause-spares c =
    c.end_walk-walk.ensures.spares c.args.slots.now c.requires.blocked.walk c.requires.blocked.ends.is
    c.requires.blocked.ends.marked

module _ (c : goal.Joined-walk-2) where
  within : c.args.place < length c.self-2.inside.seats.items
  within =
      place_within c.self-2.inside c.end_walk-walk.new.self c.self-2.view_is c.args.place
      (subst (λ (b : Book). c.args.place < length b.spares) (sym c.end_walk-walk.ensures.rest) c.requires.place)

  told : c.end_walk-walk.new.lent ≡ map (slot_of (book_of c.self-2.inside)) c.args.slots.now
  told = c.end_walk-walk.ensures.lent c.args.slots.now c.requires.lent
      ∙ ap (λ (b : Book). map (slot_of b) c.args.slots.now) (sym c.self-2.view_is)

  blocked : IsBlockedEnd (book_of c.self.inside) c.args.client c.args.slots.now c.args.errno
  blocked = subst (λ (b : Book). IsBlockedEnd b c.args.client c.args.slots.now c.args.errno) (sym c.self.view_is)
      c.requires.blocked

  ended : world_of c.self-2.inside ≡ without_walk (world_of c.self.inside) c.args.client
  ended =
      ap (λ (b : Book). b.world) c.self-2.view_is ∙ c.end_walk-walk.ensures.world
      ∙ ap (λ (b : Book). without_walk b.world c.args.client) (sym c.self.view_is)

  room_left : is_full (world_of c.self.inside) ≡ false
  room_left = sym c.is_full-is_full.ensures ∙ c.if-is_full.false

  call_is : c.end_walk-walk.result.call ≡ blocked.walk.call
  call_is = (c.end_walk-walk.ensures.ended blocked.walk
      (ap (λ (b : Book). get b.world.walks c.args.client) (sym c.self.view_is) ∙ blocked.ends.is)).call

pub invariant_of-self : goal.invariant_of-self
invariant_of-self c =
    refused_kept c.self.inside c.self-2.inside c.self.invariant c.self-2.invariant c.args.client c.args.place
    c.requires.numbered (within c) c.args.slots.now
    c.end_walk-walk.new.lent (told c) c.args.errno (blocked c) (ended c) (room_left c) c.end_walk-walk.result.call
    (call_is c) c.push.new.self c.push.ensures

pub returns-clause-does : goal.returns-clause-does
returns-clause-does c =
    subst (λ (b : Book). Ends b c.args.client (ending.Replied (Refused c.args.errno))
    (book_of (record c.self-2.inside { history = c.push.new.self }))) c.self.view_is
    (refused_does c.self.inside c.self-2.inside c.self.invariant c.self-2.invariant c.args.client c.args.place
    c.requires.numbered (within c) c.args.slots.now
    c.end_walk-walk.new.lent (told c) c.args.errno (blocked c) (ended c) (room_left c) c.end_walk-walk.result.call
    (call_is c) c.push.new.self c.push.ensures)

pub returns-clause-lent : goal.returns-clause-lent
returns-clause-lent c =
    refused_lent c.self.inside c.self-2.inside c.self.invariant c.self-2.invariant c.args.client c.args.place
    c.requires.numbered (within c) c.args.slots.now
    c.end_walk-walk.new.lent (told c) c.args.errno (blocked c) (ended c) (room_left c) c.end_walk-walk.result.call
    (call_is c) c.push.new.self c.push.ensures

pub returns-clause-spares : goal.returns-clause-spares
returns-clause-spares c =
    spares_both c.args.self.now c.end_walk-walk.new.self
    (book_of (record c.self-2.inside { history = c.push.new.self })) c.args.slots.now
    (c.end_walk-walk.ensures.spares c.args.slots.now c.requires.blocked.walk c.requires.blocked.ends.is
    c.requires.blocked.ends.marked)
    (subst (λ (b : Book). Spares b (book_of (record c.self-2.inside { history = c.push.new.self })) c.args.slots.now)
    c.self-2.view_is
    (refused_spares c.self.inside c.self-2.inside c.self.invariant c.self-2.invariant c.args.client c.args.place
    c.requires.numbered (within c) c.args.slots.now
    c.end_walk-walk.new.lent (told c) c.args.errno (blocked c) (ended c) (room_left c) c.end_walk-walk.result.call
    (call_is c) c.push.new.self c.push.ensures))

pub end_walk-walk-requires-clause-walk : goal.end_walk-walk-requires-clause-walk
end_walk-walk-requires-clause-walk c = (c.requires.blocked.walk, c.requires.blocked.ends.is)

pub push-requires : goal.push-requires
push-requires c =
    leb-false c.self-2.inside.history.limit (length c.self-2.inside.history.entries)
    (ap (λ (b : Book). is_full b.world) c.self-2.view_is ∙ ap is_full c.end_walk-walk.ensures.world
    ∙ ap (λ (b : Book). is_full b.world) (sym c.self.view_is) ∙ sym c.is_full-is_full.ensures ∙ c.if-is_full.false)
