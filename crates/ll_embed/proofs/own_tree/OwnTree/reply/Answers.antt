use Rattle.std.proofs.Common.{Bool, List, ℕ, ◌∙◌, ap, arith, inl, refl, subst, sym}
use Rattle.ll_seq.specs.declared.reply.Reply.{Reply}
use Rattle.ll_session.specs.Session.{Answers}
use Rattle.ll_session.specs.Strict.{ends_strictly}
use Rattle.ll_session.proofs.Scores.{called_ends}
use Rattle.ll_wire.proofs.Cuts.{kept}
use Rattle.ll_wire.specs.Grammar.{SpellsCommand}
use Rattle.ll_embed.specs.Alone.{own}
use Rattle.ll_embed.proofs.Owned.{answered_by, held_ends_none, held_is_placed, not_read, spells_none, too_long}
use Rattle.ll_embed.proofs.own_tree.OwnTree.reply.Goals as goal

pub returns-in_default-clause-ok : goal.returns-in_default-clause-ok
returns-in_default-clause-ok c piece held = (
  spells_none c.args.self.now.plain c.args.self.now.history c.args.self.now.before c.args.self.now.clients piece
      (too_long c.args.line.now piece c.args.self.now.clients (sym c.in_default.ensures) held),
  (refl, inl refl),
)

pub returns-in-Ok-call-clause-ok : goal.returns-in-Ok-call-clause-ok
returns-in-Ok-call-clause-ok c piece held =
    let same = kept c.args.line.now c.in-Some.bytes.now piece (sym c.in-Some.ensures) held in
    let is = subst (λ (p : List ℕ). SpellsCommand p c.in-Ok.place c.in-Ok.call) same c.in-Ok.ensures.0 in
    let old = c.args.self.now in
    let new = c.call.new.self in (
      subst (λ (r : Reply). Answers (own old) piece r (own new)) (sym c.placed-reply.ensures)
          (answered_by old.plain new.plain old.history new.history old.before old.clients new.clients c.in-Ok.place
          piece c.in-Ok.call c.in-Ok-call.reply is c.in-Ok.ensures.1 new.before c.in-Ok-call.ensures.ok),
      called_ends c.args.line.now c.in-Some.bytes.now piece held (sym c.in-Some.ensures) c.in-Ok.place c.in-Ok.call
          c.placed-reply.result c.ends_strictly-is_end.result c.in-Ok.ensures.0
          (c.ends_strictly-is_end.ensures
          ∙ ap (λ (b : Bool). ends_strictly b c.placed-reply.result) c.is_of_layers-of_layers.ensures),
    )

pub returns-in-Err-call-clause-err : goal.returns-in-Err-call-clause-err
returns-in-Err-call-clause-err c piece held =
    let same = kept c.args.line.now c.in-Some.bytes.now piece (sym c.in-Some.ensures) held in
    let is = subst (λ (p : List ℕ). SpellsCommand p c.in-Ok.place c.in-Ok.call) same c.in-Ok.ensures.0 in
    let old = c.args.self.now in
    let new = c.call.new.self in
    let made = c.in-Err-call.ensures.err in (
      made.0,
      subst (λ (r : Reply). Answers (own old) piece r (own new)) (held_is_placed new.clients made.0 made.2)
          (answered_by old.plain new.plain old.history new.history old.before old.clients new.clients c.in-Ok.place
          piece c.in-Ok.call made.0 is c.in-Ok.ensures.1 new.before made.1),
      held_ends_none piece c.in-Ok.place c.in-Ok.call made.0 is made.2,
      made.2,
    )

pub returns-in-Err-clause-ok : goal.returns-in-Err-clause-ok
returns-in-Err-clause-ok c piece held =
    not_read c.args.self.now.plain c.args.self.now.history c.args.self.now.before c.args.self.now.clients
    c.args.line.now c.in-Some.bytes.now piece (sym c.in-Some.ensures) held c.in-Err.errno c.unread.result
    c.in-Err.ensures c.unread.ensures

pub overflow_add-self : goal.overflow_add-self
overflow_add-self c =
    let few = c.args.self.now.few in let within = c.args.self.now.within in
    let most = c.args.self.now.most in omega (arith, few, within, most, c.in-Ok.ensures.1)
