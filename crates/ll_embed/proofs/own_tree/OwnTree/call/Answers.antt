use Rattle.std.proofs.Common.{◌≡◌, ◌+◌, ◌≤◌, ℕ, length, not, true≢false, sym, ap, subst, ◌∙◌, arith}
use Rattle.std.proofs.lemmas.Bool.{leb-true, leb-false}
use Rattle.std.proofs.lemmas.List.{length-append}
use Rattle.std.proofs.lemmas.Result.{IfOk-weaker, on_err_weaker}
use Rattle.ll_rights.specs.Map.{has}
use Rattle.ll_rights.specs.declared.errno.Errno.TheVariants.{NoMemory}
use Rattle.ll_rights.specs.declared.limits.TheConstants.{HISTORY_ENTRIES}
use Rattle.ll_seq.specs.History.{Log}
use Rattle.ll_seq.specs.State.{State}
use Rattle.ll_seq.specs.declared.reply.Reply.{Reply}
use Rattle.ll_seq.specs.declared.reply.Reply.TheVariants.{Refused}
use Rattle.ll_session.specs.PartySession.{Called, full, starved}
use Rattle.ll_embed.specs.Alone.{own}
use Rattle.ll_embed.proofs.Owned.{call_enters, nobody_after, standing, there_after}
use Rattle.ll_embed.proofs.own_tree.OwnTree.call.Goals as goal

pub returns-then-is_full-clause-ok : goal.returns-then-is_full-clause-ok
returns-then-is_full-clause-ok c = full (leb-true _ _ (sym c.is_full.ensures ∙ c.if-is_full.true))

pub apply-reply-requires-clause-caller : goal.apply-reply-requires-clause-caller
apply-reply-requires-clause-caller c =
    c.args.self.now.there c.args.client c.requires.first c.requires.last ∙ sym (ap not c.requires.other)

pub apply-reply-requires-clause-fresh : goal.apply-reply-requires-clause-fresh
apply-reply-requires-clause-fresh c spawns =
    c.args.self.now.free (c.args.self.now.before + c.args.self.now.clients + 1) (omega arith)

pub apply-reply-requires-clause-next : goal.apply-reply-requires-clause-next
apply-reply-requires-clause-next c =
    let room = leb-false _ _ (sym c.is_full.ensures ∙ c.if-is_full.false) in
    let low = c.args.self.now.low in let most = c.args.self.now.most in omega (arith, room, low, most)

pub overflow_add-fresh-2 : goal.overflow_add-fresh-2
overflow_add-fresh-2 c =
    let room = leb-false _ _ (sym c.is_full.ensures ∙ c.if-is_full.false) in
    let few = c.args.self.now.few in let most = c.args.self.now.most in omega (arith, room, few, most)

pub overflow_add-fresh : goal.overflow_add-fresh
overflow_add-fresh c =
    let room = leb-false _ _ (sym c.is_full.ensures ∙ c.if-is_full.false) in
    let few = c.args.self.now.few in let most = c.args.self.now.most in omega (arith, room, few, most)

pub overflow_add-self : goal.overflow_add-self
overflow_add-self c =
    let room = leb-false _ _ (sym c.is_full.ensures ∙ c.if-is_full.false) in
    let few = c.args.self.now.few in let most = c.args.self.now.most in
    let one = c.count_brought.ensures.most in omega (arith, room, few, most, one)

pub returns-then-wants_memory-clause-ok : goal.returns-then-wants_memory-clause-ok
returns-then-wants_memory-clause-ok c =
    let s = own c.args.self.now in
    let is : c.apply-reply.result ≡ Refused NoMemory = c.wants_memory.ensures.0 c.if-wants_memory.true in
    let room = leb-false _ _ (sym c.is_full.ensures ∙ c.if-is_full.false) in
    subst (λ (r : Reply). Called s c.args.client c.args.call r
    (standing c.apply-reply.new.self c.args.self.now.history c.args.self.now.before c.args.self.now.clients)) (sym is)
    (subst (λ (tree : State). Called s c.args.client c.args.call (Refused NoMemory)
    (standing tree c.args.self.now.history c.args.self.now.before c.args.self.now.clients))
    (sym (c.apply-reply.ensures.no_memory is)) (starved room (c.apply-reply.ensures.starved is)))

pub invariant_of-self : goal.invariant_of-self
invariant_of-self c =
    let same = c.apply-reply.ensures.no_memory (c.wants_memory.ensures.0 c.if-wants_memory.true) in record {
      there = λ number first most. ap (λ (z : State). has z.clients number) same
          ∙ c.args.self.now.there number first most;
      free = λ number more. ap (λ (z : State). has z.clients number) same ∙ c.args.self.now.free number more;
      few = c.args.self.now.few;
      low = subst (λ (z : State). z.next ≤ length c.args.self.now.history.entries + 2) (sym same)
          c.args.self.now.low;
      within = c.args.self.now.within;
      most = c.args.self.now.most;
    }

pub invariant_of-self-2 : goal.invariant_of-self-2
invariant_of-self-2 c =
    let last = c.args.self.now.before + c.args.self.now.clients in
    let count = c.count_brought.ensures.count in
    let one = c.count_brought.ensures.most in
    let longer : length c.push.new.self.entries ≡ length c.args.self.now.history.entries + 1 =
    ap (λ (l : Log). length l.entries) c.push.ensures ∙ length-append c.args.self.now.history.entries _ in record {
      there = λ number first most.
          there_after c.args.self.now.plain c.apply-reply.new.self last c.apply-reply.result c.args.self.now.there
          c.apply-reply.ensures.clients_stay c.apply-reply.ensures.spawned number first
          (omega (arith, most, count));
      free = λ number more.
          nobody_after c.args.self.now.plain c.apply-reply.new.self last c.args.client c.apply-reply.result
          c.requires.last c.args.self.now.free c.apply-reply.ensures.no_other_client
          (λ told e. (c.apply-reply.ensures.spawned told e).0) number (omega (arith, more, count));
      few = let few = c.args.self.now.few in omega (arith, longer, few, one);
      low = let low = c.args.self.now.low in let next = c.apply-reply.ensures.numbers in
          omega (arith, longer, low, next);
      within = let room = leb-false _ _ (sym c.is_full.ensures ∙ c.if-is_full.false) in
          let limit = ap (λ (l : Log). l.limit) c.push.ensures in omega (arith, longer, room, limit);
      most = subst (λ (n : ℕ). n ≤ HISTORY_ENTRIES) (sym (ap (λ (l : Log). l.limit) c.push.ensures))
          c.args.self.now.most;
    }

pub returns-clause-ok : goal.returns-clause-ok
returns-clause-ok c =
    let s = own c.args.self.now in
    let t = standing c.apply-reply.new.self c.push.new.self c.args.self.now.before
    (c.args.self.now.clients + c.count_brought.result) in
    let called : Called s c.args.client c.args.call c.apply-reply.result t =
    call_enters c.args.self.now.plain c.apply-reply.new.self c.args.self.now.history c.push.new.self
    c.args.self.now.before c.args.self.now.clients (c.args.self.now.clients + c.count_brought.result) c.args.client
    c.args.call c.apply-reply.result (leb-false _ _ (sym c.is_full.ensures ∙ c.if-is_full.false))
    (c.args.self.now.free (c.args.self.now.before + c.args.self.now.clients + 1) (omega arith))
    (c.apply-reply.ensures.step
    (λ starved. true≢false (sym (c.wants_memory.ensures.1 starved) ∙ c.if-wants_memory.false)))
    (ap (λ n. c.args.self.now.clients + n) c.count_brought.ensures.count)
    (λ told e. (c.apply-reply.ensures.spawned told e).0) c.push.ensures in
    IfOk-weaker c.copy-told.result _ _ (λ reply same.
    subst (λ (r : Reply). Called s c.args.client c.args.call r t) (sym same) called) c.copy-told.ensures.ok

pub returns-clause-err : goal.returns-clause-err
returns-clause-err c =
    let s = own c.args.self.now in
    let t = standing c.apply-reply.new.self c.push.new.self c.args.self.now.before
    (c.args.self.now.clients + c.count_brought.result) in
    let called : Called s c.args.client c.args.call c.apply-reply.result t =
    call_enters c.args.self.now.plain c.apply-reply.new.self c.args.self.now.history c.push.new.self
    c.args.self.now.before c.args.self.now.clients (c.args.self.now.clients + c.count_brought.result) c.args.client
    c.args.call c.apply-reply.result (leb-false _ _ (sym c.is_full.ensures ∙ c.if-is_full.false))
    (c.args.self.now.free (c.args.self.now.before + c.args.self.now.clients + 1) (omega arith))
    (c.apply-reply.ensures.step
    (λ starved. true≢false (sym (c.wants_memory.ensures.1 starved) ∙ c.if-wants_memory.false)))
    (ap (λ n. c.args.self.now.clients + n) c.count_brought.ensures.count)
    (λ told e. (c.apply-reply.ensures.spawned told e).0) c.push.ensures in
    on_err_weaker c.copy-told.result (λ holds. (c.apply-reply.result, called, holds)) c.copy-told.ensures.err
