use Rattle.std.proofs.Common.{◌≡◌, ◌∙◌, ◌+◌, ◌≤◌, ℕ, length, ap, sym, subst, refl, arith, inl, inr}
use Rattle.std.proofs.lemmas.Bool.{cases_lt, leb-true, leb-false}
use Rattle.std.proofs.lemmas.List.{length-append}
use Rattle.ll_rights.specs.Map.{has}
use Rattle.ll_rights.specs.declared.errno.Errno.TheVariants.{NoMemory}
use Rattle.ll_rights.specs.declared.limits.TheConstants.{HISTORY_ENTRIES}
use Rattle.ll_seq.specs.History.{Log}
use Rattle.ll_seq.specs.State.{State}
use Rattle.ll_seq.specs.declared.reply.Reply.{Reply}
use Rattle.ll_seq.specs.declared.reply.Reply.TheVariants.{Done, Spawned, Refused}
use Rattle.ll_session.specs.PartySession.{Connects, Session}
use Rattle.ll_embed.specs.Alone.{own}
use Rattle.ll_embed.proofs.Owned.{comes, comes_there, is_starved, none_comes, none_fits, none_has_memory, standing}
use Rattle.ll_embed.proofs.own_tree.OwnTree.connect.Goals as goal

pub returns-then-is_full-clause-err : goal.returns-then-is_full-clause-err
returns-then-is_full-clause-err c = (
  none_fits c.args.self.now.plain c.args.self.now.history c.args.self.now.before c.args.self.now.clients
      (leb-true _ _ (sym c.is_full.ensures ∙ c.if-is_full.true))
      (c.args.self.now.free (c.args.self.now.clients + 1) (let alone = c.requires.alone in omega (arith, alone))),
  refl,
)

pub apply-requires-clause-caller : goal.apply-requires-clause-caller
apply-requires-clause-caller c =
    c.args.self.now.free (c.args.self.now.clients + 1) (let alone = c.requires.alone in omega (arith, alone))

pub apply-requires-clause-next : goal.apply-requires-clause-next
apply-requires-clause-next c =
    let room = leb-false _ _ (sym c.is_full.ensures ∙ c.if-is_full.false) in
    let low = c.args.self.now.low in let most = c.args.self.now.most in omega (arith, room, low, most)

pub overflow_add-next : goal.overflow_add-next
overflow_add-next c =
    let room = leb-false _ _ (sym c.is_full.ensures ∙ c.if-is_full.false) in
    let few = c.args.self.now.few in let most = c.args.self.now.most in omega (arith, room, few, most)

pub returns-in-Refused-clause-err : goal.returns-in-Refused-clause-err
returns-in-Refused-clause-err c =
    let plain = c.args.self.now.plain in
    let log = c.args.self.now.history in
    let before = c.args.self.now.before in
    let clients = c.args.self.now.clients in
    let vacant = c.args.self.now.free (clients + 1) (let alone = c.requires.alone in omega (arith, alone)) in
    let room = leb-false _ _ (sym c.is_full.ensures ∙ c.if-is_full.false) in (
      elim (is_starved (Refused c.in-Refused.errno)) [
        | inl e ↦ subst (λ (r : Reply). (t : Session) × Connects (own c.args.self.now) r t) (sym e)
            (none_has_memory plain log before clients room vacant (c.in-Refused.ensures.starved e))
        | inr ne ↦ none_comes plain log before clients c.in-Refused.errno c.apply.new.self room vacant
            (c.in-Refused.ensures.step ne)
      ],
      ap (λ (tree : State). standing tree log before clients) (c.in-Refused.ensures.kept refl),
    )

pub invariant_of-self : goal.invariant_of-self
invariant_of-self c =
    let same = c.in-Refused.ensures.kept refl in record {
      there = λ number first most. ap (λ (z : State). has z.clients number) same
          ∙ c.args.self.now.there number first most;
      free = λ number more. ap (λ (z : State). has z.clients number) same ∙ c.args.self.now.free number more;
      few = c.args.self.now.few;
      low = subst (λ (z : State). z.next ≤ length c.args.self.now.history.entries + 2) (sym same)
          c.args.self.now.low;
      within = c.args.self.now.within;
      most = c.args.self.now.most;
    }

pub invariant_of-self-2 : goal.invariant_of-self-2
invariant_of-self-2 c =
    let alone = c.requires.alone in
    let next = c.args.self.now.clients + 1 in
    let longer : length c.push.new.self.entries ≡ length c.args.self.now.history.entries + 1 =
    ap (λ (l : Log). length l.entries) c.push.ensures ∙ length-append c.args.self.now.history.entries _ in record {
      there = λ number first last. elim (cases_lt c.args.self.now.clients number) [
        | inl more ↦ (let same : number ≡ next = omega (arith, alone)
            in ap (λ k. has c.apply.new.self.clients k) same
            ∙ comes_there c.args.self.now.plain c.apply.new.self next next
            (c.args.self.now.free next (omega (arith, alone)))
            (c.in-Done.ensures.step (λ e. absurd (let both : Done ≡ Refused NoMemory = e in cc))))
        | inr less ↦ c.in-Done.ensures.clients_stay number (c.args.self.now.there number first (omega arith))
      ];
      free = λ number more.
          c.in-Done.ensures.no_other_client number (λ same. omega (arith, alone))
          (λ e. absurd (let both : Done ≡ Spawned number = e in cc))
          ∙ c.args.self.now.free number (omega arith);
      few = let few = c.args.self.now.few in omega (arith, longer, few);
      low = let low = c.args.self.now.low in let numbers = c.in-Done.ensures.numbers in
          omega (arith, longer, low, numbers);
      within = let room = leb-false _ _ (sym c.is_full.ensures ∙ c.if-is_full.false) in
          let limit = ap (λ (l : Log). l.limit) c.push.ensures in omega (arith, longer, room, limit);
      most = subst (λ (n : ℕ). n ≤ HISTORY_ENTRIES) (sym (ap (λ (l : Log). l.limit) c.push.ensures))
          c.args.self.now.most;
    }

pub returns-clause-ok : goal.returns-clause-ok
returns-clause-ok c =
    comes c.args.self.now.plain c.args.self.now.history c.args.self.now.before c.args.self.now.clients
    c.apply.new.self c.push.new.self c.requires.alone (leb-false _ _ (sym c.is_full.ensures ∙ c.if-is_full.false))
    (c.args.self.now.free (c.args.self.now.clients + 1) (let alone = c.requires.alone in omega (arith, alone)))
    (c.in-Done.ensures.step (λ e. absurd (let both : Done ≡ Refused NoMemory = e in cc))) c.push.ensures
