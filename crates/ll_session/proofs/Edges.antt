-- How sessions begin and end, and how a connect may fail.
use Rattle.std.specs.Prelude.{◌≡◌, ℕ, ◌<◌, ◌≤◌, false, List, [], length}
use Rattle.std.specs.Prelude.{map}
use Rattle.std.specs.Prelude.{take, drop, nat_le, refl}
use Rattle.std.proofs.Common.{sym, ap, subst, ◌∙◌, inl, inr, arith}
use Rattle.std.proofs.lemmas.Bool.{cases_lt, leb-false, leb-true}
use Rattle.std.proofs.lemmas.List.{length-take-le, take-append-drop, take_all}
use Rattle.ll_rights.specs.declared.errno.Errno.TheVariants.{EMFILE}
use Rattle.ll_rights.specs.declared.limits.TheConstants.{TREE_CLIENTS}
use Rattle.ll_rights.specs.Errno.{refuse}
use Rattle.ll_rights.specs.Map.{has, len}
use Rattle.ll_rights.proofs.Sizes.{len-empty}
use Rattle.ll_seq.specs.declared.call.Call.TheVariants.{Connect}
use Rattle.ll_seq.specs.declared.client.ClientRecord.{ClientRecord}
use Rattle.ll_seq.specs.declared.reply.Entry.{Entry}
use Rattle.ll_seq.specs.declared.reply.Reply.TheVariants.{Refused}
use Rattle.ll_seq.specs.declared.rules.Rules.{Rules}
use Rattle.ll_seq.specs.History.{IsLegal}
use Rattle.ll_seq.specs.Stages.{numbers_from}
use Rattle.ll_seq.specs.State.{State, start}
use Rattle.ll_seq.specs.Step.{refusals, client_of}
use Rattle.ll_seq.proofs.Histories.{legal_early}
use Rattle.ll_session.specs.Between.{IsSettled, between}
use Rattle.ll_client.specs.Closed.{IsClosed}
use Rattle.ll_client.specs.Entries.{Knows}
use Rattle.ll_session.specs.Laws.{ConnectsMayFail, PointsAreLegal}
use Rattle.ll_session.specs.PartySession.{Session, answered, following, full, next, starved}
use Rattle.ll_session.specs.Talk.{seen_by}
use Rattle.ll_session.proofs.Closings.{all_entered, numbers_at}
use Rattle.ll_session.proofs.Comers.{connects, nobody_new}
use Rattle.ll_session.proofs.Entered.{entered_below}
use Rattle.ll_session.proofs.Seen.{count_numbers}
use Rattle.ll_session.proofs.Steps.{not_there}

-- ---- the first point and the last

pub nobody_yet : (rules : Rules) (room : ℕ) (history : List Entry) → IsSettled rules room history []
unfolding numbers_from
nobody_yet rules room history = record {
  low = omega arith;
  known = tt;
  numbers = refl;
  there = tt;
  count = len-empty ClientRecord;
}

module _ (rules : Rules) (room limit : ℕ) (history : List Entry) (end : List Knows)
    (c : IsClosed rules room limit history end) where
  known_to_the_end : IsSettled rules room history end → length history ≤ seen_by end
  known_to_the_end s = elim (cases_lt (seen_by end) (length history)) [
    | inl lt ↦ let less = entered_below (seen_by end) end (length history) s.known
        (all_entered rules room limit history end c (length history) (omega (arith, lt)) (omega arith)) in
        absurd (omega arith)
    | inr ge ↦ ge
  ]

  -- the next client's number is nobody's
  next_free : (ks : List Knows) → IsSettled rules room history ks
      → let s = between rules room limit history ks in has s.tree.clients (following s) ≡ false
  next_free ks s =
      let now : Session = between rules room limit history ks in
      not_there (has now.tree.clients (following now))
      (λ there.
      let last = (numbers_at rules room limit history end c (seen_by ks) (following now) there).1 in
      let many = s.count in
      let same = count_numbers ks in
      absurd (omega (arith, last, many, same)))

  long : (ks : List Knows) → IsSettled rules room history ks → length (take (seen_by ks) history) ≡ seen_by ks
  long ks s = length-take-le (seen_by ks) history s.low

pub points : PointsAreLegal
points rules room limit history end c = (
  nobody_yet rules room history,
  λ ks s. (
    long rules room limit history end c ks s,
    legal_early (start rules room) (take (seen_by ks) history) (drop (seen_by ks) history)
        (subst (IsLegal (start rules room)) (sym (take-append-drop (seen_by ks) history)) c.legal),
    refl,
  ),
  λ s. take_all (seen_by end) history (known_to_the_end rules room limit history end c s),
)

-- ---- a connect that fails

-- where there is room for one client more, nothing refuses it
nothing_refuses : (s : State) (n : ℕ) → has s.clients n ≡ false → nat_le TREE_CLIENTS (len s.clients) ≡ false
    → refusals s (client_of s n) Connect ≡ []
nothing_refuses s n free few =
    ap (λ (r : ClientRecord). refusals s r Connect) (nobody_new s n free)
    ∙ ap (λ b. map Refused (refuse b EMFILE)) few

few_then : (m n : ℕ) → n < m → nat_le m n ≡ false
few_then m n less = not_there (nat_le m n) (λ e. let more = leb-true m n e in absurd (omega (arith, less, more)))

pub may_fail : ConnectsMayFail
may_fail rules room limit history ks end c s =
    let now : Session = between rules room limit history ks in
    let n : ℕ = following now in
    let out = next_free rules room limit history end c ks s in
    let all = long rules room limit history end c ks s in (
      λ filled. (out, full (omega (arith, filled, all))),
      λ room_left many.
          let count = s.count in
          elim (connects now.tree n n out) [
            | inl came ↦ let less = leb-false TREE_CLIENTS (len now.tree.clients) came.0 in
                absurd (omega (arith, less, count, many))
            | inr over ↦ (
              next now n Connect (Refused EMFILE) now.tree,
              (out, answered (Refused EMFILE) now.tree n (omega (arith, room_left, all)) out (sym over.1)),
            )
          ],
      λ room_left few. (
        out,
        starved (omega (arith, room_left, all)) (record {
          takes = refl;
          passes = nothing_refuses now.tree n out
              (few_then TREE_CLIENTS (len now.tree.clients) (let count = s.count in omega (arith, few, count)));
        }),
      ),
    )
