-- Histories that are followed part after part.
use Rattle.std.proofs.Common.{◌≡◌, ℕ, ◌+◌, ◌-◌, ◌<◌, ◌≤◌, List, [], ◌∷◌, ◌++◌, length, take, get_or, refl, sym, ap}
use Rattle.std.proofs.Common.{subst, ◌∙◌, append_assoc, arith}
use Rattle.std.proofs.Math.Seq.{take-append-add}
use Rattle.std.proofs.lemmas.List.{get_or-append-add, get_or_append_left, length-append, take-append-le}
use Rattle.std.proofs.lemmas.Option.{get_or_from_slice_get, slice_get_read, slice_get_within}
use Rattle.ll_seq.specs.declared.reply.Entry.{Entry}
use Rattle.ll_seq.specs.History.{IsLegal, state_after, after, fresh_of}
use Rattle.ll_seq.specs.Memory.{MayStarve}
use Rattle.ll_seq.specs.State.{State}
use Rattle.ll_seq.proofs.Consequences.{step-next}
use Rattle.ll_seq.proofs.Histories.{after_append, legal_join, legal_late}
use Rattle.ll_audit.specs.Audit.{IsFirstIllegal, Starves}

-- each entry uses one inode number at most
pub next_after : (s : State) (es : List Entry) → (state_after s es).next ≤ s.next + length es
next_after s [] = omega arith
next_after s (e ∷ es) =
    let first : (after s e).next ≤ s.next + 1 = step-next s e.client e.call (fresh_of e.reply) in
    omega (arith, next_after (after s e) es, first)

-- The entries before the rest are legal, and have led to this state
pub record HasFollowed (s : State) (entries rest : List Entry) (t : State) : Type 0 where
  pub done : List Entry
  pub whole : entries ≡ done ++ rest
  pub legal : IsLegal s done
  pub state : t ≡ state_after s done

pub starts : (s t : State) (entries rest : List Entry) → rest ≡ entries → t ≡ s → HasFollowed s entries rest t
starts s t entries rest e f = record { done = []; whole = sym e; legal = tt; state = f }

module _ (s : State) (entries rest : List Entry) (t : State) (so_far : HasFollowed s entries rest t) where
  -- there are numbers enough for the rest
  pub has_numbers : (part more : List Entry) → rest ≡ part ++ more → t.next + length part ≤ s.next + length entries
  has_numbers part more cut =
      let used = next_after s so_far.done in
      let now : t.next ≡ (state_after s so_far.done).next = ap (λ (z : State). z.next) so_far.state in
      let all : length entries ≡ length so_far.done + length rest =
      ap length so_far.whole ∙ length-append so_far.done rest in
      let left : length rest ≡ length part + length more = ap length cut ∙ length-append part more in
      omega (arith, used, now, all, left)

  pub ends : rest ≡ [] → IsLegal s entries
  ends none = subst (IsLegal s) (sym (so_far.whole ∙ ap (λ (es : List Entry). so_far.done ++ es) none))
      (legal_join s so_far.done [] so_far.legal tt)

  module _ (part more : List Entry) (cut : rest ≡ part ++ more) where
    pub goes_on : (u : State) → IsLegal t part → u ≡ state_after t part → HasFollowed s entries more u
    goes_on u legal is = record {
      done = so_far.done ++ part;
      whole = so_far.whole ∙ ap (λ (es : List Entry). so_far.done ++ es) cut ∙ sym (append_assoc so_far.done part more);
      legal = legal_join s so_far.done part so_far.legal (subst (λ (z : State). IsLegal z part) so_far.state legal);
      state = is ∙ ap (λ (z : State). state_after z part) so_far.state ∙ sym (after_append s so_far.done part);
    }

    pub within_all : length entries - length rest + length part ≤ length entries
    within_all =
        let all : length entries ≡ length so_far.done + length rest =
        ap length so_far.whole ∙ length-append so_far.done rest in
        let left : length rest ≡ length part + length more = ap length cut ∙ length-append part more in
        omega (arith, all, left)

    -- so many of the part come after those before it
    up_to : (k : ℕ) → k ≤ length part → take (length so_far.done + k) entries ≡ so_far.done ++ take k part
    up_to k within = ap (take (length so_far.done + k)) (so_far.whole ∙ ap (λ (es : List Entry). so_far.done ++ es) cut)
        ∙ take-append-add so_far.done (part ++ more) k
        ∙ ap (λ (es : List Entry). so_far.done ++ es) (take-append-le k part more within)

    pub stops : (k n : ℕ) → IsFirstIllegal t part k → n ≡ length entries - length rest + k → IsFirstIllegal s entries n
    stops k n bad is =
        let all : length entries ≡ length so_far.done + length rest =
        ap length so_far.whole ∙ length-append so_far.done rest in
        let left : length rest ≡ length part + length more = ap length cut ∙ length-append part more in
        let first = bad.first in
        let last = bad.last in
        let at : n ≡ length so_far.done + k = omega (arith, all, is) in
        let before : n - 1 ≡ length so_far.done + (k - 1) = omega (arith, at, first) in
        record {
          first = omega (arith, at, first);
          last = omega (arith, at, last, all, left);
          legal = subst (IsLegal s) (sym (ap (λ (m : ℕ). take m entries) before ∙ up_to (k - 1) (omega (arith, last))))
              (legal_join s so_far.done (take (k - 1) part) so_far.legal
              (subst (λ (z : State). IsLegal z (take (k - 1) part)) so_far.state bad.legal));
          illegal = λ legal. bad.illegal (subst (λ (z : State). IsLegal z (take k part)) (sym so_far.state)
              (legal_late s so_far.done (take k part)
              (subst (IsLegal s) (ap (λ (m : ℕ). take m entries) at ∙ up_to k last) legal)));
        }

    pub starves : Starves t part → Starves s entries
    starves b =
        let within : b.done < length part = slice_get_within part b.done b.entry b.next in
        let all : length entries ≡ length so_far.done + length rest =
        ap length so_far.whole ∙ length-append so_far.done rest in
        let left : length rest ≡ length part + length more = ap length cut ∙ length-append part more in
        let whole : entries ≡ so_far.done ++ (part ++ more) =
        so_far.whole ∙ ap (λ (es : List Entry). so_far.done ++ es) cut in
        let here : get_or entries (length so_far.done + b.done) b.entry ≡ b.entry
        = ap (λ (es : List Entry). get_or es (length so_far.done + b.done) b.entry) whole
        ∙ get_or-append-add so_far.done (part ++ more) b.done b.entry
        ∙ get_or_append_left part more b.entry b.done within
        ∙ get_or_from_slice_get part b.done b.entry b.entry b.next in
        let before = up_to b.done (omega (arith, within)) in
        let same : state_after t (take b.done part) ≡ state_after s (take (length so_far.done + b.done) entries)
        = ap (λ (z : State). state_after z (take b.done part)) so_far.state
        ∙ sym (after_append s so_far.done (take b.done part))
        ∙ ap (state_after s) (sym before) in
        record {
          done = length so_far.done + b.done;
          entry = b.entry;
          next = slice_get_read entries (length entries) (length so_far.done + b.done) b.entry refl
              (omega (arith, within, all, left)) (sym here);
          legal = subst (IsLegal s) (sym before)
              (legal_join s so_far.done (take b.done part) so_far.legal
              (subst (λ (z : State). IsLegal z (take b.done part)) so_far.state b.legal));
          may = subst (λ (z : State). MayStarve z b.entry.client b.entry.call) same b.may;
        }
