-- Entries one after the other.
use Rattle.std.proofs.Common.{◌≡◌, ℕ, ◌+◌, ◌-◌, ◌<◌, ◌≤◌, List, [], ◌∷◌, ◌++◌, length, take, get_or, refl, sym, ap}
use Rattle.std.proofs.Common.{subst, ◌∙◌, arith}
use Rattle.std.proofs.lemmas.List.{take_all, take_more}
use Rattle.std.proofs.lemmas.Option.{slice_get_read}
use Rattle.ll_seq.specs.Memory.{MayStarve}
use Rattle.ll_seq.specs.declared.reply.Entry.{Entry}
use Rattle.ll_seq.specs.History.{IsLegal, MayStand, state_after, after}
use Rattle.ll_seq.specs.State.{State}
use Rattle.ll_seq.proofs.Histories.{after_push, legal_append, legal_late}
use Rattle.ll_audit.specs.Audit.{IsFirstIllegal, Starves}

-- Where the tree stands before the entry at a place: those before it are legal, and have led to this state
pub record HasFollowed (s : State) (entries : List Entry) (done : ℕ) (t : State) : Type 0 where
  pub legal : IsLegal s (take done entries)
  pub state : t ≡ state_after s (take done entries)
  pub numbers : t.next ≤ s.next + done

pub starts : (s : State) (entries : List Entry) → HasFollowed s entries 0 s
starts s [] = record { legal = tt; state = refl; numbers = omega arith }
starts s (e ∷ entries) = record { legal = tt; state = refl; numbers = omega arith }

pub ends : (s : State) (entries : List Entry) (i : ℕ) (t : State) → length entries ≤ i → HasFollowed s entries i t
    → IsLegal s entries × (t ≡ state_after s entries)
ends s entries i t past so_far =
    let whole = take_all i entries past in
    (subst (IsLegal s) whole so_far.legal, so_far.state ∙ ap (state_after s) whole)

module _ (s : State) (entries : List Entry) (i : ℕ) (e : Entry) (t : State) (within : i < length entries)
    (at : e ≡ get_or entries i e) (so_far : HasFollowed s entries i t) where
  one_more : take (i + 1) entries ≡ take i entries ++ e ∷ []
  one_more = take_more entries i e within ∙ ap (λ (x : Entry). take i entries ++ x ∷ []) (sym at)

  pub goes_on : (u : State) → MayStand t e → u ≡ after t e → u.next ≤ t.next + 1 → HasFollowed s entries (i + 1) u
  goes_on u may is grown = record {
    legal = subst (IsLegal s) (sym one_more)
        (legal_append s (take i entries) e so_far.legal (subst (λ (z : State). MayStand z e) so_far.state may));
    state = is ∙ ap (λ (z : State). after z e) so_far.state ∙ sym (after_push s (take i entries) e)
        ∙ ap (state_after s) (sym one_more);
    numbers = (let before = so_far.numbers in omega arith);
  }

  pub stops : (MayStand t e → ⊥) → IsFirstIllegal s entries (i + 1)
  stops may_not = record {
    first = omega arith;
    last = omega arith;
    legal = (let same : i ≡ i + 1 - 1 = omega arith in subst (λ k. IsLegal s (take k entries)) same so_far.legal);
    illegal = λ legal. may_not (subst (λ (z : State). MayStand z e) (sym so_far.state)
        (legal_late s (take i entries) (e ∷ []) (subst (IsLegal s) one_more legal)).0);
  }

  pub starves : MayStarve t e.client e.call → Starves s entries
  starves may = record {
    done = i;
    entry = e;
    next = slice_get_read entries (length entries) i e refl within at;
    legal = so_far.legal;
    may = subst (λ (z : State). MayStarve z e.client e.call) so_far.state may;
  }
