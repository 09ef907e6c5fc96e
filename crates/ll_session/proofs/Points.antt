-- A legal history, cut before and after one entry.
use Rattle.std.specs.Prelude.{◌≡◌, ℕ, zero, suc, ◌<◌, true, List, [], ◌∷◌, ◌++◌, length, take, Some}
use Rattle.std.specs.Prelude.{slice_get, refl}
use Rattle.std.proofs.Common.{ap, subst, arith}
use Rattle.ll_rights.specs.Map.{has}
use Rattle.ll_seq.specs.declared.reply.Entry.{Entry}
use Rattle.ll_seq.specs.History.{IsLegal, MayStand, after, state_after}
use Rattle.ll_seq.specs.State.{State}
use Rattle.ll_session.proofs.Comers.{caller_there, stay_there}

pub one_taken : (es : List Entry) (n : ℕ) (e : Entry) → slice_get es n ≡ Some e
    → take (suc n) es ≡ take n es ++ e ∷ []
one_taken [] n e at = absurd (cc at)
one_taken (x ∷ es) zero e at = let here : x ≡ e = cc at in ap (λ y. y ∷ []) here
one_taken (x ∷ es) (suc n) e at = ap (λ ys. x ∷ ys) (one_taken es n e at)

pub may_stand : (s : State) (es : List Entry) (n : ℕ) (e : Entry) → IsLegal s es → slice_get es n ≡ Some e
    → MayStand (state_after s (take n es)) e
may_stand s [] n e legal at = absurd (cc at)
may_stand s (x ∷ es) zero e legal at = let here : x ≡ e = cc at in subst (MayStand s) here legal.0
may_stand s (x ∷ es) (suc n) e legal at = may_stand (after s x) es n e legal.1 at

pub state_next : (s : State) (es : List Entry) (n : ℕ) (e : Entry) → slice_get es n ≡ Some e
    → state_after s (take (suc n) es) ≡ after (state_after s (take n es)) e
state_next s [] n e at = absurd (cc at)
state_next s (x ∷ es) zero e at = let here : x ≡ e = cc at in ap (after s) here
state_next s (x ∷ es) (suc n) e at = state_next (after s x) es n e at

pub has_entry : (es : List Entry) (n : ℕ) → n < length es → (e : Entry) × (slice_get es n ≡ Some e)
has_entry [] n less = absurd (omega arith)
has_entry (x ∷ es) zero less = (x, refl)
has_entry (x ∷ es) (suc n) less = has_entry es n (omega arith)

pub entry_within : (es : List Entry) (n : ℕ) (e : Entry) → slice_get es n ≡ Some e → n < length es
entry_within [] n e at = absurd (cc at)
entry_within (x ∷ es) zero e at = omega arith
entry_within (x ∷ es) (suc n) e at = let rest = entry_within es n e at in omega arith

-- whose entry it is is there at the end
pub client_there : (s : State) (es : List Entry) (n : ℕ) (e : Entry) → IsLegal s es → slice_get es n ≡ Some e
    → has (state_after s es).clients e.client ≡ true
client_there s [] n e legal at = absurd (cc at)
client_there s (x ∷ es) zero e legal at =
    let here : x ≡ e = cc at in
    stay_there (after s x) es e.client
    (subst (λ (y : Entry). has (after s x).clients y.client ≡ true) here (caller_there s x legal.0))
client_there s (x ∷ es) (suc n) e legal at = client_there (after s x) es n e legal.1 at
