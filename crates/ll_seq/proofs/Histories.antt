-- Histories that are put together and cut in two.
use Rattle.std.specs.Prelude.{◌≡◌, List, [], ◌∷◌, ◌++◌, refl}
use Rattle.ll_seq.specs.declared.reply.Entry.{Entry}
use Rattle.ll_seq.specs.State.{State}
use Rattle.ll_seq.specs.History.{MayStand, IsLegal, state_after, after}

-- the state after two parts, one after the other
pub after_append : (s : State) (early late : List Entry)
    → state_after s (early ++ late) ≡ state_after (state_after s early) late
after_append s [] late = refl
after_append s (e ∷ early) late = after_append (after s e) early late

-- the state after one entry more
pub after_push : (s : State) (es : List Entry) (e : Entry) → state_after s (es ++ e ∷ []) ≡ after (state_after s es) e
after_push s es e = after_append s es (e ∷ [])

-- the first part of a legal history is legal, and the rest is so where it starts
pub legal_early : (s : State) (early late : List Entry) → IsLegal s (early ++ late) → IsLegal s early
legal_early s [] late l = tt
legal_early s (e ∷ early) late l = (l.0, legal_early (after s e) early late l.1)

pub legal_late : (s : State) (early late : List Entry) → IsLegal s (early ++ late) → IsLegal (state_after s early) late
legal_late s [] late l = l
legal_late s (e ∷ early) late l = legal_late (after s e) early late l.1

pub legal_join : (s : State) (early late : List Entry) → IsLegal s early → IsLegal (state_after s early) late
    → IsLegal s (early ++ late)
legal_join s [] late l m = m
legal_join s (e ∷ early) late l m = (l.0, legal_join (after s e) early late l.1 m)

-- a legal history goes on by an entry that may stand there
pub legal_append : (s : State) (es : List Entry) (e : Entry) → IsLegal s es → MayStand (state_after s es) e
    → IsLegal s (es ++ e ∷ [])
legal_append s es e l m = legal_join s es (e ∷ []) l (m, tt)
