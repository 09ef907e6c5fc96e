-- Where there is no move outside, each is made by one whom the layer is on.
use Rattle.std.specs.Prelude.{◌≡◌, ◌+◌, ℕ, Bool, true, false, not, ◌&&◌, List, [], ◌∷◌, Option, Some, None}
use Rattle.std.specs.Prelude.{if◌then◌else◌, refl}
use Rattle.std.specs.Option.{option_or}
use Rattle.std.proofs.Common.{ap}
use Rattle.ll_laws.specs.NoGain.{is_move}
use Rattle.ll_seq.specs.declared.reply.Entry.{Entry}
use Rattle.ll_seq.specs.declared.reply.Reply.{Reply}
use Rattle.ll_seq.specs.declared.reply.Reply.TheVariants as reply
use Rattle.ll_learn.specs.declared.needs.Origin.{Origin}
use Rattle.ll_learn.specs.Bound.{MovesAreTheirs}
use Rattle.ll_learn.specs.Charges.{OutsideIsNone}
use Rattle.ll_learn.specs.Outside.{first_outside, is_done, outside_of}
use Rattle.ll_learn.specs.PassedCalls.{joins}

both_none : (o p : Option Origin) → option_or o p ≡ None → (o ≡ None) × (p ≡ None)
both_none None p e = (refl, e)
both_none (Some x) p e = absurd (cc e)

not_outside : (moves done on : Bool) (origin : Origin)
    → (if (moves && done) && not on then Some origin else None) ≡ None
    → moves ≡ true → done ≡ true → on ≡ true
not_outside true true true origin e a b = refl
not_outside true true false origin e a b = absurd (cc e)
not_outside true false on origin e a b = absurd (cc b)
not_outside false done on origin e a b = absurd (cc a)

pub moves_are_theirs : OutsideIsNone
moves_are_theirs is_on history number [] e = tt
moves_are_theirs is_on history number (x ∷ es) e =
    let origin : Origin = record { history = history; entry = number } in
    let w = both_none (outside_of is_on x origin) (first_outside (joins is_on x) history (number + 1) es) e in (
      λ moves done. not_outside (is_move x.call) (is_done x.reply) (is_on x.client) origin w.0 moves (ap is_done done),
      moves_are_theirs (joins is_on x) history (number + 1) es w.1,
    )

-- ---- the other way round

done_is : (r : Reply) → is_done r ≡ true → r ≡ reply.Done
done_is reply.Done e = refl
done_is (reply.Opened fd) e = absurd (cc e)
done_is (reply.Bytes bytes) e = absurd (cc e)
done_is (reply.Wrote count) e = absurd (cc e)
done_is (reply.Listed names) e = absurd (cc e)
done_is (reply.Found status) e = absurd (cc e)
done_is (reply.Created number) e = absurd (cc e)
done_is (reply.Spawned client) e = absurd (cc e)
done_is (reply.Refused errno) e = absurd (cc e)
done_is (reply.Denied denial) e = absurd (cc e)

inside : (moves done on : Bool) (origin : Origin) → (moves ≡ true → done ≡ true → on ≡ true)
    → (if (moves && done) && not on then Some origin else None) ≡ None
inside true true true origin f = refl
inside true true false origin f = let e : false ≡ true = f refl refl in absurd (cc e)
inside true false on origin f = refl
inside false done on origin f = refl

pub both_are : (o p : Option Origin) → o ≡ None → p ≡ None → option_or o p ≡ None
both_are None p e f = f
both_are (Some x) p e f = absurd (cc e)

pub none_is_outside : (is_on : ℕ → Bool) (history number : ℕ) (es : List Entry) → MovesAreTheirs is_on es
    → first_outside is_on history number es ≡ None
none_is_outside is_on history number [] theirs = refl
none_is_outside is_on history number (x ∷ es) theirs =
    let origin : Origin = record { history = history; entry = number } in
    both_are (outside_of is_on x origin) (first_outside (joins is_on x) history (number + 1) es)
    (inside (is_move x.call) (is_done x.reply) (is_on x.client) origin
    (λ moves done. theirs.0 moves (done_is x.reply done)))
    (none_is_outside (joins is_on x) history (number + 1) es theirs.1)
