-- The same calls, in the session without the clients that came first.
use Rattle.std.specs.Prelude.{◌≡◌, ℕ, zero, suc, ◌≤◌, List, [], ◌∷◌, ◌++◌, length, drop, refl}
use Rattle.std.proofs.Common.{sym, ap, subst, arith}
use Rattle.ll_seq.specs.declared.call.Call.{Call}
use Rattle.ll_seq.specs.declared.reply.Reply.{Reply}
use Rattle.ll_session.specs.PartySession.{Session, Called, answered, brought, full, next, starved}

abbrev pub without_first : ℕ → Session → Session
without_first n s = record s { clients = drop n s.clients }

pub drop_first : (n : ℕ) (xs ys : List ℕ) → n ≤ length xs → drop n (xs ++ ys) ≡ drop n xs ++ ys
drop_first zero xs ys less = refl
drop_first (suc n) [] ys less = absurd (omega arith)
drop_first (suc n) (x ∷ xs) ys less = drop_first n xs ys (omega arith)

pub called_later : (n : ℕ) (s t : Session) (client : ℕ) (call : Call) (reply : Reply) → n ≤ length s.clients
    → Called s client call reply t → Called (without_first n s) client call reply (without_first n t)
called_later n s t client call given less (answered reply tree fresh room free is) =
    subst (Called (without_first n s) client call reply)
    (ap (λ cs. record (next s client call reply tree) { clients = cs })
    (sym (drop_first n s.clients (brought reply) less)))
    (answered reply tree fresh room free is)
called_later n s t client call given less (full filled) = full filled
called_later n s t client call given less (starved room may) = starved room may
