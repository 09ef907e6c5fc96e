-- Runs of calls on a tree of their own.
use Rattle.std.proofs.Common.{ℕ, ◌<◌, List, [], ◌∷◌, ◌++◌, map, refl, sym, subst, inl, inr, arith}
use Rattle.std.specs.List.{flat_map}
use Rattle.ll_rights.specs.declared.errno.Errno.TheVariants.{BadLine}
use Rattle.ll_seq.specs.History.{IsLegal, Log}
use Rattle.ll_seq.specs.State.{State, start}
use Rattle.ll_seq.specs.declared.reply.Entry.{Entry}
use Rattle.ll_seq.specs.declared.reply.Reply.{Reply}
use Rattle.ll_seq.specs.declared.reply.Reply.TheVariants.{Refused}
use Rattle.ll_wire.specs.Entries.{IsEntryCall}
use Rattle.ll_wire.specs.Grammar.{reply_line}
use Rattle.ll_wire.proofs.Unique.{spells_one}
use Rattle.ll_session.specs.CallsRun.{Makes, Replied, call_line}
use Rattle.ll_session.specs.PartySession.{Session}
use Rattle.ll_session.specs.Session.{Answers}
use Rattle.ll_session.specs.declared.calls_run.CallReplies.{CallReplies}
use Rattle.ll_session.specs.declared.calls_run.CallReplies.TheVariants as replies_of
use Rattle.ll_session.specs.declared.client_call.ClientCall.{ClientCall}
use Rattle.ll_session.specs.declared.setup.Setup.{Setup}
use Rattle.ll_session.proofs.CallsRuns.{lines_get_them, spelled}
use Rattle.ll_session.proofs.Legal.{legally}
use Rattle.ll_embed.proofs.Owned.{spells_none, standing}

-- a call of a client that doesn't exist
pub nobody_calls : (tree : State) (log : Log) (before clients : ℕ) (made : ClientCall) → IsEntryCall made.call
    → clients < made.client
    → Answers (standing tree log before clients) (call_line made) (Refused BadLine) (standing tree log before clients)
nobody_calls tree log before clients made is more =
    spells_none tree log before clients (call_line made) (λ n call other.
    let same = (spells_one (call_line made) made.client n made.call call (spelled made is) other).0 in
    omega (arith, more, same))

-- one call more
pub one_replied : (s mid t : Session) (calls : List ClientCall) (replies : List Reply) (made : ClientCall)
    (reply : Reply) → Replied s calls replies mid → Answers mid (call_line made) reply t
    → Replied s (calls ++ made ∷ []) (replies ++ reply ∷ []) t
one_replied s mid t [] [] made reply h act =
    (t, subst (λ (u : Session). Answers u (call_line made) reply t) h act, refl)
one_replied s mid t [] (r ∷ replies) made reply h act = absurd h
one_replied s mid t (m ∷ calls) [] made reply h act = absurd h
one_replied s mid t (m ∷ calls) (r ∷ replies) made reply h act =
    (h.0, h.1, one_replied h.0 mid t calls replies made reply h.2 act)

-- the entries that a run of calls leaves are a legal history
pub made_legally : (setup : Setup) (calls : List ClientCall) (made : CallReplies) (entries : List Entry)
    → Makes setup calls made entries → IsLegal (start setup.rules setup.nodes) entries
made_legally setup calls (replies_of.Answered replies) entries h =
    subst (IsLegal (start setup.rules setup.nodes)) (sym h.4)
    (legally setup (map call_line calls) [] (flat_map reply_line replies.items) h.1
    (inl (h.0, h.2, refl, lines_get_them h.0 h.1 calls replies.items h.3))).0
made_legally setup calls (replies_of.Refused refusal) entries h =
    subst (IsLegal (start setup.rules setup.nodes)) (sym h.2)
    (legally setup [] [] (reply_line refusal.reply) h.0 (inr (refusal, h.1, refl, refl))).0
