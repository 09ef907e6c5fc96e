-- Runs of calls.
use Rattle.std.proofs.Common.{◌≡◌, ℕ, ◌+◌, ◌-◌, ◌<◌, ◌≤◌, List, [], ◌∷◌, ◌++◌, length, map, refl, sym, ap, subst}
use Rattle.std.proofs.Common.{◌∙◌, arith, inl, inr, false, ◌⊎◌}
use Rattle.std.specs.List.{flat_map}
use Rattle.std.proofs.lemmas.Bool.{false≢true}
use Rattle.std.specs.declared.alloc.Global.{Global}
use Rattle.std.specs.declared.vec.Vec.{Vec}
use Rattle.ll_rights.specs.declared.errno.Errno.TheVariants.{BadLine}
use Rattle.ll_seq.specs.History.{is_connect}
use Rattle.ll_seq.specs.declared.call.Call.{Call}
use Rattle.ll_seq.specs.declared.reply.Entry.{Entry}
use Rattle.ll_seq.specs.declared.reply.Reply.{Reply}
use Rattle.ll_seq.specs.declared.reply.Reply.TheVariants.{Refused}
use Rattle.ll_seq.specs.declared.rules.Rules.{Rules}
use Rattle.ll_client.specs.Entries.{Knows}
use Rattle.ll_wire.specs.Entries.{IsEntryCall}
use Rattle.ll_wire.specs.Grammar.{IsCall, SpellsCommand, reply_line}
use Rattle.ll_wire.specs.Transcript.{Transcript}
use Rattle.ll_wire.proofs.Unique.{spells_one}
use Rattle.ll_session.specs.Beside as beside
use Rattle.ll_session.specs.Beside.{AnswersBeside, placed}
use Rattle.ll_session.specs.Between.{Leads, between}
use Rattle.ll_session.specs.CallsRun.{LinesGetTheReplies, Makes, Replied, RepliedBeside, RepliesTo, call_line}
use Rattle.ll_session.specs.FirstClients.{Opens, begun, refused}
use Rattle.ll_session.specs.PartySession.{Session}
use Rattle.ll_session.specs.Progress.{without}
use Rattle.ll_session.specs.Session.{Answers, Tells}
use Rattle.ll_session.specs.Talk.{AsksFor}
use Rattle.ll_session.specs.declared.calls_run.CallReplies.TheVariants as replies_of
use Rattle.ll_session.specs.declared.client_call.ClientCall.{ClientCall}
use Rattle.ll_session.specs.declared.refusal.Refusal.{Refusal}
use Rattle.ll_session.specs.declared.setup.Setup.{Setup}
use Rattle.ll_session.proofs.ActChains.{nothing_leads, so_leads, then_leads}
use Rattle.ll_session.proofs.Replies.{answers_count, answers_so}
use Rattle.ll_session.proofs.Ways.{AtEnd}

is_call : (call : Call) → is_connect call ≡ false → IsEntryCall call → IsCall call
is_call call other (inl is) = is
is_call call other (inr is) = absurd (false≢true (sym other ∙ ap is_connect is))

-- a line spells the call
pub spelled : (made : ClientCall) → IsEntryCall made.call → SpellsCommand (call_line made) made.client made.call
spelled made is = record {
  is_client = (made.first, made.last);
  is_call = is_call made.call made.other is;
  short = made.short;
  text = refl;
}

module _ (limit before : ℕ) (ks : List Knows) (made : ClientCall) (is : IsEntryCall made.call) where
  pub nobody_calls : length ks < before + made.client
      → AnswersBeside limit before ks (call_line made) (Refused BadLine) ks
  nobody_calls more = beside.bad (λ n call other.
      let same = (spells_one (call_line made) made.client n made.call call (spelled made is) other).0 in
      omega (arith, more, same))

  pub somebody_calls : (count : ℕ) (told reply : Reply) (ks' : List Knows) → before + made.client ≤ length ks
      → AsksFor limit ks (before + made.client - 1) made.call told ks' → count ≡ length ks' - before
      → reply ≡ placed count told → AnswersBeside limit before ks (call_line made) reply ks'
  somebody_calls count told reply ks' low act many told_so =
      subst (λ (r : Reply). AnswersBeside limit before ks (call_line made) r ks')
      (sym (told_so ∙ ap (λ n. placed n told) many))
      (beside.calls made.client made.call told ks' (spelled made is) low act)

-- one call more
pub one_more : (limit before : ℕ) (ks mid ks' : List Knows) (calls : List ClientCall) (replies : List Reply)
    (made : ClientCall) (reply : Reply) → RepliedBeside limit before ks calls replies mid
    → AnswersBeside limit before mid (call_line made) reply ks'
    → RepliedBeside limit before ks (calls ++ made ∷ []) (replies ++ reply ∷ []) ks'
one_more limit before ks mid ks' [] [] made reply h act =
    (ks', subst (λ (l : List Knows). AnswersBeside limit before l (call_line made) reply ks') h act, refl)
one_more limit before ks mid ks' [] (r ∷ replies) made reply h act = absurd h
one_more limit before ks mid ks' (m ∷ calls) [] made reply h act = absurd h
one_more limit before ks mid ks' (m ∷ calls) (r ∷ replies) made reply h act =
    (h.0, h.1, one_more limit before h.0 mid ks' calls replies made reply h.2 act)

module _ (rules : Rules) (room limit before : ℕ) where
  pub replied_so : (ks ks' : List Knows) (calls : List ClientCall) (replies : List Reply) → before < length ks
      → RepliedBeside limit before ks calls replies ks'
      → Leads rules room limit ks ks' (RepliesTo before calls replies)
  replied_so ks ks' [] [] less h =
      subst (λ (l : List Knows). Leads rules room limit ks l (RepliesTo before [] [])) (sym h)
      (so_leads rules room limit ks ks (λ s t. t ≡ s) (RepliesTo before [] []) (nothing_leads rules room limit ks)
      (λ history end c s s' same. ap (without before) same))
  replied_so ks ks' [] (reply ∷ replies) less h = absurd h
  replied_so ks ks' (made ∷ calls) [] less h = absurd h
  replied_so ks ks' (made ∷ calls) (reply ∷ replies) less h =
      let mid = h.0 in
      let more = answers_count limit before ks mid (call_line made) reply h.1 in
      so_leads rules room limit ks ks'
      (λ s u. (t : Session) × Answers (without before s) (call_line made) reply (without before t)
      × RepliesTo before calls replies t u)
      (RepliesTo before (made ∷ calls) (reply ∷ replies))
      (then_leads rules room limit ks mid ks'
      (λ s t. Answers (without before s) (call_line made) reply (without before t))
      (RepliesTo before calls replies)
      (answers_so rules room limit before (call_line made) ks mid reply less h.1)
      (replied_so mid ks' calls replies (omega (arith, less, more)) h.2))
      (λ history end c s s' it. (without before it.0, it.1, it.2))

pub lines_get_them : LinesGetTheReplies
lines_get_them s t [] [] h = (refl, h)
lines_get_them s t [] (reply ∷ replies) h = absurd h
lines_get_them s t (made ∷ calls) [] h = absurd h
lines_get_them s t (made ∷ calls) (reply ∷ replies) h = (
  reply_line reply,
  h.0,
  flat_map reply_line replies,
  (reply, h.1, refl),
  lines_get_them h.0 t calls replies h.2,
  refl,
)

-- a session that was opened after so many clients, and whose calls have their replies
pub makes_them : (setup : Setup) (before : ℕ) (calls : List ClientCall) (replies : Vec Reply Global)
    (entries : List Entry)
    → AtEnd (λ mid. Opens setup (begun (without before mid))) (RepliesTo before calls replies.items) entries
    → Makes setup calls (replies_of.Answered replies) entries
makes_them setup before calls replies entries e =
    (without before e.0, without before e.1, e.2, e.3, sym e.4)

-- a session whose opening is refused
pub refused_them : (setup : Setup) (calls : List ClientCall) (refusal : Refusal) (entries : List Entry)
    → AtEnd (λ t. Opens setup (refused refusal t)) (λ s t. t ≡ s) entries
    → Makes setup calls (replies_of.Refused refusal) entries
refused_them setup calls refusal entries e =
    (e.0, e.2, sym e.4 ∙ ap (λ (t : Session). t.entries) e.3)
