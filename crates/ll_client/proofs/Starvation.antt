-- Where memory runs out there was room, and nothing refused the call.
use Rattle.std.specs.Prelude.{◌≡◌, ℕ, ◌+◌, ◌*◌, true, false, List, length, Option, Some}
use Rattle.std.specs.Prelude.{Result, Ok, Err, IfOk, option_map, refl}
use Rattle.std.specs.Ordering.{nat_cmp}
use Rattle.std.proofs.Common.{sym, subst, ap, ◌∙◌, arith}
use Rattle.std.proofs.lemmas.Bool.{leb-false}
use Rattle.std.proofs.lemmas.List.{take_all}
use Rattle.ll_rights.specs.Map.{Map, get, insert, remove}
use Rattle.ll_seq.specs.declared.call.Call.{Call}
use Rattle.ll_seq.specs.declared.reply.Entry.{Entry}
use Rattle.ll_seq.specs.History.{state_after}
use Rattle.ll_seq.specs.Memory.{MayStarve}
use Rattle.ll_seq.specs.State.{start}
use Rattle.ll_laws.specs.declared.step.Step.{Step}
use Rattle.ll_laws.specs.declared.step.Step.TheVariants as steps
use Rattle.ll_laws.specs.Walk.{Walk}
use Rattle.ll_laws.specs.World.{World, is_full, shown}
use Rattle.ll_journal.specs.Book.{Book}
use Rattle.ll_journal.specs.Direct.{Answers, Starts, Starves}
use Rattle.ll_journal.proofs.Starved.{starved_walk}
use Rattle.ll_journal.specs.declared.direct.Made.{Made}
use Rattle.ll_journal.specs.declared.direct.Made.TheVariants as made
use Rattle.ll_journal.specs.declared.start.Start.{Start}
use Rattle.ll_journal.specs.declared.start.Start.TheVariants as start_of
use Rattle.ll_client.specs.declared.account.Account.{Account}
use Rattle.ll_client.specs.declared.account.Account.TheVariants.{Wants}
use Rattle.ll_client.specs.declared.account.Starved.{Starved}
use Rattle.ll_client.specs.declared.left.Leaving.{Leaving}
use Rattle.ll_client.specs.declared.left.Leaving.TheVariants.{Commit, Restart}
use Rattle.ll_client.specs.declared.left.Left.{Left}
use Rattle.ll_client.specs.declared.left.Left.TheVariants as left
use Rattle.ll_client.specs.Entries.{AreAccounts, AreStarved, IsStarved, doing_of, starved_at, wants_entry}
use Rattle.ll_client.specs.Gains.{Leaves}
use Rattle.ll_client.specs.Hands.{OnlyWants, starves_left, starves_made, starves_started, with_starved}
use Rattle.ll_client.proofs.Accounts.{gave, gave_other, one_more, only_wants, took, wants_account}
use Rattle.ll_client.proofs.Directs.{IsDirect, direct_may}

starves_now : (w : World) (c : ℕ) (call : Call) → is_full w ≡ false → MayStarve (shown w) c call
    → IsStarved w.rules w.room w.limit w.history c (starved_at (length w.history) call)
starves_now w c call room may = (
  omega arith,
  leb-false w.limit (length w.history) room,
  subst (λ (es : List Entry). MayStarve (state_after (start w.rules w.room) es) c call)
      (sym (take_all (length w.history) w.history (omega arith))) may,
)

-- the calls for which memory ran out, and this one
abbrev pub GoOn : World → ℕ → List Starved → Option Call → Type 0
GoOn w c starved call =
    AreStarved w c starved → AreStarved w c (with_starved starved (length w.history) call)

direct_starves : (b b' : Book) (c : ℕ) (call : Call) (s : Step) (starved : List Starved) → IsDirect b.world c call s
    → Answers b s made.NoMemory b' → GoOn b.world c starved (Some call)
direct_starves b b' c call s starved t d are =
    one_more (IsStarved b.world.rules b.world.room b.world.limit b.world.history c) starved _ are
    (starves_now b.world c call d.1.room (direct_may b.world c call s t d.1))

made_starves : (b b' : Book) (c : ℕ) (call : Call) (s : Step) (starved : List Starved) (a : Made)
    → IsDirect b.world c call s → Answers b s a b' → (E : Type 0) → starves_made {E = E} (Ok a) ≡ true
    → GoOn b.world c starved (Some call)
made_starves b b' c call s starved (made.Replied reply) t d E ran = absurd (cc ran)
made_starves b b' c call s starved made.HistoryFull t d E ran = absurd (cc ran)
made_starves b b' c call s starved made.NoMemory t d E ran = direct_starves b b' c call s starved t d

pub result_starves : {E : Type 0} (b b' : Book) (c : ℕ) (call : Call) (s : Step) (starved : List Starved)
    (r : Result Made E) → IsDirect b.world c call s → IfOk r (λ a. Answers b s a b') → starves_made r ≡ true
    → GoOn b.world c starved (Some call)
result_starves {E} b b' c call s starved (Ok a) t does ran = made_starves b b' c call s starved a t does E ran
result_starves b b' c call s starved (Err e) t does ran = absurd (cc ran)

pub start_starves : (b b' : Book) (c : ℕ) (call : Call) (starved : List Starved) (r : Start) → Starts b c call r b'
    → starves_started r ≡ true → GoOn b.world c starved (Some call)
start_starves b b' c call starved (start_of.Made a) d ran =
    made_starves b b' c call (steps.ClientStep c call) starved a
    (record { mine = refl; asks = refl; idle = refl; other = λ e. cc e }) d Call ran
start_starves b b' c call starved start_of.Begun d ran = absurd (cc ran)
start_starves b b' c call starved (start_of.Back back) d ran = absurd (cc ran)

end_starves : (b : Book) (c : ℕ) (starved : List Starved) → Starves b.world (steps.Commit c)
    → GoOn b.world c starved (doing_of b.world c)
end_starves b c starved s are =
    let ends = starved_walk b.world c s in
    let doing : doing_of b.world c ≡ Some ends.0.call = ap (option_map (λ (walk : Walk). walk.call)) ends.1 in
    subst (λ (call : Option Call). AreStarved b.world c (with_starved starved (length b.world.history) call))
    (sym doing)
    (one_more (IsStarved b.world.rules b.world.room b.world.limit b.world.history c) starved _ are
    (starves_now b.world c ends.0.call s.room ends.2))

pub left_starves : (how : Leaving) (b b' : Book) (c : ℕ) (starved : List Starved) (l : Left) → Leaves how b c l b'
    → starves_left l ≡ true → GoOn b.world c starved (doing_of b.world c)
left_starves Commit b b' c starved left.NoMemory d ran = end_starves b c starved d.0
left_starves Restart b b' c starved left.NoMemory d ran = absurd d
left_starves how b b' c starved left.NotNow d ran = absurd (cc ran)
left_starves how b b' c starved left.Astray d ran = absurd (cc ran)
left_starves how b b' c starved (left.Answered reply) d ran = absurd (cc ran)
left_starves how b b' c starved left.Again d ran = absurd (cc ran)
left_starves how b b' c starved left.HistoryFull d ran = absurd (cc ran)

-- ---- the wants' pass, taken back and given out again

pub record Noted (b : Book) (c : ℕ) (m o : Map nat_cmp Account) : Type 0 where
  pub all : AreAccounts b o
  pub only : OnlyWants m o

pub noted : (b : Book) (c : ℕ) (before after : List Starved) (m n o : Map nat_cmp Account) → AreAccounts b m
    → get m (3 * c + 2) ≡ Some (Wants before) → n ≡ remove m (3 * c + 2)
    → (AreStarved b.world c before → AreStarved b.world c after) → o ≡ insert n (3 * c + 2) (Wants after)
    → Noted b c m o
noted b c before after m n o all was gone goes_on is =
    let t = took b (wants_entry c before) (Some (wants_entry c before)) m n all refl was gone in
    let known = wants_account b c before t.account in
    record {
      all = gave b (wants_entry c after) n o (c, refl, known.there, known.few, goes_on known.are) t.all is;
      only = only_wants c m o (λ j other. gave_other j (wants_entry c after) n o is other ∙ t.others j other);
    }
