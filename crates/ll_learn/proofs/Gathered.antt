-- What is gathered from entries one after the other.
use Rattle.std.specs.Prelude.{◌≡◌, ◌↔◌, ◌<◌, ◌≤◌, ◌+◌, ◌-◌, ℕ, Bool, true, ◌||◌, ◌&&◌, List, [], ◌∷◌, ◌++◌}
use Rattle.std.specs.Prelude.{Option, Some, None, length, take, slice_get, refl}
use Rattle.std.specs.Prelude.{Result, Ok, Err, IfErr, IsErrAnd}
use Rattle.std.specs.Option.{option_or}
use Rattle.ll_learn.proofs.There.{WereKnown, asked_there, asks_joined, asks_same, asks_weaker, known_still}
use Rattle.ll_learn.proofs.There.{moves_joined, moves_same, moves_weaker, there_now, there_still}
use Rattle.std.proofs.Common.{ap, arith, eq-eqb, get_or, length-append, subst, sym, ◌∙◌}
use Rattle.std.proofs.lemmas.List.{length-take-le, take_all, take_more}
use Rattle.std.proofs.lemmas.Option.{slice_get_read}
use Rattle.ll_rights.specs.declared.limits.TheConstants.{DOMAIN_LAYERS}
use Rattle.ll_rules.specs.Layer.{Layer}
use Rattle.ll_seq.specs.declared.reply.Entry.{Entry}
use Rattle.ll_seq.specs.History.{IsLegal, MayStand, after, fresh_of, state_after}
use Rattle.ll_seq.specs.Passed.{before_policy}
use Rattle.ll_seq.specs.State.{State}
use Rattle.ll_seq.specs.Step.{client_of}
use Rattle.ll_seq.proofs.Consequences.{step-next}
use Rattle.ll_seq.proofs.Histories.{after_push, legal_append}
use Rattle.ll_audit.specs.Audit.{IsFirstIllegal}
use Rattle.ll_audit.proofs.Follows as audit
use Rattle.ll_why.specs.Opener.{is_spawned}
use Rattle.ll_learn.specs.declared.fault.LearnFault.{LearnFault}
use Rattle.ll_learn.specs.declared.fault.LearnFault.TheVariants as fault
use Rattle.ll_learn.specs.declared.needs.Needs.{Needs}
use Rattle.ll_learn.specs.declared.needs.Origin.{Origin}
use Rattle.ll_learn.specs.declared.watch.Watched.{Watched}
use Rattle.ll_learn.specs.Demand.{GoesOn, IsOpenAt, StopsAt}
use Rattle.ll_learn.specs.Faults.{HasCome, IsFault, IsFirstFull}
use Rattle.ll_learn.specs.Needs.{Adds, AreRooted}
use Rattle.ll_learn.specs.Outside.{first_outside, outside_of}
use Rattle.ll_learn.specs.PassedCalls.{Allows, AllowsAll, IsOpen, Openings, is_client, joins}
use Rattle.ll_learn.specs.PassedCalls.{none_known, opened_at}
use Rattle.ll_learn.specs.Bound.{WereThere}
use Rattle.ll_learn.specs.There.{ComeFrom, IsAskedIn, IsOfPath, MovesMore}
use Rattle.ll_learn.specs.Watched.{is_watched}
use Rattle.ll_learn.specs.WatchedClients.{IsWatch, joined, opened_behind}

-- ---- one entry more

pub joined_last : (is_on : ℕ → Bool) (es : List Entry) (e : Entry)
    → ◌≡◌ {A = ℕ → Bool} (joined is_on (es ++ e ∷ [])) (joins (joined is_on es) e)
joined_last is_on [] e = refl
joined_last is_on (x ∷ es) e = joined_last (joins is_on x) es e

pub opened_last : (s : State) (known : Openings) (es : List Entry) (e : Entry)
    → ◌≡◌ {A = Openings} (opened_behind s known (es ++ e ∷ []))
    (opened_at (state_after s es) (opened_behind s known es) e)
opened_last s known [] e = refl
opened_last s known (x ∷ es) e = opened_last (after s x) (opened_at s known x) es e

-- the layer allows the call of one whom it is on
abbrev AllowsOne : Layer → State → (ℕ → Bool) → Openings → Entry → Type 0
AllowsOne layer s is_on known e =
    is_on e.client ≡ true → before_policy s (client_of s e.client) e.call ≡ [] → Allows layer s known e

allows_last : (layer : Layer) (s : State) (is_on : ℕ → Bool) (known : Openings) (es : List Entry) (e : Entry)
    → AllowsAll layer s is_on known (es ++ e ∷ [])
    ↔ (AllowsAll layer s is_on known es
    × AllowsOne layer (state_after s es) (joined is_on es) (opened_behind s known es) e)
allows_last layer s is_on known [] e = (λ all. (tt, all.0), λ both. (both.1, tt))
allows_last layer s is_on known (x ∷ es) e =
    let rest = allows_last layer (after s x) (joins is_on x) (opened_at s known x) es e in (
      λ all. ((all.0, (rest.0 all.1).0), (rest.0 all.1).1),
      λ both. (both.0.0, rest.1 (both.0.1, both.1)),
    )

open_last : (s : State) (is_on : ℕ → Bool) (es : List Entry) (e : Entry) → IsOpen s is_on es
    → (joined is_on es e.client ≡ true → IsOpenAt (after (state_after s es) e) e) → IsOpen s is_on (es ++ e ∷ [])
open_last s is_on [] e all one = (one, tt)
open_last s is_on (x ∷ es) e all one = (all.0, open_last (after s x) (joins is_on x) es e all.1 one)

or_again : {A : Type 0} (a b c : Option A) → option_or a (option_or b c) ≡ option_or (option_or a b) c
or_again None b c = refl
or_again (Some x) b c = refl

abbrev pub entry_of : ℕ → ℕ → Origin
entry_of history number = record { history = history; entry = number }

outside_last : (is_on : ℕ → Bool) (history number last : ℕ) (es : List Entry) (e : Entry) → last ≡ number + length es
    → first_outside is_on history number (es ++ e ∷ [])
    ≡ option_or (first_outside is_on history number es) (outside_of (joined is_on es) e (entry_of history last))
outside_last is_on history number last [] e is =
    let same : number ≡ last = omega (arith, is) in
    or_none (outside_of is_on e (entry_of history number))
    ∙ ap (λ n. outside_of is_on e (entry_of history n)) same
  where
    or_none : (o : Option Origin) → option_or o None ≡ o
    or_none None = refl
    or_none (Some x) = refl
outside_last is_on history number last (x ∷ es) e is =
    let next : last ≡ (number + 1) + length es = omega (arith, is) in
    ap (option_or (outside_of is_on x (entry_of history number)))
    (outside_last (joins is_on x) history (number + 1) last es e next)
    ∙ or_again (outside_of is_on x (entry_of history number)) (first_outside (joins is_on x) history (number + 1) es)
    (outside_of (joined (joins is_on x) es) e (entry_of history last))

-- ---- what holds behind some entries

pub record HasGathered (s : State) (client history : ℕ) (old : Needs) (front : List Entry) (t : State) (needs : Needs)
    (clients : List Watched) : Type 0 where
  pub legal : IsLegal s front
  pub state : t ≡ state_after s front
  pub numbers : t.next ≤ s.next + length front
  pub stays : IsOpen s (is_client client) front
  pub watch : IsWatch t (joined (is_client client) front) (opened_behind s none_known front) clients
  pub adds : Adds s client front old needs
  pub rooted : AreRooted old → AreRooted needs
  pub opened : WereKnown s front (opened_behind s none_known front)
  pub asks : ComeFrom s front old needs
  pub moves : MovesMore (WereThere s front) old needs
  pub outside : needs.outside ≡ option_or old.outside (first_outside (is_client client) history 1 front)

pub starts : (s : State) (client history : ℕ) (old : Needs) (clients : List Watched)
    → IsWatch s (is_client client) none_known clients → HasGathered s client history old [] s old clients
starts s client history old clients watch = record {
  legal = tt;
  state = refl;
  numbers = omega arith;
  stays = tt;
  watch = watch;
  adds = λ layer. (λ meets. (meets, tt), λ both. both.0);
  rooted = λ rooted. rooted;
  opened = λ who fd inodes is. absurd cc;
  asks = asks_same (WereThere s []) old old refl;
  moves = moves_same (WereThere s []) old old refl;
  outside = sym (or_none old.outside);
}
  where
    or_none : (o : Option Origin) → option_or o None ≡ o
    or_none None = refl
    or_none (Some x) = refl

module _ (s : State) (client history : ℕ) (old : Needs) (front : List Entry) (t : State) (needs : Needs)
    (clients : List Watched) (so_far : HasGathered s client history old front t needs clients) (e : Entry) where
  abbrev is_on : ℕ → Bool
  is_on = joined (is_client client) front

  abbrev known : Openings
  known = opened_behind s none_known front

  pub goes_on : (origin : Origin) (more : Needs) (u : State) (others : List Watched)
      → origin ≡ entry_of history (length front + 1)
      → GoesOn t is_on known e origin needs more u others
      → HasGathered s client history old (front ++ e ∷ []) u more others
  goes_on origin more u others number goes =
      let at : GoesOn (state_after s front) is_on known e origin needs more u others
      = subst (λ (z : State). GoesOn z is_on known e origin needs more u others) so_far.state goes in
      let behind : after (state_after s front) e ≡ state_after s (front ++ e ∷ []) = sym (after_push s front e) in
      record {
        legal = legal_append s front e so_far.legal at.stands;
        state = at.state ∙ behind;
        numbers = (
            let same : u.next ≡ (after t e).next = ap (λ (z : State). z.next) goes.state in
            let most : (after t e).next ≤ t.next + 1 = step-next t e.client e.call (fresh_of e.reply) in
            let before = so_far.numbers in
            let longer : length (front ++ e ∷ []) ≡ length front + 1 = length-append front (e ∷ []) in
            omega (arith, same, most, before, longer));
        stays = open_last s (is_client client) front e so_far.stays at.stays;
        watch = subst (λ (z : State). IsWatch z (joined (is_client client) (front ++ e ∷ []))
            (opened_behind s none_known (front ++ e ∷ [])) others) (sym at.state)
            (subst (λ (k : Openings). IsWatch (after (state_after s front) e)
            (joined (is_client client) (front ++ e ∷ [])) k others) (sym (opened_last s none_known front e))
            (subst (λ (j : ℕ → Bool). IsWatch (after (state_after s front) e) j
            (opened_at (state_after s front) known e) others) (sym (joined_last (is_client client) front e)) at.watch));
        adds = λ layer. (
          λ meets.
              let both = (at.adds layer).0 meets in
              let before = (so_far.adds layer).0 both.0 in
              (before.0, (allows_last layer s (is_client client) none_known front e).1 (before.1, both.1)),
          λ both.
              let parts = (allows_last layer s (is_client client) none_known front e).0 both.1 in
              (at.adds layer).1 ((so_far.adds layer).1 (both.0, parts.0), parts.1),
        );
        rooted = λ rooted. goes.rooted (so_far.rooted rooted);
        opened = subst (λ (k : Openings). WereKnown s (front ++ e ∷ []) k) (sym (opened_last s none_known front e))
            (known_still s front e known so_far.opened);
        asks = asks_joined (WereThere s (front ++ e ∷ [])) old needs more
            (asks_weaker (WereThere s front) (WereThere s (front ++ e ∷ [])) old needs (there_still s front e)
            so_far.asks)
            (asks_weaker (IsAskedIn (state_after s front) known e.client) (WereThere s (front ++ e ∷ [])) needs more
            (asked_there s front e known e.client so_far.opened) at.asks);
        moves = moves_joined (WereThere s (front ++ e ∷ [])) old needs more
            (moves_weaker (WereThere s front) (WereThere s (front ++ e ∷ [])) old needs (there_still s front e)
            so_far.moves)
            (moves_weaker (IsOfPath (state_after s front)) (WereThere s (front ++ e ∷ [])) needs more
            (λ inodes is. there_now s front e inodes is.0 is.1) at.moves);
        outside = goes.outside
            ∙ (λ i. option_or (so_far.outside i) (outside_of is_on e (number i)))
            ∙ sym (or_again old.outside (first_outside (is_client client) history 1 front) _)
            ∙ ap (option_or old.outside) (sym (outside_last (is_client client) history 1 (length front + 1) front e
            (omega arith)));
      }

-- ---- at the end

pub ends : (s : State) (client history : ℕ) (old : Needs) (front es : List Entry) (t : State) (needs : Needs)
    (clients : List Watched) (i : ℕ) → front ≡ take i es → length es ≤ i
    → HasGathered s client history old front t needs clients
    → HasGathered s client history old es t needs clients
ends s client history old front es t needs clients i is past so_far =
    subst (λ (l : List Entry). HasGathered s client history old l t needs clients) (is ∙ take_all i es past) so_far

-- ---- where it stops

module _ (s : State) (client history : ℕ) (old : Needs) (front es : List Entry) (t : State) (needs : Needs)
    (clients : List Watched) (so_far : HasGathered s client history old front t needs clients) (i : ℕ) (e : Entry)
    (is : front ≡ take i es) (within : i < length es) (at : e ≡ get_or es i e) where
  one_more : take (i + 1) es ≡ front ++ e ∷ []
  one_more = take_more es i e within ∙ (λ j. sym is j ++ sym at j ∷ [])

  pub and_one : front ++ e ∷ [] ≡ take (i + 1) es
  and_one = sym one_more

  followed : audit.HasFollowed s es i t
  followed = record {
    legal = subst (IsLegal s) is so_far.legal;
    state = so_far.state ∙ ap (state_after s) is;
    numbers = (
        let most = so_far.numbers in
        let long : length front ≡ i = ap length is ∙ length-take-le i es (omega arith) in
        omega (arith, most, long));
  }

  pub so_long : length front ≡ i
  so_long = ap length is ∙ length-take-le i es (omega arith)

  come : (n : ℕ) → n ≡ i + 1 → MayStand t e → HasCome s client es n
  come n last may =
      let back : n - 1 ≡ i = omega (arith, last) in
      record {
        legal = subst (λ k. IsLegal s (take k es)) (sym last) (subst (IsLegal s) (sym one_more)
            (legal_append s front e so_far.legal (subst (λ (z : State). MayStand z e) so_far.state may)));
        stays = subst (λ k. IsOpen s (is_client client) (take k es)) (sym back)
            (subst (IsOpen s (is_client client)) is so_far.stays);
      }

  theirs : is_watched clients e.client ≡ true → joined (is_client client) front e.client ≡ true
  theirs on = sym (so_far.watch.on e.client) ∙ on

  abbrev Stopped : LearnFault → Type 0
  Stopped f = StopsAt t clients e (i + 1) f

  pub stops : (f : LearnFault) → Stopped f → IsFault s client es f
  stops fault.NoMemory stopped = tt
  stops (fault.Illegal n) stopped =
      subst (IsFirstIllegal s es) (sym stopped.0) (audit.stops s es i e t within at followed stopped.1)
  stops (fault.Denied n) stopped =
      let back : i ≡ n - 1 = (let last = stopped.2.0 in omega (arith, last)) in
      record {
        come = come n stopped.2.0 stopped.0;
        first = (let last = stopped.2.0 in omega (arith, last));
        entry = e;
        there = subst (λ k. slice_get es k ≡ Some e) back (slice_get_read es (length es) i e refl within at);
        on = subst (λ k. joined (is_client client) (take k es) e.client ≡ true) back
            (subst (λ (l : List Entry). joined (is_client client) l e.client ≡ true) is (theirs stopped.1));
        denial = stopped.2.1.0;
        denied = stopped.2.1.1;
      }
  stops (fault.Full n) stopped =
      let last = stopped.2.0 in
      let behind : after t e ≡ state_after s (take n es)
      = ap (λ (z : State). after z e) so_far.state ∙ sym (after_push s front e) ∙ ap (state_after s) and_one
      ∙ ap (λ k. state_after s (take k es)) (sym last) in
      record {
        come = come n last stopped.0;
        last = omega (arith, last);
        who = e.client;
        on = subst (λ k. joined (is_client client) (take k es) e.client ≡ true) (sym last)
            (subst (λ (l : List Entry). joined (is_client client) l e.client ≡ true) and_one
            (ap (λ (j : ℕ → Bool). j e.client) (joined_last (is_client client) front e)
            ∙ (λ j. theirs stopped.1 j
            || (joined (is_client client) front e.client && is_spawned e.client e.reply))));
        full = subst (λ (z : State). DOMAIN_LAYERS ≤ length (client_of z e.client).domain) behind stopped.2.1;
      }
  stops fault.NoClient stopped = absurd stopped.2

none_taken : (es : List Entry) → take 0 es ≡ []
none_taken [] = refl
none_taken (e ∷ es) = refl

-- the client has as many layers as may be at the cut
pub full_at_cut : (s : State) (client : ℕ) (es : List Entry) → DOMAIN_LAYERS ≤ length (client_of s client).domain
    → IsFirstFull s client es 0
full_at_cut s client es full =
    let none = sym (none_taken es) in
    record {
      come = record {
        legal = subst (IsLegal s) none tt;
        stays = subst (IsOpen s (is_client client)) none tt;
      };
      last = omega arith;
      who = client;
      on = subst (λ (l : List Entry). joined (is_client client) l client ≡ true) none (eq-eqb client client refl);
      full = subst (λ (l : List Entry). DOMAIN_LAYERS ≤ length (client_of (state_after s l) client).domain) none full;
    }

-- an entry alone that is illegal may not stand
pub alone_illegal : (s : State) (e : Entry) (n : ℕ) → IsFirstIllegal s (e ∷ []) n → MayStand s e → ⊥
alone_illegal s e n bad may =
    let first = bad.first in
    let last = bad.last in
    let one : n ≡ 1 = omega (arith, first, last) in
    bad.illegal (subst (λ k. IsLegal s (take k (e ∷ []))) (sym one) (may, tt))

-- what is asked of one who is watched is asked of one whom the layer is on
pub theirs_too : {new same old free allows : Type 0} {watched on : Bool} → watched ≡ on → same ↔ new
    → new ↔ (old × (watched ≡ true → free → allows)) → same ↔ (old × (on ≡ true → free → allows))
theirs_too is still adds = (
  λ meets. let both = adds.0 (still.0 meets) in (both.0, λ here passed. both.1 (is ∙ here) passed),
  λ both. still.1 (adds.1 (both.0, λ here passed. both.1 (sym is ∙ here) passed)),
)

pub of_err : {T : Type 0} (r : Result T LearnFault) (f : LearnFault) (P : LearnFault → Type 0)
    → IsErrAnd r (λ x. x ≡ f) → P f → IfErr r P
of_err (Ok x) f P is p = tt
of_err (Err x) f P is p = subst P (sym is) p
