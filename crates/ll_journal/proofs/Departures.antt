-- A call that isn't one for its client alone walks exactly where it names a path and the client is idle.
use Rattle.std.specs.Prelude.{◌≡◌, ℕ, suc, Bool, true, false, cond, not, ◌&&◌, Some, None, is_none, unwrap_or}
use Rattle.std.specs.Prelude.{slice_get, refl}
use Rattle.std.specs.Option.{option_map_or}
use Rattle.std.proofs.Common.{sym, ap, subst, ◌∙◌}
use Rattle.ll_seq.specs.declared.call.Call.{Call}
use Rattle.ll_seq.specs.declared.call.Call.TheVariants.{Make, Open, Read, Write, Ftruncate, Close, Truncate, ReadDir}
use Rattle.ll_seq.specs.declared.call.Call.TheVariants.{Stat, Exec, Unlink, Rmdir, Rename, RenameNoreplace, Exchange}
use Rattle.ll_seq.specs.declared.call.Call.TheVariants.{Link, Ruleset, Allow, Confine, Spawn, Connect}
use Rattle.ll_seq.specs.declared.client.ClientRecord.{ClientRecord}
use Rattle.ll_seq.specs.Call.{targets}
use Rattle.ll_seq.specs.History.{is_connect}
use Rattle.ll_seq.specs.Step.{client_of}
use Rattle.ll_laws.specs.World.{World, Outcome, Begun, NotNow, advance, has_any, is_alone, is_idle, is_on_descriptor}
use Rattle.ll_laws.specs.World.{is_walked, shown}
use Rattle.ll_seq.specs.Stages.{early_refusals}
use Rattle.ll_laws.specs.declared.step.Step.TheVariants.{Begin, ClientStep}
use Rattle.ll_laws.proofs.Shapes.{begun, replied}
use Rattle.ll_laws.proofs.Tests.{both}
use Rattle.ll_journal.specs.declared.journal.Journal.TheInside.{Inside}
use Rattle.ll_journal.specs.Book.{Book, Seat}
use Rattle.ll_journal.specs.Kept.{IsKept, book_of, world_of}
use Rattle.ll_journal.proofs.Starts.{is_free, may}
use Rattle.ll_journal.proofs.OwnSteps.{may_ask, may_is, not_own, stands}

-- a call that names a path is no connect, and on no descriptor
by_names : (c : ClientRecord) (call : Call) → has_any (targets call) ≡ true → (is_connect call ≡ false)
    × (is_on_descriptor c call ≡ false)
by_names c (Make kind t) e = (refl, refl)
by_names c (Open mode t) e = (refl, refl)
by_names c (Read fd offset count) e = absurd (cc e)
by_names c (Write fd offset bytes) e = absurd (cc e)
by_names c (Ftruncate fd size) e = absurd (cc e)
by_names c (Close fd) e = absurd (cc e)
by_names c (Truncate t size) e = (refl, refl)
by_names c (ReadDir t) e = (refl, refl)
by_names c (Stat t) e = (refl, refl)
by_names c (Exec t) e = (refl, refl)
by_names c (Unlink t) e = (refl, refl)
by_names c (Rmdir t) e = (refl, refl)
by_names c (Rename o n) e = (refl, refl)
by_names c (RenameNoreplace o n) e = (refl, refl)
by_names c (Exchange o n) e = (refl, refl)
by_names c (Link o n) e = (refl, refl)
by_names c (Ruleset rights) e = absurd (cc e)
by_names c (Allow rs t rights) e = (refl, refl)
by_names c (Confine rs) e = absurd (cc e)
by_names c Spawn e = absurd (cc e)
by_names c Connect e = absurd (cc e)

-- so it is one for the client alone, or it walks
alone_is : (c : ClientRecord) (call : Call) → has_any (targets call) ≡ true → is_alone c call ≡ not (is_walked c call)
alone_is c call named =
    let no = by_names c call named in
    (λ i. not (no.0 i) && not (is_walked c call) && not (no.1 i)) ∙ plain (is_walked c call)
  where
    plain : (b : Bool) → (not false && not b && not false) ≡ not b
    plain true = refl
    plain false = refl

walks_if : (c : ClientRecord) (call : Call) (idle : Bool) → (idle && is_alone c call) ≡ false
    → (idle && has_any (targets call)) ≡ (idle && is_walked c call)
walks_if c call false e = refl
walks_if c call true e = by (has_any (targets call)) refl
  where
    turned : (b : Bool) → not b ≡ false → true ≡ b
    turned true f = refl
    turned false f = absurd (cc f)

    by : (b : Bool) → has_any (targets call) ≡ b → b ≡ is_walked c call
    by true named = turned (is_walked c call) (sym (alone_is c call named) ∙ e)
    by false none = sym (ap (λ b. b && not (has_any (early_refusals c call))) none)

-- a step that isn't enabled
not_enabled : (w : World) (r : Outcome × World) (b : Bool) → ((o : Outcome) (v : World) → r ≡ (o, v) → o ≡ NotNow → ⊥)
    → unwrap_or (cond b (Some r) None) (NotNow, w) ≡ (NotNow, w) → b ≡ false
not_enabled w r true other e = absurd (other NotNow w e refl)
not_enabled w r false other e = refl

-- somebody holds the gate that the call takes
pub gate_held : (w : World) (number : ℕ) (call : Call) (free : Bool) → free ≡ is_free w call → free ≡ false
    → advance w (Begin number call) ≡ (NotNow, w)
gate_held w number call free is shut =
    ap (λ b. answer ((is_idle w number && is_walked (client_of (shown w) number) call) && b)) (sym is ∙ shut)
    ∙ never (is_idle w number && is_walked (client_of (shown w) number) call)
  where
    answer : Bool → Outcome × World
    answer b = unwrap_or (cond b (Some (Begun, begun w number call)) None) (NotNow, w)

    never : (b : Bool) → answer (b && false) ≡ (NotNow, w)
    never true = refl
    never false = refl

module _ (j : Inside) (h : IsKept j) (number : ℕ) (call : Call) (place : ℕ) (seat : Seat)
    (at : slice_get j.seats.items place ≡ Some seat) (numbered : number ≡ suc place) where
  abbrev w : World
  w = world_of j

  asked : (is_idle w number && is_alone (client_of (shown w) number) call) ≡ may_ask seat call
  asked = may_is j h number call
      ∙ ap (λ o. option_map_or (λ (seat : Seat). may_ask seat call) o false)
      (stands j h number call place seat at numbered)

  walks_where : advance w (ClientStep number call) ≡ (NotNow, w)
      → (is_none seat.walk && has_any (targets call)) ≡ may seat call
  walks_where waits =
      walks_if seat.client call (is_none seat.walk)
      (sym asked ∙ not_enabled w (replied w number call)
      (is_idle w number && is_alone (client_of (shown w) number) call)
      (λ o v e is. cc (ap (λ (p : Outcome × World). p.0) e ∙ is)) waits)

  pub walks_so : (test : Bool) → test ≡ (is_none seat.walk && has_any (targets call)) → (b : Book) → book_of j ≡ b
      → advance b.world (ClientStep number call) ≡ (NotNow, b.world) → test ≡ may seat call
  walks_so test is b same waits =
      is ∙ walks_where (subst (λ (v : Book). advance v.world (ClientStep number call) ≡ (NotNow, v.world)) (sym same)
      waits)

  pub walks_not_alone : may seat call ≡ true → advance w (ClientStep number call) ≡ (NotNow, w)
  walks_not_alone walks =
      let all = both (is_none seat.walk) (is_walked seat.client call) walks in
      let named = (both (has_any (targets call)) (not (has_any (early_refusals seat.client call))) all.1).0 in
      not_own j h number call place seat at numbered
      (ap (λ b. is_none seat.walk && b) (alone_is seat.client call named ∙ ap not all.1)
      ∙ neither (is_none seat.walk))
    where
      neither : (b : Bool) → (b && false) ≡ false
      neither true = refl
      neither false = refl
