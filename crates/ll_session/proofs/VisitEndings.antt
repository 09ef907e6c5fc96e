-- What a visit comes to.
use Rattle.std.proofs.Common.{◌≡◌, ℕ, List, [], ◌∷◌, Option, None, Some, Result, Ok, Err}
use Rattle.std.proofs.Common.{refl, subst, sym, inl, inr, true, false}
use Rattle.std.specs.Prelude.{IfErr, OnErr, OnOk}
use Rattle.std.specs.Io.KnownBytes.{Appends}
use Rattle.ll_rights.specs.declared.errno.Errno.{Errno}
use Rattle.ll_seq.specs.declared.call.Call.{Call}
use Rattle.ll_client.specs.CallStart.{HasNoPlace}
use Rattle.ll_client.specs.Entries.{Knows}
use Rattle.ll_wire.specs.Devices.{Devices, untouched}
use Rattle.ll_wire.specs.Reached.{Blames, StartsAll}
use Rattle.ll_wire.specs.declared.fault.SessionFault.{SessionFault}
use Rattle.ll_wire.specs.declared.fault.SessionFault.TheVariants.{Read, Write, NoMemory, TooLong}
use Rattle.ll_session.specs.Beside.{AnswersBeside, MakesBeside, StopsBeside}
use Rattle.ll_session.specs.Counts.{counted, first_score, nothing}
use Rattle.ll_session.specs.Strict.{Scores, ScoresTo}
use Rattle.ll_session.specs.FirstClients.{unconnected_by}
use Rattle.ll_session.specs.declared.refusal.Opener.TheVariants.{Profile}
use Rattle.ll_session.specs.declared.refusal.Refusal.{Refusal}
use Rattle.ll_session.specs.declared.score.Score.{Score}
use Rattle.ll_session.specs.declared.stream.Outcome.{Outcome}
use Rattle.ll_session.specs.declared.tally.Tally.{Tally}
use Rattle.ll_session.proofs.Scores.{counts_all, counts_some}
use Rattle.std.proofs.lemmas.Result.{on_ok_weaker}
use Rattle.ll_session.specs.Progress.{IsOfRefusal}
use Rattle.ll_wire.specs.Grammar.{reply_line}
use Rattle.ll_session.specs.Visit.{HasCome, IsReady, IsTurnedAway, Starts, StartsBy, Visits}

module _ (limit : ℕ) (profile : List Call) (old new : Devices) where
  by_fault : (fault : SessionFault) (refusal : Option Refusal) (tally : Tally) (ks : List Knows)
      → Starts limit profile old new refusal tally ks → StartsBy limit profile fault old new refusal tally ks
  by_fault Read refusal tally ks h = h
  by_fault Write refusal tally ks h = h
  by_fault NoMemory refusal tally ks h = inr h
  by_fault TooLong refusal tally ks h = h

  module _ {A : Type 0} (ended : Result A SessionFault) (first ks : List Knows) (score : Score)
      (ready : IsReady limit profile first) where
    -- the session is whole
    pub visited : score.end ≡ None
        → OnOk ended (ScoresTo (AnswersBeside limit 0) (first, first_score false) (ks, score) old new)
        → OnOk ended (Visits limit profile old new None score.tally ks)
    visited none h = on_ok_weaker ended (λ to. (first, ready, counts_all limit first ks score old new none to)) h

    -- a fault ends it
    pub started : OnErr ended
        (StartsAll (Scores (AnswersBeside limit 0)) (first, first_score false) (ks, score) old new)
        → IfErr ended (λ fault. StartsBy limit profile fault old new None score.tally ks)
    started h = go ended h
      where
        go : (r : Result A SessionFault) → OnErr r
            (StartsAll (Scores (AnswersBeside limit 0)) (first, first_score false) (ks, score) old new)
            → IfErr r (λ fault. StartsBy limit profile fault old new None score.tally ks)
        go (Ok value) h = tt
        go (Err fault) h =
            by_fault fault None score.tally ks (first, ready, counts_some limit first ks score old new h)

  module _ {A : Type 0} (told_so : Option Refusal) (tally : Tally) (refusal : Refusal) (ks : List Knows)
      (is : told_so ≡ Some refusal) (one : tally ≡ counted nothing refusal.reply)
      (turned : IsTurnedAway limit profile refusal ks)
      (same : new.remaining ≡ old.remaining) where
    -- the refusal is told
    pub turned_away : (told : Result A SessionFault)
        → OnOk told (Appends old.contents new.contents (reply_line refusal.reply))
        → OnOk told (Visits limit profile old new told_so tally ks)
    turned_away (Ok value) h =
        subst (λ (o : Option Refusal). Visits limit profile old new o tally ks) (sym is) (turned, one, same, h)
    turned_away (Err fault) h = tt

    -- a fault keeps it from being told
    pub cut_short : (told : Result A SessionFault)
        → IfErr told (λ fault. IsOfRefusal fault old.contents new.contents (reply_line refusal.reply))
        → IfErr told (λ fault. StartsBy limit profile fault old new told_so tally ks)
    cut_short (Ok value) h = tt
    cut_short (Err Read) h = absurd h
    cut_short (Err Write) h =
        subst (λ (o : Option Refusal). Starts limit profile old new o tally ks) (sym is) (turned, one, same, h)
    cut_short (Err NoMemory) h = inr (subst (λ (o : Option Refusal). Starts limit profile old new o tally ks) (sym is)
        (turned, one, same, ([], reply_line refusal.reply, refl, h)))
    cut_short (Err TooLong) h = absurd h

-- nobody comes for this reason
pub no_place : (limit : ℕ) (profile : List Call) (refusal : Refusal) (errno : Errno) (ks : List Knows)
    → refusal ≡ unconnected_by Profile errno → HasNoPlace errno → ks ≡ [] → IsTurnedAway limit profile refusal ks
no_place limit profile refusal errno ks is h none = inl (errno, h, is, none)

-- who has come alone is refused one of the calls of its profile
pub stopped : (limit : ℕ) (profile : List Call) (me : Knows) (party : List Knows) (refusal : Refusal)
    (ks left : List Knows) → HasCome me → party ≡ me ∷ [] → left ≡ ks → refusal.opener ≡ Profile
    → StopsBeside limit party 0 profile refusal.calls refusal.reply ks → IsTurnedAway limit profile refusal left
stopped limit profile me party refusal ks left come is same who h =
    inr (
      who,
      me,
      come,
      subst (λ (last : List Knows). StopsBeside limit (me ∷ []) 0 profile refusal.calls refusal.reply last) (sym same)
          (subst (λ (first : List Knows). StopsBeside limit first 0 profile refusal.calls refusal.reply ks) is h),
    )

-- the client has come alone, and makes the calls of its profile
pub ready : (limit : ℕ) (profile : List Call) (me : Knows) (party first : List Knows) → HasCome me → party ≡ me ∷ []
    → MakesBeside limit party 0 profile first → IsReady limit profile first
ready limit profile me party first come is h =
    (me, come, subst (λ (alone : List Knows). MakesBeside limit alone 0 profile first) is h)

both : {A : Type 0} (P Q : SessionFault → Type 0) (ended : Result A SessionFault) → IfErr ended P → IfErr ended Q
    → IfErr ended (λ fault. P fault × Q fault)
both P Q (Ok value) p q = tt
both P Q (Err fault) p q = (p, q)

-- what `WasServedSo` says of a stream, by what was left of it and written before and is afterwards
abbrev pub IsServed : (limit : ℕ) → (profile : List Call) → Outcome → Option Refusal
    → (left written left' written' : Option (List ℕ)) → List Knows → Type 0
IsServed limit profile outcome refusal left written left' written' ks =
    let old = untouched left written true in
    (new : Devices) × (new.remaining ≡ left') × (new.contents ≡ written')
    × OnOk outcome.ended (Visits limit profile old new refusal outcome.tally ks)
    × IfErr outcome.ended
    (λ fault. StartsBy limit profile fault old new refusal outcome.tally ks × Blames fault old new)

-- by a reader and a writer, with an equal profile
pub served_so : (limit : ℕ) (copy profile : List Call) (outcome : Outcome) (refusal : Option Refusal)
    (left written : Option (List ℕ)) (new : Devices) (ks : List Knows) → copy ≡ profile
    → OnOk outcome.ended (Visits limit copy (untouched left written true) new refusal outcome.tally ks)
    → IfErr outcome.ended
    (λ fault. StartsBy limit copy fault (untouched left written true) new refusal outcome.tally ks)
    → IfErr outcome.ended (λ fault. Blames fault (untouched left written true) new)
    → IsServed limit profile outcome refusal left written new.remaining new.contents ks
served_so limit copy profile outcome refusal left written new ks same ok err blames =
    subst (λ (calls : List Call). IsServed limit calls outcome refusal left written new.remaining new.contents ks) same
    (new, refl, refl, ok, both _ _ outcome.ended err blames)
