-- Why nothing is learned, of one history and of several.
use Rattle.std.specs.Prelude.{◌≡◌, ◌<◌, ◌≤◌, ◌-◌, ℕ, List, Some, length, drop, slice_get, take, refl}
use Rattle.std.specs.Prelude.{Result, Ok, Err, IfErr, IsErrAnd}
use Rattle.std.proofs.Common.{ap, arith, inr, subst, sym, ◌∙◌}
use Rattle.std.proofs.lemmas.List.{length-take-le}
use Rattle.std.proofs.lemmas.Option.{slice_get_within}
use Rattle.ll_seq.specs.declared.reply.Entry.{Entry}
use Rattle.ll_seq.specs.History.{IsLegal, state_after}
use Rattle.ll_seq.specs.State.{State}
use Rattle.ll_learn.specs.declared.fault.LearnFault.{LearnFault}
use Rattle.ll_learn.specs.declared.fault.LearnFault.TheVariants as late
use Rattle.ll_learn.specs.declared.fault.Unlearned.{Unlearned}
use Rattle.ll_learn.specs.declared.fault.Unlearned.TheVariants as fault
use Rattle.ll_learn.specs.declared.learned.Aim.{Aim}
use Rattle.ll_learn.specs.Faults.{IsFault}
use Rattle.ll_learn.specs.Framed.{IsUnframed}
use Rattle.ll_learn.specs.Learned.{BeginsSo, IsCut, IsOpening, IsUnlearned, NeverConnects}
use Rattle.ll_learn.specs.Preface.{IsUnbegun, IsUnlearnedOf, IsUnlearnedOfOne, IsUnopened, number_of, unlearned_by}
use Rattle.ll_learn.proofs.Cuts.{illegal_early, illegal_late, there_at_cut}

-- a history has the entries up to its own cut
pub begins_at : (es : List Entry) (client cut : ℕ) → IsCut es client cut → cut ≤ length es
    → BeginsSo (take cut es) client es
begins_at es client cut is within =
    let long : length (take cut es) ≡ cut = length-take-le cut es within in
    record {
      cut = subst (IsCut es client) (sym long) is;
      alike = ap (λ k. take k es) long;
    }

-- ---- One history

module _ (s : State) (early : List Entry) (client number : ℕ) (es : List Entry) where
  pub of_unbegun : (f : Unlearned) → IsUnbegun early client number es f → IsUnlearnedOf s early client number es f
  of_unbegun (fault.NoClient n) is = is
  of_unbegun (fault.Unlike n) is = is
  of_unbegun (fault.Illegal at) is = absurd is
  of_unbegun (fault.Denied at) is = absurd is
  of_unbegun (fault.Full at) is = absurd is
  of_unbegun (fault.Unmet at) is = absurd is
  of_unbegun (fault.NoNode index) is = absurd is
  of_unbegun fault.NoMemory is = tt

  module _ (begins : BeginsSo early client es) where
    pub of_unopened : (f : Unlearned) → IsUnopened s early number f → IsUnlearnedOf s early client number es f
    of_unopened (fault.NoClient n) is = absurd is
    of_unopened (fault.Unlike n) is = absurd is
    of_unopened (fault.Illegal at) is = (is.0, illegal_early early es client begins s at.entry is.1)
    of_unopened (fault.Denied at) is = absurd is
    of_unopened (fault.Full at) is = absurd is
    of_unopened (fault.Unmet at) is = absurd is
    of_unopened (fault.NoNode index) is = absurd is
    of_unopened fault.NoMemory is = tt

    pub of_late : IsLegal s early → (f : LearnFault)
        → IsFault (state_after s early) client (drop (length early) es) f
        → IsUnlearnedOf s early client number es (unlearned_by (length early) number f)
    of_late legal late.NoClient is = absurd (cc (sym is ∙ there_at_cut early es client begins s legal))
    of_late legal (late.Illegal n) is = (refl, illegal_late early es client begins s n legal is)
    of_late legal (late.Denied n) is =
        (refl, record { begins = begins; legal = legal; behind = n; counted = refl; is = is })
    of_late legal (late.Full n) is =
        (refl, record { begins = begins; legal = legal; behind = n; counted = refl; is = is })
    of_late legal late.NoMemory is = tt

-- the entry of a fault is one of those behind the cut
pub number_within : (s : State) (client : ℕ) (es : List Entry) (f : LearnFault) → IsFault s client es f
    → number_of f ≤ length es
number_within s client es late.NoClient is = omega arith
number_within s client es (late.Illegal n) is = is.last
number_within s client es (late.Denied n) is =
    let first = is.first in
    let within : n - 1 < length es = slice_get_within es (n - 1) is.entry is.there in
    omega (arith, first, within)
number_within s client es (late.Full n) is = is.last
number_within s client es late.NoMemory is = omega arith

-- ---- Several

module _ (s : State) (hs : List (List Entry)) (aim : Aim) where
  pub none_begins : (first : List Entry) → slice_get hs 0 ≡ Some first → NeverConnects first aim.client
      → IsUnlearned s hs aim (fault.NoClient 0)
  none_begins first is never = inr (first, is, never)

  module _ (early : List Entry) (opening : IsOpening hs aim.client early) where
    pub of_one : (f : Unlearned) → IsUnlearnedOfOne s early aim.client hs f → IsUnlearned s hs aim f
    of_one (fault.NoClient n) one =
        inr (one.es, subst (λ k. slice_get hs k ≡ Some one.es) (sym one.so.0) one.is, one.so.1)
    of_one (fault.Unlike n) one = record {
      early = early;
      es = one.es;
      opening = opening;
      is = subst (λ k. slice_get hs k ≡ Some one.es) (sym one.so.0) one.is;
      so = one.so.1;
    }
    of_one (fault.Illegal at) one =
        (one.es, subst (λ k. slice_get hs k ≡ Some one.es) (sym one.so.0) one.is, one.so.1)
    of_one (fault.Denied at) one = record {
      early = early;
      es = one.es;
      opening = opening;
      is = subst (λ k. slice_get hs k ≡ Some one.es) (sym one.so.0) one.is;
      so = one.so.1;
    }
    of_one (fault.Full at) one = record {
      early = early;
      es = one.es;
      opening = opening;
      is = subst (λ k. slice_get hs k ≡ Some one.es) (sym one.so.0) one.is;
      so = one.so.1;
    }
    of_one (fault.Unmet at) one = absurd one.so
    of_one (fault.NoNode index) one = absurd one.so
    of_one fault.NoMemory one = tt

    pub of_first : (f : Unlearned) → IsUnopened s early 0 f → IsUnlearned s hs aim f
    of_first f is = of_one f (record {
      number = 0;
      es = opening.first;
      is = opening.is;
      so = of_unopened s early aim.client 0 opening.first opening.begins f is;
    })

    pub of_frame : IsLegal s early → (f : Unlearned) → IsUnframed (state_after s early) aim f → IsUnlearned s hs aim f
    of_frame legal (fault.NoClient n) is = absurd is
    of_frame legal (fault.Unlike n) is = absurd is
    of_frame legal (fault.Illegal at) is = absurd is
    of_frame legal (fault.Denied at) is = absurd is
    of_frame legal (fault.Full at) is = absurd is
    of_frame legal (fault.Unmet at) is = absurd is
    of_frame legal (fault.NoNode index) is = (early, opening, legal, is)
    of_frame legal fault.NoMemory is = tt

-- what is handed on of a fault
pub of_err : {T : Type 0} (r : Result T Unlearned) (f : Unlearned) (P : Unlearned → Type 0)
    → IsErrAnd r (λ x. x ≡ f) → P f → IfErr r P
of_err (Ok x) f P is p = tt
of_err (Err x) f P is p = subst P (sym is) p
