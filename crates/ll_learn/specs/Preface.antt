-- What histories with the same beginning need. Cited by contracts between functions of the crate. own
use Rattle.std.specs.Prelude.{⊤, ◌≡◌, ◌↔◌, ◌+◌, ℕ, List, All, None, Some, length, map, slice_get}
use Rattle.ll_seq.specs.declared.reply.Entry.{Entry}
use Rattle.ll_seq.specs.History.{state_after}
use Rattle.ll_seq.specs.State.{State}
use Rattle.ll_audit.specs.Audit.{IsFirstIllegal}
use Rattle.ll_audit.specs.declared.fault.AuditFault.{AuditFault}
use Rattle.ll_audit.specs.declared.fault.AuditFault.TheVariants as audit
use Rattle.ll_learn.specs.declared.fault.LearnFault.{LearnFault}
use Rattle.ll_learn.specs.declared.fault.LearnFault.TheVariants as late
use Rattle.ll_learn.specs.declared.fault.Unlearned.{Unlearned}
use Rattle.ll_learn.specs.declared.fault.Unlearned.TheVariants as fault
use Rattle.ll_learn.specs.declared.needs.Needs.{Needs}
use Rattle.ll_learn.specs.declared.needs.Origin.{Origin}
use Rattle.ll_learn.specs.Bound.{MovesAreTheirs, WereThere}
use Rattle.ll_learn.specs.Faults.{IsFirstDenied, IsFirstFull}
use Rattle.ll_learn.specs.Gathered.{AreNeedsOfAll}
use Rattle.ll_learn.specs.Learned.{BeginsSo, IsBehind, IsUnlike, NeverConnects, part_behind}
use Rattle.ll_learn.specs.Needs.{Adds, AreRooted}
use Rattle.ll_learn.specs.PassedCalls.{IsLearnable, is_client}
use Rattle.ll_learn.specs.There.{ComeFrom, MovesMore}

-- the needs after one more part, cut in this state
pub record Gathers (s : State) (client : ℕ) (es : List Entry) (old new : Needs) : Type 0 where
  pub learnable : IsLearnable s client es
  pub adds : Adds s client es old new
  pub rooted : AreRooted old → AreRooted new
  pub paths : ComeFrom s es old new
  pub moves : MovesMore (WereThere s es) old new
  pub outside : (new.outside ≡ None) ↔ ((old.outside ≡ None) × MovesAreTheirs (is_client client) es)

-- the needs of histories that begin with these entries
pub record AreGathered (s : State) (early : List Entry) (client : ℕ) (hs : List (List Entry)) (needs : Needs)
    : Type 0 where
  pub begin : All (BeginsSo early client) hs
  pub of : AreNeedsOfAll (map (part_behind (state_after s early) client (length early)) hs) needs

-- ---- Why they can't be gathered

-- the history with this number isn't legal up to the cut
abbrev pub IsUnopened : State → List Entry → ℕ → Unlearned → Type 0
IsUnopened s early number (fault.Illegal at) = (at.history ≡ number) × IsFirstIllegal s early at.entry
IsUnopened s early number fault.NoMemory = ⊤
IsUnopened s early number other = ⊥

-- it doesn't begin with these entries
abbrev pub IsUnbegun : List Entry → ℕ → ℕ → List Entry → Unlearned → Type 0
IsUnbegun early client number es (fault.NoClient n) = (n ≡ number) × NeverConnects es client
IsUnbegun early client number es (fault.Unlike n) = (n ≡ number) × IsUnlike early client es
IsUnbegun early client number es other = ⊥

-- nothing can be learned from it
abbrev pub IsUnlearnedOf : State → List Entry → ℕ → ℕ → List Entry → Unlearned → Type 0
IsUnlearnedOf s early client number es (fault.NoClient n) = (n ≡ number) × NeverConnects es client
IsUnlearnedOf s early client number es (fault.Unlike n) = (n ≡ number) × IsUnlike early client es
IsUnlearnedOf s early client number es (fault.Illegal at) = (at.history ≡ number) × IsFirstIllegal s es at.entry
IsUnlearnedOf s early client number es (fault.Denied at) =
    (at.history ≡ number) × IsBehind IsFirstDenied s early client es at.entry
IsUnlearnedOf s early client number es (fault.Full at) =
    (at.history ≡ number) × IsBehind IsFirstFull s early client es at.entry
IsUnlearnedOf s early client number es (fault.Unmet at) = ⊥
IsUnlearnedOf s early client number es (fault.NoNode index) = ⊥
IsUnlearnedOf s early client number es fault.NoMemory = ⊤

-- nothing can be learned from one of them
pub record IsUnlearnedOfOne (s : State) (early : List Entry) (client : ℕ) (hs : List (List Entry)) (fault : Unlearned)
    : Type 0 where
  pub number : ℕ
  pub es : List Entry
  pub is : slice_get hs number ≡ Some es
  pub so : IsUnlearnedOf s early client number es fault

-- ---- How faults are reported

abbrev pub entry_behind : (cut history entry : ℕ) → Origin
entry_behind cut history entry = record { history = history; entry = cut + entry }

-- the entry of a fault
abbrev pub number_of : LearnFault → ℕ
number_of (late.Illegal number) = number
number_of (late.Denied number) = number
number_of (late.Full number) = number
number_of other = 0

-- a fault after the cut, with entries counted from the start
abbrev pub unlearned_by : (cut history : ℕ) → LearnFault → Unlearned
unlearned_by cut history late.NoClient = fault.NoClient history
unlearned_by cut history (late.Illegal number) = fault.Illegal (entry_behind cut history number)
unlearned_by cut history (late.Denied number) = fault.Denied (entry_behind cut history number)
unlearned_by cut history (late.Full number) = fault.Full (entry_behind cut history number)
unlearned_by cut history late.NoMemory = fault.NoMemory

-- a fault up to the cut
abbrev pub unopened_by : (history : ℕ) → AuditFault → Unlearned
unopened_by history (audit.Illegal number) = fault.Illegal (record { history = history; entry = number })
unopened_by history audit.NoMemory = fault.NoMemory
