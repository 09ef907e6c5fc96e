-- How many lines have been answered. Cited by contracts between crates alone. own
use Rattle.std.specs.Prelude.{◌≡◌, ◌+◌, ℕ, List, [], ◌++◌, Some, true, false}
use Rattle.std.specs.Io.KnownBytes.{Appends}
use Rattle.ll_wire.specs.Devices.{Devices, IsWhole}
use Rattle.ll_wire.specs.Pieces.{pieces}
use Rattle.ll_wire.specs.WriterGains.{AppendsFront}
use Rattle.ll_wire.specs.declared.fault.SessionFault.{SessionFault}
use Rattle.ll_wire.specs.declared.fault.SessionFault.TheVariants.{Read, Write, NoMemory, TooLong}
use Rattle.ll_wire.specs.LineCuts.{IsLeft, IsTold, Reading}
use Rattle.ll_wire.specs.Transcript.{Transcript, most_reads}

-- Why a call with many reads and writes ends early. Read, Write: that device failed during the call. NoMemory: both are
-- whole. TooLong: that many reads returned bytes, and both are whole
abbrev pub Blames : SessionFault → (old new : Devices) → Type 0
Blames Read old new = (new.is_input_broken ≡ true) × (new.is_output_broken ≡ false)
Blames Write old new = (new.is_output_broken ≡ true) × (new.is_input_broken ≡ false)
Blames NoMemory old new = IsWhole new
Blames TooLong old new = IsWhole new × (new.reads ≡ old.reads + most_reads)

module _ {S : Type 0} (Tells : S → List ℕ → List ℕ → S → Type 0) where
  -- the lines up to what is left to read are answered with this text, leading from s to t
  abbrev pub AnswersSome : (s t : S) → Reading → (old new : Devices) → Type 0
  AnswersSome s t r old new =
      (input : List ℕ) → old.remaining ≡ Some input
      → (left : List ℕ) × (done : List (List ℕ)) × (text : List ℕ) × IsLeft r new.remaining left
      × (pieces input ≡ done ++ pieces left) × Transcript Tells s done text t × IsTold old.contents r new text

  -- everything is read, and the whole transcript is written
  abbrev pub AnswersAll : (s t : S) → (old new : Devices) → Type 0
  AnswersAll s t old new =
      (input : List ℕ) → old.remaining ≡ Some input
      → (new.remaining ≡ Some []) × ((text : List ℕ) × Transcript Tells s (pieces input) text t
      × Appends old.contents new.contents text)

  -- the transcript of some first pieces is written in full, and exactly these are answered
  abbrev pub AnswersFirst : (s t : S) → (old new : Devices) → Type 0
  AnswersFirst s t old new =
      (input : List ℕ) → old.remaining ≡ Some input
      → (done more : List (List ℕ)) × (text : List ℕ) × (pieces input ≡ done ++ more) × Transcript Tells s done text t
      × Appends old.contents new.contents text

  -- a prefix of the transcript of some first pieces is written, and exactly these are answered
  abbrev pub StartsAll : (s t : S) → (old new : Devices) → Type 0
  StartsAll s t old new =
      (input : List ℕ) → old.remaining ≡ Some input
      → (done more : List (List ℕ)) × (text : List ℕ) × (pieces input ≡ done ++ more) × Transcript Tells s done text t
      × AppendsFront old.contents new.contents text
