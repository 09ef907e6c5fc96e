-- How the input is cut into lines, and their replies are gathered. Cited by contracts between crates alone. own
use Rattle.std.specs.Prelude.{◌≡◌, ◌⊎◌, ℕ, ◌+◌, ◌-◌, ◌*◌, ◌^◌, ◌<◌, ◌≤◌, Bool, true, false, List, [], ◌∷◌, ◌++◌, length}
use Rattle.std.specs.Prelude.{Option, Some, None}
use Rattle.std.specs.Io.KnownBytes.{Appends}
use Rattle.ll_wire.specs.Pieces.{pieces}
use Rattle.ll_wire.specs.WriterGains.{AppendsFront}
use Rattle.ll_wire.specs.Devices.{Devices, IsWhole, line_feeds}
use Rattle.ll_wire.specs.declared.fault.SessionFault.{SessionFault}
use Rattle.ll_wire.specs.declared.fault.SessionFault.TheVariants.{Read, Write, NoMemory, TooLong}
use Rattle.ll_wire.specs.Transcript.{most_reads}

-- The line being read: its bytes, or None if it has more than 16,384
abbrev pub Holds : Option (List ℕ) → List ℕ → Type 0
Holds (Some bytes) part = (bytes ≡ part) × (length part ≤ 16384)
Holds None part = 16384 < length part

-- bytes: read, and not yet given. waiting: replies not yet written. reads: how many reads returned bytes
pub record Reading : Type 0 where
  pub bytes : List ℕ
  pub waiting : List ℕ
  pub reads : ℕ
  pub is_ended : Bool

-- before the first read
abbrev pub unread : Reading
unread = record { bytes = []; waiting = []; reads = 0; is_ended = false }

-- the bytes not yet given: those read, and those that the reader still has
pub record IsLeft (r : Reading) (remaining : Option (List ℕ)) (left : List ℕ) : Type 0 where
  pub rest : List ℕ
  pub told : remaining ≡ Some rest
  pub all : left ≡ r.bytes ++ rest
  pub ended : r.is_ended ≡ true → rest ≡ []

-- the next byte, if any, and the bytes after it
abbrev pub Gives : List ℕ → Option ℕ → (List ℕ → Type 0) → Type 0
Gives left (Some byte) IsRest = (rest : List ℕ) × (left ≡ byte ∷ rest) × IsRest rest
Gives left None IsRest = (left ≡ []) × IsRest []

-- The next line, if any, is the next piece, and `IsRest` holds of the bytes after it
abbrev pub Cuts : List ℕ → Bool → Option (List ℕ) → (List ℕ → Type 0) → Type 0
Cuts left true line IsRest =
    (piece rest : List ℕ) × (pieces left ≡ piece ∷ pieces rest) × Holds line piece × IsRest rest
Cuts left false line IsRest = (left ≡ []) × IsRest []

-- an upper bound on the bytes still to come, plus one for each read still allowed
abbrev pub most_left : Reading → ℕ
most_left r = 65537 * (most_reads - r.reads) + length r.bytes

-- each read took at least one byte
abbrev pub Counts : (before after : Reading) (remaining remaining' : Option (List ℕ)) → Type 0
Counts before after remaining remaining' =
    (rest : List ℕ) → remaining ≡ Some rest
    → (rest' : List ℕ) × (remaining' ≡ Some rest') × (after.reads + length rest' ≤ before.reads + length rest)

-- the reads that returned bytes are the device's
abbrev pub Calls : (r r' : Reading) (d d' : Devices) → Type 0
Calls r r' d d' = d'.reads + r.reads ≡ d.reads + r'.reads

-- Neither device has failed. Replies are owed only for lines that it holds, and for this many more
abbrev pub CanGoOn : ℕ → Reading → Devices → Type 0
CanGoOn more r d =
    IsWhole d × (d.owed - line_feeds r.waiting ≤ line_feeds r.bytes + more)
    × (d.reads + most_reads < 2 ^ 63 + r.reads)

-- no reply waits, or the whole next line is held; this many of its line feeds were already given
abbrev pub IsSilent : ℕ → Reading → Type 0
IsSilent given r = (r.waiting ≡ []) ⊎ (1 ≤ line_feeds r.bytes + given)

-- 1 if the byte is a line feed, else 0
abbrev pub feeds_of : Option ℕ → ℕ
feeds_of (Some byte) = line_feeds (byte ∷ [])
feeds_of None = 0

-- a part of this text is written, and the rest waits
abbrev pub Told : (first : Option (List ℕ)) (waiting : List ℕ) (contents : Option (List ℕ)) → List ℕ → Type 0
Told first waiting contents text = (written : List ℕ) × (text ≡ written ++ waiting) × Appends first contents written

abbrev pub IsTold : (first : Option (List ℕ)) → Reading → Devices → List ℕ → Type 0
IsTold first r d text = Told first r.waiting d.contents text

-- that text stays the same
abbrev pub TellsOn : (r r' : Reading) (d d' : Devices) → Type 0
TellsOn r r' d d' = (first : Option (List ℕ)) (text : List ℕ) → IsTold first r d text → IsTold first r' d' text

-- a prefix of that text is written
abbrev pub TellsFront : Reading → (d d' : Devices) → Type 0
TellsFront r d d' =
    (first : Option (List ℕ)) (text : List ℕ) → IsTold first r d text → AppendsFront first d'.contents text

-- this line is appended to that text
abbrev pub TellsMore : (r r' : Reading) (d d' : Devices) → List ℕ → Type 0
TellsMore r r' d d' line =
    (first : Option (List ℕ)) (text : List ℕ) → IsTold first r d text → IsTold first r' d' (text ++ line)

-- a prefix of that text, followed by this line, is written
abbrev pub TellsFrontOf : Reading → (d d' : Devices) → List ℕ → Type 0
TellsFrontOf r d d' line =
    (first : Option (List ℕ)) (text : List ℕ) → IsTold first r d text → AppendsFront first d'.contents (text ++ line)

-- which device failed, if one did. TooLong: no more reads are allowed
abbrev pub Faults : SessionFault → Reading → Devices → Type 0
Faults Read r d = (d.is_input_broken ≡ true) × (d.is_output_broken ≡ false)
Faults Write r d = (d.is_output_broken ≡ true) × (d.is_input_broken ≡ false)
Faults NoMemory r d = IsWhole d
Faults TooLong r d = IsWhole d × (r.reads ≡ most_reads)
