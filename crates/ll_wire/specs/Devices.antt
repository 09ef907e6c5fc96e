-- Two devices, one read from and one written to, and what a call of either does. own
use Rattle.std.specs.Prelude.{◌≡◌, ℕ, ◌+◌, ◌-◌, ◌==◌, Bool, true, false, List, [], ◌∷◌, Option, count_by}
use Rattle.std.specs.Prelude.{if◌then◌else◌}

-- remaining: the bytes that reads will return, if known. contents: the bytes written, if known. reads: how many reads
-- returned bytes. owed: how many line feeds were read and are not yet answered by a written one. is_answering: whether
-- line feeds are owed at all. A device that failed once is broken
pub record Devices : Type 0 where
  pub remaining : Option (List ℕ)
  pub contents : Option (List ℕ)
  pub reads : ℕ
  pub owed : ℕ
  pub is_answering : Bool
  pub is_input_broken : Bool
  pub is_output_broken : Bool

-- before the first call
abbrev pub untouched : (remaining contents : Option (List ℕ)) → Bool → Devices
untouched remaining contents is_answering = record {
  remaining = remaining;
  contents = contents;
  reads = 0;
  owed = 0;
  is_answering = is_answering;
  is_input_broken = false;
  is_output_broken = false;
}

abbrev pub line_feeds : List ℕ → ℕ
line_feeds bytes = count_by (λ b. b == 10) bytes

-- a read counts if it returned any bytes
abbrev pub counted : List ℕ → ℕ
counted [] = 0
counted (b ∷ bytes) = 1

-- neither device has failed
abbrev pub IsWhole : Devices → Type 0
IsWhole d = (d.is_input_broken ≡ false) × (d.is_output_broken ≡ false)

-- a call of the other device leaves this one unchanged
abbrev pub KeepsInput : (old new : Devices) → Type 0
KeepsInput old new =
    (new.remaining ≡ old.remaining) × (new.reads ≡ old.reads) × (new.is_input_broken ≡ old.is_input_broken)
    × (new.is_answering ≡ old.is_answering)

abbrev pub KeepsOutput : (old new : Devices) → Type 0
KeepsOutput old new =
    (new.contents ≡ old.contents) × (new.is_output_broken ≡ old.is_output_broken)
    × (new.is_answering ≡ old.is_answering)

-- a read returned these bytes; for each of their line feeds an answer is owed
abbrev pub Gave : (old new : Devices) → List ℕ → Type 0
Gave old new bytes =
    (new.reads ≡ old.reads + counted bytes)
    × (new.owed ≡ old.owed + (if old.is_answering then line_feeds bytes else 0))
    × (new.is_input_broken ≡ false) × KeepsOutput old new

-- a read failed
abbrev pub GaveNone : (old new : Devices) → Type 0
GaveNone old new =
    (new.reads ≡ old.reads) × (new.owed ≡ old.owed) × (new.is_input_broken ≡ true) × KeepsOutput old new

-- a write took these bytes; each of their line feeds answers one
abbrev pub Took : (old new : Devices) → List ℕ → Type 0
Took old new bytes =
    (new.owed ≡ old.owed - line_feeds bytes) × (new.is_output_broken ≡ false) × KeepsInput old new

-- a write failed
abbrev pub TookNone : (old new : Devices) → Type 0
TookNone old new = (new.is_output_broken ≡ true) × KeepsInput old new
