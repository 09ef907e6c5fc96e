-- Calls on descriptors. No public contract cites it. own
use Rattle.std.specs.Prelude.{◌≡◌, ℕ, Bool, true, not, List, [], ◌∷◌, ◌++◌, Option, Some, None, if◌then◌else◌}
use Rattle.ll_rights.specs.Map.{get, has, remove}
use Rattle.ll_seq.specs.declared.call.Call.{Call}
use Rattle.ll_seq.specs.declared.call.Call.TheVariants as calls
use Rattle.ll_seq.specs.declared.client.ClientRecord.{ClientRecord}
use Rattle.ll_seq.specs.declared.client.Descriptor.{Descriptor}
use Rattle.ll_seq.specs.declared.reply.Reply.{Reply}
use Rattle.ll_seq.specs.declared.reply.Reply.TheVariants.{Done}
use Rattle.ll_seq.specs.Effects.{let_go, lives, with_bytes, with_client}
use Rattle.ll_seq.specs.State.{State, bytes_of}
use Rattle.ll_seq.specs.Step.{step, refusals, client_of}
use Rattle.ll_node.specs.declared.held.Held.{Held}
use Rattle.ll_node.specs.Lent.{vacant}
use Rattle.ll_node.specs.InodeTable.{Table, IsTable, without_inode}
use Rattle.ll_laws.specs.World.{descriptor_of}
use Rattle.ll_journal.specs.Book.{Seat}
use Rattle.ll_journal.specs.declared.files.BytesCall.{BytesCall}
use Rattle.ll_journal.specs.declared.files.BytesCall.TheVariants.{Read, Write, Resize}
use Rattle.ll_journal.specs.declared.files.FileCall.{FileCall}
use Rattle.ll_journal.specs.declared.files.FileCall.TheVariants.{Close, OnBytes}

-- the call for this operation on bytes, on the descriptor with this number
abbrev pub on_bytes : BytesCall → ℕ → Call
on_bytes (Read offset count) fd = calls.Read fd offset count
on_bytes (Write offset bytes) fd = calls.Write fd offset bytes.now
on_bytes (Resize size) fd = calls.Ftruncate fd size

-- the call for this operation, on the descriptor with this number
abbrev pub on_file : FileCall → ℕ → Call
on_file Close fd = calls.Close fd
on_file (OnBytes asked) fd = on_bytes asked fd

-- it is this call on the descriptor with this number, or a call on no descriptor
abbrev pub IsOn : Call → Option (ℕ × FileCall) → Type 0
IsOn call None = descriptor_of call ≡ None
IsOn call (Some asked) = call ≡ on_file asked.1 asked.0

-- In each tree where the caller has this descriptor and the file these bytes, the call gets this reply, and the file
-- then has the bytes `after`
abbrev pub ComesOn : Descriptor → (ℕ → Call) → List ℕ → Reply → List ℕ → Type 0
ComesOn file call bytes reply after =
    (s : State) (number fresh fd : ℕ) → get (client_of s number).descriptors fd ≡ Some file
    → bytes_of s file.inode ≡ bytes → step s number (call fd) fresh ≡ (reply, with_bytes s file.inode after)

-- nothing refuses the call in any tree where the caller has this descriptor
abbrev pub IsFreeOn : Descriptor → (ℕ → Call) → Type 0
IsFreeOn file call =
    (s : State) (number fd : ℕ) → get (client_of s number).descriptors fd ≡ Some file
    → refusals s (client_of s number) (call fd) ≡ []

-- the client without the descriptor
abbrev pub unopened : ClientRecord → ℕ → ClientRecord
unopened c number = record c { descriptors = remove c.descriptors number }

-- The inode has one descriptor less in the table. If nothing keeps its node, the slot is vacant
pub record LetsGo (inode : ℕ) (t t' : Table) (file file' : Held) : Type 0 where
  pub goes : Bool
  pub table :
      (s : State) (spares : List ℕ) (client : ℕ) (c : ClientRecord) (fd : ℕ) (d : Descriptor) → IsTable s spares t
      → get s.clients client ≡ Some c → get c.descriptors fd ≡ Some d → d.inode ≡ inode → has s.nodes inode ≡ true
      → IsTable (let_go (with_client s client (unopened c fd)) inode) spares t'
  pub dies :
      (s : State) (spares : List ℕ) (client : ℕ) (c : ClientRecord) (fd : ℕ) (d : Descriptor) → IsTable s spares t
      → get s.clients client ≡ Some c → get c.descriptors fd ≡ Some d → d.inode ≡ inode → has s.nodes inode ≡ true
      → goes ≡ not (lives (with_client s client (unopened c fd)) inode)
  pub inodes :
      (s : State) (spares : List ℕ) → IsTable s spares t
      → t'.inodes ≡ (if goes then without_inode t.inodes inode else t.inodes)
  pub free :
      (s : State) (spares : List ℕ) (slot : ℕ) → IsTable s spares t → get t.places inode ≡ Some slot
      → t'.free ≡ (if goes then t.free ++ slot ∷ [] else t.free)
  pub lent : file' ≡ (if goes then vacant else file)

-- the reply to a call on the file open under this number, and the seat, the table and the file's slot afterwards
abbrev pub Serves : ℕ → Descriptor → FileCall → Seat → Table → Held → Reply → Seat → Table → Held → Type 0
Serves number held Close seat t file reply seat' t' file' =
    (reply ≡ Done) × (seat' ≡ record seat { client = unopened seat.client number }) × LetsGo file.inode t t' file file'
Serves number held (OnBytes asked) seat t file reply seat' t' file' =
    (seat' ≡ seat) × (t' ≡ t) × ComesOn held (on_bytes asked) file.node.bytes reply file'.node.bytes
    × (file' ≡ record file { node = record file.node { bytes = file'.node.bytes } })
